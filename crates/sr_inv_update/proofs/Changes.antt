-- The pools that changes give: each change's pool is there, and has a server.
use Rattle.std.proofs.Common.{◌≡◌, ℕ, zero, suc, ◌+◌, ◌-◌, ◌<◌, ◌≤◌, Bool, true, false, cond, List, [], ◌∷◌, ◌++◌, length, is_some, if◌then◌else◌, ◌==◌, slice_get, Some, None, count_by, option_and_then, sym, refl, ap, ◌∙◌, subst, append_assoc, arith}
use Rattle.std.proofs.lemmas.Bool.Decides.{nat_tests}
use Rattle.std.proofs.lemmas.List.Sums.{sum_by-append, sum_by-cons}
use Rattle.std.proofs.lemmas.Option.{slice_get-get_or, same_Some}
use Rattle.std.specs.List.{AllByRecursion}
use Rattle.sr_base.specs.Fitting.{IsPoolOf, NamesOf}
use Rattle.sr_base.specs.Layout.{LayoutView}
use Rattle.sr_base.specs.declared.change.Change.{Change}
use Rattle.sr_base.specs.declared.change.What.{What}
use Rattle.sr_base.specs.declared.change.What.TheVariants.{Give, TakeDown}
use Rattle.sr_inv_facts.proofs.Lists.{all_back, all_got, all_more}
use Rattle.sr_inv_facts.specs.Fitted.{IsFitted}
use Rattle.sr_inv_facts.specs.Readings.{IsEnd}
use Rattle.sr_law.specs.Pools.{VipPools, gives_to, numbered, pool_of, pools_from}
use Rattle.sr_machine.specs.Config.{Config}
use Rattle.sr_update.specs.Updates.{gives_to as is_give, give_of, gives_after, next_pool}
use Rattle.sr_update.specs.declared.give_change.GiveChange.{GiveChange}

-- how many of some changes give the virtual address a pool
abbrev giving : ℕ → List Change → ℕ
giving vip changes = count_by (λ change. is_give vip change.what) changes

-- a change with this time and act
abbrev made : ℕ → What → Change
made ms what = record { at_ms = ms; what = what }

-- ---- what is given to a virtual address

counted_one : (vip ms : ℕ) (what : What) (rest : List Change) → length (gives_to vip rest) ≡ giving vip rest
    → length (gives_to vip (made ms what ∷ rest)) ≡ giving vip (made ms what ∷ rest)
counted_one vip ms (Give to pool) rest h = at (to == vip) ∙ sym (sum_by-cons (λ change. cond (is_give vip change.what) 1 0) (made ms (Give to pool)) rest)
  where
    at : (b : Bool) → length (if b then pool ∷ gives_to vip rest else gives_to vip rest) ≡ cond b 1 0 + giving vip rest
    at true = omega (arith, h)
    at false = omega (arith, h)
counted_one vip ms (TakeDown server) rest h =
    omega (arith, h, sum_by-cons (λ change. cond (is_give vip change.what) 1 0) (made ms (TakeDown server)) rest)

counted : (vip : ℕ) (changes : List Change) → length (gives_to vip changes) ≡ giving vip changes
counted vip [] = refl
counted vip (change ∷ rest) = counted_one vip change.at_ms change.what rest (counted vip rest)

-- ---- what a pool is

module _ (l : LayoutView) where
  given_fits_one : (vip ms : ℕ) (what : What) (rest : List Change) → NamesOf l what → AllByRecursion (IsPoolOf l) (gives_to vip rest)
      → AllByRecursion (IsPoolOf l) (gives_to vip (made ms what ∷ rest))
  given_fits_one vip ms (Give to pool) rest n h = at (to == vip)
    where
      at : (b : Bool) → AllByRecursion (IsPoolOf l) (if b then pool ∷ gives_to vip rest else gives_to vip rest)
      at true = (n.1, h)
      at false = h
  given_fits_one vip ms (TakeDown server) rest n h = h

  given_fits : (vip : ℕ) (changes : List Change) → AllByRecursion (λ change. NamesOf l change.what) changes
      → AllByRecursion (IsPoolOf l) (gives_to vip changes)
  given_fits vip [] a = tt
  given_fits vip (change ∷ rest) a = given_fits_one vip change.at_ms change.what rest a.0 (given_fits vip rest a.1)

  numbered_fits : (own : VipPools) (number : ℕ) (pool : List ℕ) → IsPoolOf l own.first → AllByRecursion (IsPoolOf l) own.given
      → numbered own number ≡ Some pool → IsPoolOf l pool
  numbered_fits own number pool f g e = at (number == 0) (number == 1) e
    where
      at : (a b : Bool) → (if a then None else (if b then Some own.first else slice_get own.given (number - 2))) ≡ Some pool
          → IsPoolOf l pool
      at true b q = cc
      at false true q = subst (IsPoolOf l) (same_Some own.first pool q) f
      at false false q = all_got (IsPoolOf l) own.given (number - 2) pool g q

  pools_fit : (changes : List Change) → AllByRecursion (λ change. NamesOf l change.what) changes → (first : List (List ℕ)) (from vip number : ℕ) (pool : List ℕ)
      → AllByRecursion (IsPoolOf l) first → pool_of (pools_from from first changes) vip number ≡ Some pool → IsPoolOf l pool
  pools_fit changes n [] from vip number pool a e = cc
  pools_fit changes n (f ∷ first) from zero number pool a e =
      numbered_fits (record { first = f; given = gives_to from changes }) number pool a.0 (given_fits from changes n) e
  pools_fit changes n (f ∷ first) from (suc vip) number pool a e = pools_fit changes n first (from + 1) vip number pool a.1 e

-- a pool that a number names is one of the layout
pub pool_fits : (k : Config) → IsFitted k → (vip number : ℕ) (pool : List ℕ) → pool_of k.pools vip number ≡ Some pool
    → IsPoolOf k.layout pool
pool_fits k f vip number pool e =
    pools_fit k.layout k.changes f.fits.names f.first 0 vip number pool f.fits.pools (ap (λ ps. pool_of ps vip number) (sym f.pools) ∙ e)

-- ---- the changes

-- a change's virtual address is of the layout, and its pool is one of those that changes give it
record IsGiven (l : LayoutView) (changes : List Change) (g : GiveChange) : Type 0 where
  vip : g.vip < l.vips
  least : 2 ≤ g.pool
  most : g.pool - 2 < length (gives_to g.vip changes)

one_given : (l : LayoutView) (before rest whole : List Change) (ms : ℕ) (what : What) → NamesOf l what
    → whole ≡ before ++ made ms what ∷ rest → AllByRecursion (IsGiven l whole) (give_of before ms what)
one_given l before rest whole ms (TakeDown server) n e = tt
one_given l before rest whole ms (Give vip pool) n e = (record { vip = n.0; least = omega arith; most = below }, tt)
  where
    here : giving vip (made ms (Give vip pool) ∷ rest) ≡ 1 + giving vip rest
    here =
        let same : (vip == vip) ≡ true = grind (arith, nat_tests) in
        sum_by-cons (λ change. cond (is_give vip change.what) 1 0) (made ms (Give vip pool)) rest ∙ ap (λ b. cond b 1 0 + giving vip rest) same

    below : next_pool vip before - 2 < length (gives_to vip whole)
    below = omega (arith, here, counted vip whole, ap (giving vip) e, sum_by-append (λ change. cond (is_give vip change.what) 1 0) before (made ms (Give vip pool) ∷ rest))

all_given : (l : LayoutView) (before changes whole : List Change) → AllByRecursion (λ change. NamesOf l change.what) changes
    → whole ≡ before ++ changes → AllByRecursion (IsGiven l whole) (gives_after before changes)
all_given l before [] whole a e = tt
all_given l before (change ∷ rest) whole a e =
    all_more (IsGiven l whole) (give_of before change.at_ms change.what) (gives_after (before ++ change ∷ []) rest) (one_given l before rest whole change.at_ms change.what a.0 e)
    (all_given l (before ++ change ∷ []) rest whole a.1 (e ∙ sym (append_assoc before (change ∷ []) rest)))

-- the pools of a virtual address
own_pools : (changes : List Change) (first : List (List ℕ)) (from vip : ℕ) → vip < length first
    → (f : List ℕ) × (slice_get (pools_from from first changes) vip ≡ Some (record { first = f; given = gives_to (from + vip) changes }))
own_pools changes [] from vip h = absurd (omega arith)
own_pools changes (f ∷ first) from zero h =
    (f, ap (λ n. Some (record { first = f; given = gives_to n changes })) (omega arith))
own_pools changes (f ∷ first) from (suc vip) h =
    let r = own_pools changes first (from + 1) vip (omega arith) in
    (r.0, r.1 ∙ ap (λ n. Some (record { first = r.0; given = gives_to n changes })) (omega arith))

numbered_there : (f : List ℕ) (given : List (List ℕ)) (number : ℕ) → 2 ≤ number → number - 2 < length given
    → is_some (numbered (record { first = f; given = given }) number) ≡ true
numbered_there f given number a b = at (number == 0) (number == 1) (grind (arith, nat_tests)) (grind (arith, nat_tests))
  where
    at : (x y : Bool) → x ≡ false → y ≡ false
        → is_some (if x then None else (if y then Some f else slice_get given (number - 2))) ≡ true
    at true y p q = cc
    at false true p q = cc
    at false false p q = ap is_some (slice_get-get_or given (number - 2) [] b)

-- a change that is still to be made gives a pool that there is to a virtual address of the layout
pub change_fits : (k : Config) → IsFitted k → (g : GiveChange) (rest gives : List GiveChange) → IsEnd gives (gives_after [] k.changes)
    → gives ≡ g ∷ rest
    → (g.vip < k.layout.vips) × (is_some (pool_of k.pools g.vip g.pool) ≡ true)
change_fits k f g rest gives e q =
    let all : AllByRecursion (IsGiven k.layout k.changes) (gives_after [] k.changes) = all_given k.layout [] k.changes k.changes f.fits.names refl in
    let part : AllByRecursion (IsGiven k.layout k.changes) gives = all_back (IsGiven k.layout k.changes) e.0 gives (subst (AllByRecursion (IsGiven k.layout k.changes)) e.1 all) in
    let one : IsGiven k.layout k.changes g = (subst (AllByRecursion (IsGiven k.layout k.changes)) q part).0 in
    let own = own_pools k.changes f.first 0 g.vip (omega (arith, one.vip, f.fits.vips)) in
    let given : gives_to (0 + g.vip) k.changes ≡ gives_to g.vip k.changes = ap (λ n. gives_to n k.changes) (omega arith) in (
      one.vip,
      ap (λ ps. is_some (pool_of ps g.vip g.pool)) f.pools
          ∙ (ap (λ o. is_some (option_and_then (λ own. numbered own g.pool) o)) own.1
          ∙ numbered_there own.0 (gives_to (0 + g.vip) k.changes) g.pool one.least (subst (λ xs. g.pool - 2 < length xs) (sym given) one.most)),
    )
