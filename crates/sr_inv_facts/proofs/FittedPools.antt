-- The pools of a machine that was made for some first pools and changes: each is one of the layout, and its number is in range.
use Rattle.std.proofs.Common.{◌≡◌, ℕ, ◌+◌, ◌-◌, ◌^◌, ◌<◌, ◌≤◌, Bool, true, false, List, [], ◌∷◌, length, if◌then◌else◌, ◌==◌, slice_get, slice_index, Some, None, Option, option_and_then, sym, refl, subst, arith}
use Rattle.std.proofs.lemmas.Bool.Decides.{nat_tests}
use Rattle.std.proofs.lemmas.Option.{same_Some, slice_get_within}
use Rattle.std.specs.List.{AllByRecursion}
use Rattle.sr_base.specs.Fitting.{IsPoolOf, NamesOf}
use Rattle.sr_base.specs.Layout.{LayoutView}
use Rattle.sr_base.specs.declared.change.Change.{Change}
use Rattle.sr_base.specs.declared.change.What.{What}
use Rattle.sr_base.specs.declared.change.What.TheVariants.{Give, TakeDown}
use Rattle.sr_inv_facts.proofs.Lists.{all_got, got_or}
use Rattle.sr_inv_facts.specs.Fitted.{IsFitted}
use Rattle.sr_law.specs.Pools.{VipPools, gives_to, numbered, pool_of, pools_from}
use Rattle.sr_machine.specs.Config.{Config}

-- the pools of a virtual address are pools of the layout, and so many of them at most were given
record OwnFits (l : LayoutView) (most : ℕ) (own : VipPools) : Type 0 where
  first : IsPoolOf l own.first
  given : AllByRecursion (IsPoolOf l) own.given
  few : length own.given ≤ most

record GivenFit (l : LayoutView) (most : ℕ) (given : List (List ℕ)) : Type 0 where
  pools : AllByRecursion (IsPoolOf l) given
  few : length given ≤ most

given_fit : (l : LayoutView) (vip : ℕ) (changes : List Change) → AllByRecursion (λ change. NamesOf l change.what) changes
    → GivenFit l (length changes) (gives_to vip changes)
given_fit l vip [] names = record { pools = tt; few = omega arith }
given_fit l vip (change ∷ changes) names = by change.what names.0 (given_fit l vip changes names.1)
  where
    by : (what : What) → NamesOf l what → GivenFit l (length changes) (gives_to vip changes)
        → GivenFit l (length (change ∷ changes)) (elim what [
          | Give to pool ↦ if to == vip then pool ∷ gives_to vip changes else gives_to vip changes
          | TakeDown server ↦ gives_to vip changes
        ])
    by (Give to pool) n rest = on (to == vip)
      where
        on : (b : Bool) → GivenFit l (length (change ∷ changes)) (if b then pool ∷ gives_to vip changes else gives_to vip changes)
        on true = record { pools = (n.1, rest.pools); few = omega (arith, rest.few) }
        on false = record { pools = rest.pools; few = omega (arith, rest.few) }
    by (TakeDown server) n rest = record { pools = rest.pools; few = omega (arith, rest.few) }

all_fit : (l : LayoutView) (vip : ℕ) (first : List (List ℕ)) (changes : List Change) → AllByRecursion (IsPoolOf l) first
    → AllByRecursion (λ change. NamesOf l change.what) changes
    → AllByRecursion (OwnFits l (length changes)) (pools_from vip first changes)
all_fit l vip [] changes pools names = tt
all_fit l vip (pool ∷ first) changes pools names =
    let g = given_fit l vip changes names in
    (record { first = pools.0; given = g.pools; few = g.few }, all_fit l (vip + 1) first changes pools.1 names)

-- a pool is one of the layout, and its number is in range
pub record PoolFits (l : LayoutView) (number : ℕ) (pool : List ℕ) : Type 0 where
  pub is : IsPoolOf l pool
  pub small : number < 2 ^ 48

numbered_fits : (l : LayoutView) (most number : ℕ) (own : VipPools) (pool : List ℕ) → most < 2 ^ 32 → OwnFits l most own
    → numbered own number ≡ Some pool
    → PoolFits l number pool
numbered_fits l most number own pool few h e = by (number == 0) (number == 1) refl refl e
  where
    by : (a b : Bool) → (number == 0) ≡ a → (number == 1) ≡ b
        → (if a then None else (if b then Some own.first else slice_get own.given (number - 2))) ≡ Some pool → PoolFits l number pool
    by true b p q e = cc
    by false true p q e =
        let one : number ≡ 1 = grind (arith, nat_tests) in
        record { is = subst (IsPoolOf l) (same_Some own.first pool e) h.first; small = omega (arith, one) }
    by false false p q e =
        let within : number - 2 < length own.given = slice_get_within own.given (number - 2) pool e in
        record { is = all_got (IsPoolOf l) own.given (number - 2) pool h.given e; small = omega (arith, within, few, h.few) }

pub pool_fits : (k : Config) → IsFitted k → (vip number : ℕ) (pool : List ℕ) → pool_of k.pools vip number ≡ Some pool
    → PoolFits k.layout number pool
pool_fits k f vip number pool e = by (slice_get k.pools vip) refl e
  where
    all : AllByRecursion (OwnFits k.layout (length k.changes)) k.pools
    all = subst (AllByRecursion (OwnFits k.layout (length k.changes))) (sym f.pools) (all_fit k.layout 0 f.first k.changes f.fits.pools f.fits.names)

    by : (o : Option VipPools) → slice_get k.pools vip ≡ o → option_and_then (λ own. numbered own number) o ≡ Some pool
        → PoolFits k.layout number pool
    by None q e = cc
    by (Some own) q e =
        numbered_fits k.layout (length k.changes) number own pool f.fits.few
        (all_got (OwnFits k.layout (length k.changes)) k.pools vip own all q) e

-- a server of a pool is one of the layout
pub server_below : (l : LayoutView) (pool : List ℕ) (n : ℕ) → 0 < l.servers → IsPoolOf l pool → slice_index pool n < l.servers
server_below l pool n b h = got_or (λ server. server < l.servers) pool n 0 h.servers b
