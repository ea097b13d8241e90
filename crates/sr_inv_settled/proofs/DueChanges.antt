-- The changes of a script that are due, once the ones that were taken are those that the clock has reached.
use Rattle.std.proofs.Common.{◌≡◌, ℕ, ◌+◌, ◌≤◌, ◌==◌, Bool, true, false, cond, List, [], ◌∷◌, ◌++◌, filter, length, map, reverse, take, if◌then◌else◌, count_by, Some, None, Option, sym, refl, ap, ◌∙◌, subst, append-nil, arith}
use Rattle.std.proofs.lemmas.Bool.Decides.{nat_tests}
use Rattle.std.proofs.Math.Seq.{take-append_seam}
use Rattle.std.proofs.lemmas.List.{length-append, map-append, reverse-append}
use Rattle.std.proofs.lemmas.List.Elements.{filter-append}
use Rattle.std.proofs.lemmas.List.Sums.{sum_by-append, sum_by-cons}
use Rattle.std.specs.List.{AllByRecursion, list_all}
use Rattle.sr_base.specs.Fitting.{IsInTime}
use Rattle.sr_base.specs.declared.change.Change.{Change}
use Rattle.sr_base.specs.declared.change.What.{What}
use Rattle.sr_base.specs.declared.change.What.TheVariants.{Give, TakeDown}
use Rattle.sr_inv_facts.specs.InShape.{servers_of}
use Rattle.sr_inv_order.proofs.Rising.{and_true}
use Rattle.sr_inv_settled.specs.Told.{due_of}
use Rattle.sr_law.specs.Pools.{gives_to as pools_given}
use Rattle.sr_law.specs.Settled.{due_downs, due_gives, is_due, is_number_as_often}
use Rattle.sr_machine.specs.Opening.{outages_in}
use Rattle.sr_machine.specs.declared.outage.Outage.{Outage}
use Rattle.sr_update.specs.Updates.{gives_after, gives_to, has_come, next_pool}
use Rattle.sr_update.specs.declared.give_change.GiveChange.{GiveChange}

come_due : (clock : Option ℕ) (at_ms : ℕ) → is_due clock at_ms ≡ has_come at_ms clock
come_due None at_ms = refl
come_due (Some now) at_ms = refl

-- ---- pools

abbrev Come : Option ℕ → GiveChange → Bool
Come clock g = has_come g.at_ms clock

-- as many pools were given by the changes before, in either order
abbrev AsMany : List Change → List Change → Type 0
AsMany earlier before = (vip : ℕ) → length (pools_given vip earlier) ≡ count_by (λ change. gives_to vip change.what) before

module _ (clock : Option ℕ) where
  abbrev Dues : List Change → List Change → List Change → Type 0
  Dues earlier before changes =
      due_gives clock earlier (length before) changes ≡ map due_of (filter (Come clock) (gives_after before changes))

  counted : (vip at_ms : ℕ) (what : What) (before : List Change)
      → count_by (λ change. gives_to vip change.what) (before ++ record { at_ms = at_ms; what = what } ∷ [])
      ≡ count_by (λ change. gives_to vip change.what) before + cond (gives_to vip what) 1 0
  counted vip at_ms what before =
      sum_by-append (λ (change : Change). cond (gives_to vip change.what) 1 0) before (record { at_ms = at_ms; what = what } ∷ [])
      ∙ ap (λ n. count_by (λ (change : Change). gives_to vip change.what) before + n)
      (sum_by-cons (λ (change : Change). cond (gives_to vip change.what) 1 0) (record { at_ms = at_ms; what = what }) [] ∙ omega arith)

  more_many : (earlier before : List Change) (at_ms : ℕ) (what : What) → AsMany earlier before
      → AsMany (record { at_ms = at_ms; what = what } ∷ earlier) (before ++ record { at_ms = at_ms; what = what } ∷ [])
  more_many earlier before at_ms (Give to pool) m vip = at (to == vip) refl
    where
      at : (b : Bool) → (to == vip) ≡ b
          → length (if b then pool ∷ pools_given vip earlier else pools_given vip earlier)
          ≡ count_by (λ change. gives_to vip change.what) (before ++ record { at_ms = at_ms; what = Give to pool } ∷ [])
      at true q =
          omega (arith, m vip, counted vip at_ms (Give to pool) before, ap (λ b. cond {A = ℕ} b 1 0) q)
      at false q =
          omega (arith, m vip, counted vip at_ms (Give to pool) before, ap (λ b. cond {A = ℕ} b 1 0) q)
  more_many earlier before at_ms (TakeDown server) m vip = omega (arith, m vip, counted vip at_ms (TakeDown server) before)

  one_due : (earlier before rest : List Change) (at_ms : ℕ) (what : What) → AsMany earlier before
      → Dues (record { at_ms = at_ms; what = what } ∷ earlier) (before ++ record { at_ms = at_ms; what = what } ∷ []) rest
      → Dues earlier before (record { at_ms = at_ms; what = what } ∷ rest)
  one_due earlier before rest at_ms (TakeDown server) m more =
      ap (λ n. due_gives clock (record { at_ms = at_ms; what = TakeDown server } ∷ earlier) n rest)
      (sym (length-append before (record { at_ms = at_ms; what = TakeDown server } ∷ [])))
      ∙ more
  one_due earlier before rest at_ms (Give vip pool) m more = at (is_due clock at_ms) (has_come at_ms clock) (come_due clock at_ms)
    where
      change : Change
      change = record { at_ms = at_ms; what = Give vip pool }

      tail : due_gives clock (change ∷ earlier) (length before + 1) rest
          ≡ map due_of (filter (Come clock) (gives_after (before ++ change ∷ []) rest))
      tail = ap (λ n. due_gives clock (change ∷ earlier) n rest) (sym (length-append before (change ∷ []))) ∙ more

      number : 2 + length (pools_given vip earlier) ≡ next_pool vip before
      number = omega (arith, m vip)

      at : (b d : Bool) → b ≡ d
          → ((if b then record { position = length before; vip = vip; pool = 2 + length (pools_given vip earlier) } ∷ [] else []) ++ due_gives clock (change ∷ earlier) (length before + 1) rest)
          ≡ map due_of (cond d (record { at_ms = at_ms; position = length before; vip = vip; pool = next_pool vip before } ∷ filter (Come clock) (gives_after (before ++ change ∷ []) rest)) (filter (Come clock) (gives_after (before ++ change ∷ []) rest)))
      at true true q =
          ap (λ ds. record { position = length before; vip = vip; pool = 2 + length (pools_given vip earlier) } ∷ ds) tail
          ∙ ap (λ n. record { position = length before; vip = vip; pool = n } ∷ map due_of (filter (Come clock) (gives_after (before ++ change ∷ []) rest))) number
      at false false q = tail
      at true false q = cc
      at false true q = cc

  all_due : (earlier before changes : List Change) → AsMany earlier before → Dues earlier before changes
  all_due earlier before [] m = refl
  all_due earlier before (change ∷ rest) m =
      one_due earlier before rest change.at_ms change.what m
      (all_due (change ∷ earlier) (before ++ change ∷ []) rest (more_many earlier before change.at_ms change.what m))

module _ {X : Type 0} (test : X → Bool) where
  filter_whole : (xs : List X) → AllByRecursion (λ x. test x ≡ true) xs → filter test xs ≡ xs
  filter_whole [] a = refl
  filter_whole (x ∷ xs) a = at (test x) a.0 (filter_whole xs a.1)
    where
      at : (b : Bool) → b ≡ true → filter test xs ≡ xs → cond b (x ∷ filter test xs) (filter test xs) ≡ x ∷ xs
      at true q more = ap (λ ys. x ∷ ys) more
      at false q more = cc

  filter_none : (xs : List X) → AllByRecursion (λ x. test x ≡ false) xs → filter test xs ≡ []
  filter_none [] a = refl
  filter_none (x ∷ xs) a = at (test x) a.0 (filter_none xs a.1)
    where
      at : (b : Bool) → b ≡ false → filter test xs ≡ [] → cond b (x ∷ filter test xs) (filter test xs) ≡ []
      at true q more = cc
      at false q more = more

  -- a list in two parts of which the first passes and the second doesn't
  parted : (all xs ys : List X) → all ≡ xs ++ ys → AllByRecursion (λ x. test x ≡ true) xs → AllByRecursion (λ x. test x ≡ false) ys
      → filter test all ≡ xs
  parted all xs ys e a b =
      ap (filter test) e
      ∙ (filter-append test xs ys ∙ (ap (λ zs. filter test xs ++ zs) (filter_none ys b) ∙ (append-nil (filter test xs) ∙ filter_whole xs a)))

-- where the changes that were made had come due, and the others haven't, those are the due ones
pub dues_made : (clock : Option ℕ) (changes : List Change) (made gives : List GiveChange) → gives_after [] changes ≡ made ++ gives
    → AllByRecursion (λ g. has_come g.at_ms clock ≡ true) made
    → AllByRecursion (λ g. has_come g.at_ms clock ≡ false) gives
    → due_gives clock [] 0 changes ≡ map due_of made
dues_made clock changes made gives e a b =
    all_due clock [] [] changes (λ vip. refl) ∙ ap (map due_of) (parted (Come clock) (gives_after [] changes) made gives e a b)

-- where the changes that were made come first and had come due, they are the first of the due ones
pub dues_begun : (clock : Option ℕ) (changes : List Change) (made gives : List GiveChange) → gives_after [] changes ≡ made ++ gives
    → AllByRecursion (λ g. has_come g.at_ms clock ≡ true) made
    → take (length (map due_of made)) (due_gives clock [] 0 changes) ≡ map due_of made
dues_begun clock changes made gives e a =
    let others : List GiveChange = filter (Come clock) gives in
    let dues : due_gives clock [] 0 changes ≡ map due_of made ++ map due_of others =
    all_due clock [] [] changes (λ vip. refl)
    ∙ ap (map due_of) (ap (filter (Come clock)) e ∙ (filter-append (Come clock) made gives ∙ ap (λ gs. gs ++ others) (filter_whole (Come clock) made a)))
    ∙ map-append due_of made others in
    ap (take (length (map due_of made))) dues ∙ take-append_seam (map due_of made) (map due_of others)

-- ---- servers

abbrev Out : Option ℕ → Outage → Bool
Out clock o = has_come o.at_ms clock

downs_due : (clock : Option ℕ) (changes : List Change) → due_downs clock changes ≡ servers_of (filter (Out clock) (outages_in changes))
downs_due clock [] = refl
downs_due clock (change ∷ rest) = one change.at_ms change.what (downs_due clock rest)
  where
    one : (at_ms : ℕ) (what : What) → due_downs clock rest ≡ servers_of (filter (Out clock) (outages_in rest))
        → due_downs clock (record { at_ms = at_ms; what = what } ∷ rest)
        ≡ servers_of (filter (Out clock) (outages_in (record { at_ms = at_ms; what = what } ∷ rest)))
    one at_ms (Give vip pool) more = more
    one at_ms (TakeDown server) more = at (is_due clock at_ms) (has_come at_ms clock) (come_due clock at_ms)
      where
        at : (b d : Bool) → b ≡ d
            → ((if b then server ∷ [] else []) ++ due_downs clock rest)
            ≡ servers_of (cond d (record { at_ms = at_ms; server = server } ∷ filter (Out clock) (outages_in rest)) (filter (Out clock) (outages_in rest)))
        at true true q = ap (λ ss. server ∷ ss) more
        at false false q = more
        at true false q = cc
        at false true q = cc

-- each comes no earlier than this time, or than the one before it
abbrev IsFrom : ℕ → List Outage → Type 0
IsFrom from [] = Unit {0}
IsFrom from (o ∷ rest) = (from ≤ o.at_ms) × IsFrom o.at_ms rest

from_later : (low high : ℕ) (outages : List Outage) → low ≤ high → IsFrom high outages → IsFrom low outages
from_later low high [] h f = tt
from_later low high (o ∷ rest) h f = (omega (arith, f.0), f.1)

outages_from : (from : ℕ) (changes : List Change) → IsInTime from changes → IsFrom from (outages_in changes)
outages_from from [] t = tt
outages_from from (change ∷ rest) t = one change.at_ms change.what t.0 (outages_from change.at_ms rest t.1)
  where
    one : (at_ms : ℕ) (what : What) → from ≤ at_ms → IsFrom at_ms (outages_in rest)
        → IsFrom from (outages_in (record { at_ms = at_ms; what = what } ∷ rest))
    one at_ms (Give vip pool) h more = from_later from at_ms (outages_in rest) h more
    one at_ms (TakeDown server) h more = (h, more)

from_back : (from : ℕ) (front back : List Outage) → IsFrom from (front ++ back) → IsFrom 0 back
from_back from [] back f = from_later 0 from back (omega arith) f
from_back from (o ∷ front) back f = from_back o.at_ms front back f.1

-- what comes after one that isn't due isn't due either
later_none : (clock : Option ℕ) (from : ℕ) (outages : List Outage) → has_come from clock ≡ false → IsFrom from outages
    → AllByRecursion (λ o. has_come o.at_ms clock ≡ false) outages
later_none clock from [] n f = tt
later_none clock from (o ∷ rest) n f = let here = late clock n in (here, later_none clock o.at_ms rest here f.1)
  where
    late : (clock : Option ℕ) → has_come from clock ≡ false → has_come o.at_ms clock ≡ false
    late None q = refl
    late (Some now) q = let below = f.0 in grind (arith, nat_tests, below)

pub none_due : (clock : Option ℕ) (changes : List Change) (made outages : List Outage) → IsInTime 0 changes
    → outages_in changes ≡ made ++ outages
    → ((o : Outage) (rest : List Outage) → outages ≡ o ∷ rest → has_come o.at_ms clock ≡ false)
    → AllByRecursion (λ o. has_come o.at_ms clock ≡ false) outages
none_due clock changes made outages t e first = at outages first (from_back 0 made outages (subst (IsFrom 0) e (outages_from 0 changes t)))
  where
    at : (os : List Outage) → ((o : Outage) (rest : List Outage) → os ≡ o ∷ rest → has_come o.at_ms clock ≡ false) → IsFrom 0 os
        → AllByRecursion (λ o. has_come o.at_ms clock ≡ false) os
    at [] n f = tt
    at (o ∷ rest) n f = let here = n o rest refl in (here, later_none clock o.at_ms rest here f.1)

pub downs_made : (clock : Option ℕ) (changes : List Change) (made outages : List Outage) → outages_in changes ≡ made ++ outages
    → AllByRecursion (λ o. has_come o.at_ms clock ≡ true) made
    → AllByRecursion (λ o. has_come o.at_ms clock ≡ false) outages
    → due_downs clock changes ≡ servers_of made
downs_made clock changes made outages e a b =
    downs_due clock changes ∙ ap servers_of (parted (Out clock) (outages_in changes) made outages e a b)

-- ---- a list and its reverse

count_reversed : (test : ℕ → Bool) (xs : List ℕ) → count_by test (reverse xs) ≡ count_by test xs
count_reversed test [] = refl
count_reversed test (x ∷ xs) =
    ap (count_by test) (reverse-append (x ∷ []) xs)
    ∙ omega (arith, sum_by-append (λ y. cond (test y) 1 0) (reverse xs) (x ∷ []), count_reversed test xs, sum_by-cons (λ y. cond (test y) 1 0) x xs, sum_by-cons (λ y. cond (test y) 1 0) x [])

reverse_often : (xs : List ℕ) (n : ℕ) → is_number_as_often xs (reverse xs) n ≡ true
reverse_often xs n = let same = count_reversed (λ x. x == n) xs in grind (arith, nat_tests, same)

pub all_often : (xs ys : List ℕ) → list_all (is_number_as_often xs (reverse xs)) ys ≡ true
all_often xs [] = refl
all_often xs (y ∷ ys) = and_true _ _ (reverse_often xs y) (all_often xs ys)
