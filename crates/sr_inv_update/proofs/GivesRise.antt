-- The changes that are still to be made stand in the order of their positions, and the pools that they give a virtual address rise.
use Rattle.std.proofs.Common.{◌≡◌, ℕ, ◌<◌, ◌≤◌, Bool, true, cond, List, [], ◌∷◌, ◌++◌, length, refl, ap, ◌∙◌, subst, arith}
use Rattle.std.proofs.lemmas.Bool.Decides.{nat_tests}
use Rattle.std.proofs.lemmas.List.{length-append}
use Rattle.std.proofs.lemmas.List.Sums.{sum_by-append, sum_by-cons}
use Rattle.std.specs.List.{AllByRecursion}
use Rattle.sr_base.specs.declared.change.Change.{Change}
use Rattle.sr_base.specs.declared.change.What.{What}
use Rattle.sr_base.specs.declared.change.What.TheVariants.{Give, TakeDown}
use Rattle.sr_inv_facts.proofs.Lists.{all_more, all_then}
use Rattle.sr_inv_facts.specs.Readings.{IsEnd}
use Rattle.sr_update.specs.Updates.{gives_to as is_give, give_of, gives_after, next_pool}
use Rattle.sr_update.specs.declared.give_change.GiveChange.{GiveChange}

-- one comes before another
pub record IsBefore (g h : GiveChange) : Type 0 where
  pub position : g.position < h.position
  pub pool : h.vip ≡ g.vip → g.pool < h.pool

abbrev pub AreInOrder : List GiveChange → Type 0
AreInOrder [] = Unit {0}
AreInOrder (g ∷ rest) = AllByRecursion (IsBefore g) rest × AreInOrder rest

-- no earlier than after these changes
record IsAfter (before : List Change) (h : GiveChange) : Type 0 where
  position : length before ≤ h.position
  pool : next_pool h.vip before ≤ h.pool

pools_grow : (vip : ℕ) (before more : List Change) → next_pool vip before ≤ next_pool vip (before ++ more)
pools_grow vip before more = omega (arith, sum_by-append (λ change. cond (is_give vip change.what) 1 0) before more)

after_more : (before more : List Change) (h : GiveChange) → IsAfter (before ++ more) h → IsAfter before h
after_more before more h a = record {
  position = omega (arith, a.position, length-append before more);
  pool = omega (arith, a.pool, pools_grow h.vip before more);
}

one_after : (before : List Change) (ms : ℕ) (what : What) → AllByRecursion (IsAfter before) (give_of before ms what)
one_after before ms (Give vip pool) = (record { position = omega arith; pool = omega arith }, tt)
one_after before ms (TakeDown server) = tt

all_after : (before changes : List Change) → AllByRecursion (IsAfter before) (gives_after before changes)
all_after before [] = tt
all_after before (change ∷ rest) =
    all_more (IsAfter before) (give_of before change.at_ms change.what) (gives_after (before ++ change ∷ []) rest) (one_after before change.at_ms change.what)
    (all_then (IsAfter (before ++ change ∷ [])) (IsAfter before) (after_more before (change ∷ [])) (gives_after (before ++ change ∷ []) rest) (all_after (before ++ change ∷ []) rest))

-- what comes after a change comes after what the change gives
give_before : (before : List Change) (change : Change) (vip : ℕ) (pool : List ℕ) → change.what ≡ Give vip pool → (h : GiveChange)
    → IsAfter (before ++ change ∷ []) h
    → IsBefore (record { at_ms = change.at_ms; position = length before; vip = vip; pool = next_pool vip before }) h
give_before before change vip pool e h a = record {
  position = omega (arith, a.position, length-append before (change ∷ []));
  pool = λ q.
      let gives : is_give vip change.what ≡ true = ap (is_give vip) e ∙ here in
      let one : cond {A = ℕ} (is_give vip change.what) 1 0 ≡ 1 = ap (λ (b : Bool). cond {A = ℕ} b 1 0) gives in
      let later : next_pool vip (before ++ change ∷ []) ≤ h.pool = subst (λ z. next_pool z (before ++ change ∷ []) ≤ h.pool) q a.pool in
      omega (arith, later, one, sum_by-append (λ change. cond (is_give vip change.what) 1 0) before (change ∷ []), sum_by-cons (λ change. cond (is_give vip change.what) 1 0) change []);
}
  where
    here : is_give vip (Give vip pool) ≡ true
    here = grind (arith, nat_tests)

pub gives_rise : (before changes : List Change) → AreInOrder (gives_after before changes)
gives_rise before [] = tt
gives_rise before (change ∷ rest) = at change.what refl (gives_rise (before ++ change ∷ []) rest)
  where
    at : (what : What) → change.what ≡ what → AreInOrder (gives_after (before ++ change ∷ []) rest)
        → AreInOrder (give_of before change.at_ms what ++ gives_after (before ++ change ∷ []) rest)
    at (Give vip pool) e more =
        (all_then (IsAfter (before ++ change ∷ [])) (IsBefore (record { at_ms = change.at_ms; position = length before; vip = vip; pool = next_pool vip before })) (give_before before change vip pool e) (gives_after (before ++ change ∷ []) rest) (all_after (before ++ change ∷ []) rest), more)
    at (TakeDown server) e more = more

order_back : (front gives : List GiveChange) → AreInOrder (front ++ gives) → AreInOrder gives
order_back [] gives a = a
order_back (g ∷ front) gives a = order_back front gives a.1

-- of an end of the changes
pub end_in_order : (changes : List Change) (gives : List GiveChange) → IsEnd gives (gives_after [] changes) → AreInOrder gives
end_in_order changes gives e = order_back e.0 gives (subst AreInOrder e.1 (gives_rise [] changes))

-- the pools of changes come after the first ones
pub all_past_first : (changes : List Change) → AllByRecursion (λ g. 2 ≤ g.pool) (gives_after [] changes)
all_past_first changes =
    all_then (IsAfter []) (λ g. 2 ≤ g.pool) (λ g a. omega (arith, a.pool)) (gives_after [] changes) (all_after [] changes)
