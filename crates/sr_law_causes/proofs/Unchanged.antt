-- Where no change of a pool is due, no update holds a packet: an update's lines are a group, and it begins with a Given line.
use Rattle.std.proofs.Common.{◌≡◌, ℕ, zero, suc, ◌-◌, ◌&&◌, nat_lt, Bool, true, false, List, [], ◌∷◌, length, take, Some, None, if◌then◌else◌, refl, ap, ◌∙◌, subst, arith}
use Rattle.std.proofs.lemmas.Bool.{and_parts}
use Rattle.std.proofs.lemmas.Bool.Decides.{nat_tests}
use Rattle.std.specs.Option.{option_or}
use Rattle.sr_law.specs.Cause.{meets_cause}
use Rattle.sr_law.specs.Groups.{after_gives, goes_on, is_of_update, is_opening_give, keeps_groups, last_of_update}
use Rattle.sr_law.specs.Held.{hold_tick, last_hold, may_transit, not_finished, not_switched}
use Rattle.sr_law.specs.Lawful.{MeetsClauses}
use Rattle.sr_law.specs.Order.{meets_order}
use Rattle.sr_law.specs.Retire.{EndingPacket}
use Rattle.sr_law.specs.Settled.{gives_settled}
use Rattle.sr_law.specs.Setup.{SetupView}
use Rattle.sr_law.specs.declared.line.Line.{Line}
use Rattle.sr_law_causes.proofs.Walking.{Walk, walk_met}
use Rattle.sr_law_causes.specs.Laws.{NothingHoldsUnchanged}
use Rattle.sr_law_causes.specs.Rare.{HasNone, waits_for_update}
use Rattle.sr_law.specs.declared.line.Line.TheVariants as line
use Rattle.sr_law.specs.declared.verdict.HeldBy.TheVariants as by
use Rattle.sr_law.specs.declared.verdict.Verdict.TheVariants as verdict

module _ (setup : SetupView) (endings : List EndingPacket) where
  abbrev vips : ℕ
  vips = length setup.pools

  -- no update was begun: after the first lines none is an update's, and none holds a virtual address
  record Calm (before : List Line) : Type 0 where
    group : last_of_update (after_gives vips before) ≡ None
    held : (vip : ℕ) → last_hold before vip ≡ None

  group_part : (before : List Line) (l : Line) → meets_order setup before l ≡ true → keeps_groups setup before l ≡ true
  unfolding meets_order
  group_part before l m =
      (and_parts _ _ (and_parts _ _ (and_parts _ _ (and_parts _ _ m).0).0).0).0

  -- with no change to tell of, a Given line is one of the first
  not_given : (before : List Line) (out vip version pool : ℕ) (rest : List Line)
      → gives_settled setup before [] (line.Given out vip version pool ∷ rest) ≡ true
      → (nat_lt (length before) vips ≡ true) × (gives_settled setup (line.Given out vip version pool ∷ before) [] rest ≡ true)
  not_given before out vip version pool rest e = at (nat_lt (length before) vips) e
    where
      at : (b : Bool)
          → (if b then gives_settled setup (line.Given out vip version pool ∷ before) [] rest else (false && gives_settled setup (line.Given out vip version pool ∷ before) [] rest)) ≡ true
          → (b ≡ true) × (gives_settled setup (line.Given out vip version pool ∷ before) [] rest ≡ true)
      at true h = (refl, h)
      at false h = cc

  -- a line that isn't of an update, or is among the first, leaves it calm
  early_group : (before : List Line) (l : Line) → nat_lt (length before) vips ≡ true → last_of_update (after_gives vips (l ∷ before)) ≡ None
  early_group before l e =
      let none : length (l ∷ before) - vips ≡ 0 = grind (arith, nat_tests, e) in ap (λ n. last_of_update (take n (l ∷ before))) none

  late_group : (before : List Line) (l : Line) → nat_lt (length before) vips ≡ false → is_of_update l ≡ false
      → last_of_update (after_gives vips before) ≡ None
      → last_of_update (after_gives vips (l ∷ before)) ≡ None
  late_group before l e u h =
      let more : length (l ∷ before) - vips ≡ suc (length before - vips) = grind (arith, nat_tests, e) in
      ap (λ n. last_of_update (take n (l ∷ before))) more
      ∙ (ap (λ b. if b then Some l else last_of_update (take (length before - vips) before)) u ∙ h)

  goes_late : (before : List Line) (l : Line) → keeps_groups setup before l ≡ true → nat_lt (length before) vips ≡ false
      → goes_on (last_of_update (after_gives vips before)) l ≡ true
  unfolding keeps_groups
  goes_late before l k e =
      subst (λ b. (if b then is_opening_give (length before) l else goes_on (last_of_update (after_gives vips before)) l) ≡ true) e (and_parts _ _ k).0

  goes_early : (before : List Line) (l : Line) → keeps_groups setup before l ≡ true → nat_lt (length before) vips ≡ true
      → is_opening_give (length before) l ≡ true
  unfolding keeps_groups
  goes_early before l k e =
      subst (λ b. (if b then is_opening_give (length before) l else goes_on (last_of_update (after_gives vips before)) l) ≡ true) e (and_parts _ _ k).0

  -- an update doesn't go on that wasn't begun
  not_on : (before : List Line) (l : Line) → Calm before → keeps_groups setup before l ≡ true
      → goes_on None l ≡ false → is_opening_give (length before) l ≡ false → ⊥
  not_on before l c k never first = at (nat_lt (length before) vips) refl
    where
      at : (b : Bool) → nat_lt (length before) vips ≡ b → ⊥
      at true e = absurd (cc (goes_early before l k e, first))
      at false e =
          let on : goes_on None l ≡ true = subst (λ o. goes_on o l ≡ true) c.group (goes_late before l k e) in absurd (cc (on, never))

  -- a line of no update
  plain_calm : (before : List Line) (l : Line) → Calm before → is_of_update l ≡ false → ((vip : ℕ) → hold_tick l vip ≡ None) → Calm (l ∷ before)
  plain_calm before l c u n = record { group = at (nat_lt (length before) vips) refl; held = λ vip. ap (λ o. option_or o (last_hold before vip)) (n vip) ∙ c.held vip }
    where
      at : (b : Bool) → nat_lt (length before) vips ≡ b → last_of_update (after_gives vips (l ∷ before)) ≡ None
      at true e = early_group before l e
      at false e = late_group before l e u c.group

  -- the next line leaves it calm, and what is left to tell is as before
  next_calm : (before : List Line) (l : Line) (rest : List Line) → Calm before → keeps_groups setup before l ≡ true
      → gives_settled setup before [] (l ∷ rest) ≡ true
      → Calm (l ∷ before) × (gives_settled setup (l ∷ before) [] rest ≡ true)
  next_calm before (line.Given out vip version pool) rest c k e =
      let d = not_given before out vip version pool rest e in
      (record { group = early_group before (line.Given out vip version pool) d.0; held = c.held }, d.1)
  next_calm before (line.Refused out change) rest c k e = cc
  next_calm before (line.Recorded out vip) rest c k e = absurd (not_on before (line.Recorded out vip) c k refl refl)
  next_calm before (line.Hold out vip) rest c k e = absurd (not_on before (line.Hold out vip) c k refl refl)
  next_calm before (line.Switched out vip pool) rest c k e = absurd (not_on before (line.Switched out vip pool) c k refl refl)
  next_calm before (line.Finished out vip) rest c k e = absurd (not_on before (line.Finished out vip) c k refl refl)
  next_calm before l rest c k e = (plain_calm before l c refl (λ vip. refl), e)

  -- no packet is held by an update that never was
  none_here : (before : List Line) (l : Line) → Calm before → meets_cause setup before l ≡ true → waits_for_update l ≡ false
  unfolding meets_cause may_transit
  none_here before (line.Packet number entered out pipe key kind (verdict.Held by.Hold)) c m =
      let parts = and_parts _ _ m in
      absurd (cc (subst (λ o. not_switched before key.vip entered o ≡ true) (c.held key.vip) parts.1))
  none_here before (line.Packet number entered out pipe key kind (verdict.Held by.Transit)) c m =
      let parts = and_parts _ _ m in
      let more = and_parts _ _ (and_parts _ _ parts.1).0 in
      absurd (cc (subst (λ o. not_finished before key.vip entered o ≡ true) (c.held key.vip) more.0))
  none_here before (line.Packet number entered out pipe key kind (verdict.Held by.Clash)) c m = refl
  none_here before (line.Packet number entered out pipe key kind v) c m = refl
  none_here before l c m = refl

  walked : (before lines : List Line) → Walk (MeetsClauses setup endings) before lines → Calm before → gives_settled setup before [] lines ≡ true
      → HasNone waits_for_update lines
  walked before [] m c e = tt
  walked before (l ∷ rest) m c e =
      let next = next_calm before l rest c (group_part before l m.0.order) e in
      (none_here before l c m.0.cause, walked (l ∷ before) rest m.1 next.0 next.1)

pub unchanged : NothingHoldsUnchanged
unchanged setup endings lines clock changes met told none =
    walked setup endings [] lines (walk_met setup endings lines met)
    (record {
      group = nothing (0 - length setup.pools);
      held = λ vip. refl;
    }) (subst (λ ds. gives_settled setup [] ds lines ≡ true) none told)
  where
    nothing : (n : ℕ) → last_of_update (take n []) ≡ None
    nothing zero = refl
    nothing (suc n) = refl
