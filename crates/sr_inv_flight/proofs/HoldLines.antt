-- What the lines tell of the last Hold line of a virtual address, while its update is held or switched.
use Rattle.std.proofs.Common.{◌≡◌, ℕ, zero, suc, ◌-◌, ◌<◌, ◌≤◌, Bool, true, false, ◌&&◌, ◌||◌, not, List, [], ◌∷◌, ◌++◌, length, take, if◌then◌else◌, ◌==◌, nat_lt, Some, None, Option, sym, refl, ap, ◌∙◌, true≢false, arith}
use Rattle.std.proofs.lemmas.Bool.{and_parts}
use Rattle.std.proofs.lemmas.Bool.Decides.{nat_tests}
use Rattle.std.proofs.lemmas.Option.{same_Some}
use Rattle.std.specs.List.{AllByRecursion, list_any}
use Rattle.std.specs.Option.{option_or}
use Rattle.sr_base.specs.declared.vip_word.Phase.{Phase}
use Rattle.sr_base.specs.declared.vip_word.Phase.TheVariants.{Steady, Recording, Holding, Transit}
use Rattle.sr_inv_facts.proofs.Lists.{all_of, all_then}
use Rattle.sr_inv_facts.specs.InCauses.{AllMeet}
use Rattle.sr_inv_facts.specs.InFlight.{WordKnown}
use Rattle.sr_law.specs.Groups.{after_gives, goes_on, is_of_update, is_opening_give, keeps_groups, last_of_update, names_next_pool, was_held, was_switched}
use Rattle.sr_law.specs.Held.{finishes_between, hold_tick, is_between, last_hold, not_finished, not_switched, switches_between}
use Rattle.sr_law.specs.Order.{meets_order, refuses_next}
use Rattle.sr_law.specs.Ranges.{in_range}
use Rattle.sr_law.specs.Retire.{EndingPacket}
use Rattle.sr_law.specs.Rising.{after_last, has_new_ticks, is_in_time, one_by_one, rises}
use Rattle.sr_law.specs.Setup.{SetupView}
use Rattle.sr_law.specs.Taken.{keeps_places}
use Rattle.sr_law.specs.Ticks.{out_of}
use Rattle.sr_law.specs.declared.line.Line.{Line}
use Rattle.sr_law.specs.declared.line.Line.TheVariants as line

-- ---- tests that a line is a switch, or an end of an update, of a virtual address

abbrev pub switches : ℕ → Line → Bool
switches vip (line.Switched out to pool) = to == vip
switches vip l = false

abbrev pub finishes : ℕ → Line → Bool
finishes vip (line.Finished out to) = to == vip
finishes vip l = false

-- the virtual address was held, and no such line is out since
pub record HeldSince (test : Line → Bool) (lines : List Line) (vip : ℕ) : Type 0 where
  pub tick : ℕ
  pub held : last_hold lines vip ≡ Some tick
  pub since : AllByRecursion (λ l. test l ≡ true → out_of l ≤ tick) lines

-- ---- what is known then

late : (low high out : ℕ) → out ≤ low → is_between low high out ≡ false
late low high out h = at (nat_lt low out) (grind (arith, nat_tests))
  where
    at : (b : Bool) → b ≡ false → (b && nat_lt out high) ≡ false
    at true e = cc
    at false e = refl

switch_late : (vip low high : ℕ) (l : Line) → (switches vip l ≡ true → out_of l ≤ low) → switches_between vip low high l ≡ false
switch_late vip low high (line.Switched out to pool) h = at (to == vip) h
  where
    at : (b : Bool) → (b ≡ true → out ≤ low) → (b && is_between low high out) ≡ false
    at true h = late low high out (h refl)
    at false h = refl
switch_late vip low high l h = refl

finish_late : (vip low high : ℕ) (l : Line) → (finishes vip l ≡ true → out_of l ≤ low) → finishes_between vip low high l ≡ false
finish_late vip low high (line.Finished out to) h = at (to == vip) h
  where
    at : (b : Bool) → (b ≡ true → out ≤ low) → (b && is_between low high out) ≡ false
    at true h = late low high out (h refl)
    at false h = refl
finish_late vip low high l h = refl

none_passes : (test : Line → Bool) (lines : List Line) → AllByRecursion (λ l. test l ≡ false) lines → list_any test lines ≡ false
none_passes test [] a = refl
none_passes test (l ∷ rest) a = cc (a.0, none_passes test rest a.1)

-- a packet of a virtual address that is held since entered at any tick
pub switch_known : (lines : List Line) (vip start : ℕ) → HeldSince (switches vip) lines vip → not_switched lines vip start (last_hold lines vip) ≡ true
switch_known lines vip start h =
    ap (not_switched lines vip start) h.held
    ∙ ap not (none_passes (switches_between vip h.tick start) lines
    (all_then (λ l. switches vip l ≡ true → out_of l ≤ h.tick) (λ l. switches_between vip h.tick start l ≡ false) (λ l t. switch_late vip h.tick start l t) lines h.since))

pub finish_known : (lines : List Line) (vip start : ℕ) → HeldSince (finishes vip) lines vip → not_finished lines vip start (last_hold lines vip) ≡ true
finish_known lines vip start h =
    ap (not_finished lines vip start) h.held
    ∙ ap not (none_passes (finishes_between vip h.tick start) lines
    (all_then (λ l. finishes vip l ≡ true → out_of l ≤ h.tick) (λ l. finishes_between vip h.tick start l ≡ false) (λ l t. finish_late vip h.tick start l t) lines h.since))

-- ---- lines in order

module _ (setup : SetupView) (endings : List EndingPacket) where
  order_parts : (before : List Line) (l : Line) → meets_order setup before l ≡ true
      → (keeps_groups setup before l ≡ true) × (after_last before l ≡ true)
  unfolding meets_order rises
  order_parts before l e =
      let p = and_parts (keeps_groups setup before l && rises before l && in_range setup l && keeps_places before l) (refuses_next before l) e in
      let q = and_parts (keeps_groups setup before l && rises before l && in_range setup l) (keeps_places before l) p.0 in
      let r = and_parts (keeps_groups setup before l && rises before l) (in_range setup l) q.0 in
      let t = and_parts (keeps_groups setup before l) (rises before l) r.0 in
      let a = and_parts (after_last before l && is_in_time l && has_new_ticks before l) (one_by_one before l) t.1 in
      let b = and_parts (after_last before l && is_in_time l) (has_new_ticks before l) a.0 in
      (t.0, (and_parts (after_last before l) (is_in_time l) b.0).0)

  -- the test of a line's group: an opening give, or a line that goes on with the update
  abbrev pub in_group : List Line → Line → Bool
  in_group before l =
      if nat_lt (length before) (length setup.pools) then is_opening_give (length before) l
      else goes_on (last_of_update (after_gives (length setup.pools) before)) l

  pub group_part : (before : List Line) (l : Line) → meets_order setup before l ≡ true → in_group before l ≡ true
  unfolding keeps_groups
  group_part before l e = (and_parts (in_group before l) (names_next_pool setup.pools before l) (order_parts before l e).0).0

  -- a switch comes after the Hold line of its virtual address
  switched_on : (out to pool : ℕ) (before : List Line) → meets_order setup before (line.Switched out to pool) ≡ true
      → was_held to (last_of_update (after_gives (length setup.pools) before)) ≡ true
  switched_on out to pool before e =
      at (nat_lt (length before) (length setup.pools)) (group_part before (line.Switched out to pool) e)
    where
      at : (b : Bool) → (if b then false else was_held to (last_of_update (after_gives (length setup.pools) before))) ≡ true
          → was_held to (last_of_update (after_gives (length setup.pools) before)) ≡ true
      at true e = cc
      at false e = e

  -- each line is out after those before it
  sorted : (l : Line) (before : List Line) → AllMeet setup endings (l ∷ before) → AllByRecursion (λ m. out_of m < out_of l) before
  sorted l [] a = tt
  sorted l (m ∷ before) a =
      let first : out_of m < out_of l = grind (arith, nat_tests, (order_parts (m ∷ before) l a.0.order).1) in
      (first, all_then (λ n. out_of n < out_of m) (λ n. out_of n < out_of l) (λ n b. omega (arith, b, first)) before (sorted m before a.1))

  module _ (test : Line → Bool) (vip : ℕ) (test_update : (l : Line) → test l ≡ true → is_of_update l ≡ true) (test_hold : (out to : ℕ) → test (line.Hold out to) ≡ false) where
    -- a line that is no update's
    other_line : (l : Line) (lines : List Line) → is_of_update l ≡ false → (last_hold (l ∷ lines) vip ≡ last_hold lines vip) → HeldSince test lines vip
        → HeldSince test (l ∷ lines) vip
    other_line l lines n e h = record {
      tick = h.tick;
      held = e ∙ h.held;
      since = ((λ t. absurd (true≢false (sym (test_update l t) ∙ n))), h.since);
    }

    held_here : (out to : ℕ) (lines : List Line) → AllMeet setup endings (line.Hold out to ∷ lines) → (to == vip) ≡ true
        → HeldSince test (line.Hold out to ∷ lines) vip
    held_here out to lines a e = record {
      tick = out;
      held = at (to == vip) e;
      since = (
        (λ t. absurd (true≢false (sym t ∙ test_hold out to))),
        all_then (λ m. out_of m < out) (λ m. test m ≡ true → out_of m ≤ out) (λ m b t. omega (arith, b)) lines (sorted (line.Hold out to) lines a),
      );
    }
      where
        at : (b : Bool) → b ≡ true → option_or (if b then Some out else None) (last_hold lines vip) ≡ Some out
        at true e = refl
        at false e = cc

    -- where the last line of an update is a Hold line
    pub held_since : (lines : List Line) (n : ℕ) → AllMeet setup endings lines → was_held vip (last_of_update (take n lines)) ≡ true
        → HeldSince test lines vip
    held_since [] zero a e = cc
    held_since [] (suc n) a e = cc
    held_since (l ∷ lines) zero a e = cc
    held_since (line.Hold out to ∷ lines) (suc n) a e = held_here out to lines a e
    held_since (line.Given out to version pool ∷ lines) (suc n) a e = cc
    held_since (line.Recorded out to ∷ lines) (suc n) a e = cc
    held_since (line.Switched out to pool ∷ lines) (suc n) a e = cc
    held_since (line.Finished out to ∷ lines) (suc n) a e = cc
    held_since (l ∷ lines) (suc n) a e = other_line l lines refl refl (held_since lines n a.1 e)

module _ (setup : SetupView) (endings : List EndingPacket) (vip : ℕ) where
  switches_update : (l : Line) → switches vip l ≡ true → is_of_update l ≡ true
  switches_update (line.Switched out to pool) e = refl
  switches_update l e = cc

  finishes_update : (l : Line) → finishes vip l ≡ true → is_of_update l ≡ true
  finishes_update (line.Finished out to) e = refl
  finishes_update l e = cc

  -- the last line of an update holds the virtual address
  pub held_unswitched : (lines : List Line) (n : ℕ) → AllMeet setup endings lines → was_held vip (last_of_update (take n lines)) ≡ true
      → HeldSince (switches vip) lines vip
  held_unswitched = held_since setup endings (switches vip) vip switches_update (λ out to. refl)

  pub held_unfinished : (lines : List Line) (n : ℕ) → AllMeet setup endings lines → was_held vip (last_of_update (take n lines)) ≡ true
      → HeldSince (finishes vip) lines vip
  held_unfinished = held_since setup endings (finishes vip) vip finishes_update (λ out to. refl)

  -- or switches it
  pub switched_unfinished : (lines : List Line) (n : ℕ) → AllMeet setup endings lines → was_switched vip (last_of_update (take n lines)) ≡ true
      → HeldSince (finishes vip) lines vip
  switched_unfinished [] zero a e = cc
  switched_unfinished [] (suc n) a e = cc
  switched_unfinished (l ∷ lines) zero a e = cc
  switched_unfinished (line.Switched out to pool ∷ lines) (suc n) a e =
      let same : to ≡ vip = grind (arith, nat_tests) in
      let h = held_unfinished lines (length lines - length setup.pools) a.1
      (ap (λ v. was_held v (last_of_update (after_gives (length setup.pools) lines))) (sym same) ∙ switched_on setup endings out to pool lines a.0.order) in
      record { tick = h.tick; held = h.held; since = ((λ t. absurd (true≢false (sym t))), h.since) }
  switched_unfinished (line.Given out to version pool ∷ lines) (suc n) a e = cc
  switched_unfinished (line.Recorded out to ∷ lines) (suc n) a e = cc
  switched_unfinished (line.Hold out to ∷ lines) (suc n) a e = cc
  switched_unfinished (line.Finished out to ∷ lines) (suc n) a e = cc
  switched_unfinished (l ∷ lines) (suc n) a e =
      other_line setup endings (finishes vip) vip finishes_update (λ out to. refl) l lines refl refl (switched_unfinished lines n a.1 e)

-- ---- one line more

-- no tick is both after a later one and before an earlier one
between_none : (low high out : ℕ) → high ≤ low → is_between low high out ≡ false
between_none low high out h = at (nat_lt low out) (nat_lt out high) refl refl
  where
    at : (a b : Bool) → nat_lt low out ≡ a → nat_lt out high ≡ b → (a && b) ≡ false
    at true true p q =
        let x : low < out = grind (arith, nat_tests) in
        let y : out < high = grind (arith, nat_tests) in
        absurd (omega (arith, x, y))
    at true false p q = refl
    at false b p q = refl

between_early : (low high out : ℕ) → high < out → is_between low high out ≡ false
between_early low high out h = at (nat_lt low out) (nat_lt out high) (grind (arith, nat_tests))
  where
    at : (a b : Bool) → b ≡ false → (a && b) ≡ false
    at true b e = e
    at false b e = refl

switch_none : (vip low high : ℕ) (l : Line) → is_between low high (out_of l) ≡ false → switches_between vip low high l ≡ false
switch_none vip low high (line.Switched out to pool) e = at (to == vip)
  where
    at : (b : Bool) → (b && is_between low high out) ≡ false
    at true = e
    at false = refl
switch_none vip low high l e = refl

finish_none : (vip low high : ℕ) (l : Line) → is_between low high (out_of l) ≡ false → finishes_between vip low high l ≡ false
finish_none vip low high (line.Finished out to) e = at (to == vip)
  where
    at : (b : Bool) → (b && is_between low high out) ≡ false
    at true = e
    at false = refl
finish_none vip low high l e = refl

-- a Hold line tells its own tick
hold_out : (l : Line) (vip t : ℕ) → hold_tick l vip ≡ Some t → t ≡ out_of l
hold_out (line.Hold out to) vip t e = at (to == vip) e
  where
    at : (b : Bool) → (if b then Some out else None) ≡ Some t → t ≡ out
    at true e = sym (same_Some out t e)
    at false e = cc
hold_out l vip t e = cc

-- what a packet knows stays so as a line is out that is newer than it
pub known_more : (l : Line) (lines : List Line) (vip entered : ℕ) (p : Phase) → entered < out_of l → WordKnown lines vip entered p
    → WordKnown (l ∷ lines) vip entered p
known_more l lines vip entered Steady b h = tt
known_more l lines vip entered Recording b h = tt
known_more l lines vip entered Holding b h = at (hold_tick l vip) (last_hold lines vip) refl h
  where
    at : (o r : Option ℕ) → hold_tick l vip ≡ o → not_switched lines vip entered r ≡ true → not_switched (l ∷ lines) vip entered (option_or o r) ≡ true
    at None None e h = cc
    at None (Some tick) e h =
        ap (λ c. not (c || list_any (switches_between vip tick entered) lines))
        (switch_none vip tick entered l (between_early tick entered (out_of l) b)) ∙ h
    at (Some t) r e h =
        let own : t ≡ out_of l = hold_out l vip t e in
        ap not (none_passes (switches_between vip t entered) (l ∷ lines)
        (all_of (λ m. switches_between vip t entered m ≡ false) (λ m. switch_none vip t entered m (between_none t entered (out_of m) (omega (arith, own, b)))) (l ∷ lines)))
known_more l lines vip entered Transit b h = at (hold_tick l vip) (last_hold lines vip) refl h
  where
    at : (o r : Option ℕ) → hold_tick l vip ≡ o → not_finished lines vip entered r ≡ true → not_finished (l ∷ lines) vip entered (option_or o r) ≡ true
    at None None e h = cc
    at None (Some tick) e h =
        ap (λ c. not (c || list_any (finishes_between vip tick entered) lines))
        (finish_none vip tick entered l (between_early tick entered (out_of l) b)) ∙ h
    at (Some t) r e h =
        let own : t ≡ out_of l = hold_out l vip t e in
        ap not (none_passes (finishes_between vip t entered) (l ∷ lines)
        (all_of (λ m. finishes_between vip t entered m ≡ false) (λ m. finish_none vip t entered m (between_none t entered (out_of m) (omega (arith, own, b)))) (l ∷ lines)))

-- and as some are
pub known_after : (new lines : List Line) (vip entered : ℕ) (p : Phase) → AllByRecursion (λ l. entered < out_of l) new
    → WordKnown lines vip entered p
    → WordKnown (new ++ lines) vip entered p
known_after [] lines vip entered p a h = h
known_after (l ∷ new) lines vip entered p a h = known_more l (new ++ lines) vip entered p a.0 (known_after new lines vip entered p a.1 h)
