-- What the index of updates that hold their virtual address tells in a list that falls.
use Rattle.std.proofs.Common.{◌≡◌, ℕ, ◌<◌, Bool, true, false, not, ◌&&◌, ◌||◌, cond, List, [], ◌∷◌, Option, Some, None, refl, sym, ap, ◌∙◌, inl, inr, subst, true≢false, arith}
use Rattle.std.specs.List.{list_any}
use Rattle.std.specs.Option.{option_or}
use Rattle.std.specs.Prelude.{nat_eq, option_map}
use Rattle.std.proofs.lemmas.Bool.{cases_Bool}
use Rattle.std.proofs.lemmas.Bool.Decides.{nat_tests}
use Rattle.std.proofs.lemmas.Option.{none-some, same_Some}
use Rattle.sr_law.specs.Ticks.{out_of}
use Rattle.sr_law.specs.Held.{is_between, hold_tick, last_hold, switches_between, finishes_between, not_switched, not_finished, may_hold}
use Rattle.sr_law.specs.declared.line.Line.{Line}
use Rattle.sr_law.specs.declared.line.Line.TheVariants.{Hold, Switched, Finished}
use Rattle.sr_audit.specs.declared.holds.Holding.{Holding}
use Rattle.sr_audit.specs.Holds.{begun, switched_at, finished_at, hold_after, hold_of, holds_at, lasts_at}
use Rattle.sr_audit.specs.Lately.{AreOut, Falls, was_before}

-- a switch, or an end, is told of: no line since `tick` was one before a start, but where the first was
record Since (before : List Line) (between : ℕ → ℕ → Line → Bool) (tick : ℕ) (first : Option ℕ) : Type 0 where
  past : (at : ℕ) → AreOut at before → (known : ℕ) → first ≡ Some known → known < at
  found : (start : ℕ) → list_any (between tick start) before ≡ was_before first start

-- what is told of the update
abbrev Told : List Line → ℕ → Option Holding → Type 0
Told before vip None = last_hold before vip ≡ None
Told before vip (Some h) =
    (last_hold before vip ≡ Some h.tick) × ((at : ℕ) → AreOut at before → h.tick < at)
    × Since before (switches_between vip) h.tick h.switched × Since before (finishes_between vip) h.tick h.finished

-- a line that is none such
since_skip : (before : List Line) (between : ℕ → ℕ → Line → Bool) (tick : ℕ) (first : Option ℕ) (line : Line) → ((start : ℕ) → between tick start line ≡ false)
    → Since before between tick first → Since (line ∷ before) between tick first
since_skip before between tick first line none s = record {
  past = λ at out known is. s.past at out.1 known is;
  found = λ start. ap (λ b. b || list_any (between tick start) before) (none start) ∙ s.found start;
}

more_past : (first : Option ℕ) (out at known : ℕ) → out < at → ((k : ℕ) → first ≡ Some k → k < at) → option_or first (Some out) ≡ Some known → known < at
more_past None out at known below h e = grind (arith, below, same_Some out known e)
more_past (Some k) out at known below h e = h known e

more_found : (first : Option ℕ) (tick out start : ℕ) → tick < out → ((k : ℕ) → first ≡ Some k → k < out)
    → (is_between tick start out || was_before first start) ≡ was_before (option_or first (Some out)) start
more_found None tick out start below h = grind (arith, nat_tests, below)
more_found (Some k) tick out start below h = grind (arith, nat_tests, below, h k refl)

-- a line that is one
since_more : (before : List Line) (between : ℕ → ℕ → Line → Bool) (tick : ℕ) (first : Option ℕ) (line : Line) → ((start : ℕ) → between tick start line ≡ is_between tick start (out_of line))
    → tick < out_of line → AreOut (out_of line) before
    → Since before between tick first → Since (line ∷ before) between tick (option_or first (Some (out_of line)))
since_more before between tick first line is below out s = record {
  past = λ at later known e. more_past first (out_of line) at known later.0 (s.past at later.1) e;
  found = λ start.
      ap (λ b. b || list_any (between tick start) before) (is start) ∙ ap (λ b. is_between tick start (out_of line) || b) (s.found start)
      ∙ more_found first tick (out_of line) start below (s.past (out_of line) out);
}

none_since : (before : List Line) (between : ℕ → ℕ → Line → Bool) (out start : ℕ) → ((line : Line) → out_of line < out → between out start line ≡ false) → AreOut out before
    → list_any (between out start) before ≡ false
none_since [] between out start none h = refl
none_since (line ∷ before) between out start none h = rw (none line h.0, none_since before between out start none h.1) refl

-- the first line of an update
since_first : (before : List Line) (between : ℕ → ℕ → Line → Bool) (line : Line) → ((start : ℕ) → between (out_of line) start line ≡ false)
    → ((earlier : Line) (start : ℕ) → out_of earlier < out_of line → between (out_of line) start earlier ≡ false) → AreOut (out_of line) before
    → Since (line ∷ before) between (out_of line) None
since_first before between line not none out = record {
  past = λ at later known e. absurd (none-some known e);
  found = λ start. rw (not start, none_since before between (out_of line) start (λ earlier below. none earlier start below) out) refl;
}

early_none : (b : Bool) (low high out : ℕ) → out < low → (b && is_between low high out) ≡ false
early_none true low high out h = grind (arith, nat_tests, h)
early_none false low high out h = refl

early_switch : (vip low high : ℕ) (line : Line) → out_of line < low → switches_between vip low high line ≡ false
early_switch vip low high (Switched out to pool) h = early_none (nat_eq to vip) low high out h
early_switch vip low high line h = refl

early_finish : (vip low high : ℕ) (line : Line) → out_of line < low → finishes_between vip low high line ≡ false
early_finish vip low high (Finished out to) h = early_none (nat_eq to vip) low high out h
early_finish vip low high line h = refl

skipped : (before : List Line) (vip : ℕ) (line : Line) (older : Option Holding) → hold_tick line vip ≡ None
    → ((low high : ℕ) → switches_between vip low high line ≡ false) → ((low high : ℕ) → finishes_between vip low high line ≡ false)
    → Told before vip older → Told (line ∷ before) vip older
skipped before vip line None none switch finish t = ap (λ o. option_or o (last_hold before vip)) none ∙ t
skipped before vip line (Some h) none switch finish t = (
  ap (λ o. option_or o (last_hold before vip)) none ∙ t.0,
  λ at out. t.1 at out.1,
  since_skip before (switches_between vip) h.tick h.switched line (switch h.tick) t.2,
  since_skip before (finishes_between vip) h.tick h.finished line (finish h.tick) t.3,
)

other_none : (b other : Bool) → b ≡ false → (b && other) ≡ false
other_none true other e = absurd (true≢false e)
other_none false other e = refl

mine_all : (b other : Bool) → b ≡ true → (b && other) ≡ other
mine_all true other e = refl
mine_all false other e = absurd (true≢false (sym e))

switched : (before : List Line) (vip out to pool : ℕ) (older : Option Holding) → nat_eq to vip ≡ true → AreOut out before
    → Told before vip older → Told (Switched out to pool ∷ before) vip (option_map (switched_at out) older)
switched before vip out to pool None same falls t = t
switched before vip out to pool (Some h) same falls t =
    let line : Line = Switched out to pool in (
      t.0,
      λ at later. t.1 at later.1,
      since_more before (switches_between vip) h.tick h.switched line (λ start. mine_all (nat_eq to vip) (is_between h.tick start out) same) (t.1 out falls) falls t.2,
      since_skip before (finishes_between vip) h.tick h.finished line (λ start. refl) t.3,
    )

finished : (before : List Line) (vip out to : ℕ) (older : Option Holding) → nat_eq to vip ≡ true → AreOut out before
    → Told before vip older → Told (Finished out to ∷ before) vip (option_map (finished_at out) older)
finished before vip out to None same falls t = t
finished before vip out to (Some h) same falls t =
    let line : Line = Finished out to in (
      t.0,
      λ at later. t.1 at later.1,
      since_skip before (switches_between vip) h.tick h.switched line (λ start. refl) t.2,
      since_more before (finishes_between vip) h.tick h.finished line (λ start. mine_all (nat_eq to vip) (is_between h.tick start out) same) (t.1 out falls) falls t.3,
    )

told_after : (before : List Line) (vip : ℕ) (line : Line) (older : Option Holding) → AreOut (out_of line) before → Told before vip older
    → Told (line ∷ before) vip (hold_after line vip older)
told_after before vip (Hold out to) older falls t =
    let line : Line = Hold out to in
    elim (cases_Bool (nat_eq to vip)) [
      | inl same ↦ subst (Told (line ∷ before) vip) (sym (ap (λ b. cond b (Some (begun out)) older) same)) (
        ap (λ b. option_or (cond b (Some out) None) (last_hold before vip)) same,
        λ at later. later.0,
        since_first before (switches_between vip) line (λ start. refl) (λ earlier start below. early_switch vip out start earlier below) falls,
        since_first before (finishes_between vip) line (λ start. refl) (λ earlier start below. early_finish vip out start earlier below) falls,
      )
      | inr other ↦ subst (Told (line ∷ before) vip) (sym (ap (λ b. cond b (Some (begun out)) older) other))
          (skipped before vip line older (ap (λ b. cond b (Some out) None) other) (λ low high. refl) (λ low high. refl) t)
    ]
told_after before vip (Switched out to pool) older falls t =
    let line : Line = Switched out to pool in
    elim (cases_Bool (nat_eq to vip)) [
      | inl same ↦ subst (Told (line ∷ before) vip) (sym (ap (λ b. cond b (option_map (switched_at out) older) older) same))
          (switched before vip out to pool older same falls t)
      | inr other ↦ subst (Told (line ∷ before) vip) (sym (ap (λ b. cond b (option_map (switched_at out) older) older) other))
          (skipped before vip line older refl (λ low high. other_none (nat_eq to vip) (is_between low high out) other) (λ low high. refl) t)
    ]
told_after before vip (Finished out to) older falls t =
    let line : Line = Finished out to in
    elim (cases_Bool (nat_eq to vip)) [
      | inl same ↦ subst (Told (line ∷ before) vip) (sym (ap (λ b. cond b (option_map (finished_at out) older) older) same))
          (finished before vip out to older same falls t)
      | inr other ↦ subst (Told (line ∷ before) vip) (sym (ap (λ b. cond b (option_map (finished_at out) older) older) other))
          (skipped before vip line older refl (λ low high. refl) (λ low high. other_none (nat_eq to vip) (is_between low high out) other) t)
    ]
told_after before vip line older falls t = skipped before vip line older refl (λ low high. refl) (λ low high. refl) t

told : (before : List Line) (vip : ℕ) → Falls before → Told before vip (hold_of before vip)
told [] vip fall = refl
told (line ∷ before) vip fall = told_after before vip line (hold_of before vip) fall.1 (told before vip fall.2)

holds_by : (before : List Line) (vip start : ℕ) (hold : Option Holding) → Told before vip hold → holds_at hold start ≡ not_switched before vip start (last_hold before vip)
holds_by before vip start None t = sym (ap (not_switched before vip start) t)
holds_by before vip start (Some h) t = sym (ap (not_switched before vip start) t.0 ∙ ap not (t.2.found start))

lasts_by : (before : List Line) (vip start : ℕ) (hold : Option Holding) → Told before vip hold → lasts_at hold start ≡ not_finished before vip start (last_hold before vip)
lasts_by before vip start None t = sym (ap (not_finished before vip start) t)
lasts_by before vip start (Some h) t = sym (ap (not_finished before vip start) t.0 ∙ ap not (t.3.found start))

-- an update holds its virtual address from its Hold line on, until it was switched
pub holds : (before : List Line) (vip start : ℕ) (hold : Option Holding) → Falls before → hold ≡ hold_of before vip → holds_at hold start ≡ may_hold before vip start
holds before vip start hold fall is = ap (λ h. holds_at h start) is ∙ holds_by before vip start (hold_of before vip) (told before vip fall)

-- and lasts until it was finished
pub lasts : (before : List Line) (vip start : ℕ) (hold : Option Holding) → Falls before → hold ≡ hold_of before vip
    → lasts_at hold start ≡ not_finished before vip start (last_hold before vip)
lasts before vip start hold fall is = ap (λ h. lasts_at h start) is ∙ lasts_by before vip start (hold_of before vip) (told before vip fall)
