-- Each step of a packet lowers the number of steps that it makes yet.
use Rattle.std.proofs.Common.{◌≡◌, ℕ, ◌+◌, ◌-◌, ◌<◌, ◌≤◌, ◌==◌, ◌&&◌, Bool, true, false, List, [], ◌∷◌, length, refl, ap, ◌∙◌, arith, if◌then◌else◌}
use Rattle.sr_base.specs.Layout.{LayoutView}
use Rattle.sr_base.specs.declared.kind.Kind.{Kind}
use Rattle.sr_base.specs.declared.kind.Kind.TheVariants.{Opener, Carry, Ending}
use Rattle.sr_base.specs.declared.place.Place.{Place}
use Rattle.sr_base.specs.declared.vip_word.Phase.{Phase}
use Rattle.sr_base.specs.declared.vip_word.Phase.TheVariants.{Steady, Recording, Holding, Transit}
use Rattle.sr_law.specs.declared.verdict.HeldBy.{HeldBy}
use Rattle.sr_law.specs.declared.verdict.HeldBy.TheVariants as by
use Rattle.sr_law.specs.declared.verdict.Verdict.{Verdict}
use Rattle.sr_law.specs.declared.verdict.Verdict.TheVariants as verdict
use Rattle.sr_machine.specs.Bounds.{PacketsEnd, last_left, leg_left, marks_left, stage_after_all, stage_left}
use Rattle.sr_machine.specs.Reads.{has_bit, read_flag, says}
use Rattle.sr_machine.specs.Stages.{filtered, filtering, held_or, is_opener, is_recording, is_to, key_bits, last_after, last_at, last_by, leg_after, loaded, looked, looking, marking, missed_in, stage_after}
use Rattle.sr_machine.specs.declared.flight.Flight.{Flight}
use Rattle.sr_machine.specs.declared.leg.Last.{Last}
use Rattle.sr_machine.specs.declared.leg.Last.TheVariants as last
use Rattle.sr_machine.specs.declared.leg.Leg.{Leg}
use Rattle.sr_machine.specs.declared.leg.Leg.TheVariants.{Look, Hit, Filter, Chosen, Judged}
use Rattle.sr_machine.specs.declared.leg.Load.{Load}
use Rattle.sr_machine.specs.declared.leg.Load.TheVariants as load
use Rattle.sr_machine.specs.declared.said.Said.{Said}
use Rattle.sr_machine.specs.declared.said.Said.TheVariants as said
use Rattle.sr_machine.specs.declared.stage.Stage.{Stage}
use Rattle.sr_machine.specs.declared.stage.Stage.TheVariants.{Idle, Enter, Note, Vip, Fly, Leave}

module _ (f : Flight) where
  marks_most : marks_left f ≤ 3
  marks_most = at (is_opener f.packet.kind && is_recording f.vip.phase)
    where
      at : (b : Bool) → (if b then 3 else 0) ≤ 3
      at true = omega arith
      at false = omega arith

  marks_without : is_opener f.packet.kind ≡ false → marks_left f ≡ 0
  marks_without e = ap (λ o. if o && is_recording f.vip.phase then 3 else 0) e

  marks_elsewhere : is_recording f.vip.phase ≡ false → marks_left f ≡ 0
  marks_elsewhere e = ap (λ r. if is_opener f.packet.kind && r then 3 else 0) e ∙ at (is_opener f.packet.kind)
    where
      at : (b : Bool) → ◌≡◌ {A = ℕ} (if b && false then 3 else 0) 0
      at true = refl
      at false = refl

  held_left : (why : HeldBy) (version : ℕ) → leg_left f (held_or f why version) ≤ 7
  held_left why version = at (is_opener f.packet.kind) refl
    where
      at : (b : Bool) → is_opener f.packet.kind ≡ b
          → leg_left f (if b then Judged (verdict.Held why) last.Ring else Chosen version load.Head) ≤ 7
      at true e = omega (arith, marks_most)
      at false e = omega (arith, marks_without e)

  filtering_left : (bits : List ℕ) → leg_left f (filtering f bits) ≤ 7 + length bits + marks_left f
  filtering_left [] = omega (arith, held_left by.Transit f.vip.cur)
  filtering_left (bit ∷ rest) = omega arith

  missed_left : (l : LayoutView) (p : Phase) → f.vip.phase ≡ p → leg_left f (missed_in l f p) ≤ 10
  missed_left l Steady e = omega (arith, marks_most)
  missed_left l Recording e = omega (arith, marks_most)
  missed_left l Holding e = omega (arith, held_left by.Hold f.vip.cur)
  missed_left l Transit e = omega (arith, marks_elsewhere (ap is_recording e))

  looking_left : (l : LayoutView) (places : List Place) → leg_left f (looking l f places) ≤ 10 + length places
  looking_left l [] = omega (arith, missed_left l f.vip.phase refl)
  looking_left l (place ∷ rest) = omega arith

  looked_left : (l : LayoutView) (place : Place) (rest : List Place) (s : Said)
      → leg_left f (looked l f place rest s) < 11 + length rest
  looked_left l place rest said.Nothing = omega (arith, looking_left l rest)
  looked_left l place rest said.Reserved = at (is_opener f.packet.kind)
    where
      at : (b : Bool) → leg_left f (if b then Judged (verdict.Held by.Clash) last.Ring else looking l f rest) < 11 + length rest
      at true = omega (arith, marks_most)
      at false = omega (arith, looking_left l rest)
  looked_left l place rest (said.Live version) = omega arith

  filtered_left : (rest : List ℕ) (set : Bool) → leg_left f (filtered f rest set) < 8 + length rest + marks_left f
  filtered_left rest true = omega (arith, filtering_left rest)
  filtered_left rest false = omega arith

  last_by_left : (kind : Kind) (down : Bool) → last_left f (last_by kind down) < 5 + marks_left f
  last_by_left Opener true = omega arith
  last_by_left Opener false = omega arith
  last_by_left Carry down = omega arith
  last_by_left Ending down = omega arith

  loaded_left : (l : LayoutView) (version : ℕ) (next : Load) (x : ℕ)
      → leg_left f (loaded l f version next x) < leg_left f (Chosen version next)
  loaded_left l version load.Head x = omega arith
  loaded_left l version (load.Member head) x = omega arith
  loaded_left l version (load.Down pool server) x = last_by_left f.packet.kind (read_flag x)

  last_at_left : (l : LayoutView) (v : Verdict) (empty : Bool) → last_left f (last_at l f v empty) < 4 + marks_left f
  last_at_left l v true = at (is_opener f.packet.kind) (is_to v) (is_recording f.vip.phase) refl refl
    where
      at : (a b c : Bool) → is_opener f.packet.kind ≡ a → is_recording f.vip.phase ≡ c
          → last_left f (if a && (b && c) then marking (key_bits l f.packet.key) else last.Push) < 4 + marks_left f
      at true true true d e = rw (d, e) (omega arith)
      at true true false d e = omega arith
      at true false c d e = omega arith
      at false b c d e = omega arith
  last_at_left l v false = omega arith

  marking_left : (bits : List ℕ) → last_left f (marking bits) ≤ 3 + length bits
  marking_left [] = omega arith
  marking_left (bit ∷ rest) = omega arith

  last_lowers : (l : LayoutView) (v : Verdict) (next : Last) (x : ℕ) → stage_left (last_after l f v next x) < last_left f next
  last_lowers l v last.Ring x = last_at_left l v (x == 0)
  last_lowers l v (last.Mark bit rest) x = omega (arith, marking_left rest)
  last_lowers l v last.Push x = omega arith
  last_lowers l v last.Out x = omega arith

  leg_lowers : (l : LayoutView) (leg : Leg) (x : ℕ) → stage_left (leg_after l f leg x) < leg_left f leg
  leg_lowers l (Look place rest) x = looked_left l place rest (says l place f.packet.key x)
  leg_lowers l (Hit place version) x = omega (arith, held_left by.Clash version)
  leg_lowers l (Filter bit rest) x = filtered_left rest (has_bit bit x)
  leg_lowers l (Chosen version next) x = loaded_left l version next x
  leg_lowers l (Judged v next) x = last_lowers l v next x

-- a stage has fewer steps left than the one before it, and an idle pipe has none
pub stage_lowers : (l : LayoutView) (stage : Stage) (x : ℕ) → stage_left (stage_after l stage x) ≤ stage_left stage - 1
stage_lowers l Idle x = omega arith
stage_lowers l (Enter packet) x = omega arith
stage_lowers l (Note packet entered) x = omega arith
stage_lowers l (Vip packet entered) x = omega arith
stage_lowers l (Fly f leg) x = omega (arith, leg_lowers f l leg x)
stage_lowers l (Leave f) x = omega arith

pub none_left : (stage : Stage) → stage_left stage ≤ 0 → stage ≡ Idle
none_left Idle h = refl
none_left (Enter packet) h = absurd (omega (arith, h))
none_left (Note packet entered) h = absurd (omega (arith, h))
none_left (Vip packet entered) h = absurd (omega (arith, h))
none_left (Fly f (Look place rest)) h = absurd (omega (arith, h))
none_left (Fly f (Hit place version)) h = absurd (omega (arith, h))
none_left (Fly f (Filter bit rest)) h = absurd (omega (arith, h))
none_left (Fly f (Chosen version load.Head)) h = absurd (omega (arith, h))
none_left (Fly f (Chosen version (load.Member head))) h = absurd (omega (arith, h))
none_left (Fly f (Chosen version (load.Down pool server))) h = absurd (omega (arith, h))
none_left (Fly f (Judged v last.Ring)) h = absurd (omega (arith, h))
none_left (Fly f (Judged v (last.Mark bit rest))) h = absurd (omega (arith, h))
none_left (Fly f (Judged v last.Push)) h = absurd (omega (arith, h))
none_left (Fly f (Judged v last.Out)) h = absurd (omega (arith, h))
none_left (Leave f) h = absurd (omega (arith, h))

all_lower : (l : LayoutView) (answers : List ℕ) (stage : Stage) → stage_left stage ≤ length answers
    → stage_after_all l answers stage ≡ Idle
all_lower l [] stage h = none_left stage h
all_lower l (x ∷ xs) stage h = all_lower l xs (stage_after l stage x) (omega (arith, h, stage_lowers l stage x))

pub packets_end : PacketsEnd
packets_end l packet answers h = all_lower l answers (Enter packet) h
