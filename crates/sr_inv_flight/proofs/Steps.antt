-- What holds of the packets in flight as one of them makes a step, or the controller does.
use Rattle.std.proofs.Common.{◌≡◌, ℕ, Bool, true, false, List, [], ◌∷◌, if◌then◌else◌, Option, Some, None, refl}
use Rattle.sr_base.specs.Layout.{LayoutView}
use Rattle.sr_base.specs.declared.packet.Packet.{Packet}
use Rattle.sr_base.specs.declared.place.Place.{Place}
use Rattle.sr_base.specs.declared.vip_word.Phase.{Phase}
use Rattle.sr_base.specs.declared.vip_word.Phase.TheVariants.{Steady, Recording, Holding, Transit}
use Rattle.sr_inv_facts.specs.Flying.{OnLeg}
use Rattle.sr_law.specs.declared.verdict.HeldBy.{HeldBy}
use Rattle.sr_machine.specs.Stages.{begun_flight, filtered, filtering, held_or, is_opener, key_bits, key_places, leg_after, looked, looking, missed_in, stage_after}
use Rattle.sr_machine.specs.declared.flight.Flight.{Flight}
use Rattle.sr_machine.specs.declared.leg.Leg.{Leg}
use Rattle.sr_machine.specs.declared.leg.Leg.TheVariants.{Look, Hit, Filter, Chosen, Judged}
use Rattle.sr_machine.specs.declared.op.Op.{Op}
use Rattle.sr_machine.specs.declared.said.Said.{Said}
use Rattle.sr_machine.specs.declared.stage.Stage.{Stage}
use Rattle.sr_machine.specs.declared.stage.Stage.TheVariants.{Idle, Enter, Note, Vip, Fly, Leave}
use Rattle.sr_machine.specs.declared.leg.Last.TheVariants as last
use Rattle.sr_machine.specs.declared.leg.Load.TheVariants as load
use Rattle.sr_machine.specs.declared.said.Said.TheVariants as said
use Rattle.sr_law.specs.declared.verdict.HeldBy.TheVariants as by
use Rattle.sr_law.specs.declared.verdict.Verdict.TheVariants as verdict

-- what holds of a step, if there is one
abbrev pub OnOp : Option Op → (Op → Type 0) → Type 0
OnOp None P = Unit {0}
OnOp (Some o) P = P o

-- what holds of a packet in flight, where one fact leads to the other
pub leg_then : (at : Stage) (P Q : Flight → Leg → Type 0) → ((f : Flight) (leg : Leg) → at ≡ Fly f leg → P f leg → Q f leg)
    → OnLeg at P → OnLeg at Q
leg_then (Fly f leg) P Q t h = t f leg refl h
leg_then Idle P Q t h = tt
leg_then (Enter packet) P Q t h = tt
leg_then (Note packet e) P Q t h = tt
leg_then (Vip packet e) P Q t h = tt
leg_then (Leave f) P Q t h = tt

-- after a step of it: it begins to look, or its leg makes a step
pub stage_turns : (l : LayoutView) (at : Stage) (x : ℕ) (P Q : Flight → Leg → Type 0)
    → ((packet : Packet) (e : ℕ) → at ≡ Vip packet e
    → Q (begun_flight l packet e x) (looking l (begun_flight l packet e x) (key_places l packet.key)))
    → ((f : Flight) (leg : Leg) → at ≡ Fly f leg → P f leg → OnLeg (leg_after l f leg x) Q) → OnLeg at P
    → OnLeg (stage_after l at x) Q
stage_turns l (Fly f leg) x P Q begins t h = t f leg refl h
stage_turns l (Vip packet e) x P Q begins t h = begins packet e refl
stage_turns l Idle x P Q begins t h = tt
stage_turns l (Enter packet) x P Q begins t h = tt
stage_turns l (Note packet e) x P Q begins t h = tt
stage_turns l (Leave f) x P Q begins t h = tt

-- ---- what a packet may come to until it has chosen

-- what is owed of where a packet may come to as it looks: a place, the filter, a verdict that holds it, or the current version of its word
pub record Finds (f : Flight) (P : Leg → Type 0) : Type 0 where
  pub look : (place : Place) (rest : List Place) → P (Look place rest)
  pub filter : (bit : ℕ) (rest : List ℕ) → P (Filter bit rest)
  pub held : (why : HeldBy) → P (Judged (verdict.Held why) last.Ring)
  pub current : P (Chosen f.vip.cur load.Head)

module _ (l : LayoutView) (f : Flight) (P : Leg → Type 0) (h : Finds f P) where
  -- an opener is held where another packet has a version
  pub found_or : (why : HeldBy) (n : ℕ) → P (Chosen n load.Head) → P (held_or f why n)
  found_or why n c = at (is_opener f.packet.kind)
    where
      at : (b : Bool) → P (if b then Judged (verdict.Held why) last.Ring else Chosen n load.Head)
      at true = h.held why
      at false = c

  filtering_finds : (rest : List ℕ) → P (filtering f rest)
  filtering_finds [] = found_or by.Transit f.vip.cur h.current
  filtering_finds (bit ∷ rest) = h.filter bit rest

  missed_finds : (p : Phase) → P (missed_in l f p)
  missed_finds Steady = h.current
  missed_finds Recording = h.current
  missed_finds Holding = found_or by.Hold f.vip.cur h.current
  missed_finds Transit = filtering_finds (key_bits l f.packet.key)

  pub looking_finds : (places : List Place) → P (looking l f places)
  looking_finds [] = missed_finds f.vip.phase
  looking_finds (place ∷ rest) = h.look place rest

  pub looked_finds : (place : Place) (rest : List Place) (s : Said) → ((n : ℕ) → s ≡ said.Live n → P (Hit place n))
      → P (looked l f place rest s)
  looked_finds place rest said.Nothing hit = looking_finds rest
  looked_finds place rest said.Reserved hit = at (is_opener f.packet.kind)
    where
      at : (b : Bool) → P (if b then Judged (verdict.Held by.Clash) last.Ring else looking l f rest)
      at true = h.held by.Clash
      at false = looking_finds rest
  looked_finds place rest (said.Live n) hit = hit n refl

  -- where a place of the filter is clear it has the next version
  pub filtered_finds : (rest : List ℕ) (set : Bool) → (set ≡ false → P (Chosen f.vip.next load.Head)) → P (filtered f rest set)
  filtered_finds rest true next = filtering_finds rest
  filtered_finds rest false next = next refl
