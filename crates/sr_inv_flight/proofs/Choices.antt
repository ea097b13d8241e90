-- What holds of the version that a packet chooses or finds holds of it as the packet goes on.
use Rattle.std.proofs.Common.{◌≡◌, ℕ, Bool, true, false, List, if◌then◌else◌, ◌==◌}
use Rattle.sr_base.specs.Layout.{LayoutView}
use Rattle.sr_base.specs.declared.place.Place.{Place}
use Rattle.sr_base.specs.declared.vip_word.Phase.TheVariants.{Transit}
use Rattle.sr_inv_facts.specs.Flying.{OnLeg, OnNumber, OnVersion}
use Rattle.sr_inv_facts.specs.InShape.{LegFits}
use Rattle.sr_inv_flight.proofs.Steps.{Finds, filtered_finds, found_or, looked_finds, looking_finds}
use Rattle.sr_law.specs.declared.verdict.Verdict.{Verdict}
use Rattle.sr_machine.specs.Reads.{has_bit, read_flag, says}
use Rattle.sr_machine.specs.Stages.{is_opener, leg_after, loaded, looking, verdict_at, verdict_by}
use Rattle.sr_machine.specs.declared.flight.Flight.{Flight}
use Rattle.sr_machine.specs.declared.leg.Last.{Last}
use Rattle.sr_machine.specs.declared.leg.Leg.{Leg}
use Rattle.sr_machine.specs.declared.leg.Leg.TheVariants.{Look, Hit, Filter, Chosen, Judged}
use Rattle.sr_machine.specs.declared.leg.Load.{Load}
use Rattle.sr_law.specs.declared.verdict.HeldBy.TheVariants as by
use Rattle.sr_law.specs.declared.verdict.Verdict.TheVariants as verdict
use Rattle.sr_machine.specs.declared.leg.Last.TheVariants as last
use Rattle.sr_machine.specs.declared.leg.Load.TheVariants as load
use Rattle.sr_machine.specs.declared.said.Said.TheVariants as said

-- a version that a place tells has the fact
abbrev pub OnTold : LayoutView → Flight → (ℕ → Type 0) → Leg → ℕ → Type 0
OnTold l f P (Look place rest) x = (n : ℕ) → says l place f.packet.key x ≡ said.Live n → P n
OnTold l f P leg x = Unit {0}

module _ (l : LayoutView) (f : Flight) (P : Flight → ℕ → Type 0) (current : P f f.vip.cur) (next : f.vip.phase ≡ Transit → P f f.vip.next) where
  finds : Finds f (λ leg. OnNumber leg (P f))
  finds =
      record { look = λ place rest. tt; filter = λ bit rest. tt; held = λ why. tt; current = current }

  pub begins_number : (places : List Place) → OnNumber (looking l f places) (P f)
  begins_number places = looking_finds l f (λ leg. OnNumber leg (P f)) finds places

  loaded_number : (n : ℕ) (next : Load) (x : ℕ) → P f n → OnNumber (loaded l f n next x) (P f)
  loaded_number n load.Head x h = h
  loaded_number n (load.Member head) x h = h
  loaded_number n (load.Down pool server) x h = at (read_flag x)
    where
      at : (b : Bool) → OnVersion (verdict_by b server n pool) (P f)
      at true = h
      at false = h

  ring_number : (v : Verdict) (empty : Bool) → OnVersion v (P f) → OnVersion (verdict_at f v empty) (P f)
  ring_number v true h = h
  ring_number v false h = at (is_opener f.packet.kind)
    where
      at : (b : Bool) → OnVersion (if b then verdict.Full else v) (P f)
      at true = tt
      at false = h

  last_number : (v : Verdict) (next : Last) (x : ℕ) → OnVersion v (P f) → OnLeg (leg_after l f (Judged v next) x) (λ g after. OnNumber after (P g))
  last_number v last.Ring x h = ring_number v (x == 0) h
  last_number v (last.Mark bit rest) x h = h
  last_number v last.Push x h = h
  last_number v last.Out x h = tt

  pub leg_number : (leg : Leg) (x : ℕ) → LegFits l f leg → OnTold l f (P f) leg x → OnNumber leg (P f)
      → OnLeg (leg_after l f leg x) (λ g after. OnNumber after (P g))
  leg_number (Look place rest) x g t h =
      looked_finds l f (λ leg. OnNumber leg (P f)) finds place rest (says l place f.packet.key x) t
  leg_number (Hit place n) x g t h = found_or l f (λ leg. OnNumber leg (P f)) finds by.Clash n h
  leg_number (Filter bit rest) x g t h = filtered_finds l f (λ leg. OnNumber leg (P f)) finds rest (has_bit bit x) (λ e. next g.transit)
  leg_number (Chosen n next) x g t h = loaded_number n next x h
  leg_number (Judged v next) x g t h = last_number v next x h
