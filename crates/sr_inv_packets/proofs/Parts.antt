-- What is said of packets and reports, in parts.
use Rattle.std.proofs.Common.{ℕ}
use Rattle.sr_base.specs.declared.ring_word.RingKind.{RingKind}
use Rattle.sr_base.specs.declared.ring_word.RingKind.TheVariants.{Learn, Punt, Close}
use Rattle.sr_inv_facts.specs.Flying.{OnFlight, OnLeg, OnNumber, OnVersion}
use Rattle.sr_inv_facts.specs.Readings.{IfLearn}
use Rattle.sr_law.specs.declared.verdict.Verdict.{Verdict}
use Rattle.sr_machine.specs.declared.flight.Flight.{Flight}
use Rattle.sr_machine.specs.declared.leg.Leg.{Leg}
use Rattle.sr_machine.specs.declared.leg.Leg.TheVariants.{Hit, Chosen, Judged}
use Rattle.sr_machine.specs.declared.stage.Stage.{Stage}
use Rattle.sr_machine.specs.declared.stage.Stage.TheVariants.{Fly}
use Rattle.sr_law.specs.declared.verdict.Verdict.TheVariants as verdict

pub learn_then : (k : RingKind) (P Q : Type 0) → (P → Q) → IfLearn k P → IfLearn k Q
learn_then Learn P Q turn h = turn h
learn_then Punt P Q turn h = tt
learn_then Close P Q turn h = tt

pub version_then : (v : Verdict) (P Q : ℕ → Type 0) → ((n : ℕ) → P n → Q n) → OnVersion v P → OnVersion v Q
version_then (verdict.To server version pool) P Q turn h = turn version h
version_then (verdict.Down server version pool) P Q turn h = turn version h
version_then v P Q turn h = tt

pub number_then : (leg : Leg) (P Q : ℕ → Type 0) → ((n : ℕ) → P n → Q n) → OnNumber leg P → OnNumber leg Q
number_then (Hit place version) P Q turn h = turn version h
number_then (Chosen version load) P Q turn h = turn version h
number_then (Judged v last) P Q turn h = version_then v P Q turn h
number_then leg P Q turn h = tt

-- a fact of a packet in flight, from one that tells how far it has come and one that doesn't
pub leg_both : (stage : Stage) (F : Flight → Type 0) (P Q : Flight → Leg → Type 0) → ((f : Flight) (leg : Leg) → F f → P f leg → Q f leg)
    → OnFlight stage F → OnLeg stage P → OnLeg stage Q
leg_both (Fly f leg) F P Q turn a b = turn f leg a b
leg_both stage F P Q turn a b = tt

pub leg_then : (stage : Stage) (P Q : Flight → Leg → Type 0) → ((f : Flight) (leg : Leg) → P f leg → Q f leg) → OnLeg stage P → OnLeg stage Q
leg_then (Fly f leg) P Q turn h = turn f leg h
leg_then stage P Q turn h = tt
