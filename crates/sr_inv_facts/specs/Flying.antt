-- What is read off the stage of a packet.
use Rattle.std.specs.Prelude.{◌≡◌, ℕ, List, [], ◌∷◌}
use Rattle.sr_base.specs.Key.{KeyView}
use Rattle.sr_base.specs.declared.kind.Kind.{Kind}
use Rattle.sr_base.specs.declared.kind.Kind.TheVariants.{Opener, Carry, Ending}
use Rattle.sr_base.specs.declared.place.Place.{Place}
use Rattle.sr_inv_facts.specs.Readings.{SomePipe}
use Rattle.sr_law.specs.declared.verdict.Verdict.{Verdict}
use Rattle.sr_machine.specs.declared.flight.Flight.{Flight}
use Rattle.sr_machine.specs.declared.leg.Last.{Last}
use Rattle.sr_machine.specs.declared.leg.Leg.{Leg}
use Rattle.sr_machine.specs.declared.leg.Leg.TheVariants.{Look, Hit, Filter, Chosen, Judged}
use Rattle.sr_machine.specs.declared.pipe_view.PipeView.{PipeView}
use Rattle.sr_machine.specs.declared.stage.Stage.{Stage}
use Rattle.sr_machine.specs.declared.stage.Stage.TheVariants.{Note, Vip, Fly}
use Rattle.sr_machine.specs.declared.leg.Last.TheVariants as last
use Rattle.sr_law.specs.declared.verdict.Verdict.TheVariants as verdict
use Rattle.sr_law.specs.declared.verdict.HeldBy.TheVariants as by

-- ---- the packet

-- of a packet that has loaded the word of its virtual address, and isn't out
abbrev pub OnFlight : Stage → (Flight → Type 0) → Type 0
OnFlight (Fly f leg) P = P f
OnFlight stage P = Unit {0}

-- of one that isn't out yet, with how far it has come
abbrev pub OnLeg : Stage → (Flight → Leg → Type 0) → Type 0
OnLeg (Fly f leg) P = P f leg
OnLeg stage P = Unit {0}

-- of a packet that has its tick and no line yet, with the tick
abbrev pub OnEntered : Stage → (ℕ → Type 0) → Type 0
OnEntered (Note packet entered) P = P entered
OnEntered (Vip packet entered) P = P entered
OnEntered (Fly f leg) P = P f.entered
OnEntered stage P = Unit {0}

-- ---- how far it has come

-- the places that it is still to look at
abbrev pub to_look : Leg → List Place
to_look (Look place rest) = place ∷ rest
to_look leg = []

-- of one that looks at places
abbrev pub OnLook : Leg → (List Place → Type 0) → Type 0
OnLook (Look place rest) P = P (place ∷ rest)
OnLook leg P = Unit {0}

-- of a verdict that names a version
abbrev pub OnVersion : Verdict → (ℕ → Type 0) → Type 0
OnVersion (verdict.To server version pool) P = P version
OnVersion (verdict.Down server version pool) P = P version
OnVersion v P = Unit {0}

-- of the version that it has chosen or found
abbrev pub OnNumber : Leg → (ℕ → Type 0) → Type 0
OnNumber (Hit place version) P = P version
OnNumber (Chosen version load) P = P version
OnNumber (Judged v last) P = OnVersion v P
OnNumber leg P = Unit {0}

-- of a verdict that sends the packet
abbrev pub OnTo : Verdict → (ℕ → Type 0) → Type 0
OnTo (verdict.To server version pool) P = P version
OnTo v P = Unit {0}

-- before the report of a packet is stored
abbrev pub BeforePush : Last → Type 0 → Type 0
BeforePush last.Ring P = P
BeforePush (last.Mark bit rest) P = P
BeforePush last.Push P = P
BeforePush last.Out P = Unit {0}

-- and once it is
abbrev pub AtOut : Last → Type 0 → Type 0
AtOut last.Out P = P
AtOut last P = Unit {0}

-- where it is stored next
abbrev pub AtPush : Last → Type 0 → Type 0
AtPush last.Push P = P
AtPush last P = Unit {0}

-- of an opener; of another packet
abbrev pub IfOpener : Kind → Type 0 → Type 0
IfOpener Opener P = P
IfOpener Carry P = Unit {0}
IfOpener Ending P = Unit {0}

abbrev pub IfOther : Kind → Type 0 → Type 0
IfOther Opener P = Unit {0}
IfOther Carry P = P
IfOther Ending P = P

-- of what an opener that has chosen a version may yet tell the controller
abbrev pub OnLearning : Leg → (ℕ → Type 0) → Type 0
OnLearning (Chosen version load) P = P version
OnLearning (Judged v last) P = BeforePush last (OnTo v P)
OnLearning leg P = Unit {0}

-- of an opener that may yet tell it so, with the version
abbrev pub OnMayLearn : Flight → Leg → (ℕ → Type 0) → Type 0
OnMayLearn f leg P = IfOpener f.packet.kind (OnLearning leg P)

-- of a verdict that says that nothing matched
abbrev pub IfMissed : Verdict → Type 0 → Type 0
IfMissed (verdict.To server version pool) P = P
IfMissed (verdict.Held by.Clash) P = Unit {0}
IfMissed (verdict.Held by.Hold) P = P
IfMissed (verdict.Held by.Transit) P = P
IfMissed (verdict.Down server version pool) P = P
IfMissed verdict.Full P = Unit {0}
IfMissed verdict.NoPlace P = P

-- of a packet that nothing has matched so far, with the places that it is still to look at
abbrev pub OnMissing : Leg → (List Place → Type 0) → Type 0
OnMissing (Look place rest) P = P (place ∷ rest)
OnMissing (Hit place version) P = Unit {0}
OnMissing (Filter bit rest) P = P []
OnMissing (Chosen version load) P = P []
OnMissing (Judged v last) P = IfMissed v (P [])

-- of an opener that nothing has matched so far
abbrev pub OnUnmatched : Flight → Leg → (List Place → Type 0) → Type 0
OnUnmatched f leg P = IfOpener f.packet.kind (OnMissing leg P)

-- of the version that such an opener has chosen
abbrev pub OnChoice : Leg → (ℕ → Type 0) → Type 0
OnChoice (Chosen version load) P = P version
OnChoice (Judged v last) P = OnVersion v P
OnChoice leg P = Unit {0}

-- ---- an opener that is all but out

-- it was sent by this version, and its line isn't drawn yet
abbrev pub IsLeaving : KeyView → ℕ → Stage → Type 0
IsLeaving key version (Fly f (Judged (verdict.To server n pool) last.Out)) =
    (f.packet.kind ≡ Opener) × (f.packet.key ≡ key) × (n ≡ version)
IsLeaving key version stage = ⊥

-- some pipe has such an opener
abbrev pub SomeLeaving : List PipeView → KeyView → ℕ → Type 0
SomeLeaving pipes key version = SomePipe (λ p v. IsLeaving key version v.stage) pipes
