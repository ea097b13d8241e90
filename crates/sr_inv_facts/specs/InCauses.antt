-- Causes and clauses: a packet in flight has a cause for what became of it that its line may tell, and the lines so far break no clause.
use Rattle.std.specs.Prelude.{◌≡◌, ℕ, ◌==◌, Bool, true, false, List, [], ◌∷◌, ◌++◌, reverse, if◌then◌else◌, None}
use Rattle.sr_base.specs.Key.{KeyView}
use Rattle.sr_base.specs.declared.kind.Kind.{Kind}
use Rattle.sr_base.specs.declared.kind.Kind.TheVariants.{Ending}
use Rattle.sr_base.specs.declared.packet.Packet.{Packet}
use Rattle.sr_base.specs.declared.shape.Shape.{Shape}
use Rattle.sr_inv_facts.specs.Flying.{IfOpener, OnLeg}
use Rattle.sr_inv_facts.specs.InHeld.{report_by, reports_in}
use Rattle.sr_inv_facts.specs.Readings.{EachPipe}
use Rattle.sr_law.specs.Full.{may_be_full}
use Rattle.sr_law.specs.Held.{may_clash}
use Rattle.sr_law.specs.Lawful.{MeetsClauses}
use Rattle.sr_law.specs.Retire.{EndingPacket, endings_of}
use Rattle.sr_law.specs.Setup.{SetupView}
use Rattle.sr_law.specs.TakenDown.{is_down, is_known_down}
use Rattle.sr_law.specs.declared.line.Line.{Line}
use Rattle.sr_law.specs.declared.verdict.Verdict.{Verdict}
use Rattle.sr_machine.specs.Config.{Config}
use Rattle.sr_machine.specs.Core.{Core, printed}
use Rattle.sr_machine.specs.declared.flight.Flight.{Flight}
use Rattle.sr_machine.specs.declared.job.Job.{Job}
use Rattle.sr_machine.specs.declared.leg.Leg.{Leg}
use Rattle.sr_machine.specs.declared.leg.Leg.TheVariants.{Hit, Judged}
use Rattle.sr_machine.specs.declared.pipe_view.PipeView.{PipeView}
use Rattle.sr_machine.specs.declared.stage.Stage.{Stage}
use Rattle.sr_machine.specs.declared.stage.Stage.TheVariants.{Note, Vip, Fly}
use Rattle.sr_machine.specs.declared.store.Store.TheVariants as store
use Rattle.sr_machine.specs.declared.job.Job.TheVariants as job
use Rattle.sr_law.specs.declared.line.Line.TheVariants as line
use Rattle.sr_law.specs.declared.verdict.Verdict.TheVariants as verdict
use Rattle.sr_law.specs.declared.verdict.HeldBy.TheVariants as by

-- ---- a packet in flight

-- why it has its verdict, by the lines and the tick at which it entered
abbrev pub VerdictCaused : Shape → List Line → ℕ → KeyView → ℕ → Verdict → Type 0
VerdictCaused shape lines p key entered (verdict.To server version pool) = is_known_down lines server entered ≡ false
VerdictCaused shape lines p key entered (verdict.Down server version pool) = is_down lines server ≡ true
VerdictCaused shape lines p key entered (verdict.Held by.Clash) = may_clash shape lines key entered ≡ true
VerdictCaused shape lines p key entered verdict.Full = may_be_full shape lines p entered ≡ true
VerdictCaused shape lines p key entered v = Unit {0}

-- an opener that found an entry is held for it
abbrev pub LegCaused : Shape → List Line → ℕ → Flight → Leg → Type 0
LegCaused shape lines p f (Hit place version) = IfOpener f.packet.kind (may_clash shape lines f.packet.key f.entered ≡ true)
LegCaused shape lines p f (Judged v last) = VerdictCaused shape lines p f.packet.key f.entered v
LegCaused shape lines p f leg = Unit {0}

-- ---- the lines

-- what the lines are judged by; the packets that entered are asked at the end alone
abbrev pub setup_of : Config → SetupView
setup_of k = record { shape = k.layout.shape; servers = k.layout.servers; pools = k.pools; packets = [] }

-- an Ending packet that entered and isn't out counts as one whose line is still to come
abbrev pub ending_of : Packet → ℕ → Kind → List EndingPacket
ending_of packet entered Ending = record { key = packet.key; entered = entered; out = None } ∷ []
ending_of packet entered kind = []

abbrev pub ending_at : Stage → List EndingPacket
ending_at (Note packet entered) = ending_of packet entered packet.kind
ending_at (Vip packet entered) = ending_of packet entered packet.kind
ending_at (Fly f leg) = ending_of f.packet f.entered f.packet.kind
ending_at at = []

abbrev pub endings_under_way : List PipeView → List EndingPacket
endings_under_way [] = []
endings_under_way (v ∷ rest) = ending_at v.stage ++ endings_under_way rest

abbrev pub endings_in : List PipeView → List Line → List EndingPacket
endings_in pipes lines = endings_under_way pipes ++ endings_of lines

-- each line meets the clauses by the lines before it; the newest stands first
abbrev pub AllMeet : SetupView → List EndingPacket → List Line → Type 0
AllMeet setup endings [] = Unit {0}
AllMeet setup endings (l ∷ before) = MeetsClauses setup endings before l × AllMeet setup endings before

-- ---- a server that is being taken down

-- of a server whose line is drawn, and whose word isn't stored yet
abbrev pub OnDowning : Job → (ℕ → Type 0) → Type 0
OnDowning (job.Store (store.Down server)) P = P server
OnDowning j P = Unit {0}

-- ---- the reports of a pipe

-- the line of a packet of this pipe that left a word in its ring, with whether it was held
abbrev pub told_report : ℕ → Line → List Bool
told_report p (line.Packet number entered out pipe key kind v) = if pipe == p then report_by kind v else []
told_report p l = []

-- those of all lines, the newest first
abbrev pub told_reports : ℕ → List Line → List Bool
told_reports p [] = []
told_reports p (l ∷ before) = told_report p l ++ told_reports p before

-- ---- all of it

-- a packet has its cause; each line meets the clauses; no packet can know of a server that is just being taken down; and the lines tell of each pipe's reports
-- in their order
pub record CausesHold (k : Config) (pipes : List PipeView) (j : Job) (lines : List Line) : Type 0 where
  pub flights : EachPipe (λ p v. OnLeg v.stage (LegCaused k.layout.shape lines p)) pipes
  pub clauses : AllMeet (setup_of k) (endings_in pipes lines) lines
  pub downing : OnDowning j (λ server. (tick : ℕ) → is_known_down lines server tick ≡ false)
  pub reports : EachPipe (λ p v. told_reports p lines ≡ reverse (reports_in v.lines)) pipes

pub record InCauses (s : Core) : Type 0 where
  pub causes : CausesHold s.config s.pipes s.controller.job (printed s)
