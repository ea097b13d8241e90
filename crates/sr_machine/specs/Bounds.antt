-- How many steps a packet and a turn make at most: a number for each stage and each job, which every step lowers.
use Rattle.std.specs.Prelude.{◌≡◌, ℕ, ◌+◌, ◌-◌, ◌≤◌, ◌&&◌, max, List, [], ◌∷◌, length, take, Some, if◌then◌else◌}
use Rattle.sr_base.specs.Layout.{LayoutView}
use Rattle.sr_base.specs.declared.packet.Packet.{Packet}
use Rattle.sr_base.specs.declared.vip_word.Phase.{Phase}
use Rattle.sr_base.specs.declared.vip_word.Phase.TheVariants.{Steady, Recording, Holding, Transit}
use Rattle.sr_machine.specs.Config.{Config}
use Rattle.sr_machine.specs.Stages.{is_opener, is_recording, stage_after}
use Rattle.sr_machine.specs.Turning.{most_steps, turn_by}
use Rattle.sr_machine.specs.declared.controller_view.ControllerView.{ControllerView}
use Rattle.sr_machine.specs.declared.draw.Draw.{Draw}
use Rattle.sr_machine.specs.declared.draw.Draw.TheVariants as draw
use Rattle.sr_machine.specs.declared.flight.Flight.{Flight}
use Rattle.sr_machine.specs.declared.job.Job.{Job}
use Rattle.sr_machine.specs.declared.job.Job.TheVariants as job
use Rattle.sr_machine.specs.declared.leg.Last.{Last}
use Rattle.sr_machine.specs.declared.leg.Last.TheVariants as last
use Rattle.sr_machine.specs.declared.leg.Leg.{Leg}
use Rattle.sr_machine.specs.declared.leg.Leg.TheVariants.{Look, Hit, Filter, Chosen, Judged}
use Rattle.sr_machine.specs.declared.leg.Load.{Load}
use Rattle.sr_machine.specs.declared.leg.Load.TheVariants as load
use Rattle.sr_machine.specs.declared.stage.Stage.{Stage}
use Rattle.sr_machine.specs.declared.stage.Stage.TheVariants.{Idle, Enter, Note, Vip, Fly, Leave}
use Rattle.sr_machine.specs.declared.store.Store.{Store}
use Rattle.sr_machine.specs.declared.store.Store.TheVariants as store
use Rattle.sr_machine.specs.declared.turn.Turn.{Turn}
use Rattle.sr_machine.specs.declared.why.Why.{Why}
use Rattle.sr_machine.specs.declared.why.Why.TheVariants as why

-- ---- a packet

-- three more for an opener that may be recorded in the transit filter
abbrev pub marks_left : Flight → ℕ
marks_left f = if is_opener f.packet.kind && is_recording f.vip.phase then 3 else 0

abbrev pub load_left : Load → ℕ
load_left load.Head = 7
load_left (load.Member head) = 6
load_left (load.Down pool server) = 5

abbrev pub last_left : Flight → Last → ℕ
last_left f last.Ring = 4 + marks_left f
last_left f (last.Mark bit rest) = 4 + length rest
last_left f last.Push = 3
last_left f last.Out = 2

abbrev pub leg_left : Flight → Leg → ℕ
leg_left f (Look place rest) = 11 + length rest
leg_left f (Hit place version) = 8
leg_left f (Filter bit rest) = 8 + length rest + marks_left f
leg_left f (Chosen version next) = load_left next + marks_left f
leg_left f (Judged v next) = last_left f next

-- the steps that a packet makes yet, at most
abbrev pub stage_left : Stage → ℕ
stage_left Idle = 0
stage_left (Enter packet) = 25
stage_left (Note packet entered) = 24
stage_left (Vip packet entered) = 23
stage_left (Fly f leg) = leg_left f leg
stage_left (Leave f) = 1

-- the stage after steps that answered these
abbrev pub stage_after_all : LayoutView → List ℕ → Stage → Stage
stage_after_all l [] stage = stage
stage_after_all l (x ∷ xs) stage = stage_after_all l xs (stage_after l stage x)

-- A packet is out after 25 steps, whatever they answer.
abbrev pub PacketsEnd : Type 0
PacketsEnd =
    (l : LayoutView) (packet : Packet) (answers : List ℕ) → 25 ≤ length answers → stage_after_all l answers (Enter packet) ≡ Idle

-- ---- a turn

abbrev pub comes_left : Phase → ℕ
comes_left Steady = 2
comes_left Recording = 3
comes_left Holding = 3
comes_left Transit = 2

abbrev pub cleared_left : Why → ℕ
cleared_left (why.Withdrawn reply) = 1
cleared_left why.Source = 1
cleared_left (why.Retired version) = 2

abbrev pub draw_left : Draw → ℕ
draw_left (draw.Grace w) = 1
draw_left (draw.Refused change) = 1
draw_left (draw.TakenDown server) = 2
draw_left (draw.Given u) = 4
draw_left (draw.Comes u p) = comes_left p
draw_left (draw.Reserved p) = 3
draw_left (draw.Placed p) = 2
draw_left (draw.Cleared key place w) = cleared_left w
draw_left (draw.Retired key place version) = 4
draw_left (draw.Answer r) = 1
draw_left (draw.From ms) = 1
draw_left (draw.Swept from ms) = 1

abbrev pub vip_left : Phase → ℕ
vip_left Steady = 3
vip_left Recording = 2
vip_left Holding = 2
vip_left Transit = 3

abbrev pub store_left : Store → ℕ
store_left (store.Down server) = 1
store_left (store.Member u index) = 1
store_left (store.Head u) = 1
store_left (store.Vip u p) = vip_left p
store_left (store.Filter u index) = 1
store_left (store.Reserved p) = 2
store_left (store.Judge p) = 3
store_left (store.Empty key place w) = 1 + cleared_left w

-- the steps that a turn makes yet, at most; none where no job is set
abbrev pub job_left : LayoutView → Job → ℕ
job_left l job.Free = 0
job_left l (job.Draw d) = draw_left d
job_left l (job.Store s) = store_left s
job_left l (job.Pass grace pipe w) = 1
job_left l (job.Drain pipe count w) = 1
job_left l (job.Look pipe) = max 1 (l.shape.pipes - pipe)
job_left l (job.Hit from ms key place taken) = 1

-- A turn makes at most 4 steps, or as many as there are pipes.
abbrev pub TurnsAreShort : Type 0
TurnsAreShort =
    (k : Config) (c : ControllerView) (answers : List ℕ) (p : Turn × ControllerView) → turn_by k c answers ≡ Some p
    → length answers ≤ most_steps k.layout

-- And it ends within these, whatever they answer.
abbrev pub TurnsEnd : Type 0
TurnsEnd = (k : Config) (c : ControllerView) (answers : List ℕ) → most_steps k.layout ≤ length answers
    → (n : ℕ) × (p : Turn × ControllerView) × (turn_by k c (take n answers) ≡ Some p)
