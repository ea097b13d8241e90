-- The room that a controller's job needs: what its steps may add up to the next one that makes room itself, and one more.
use Rattle.std.specs.Prelude.{ℕ, ◌+◌, ◌-◌, max, Bool, true, false, Option, Some, None}
use Rattle.sr_base.specs.Layout.{LayoutView}
use Rattle.sr_base.specs.declared.vip_word.Phase.{Phase}
use Rattle.sr_base.specs.declared.vip_word.Phase.TheVariants.{Steady, Recording, Holding, Transit}
use Rattle.sr_machine.specs.declared.draw.Draw.{Draw}
use Rattle.sr_machine.specs.declared.draw.Draw.TheVariants as draw
use Rattle.sr_machine.specs.declared.job.Job.{Job}
use Rattle.sr_machine.specs.declared.job.Job.TheVariants as job
use Rattle.sr_machine.specs.declared.reply.Reply.{Reply}
use Rattle.sr_machine.specs.declared.store.Store.{Store}
use Rattle.sr_machine.specs.declared.store.Store.TheVariants as store
use Rattle.sr_machine.specs.declared.wait.Wait.{Wait}
use Rattle.sr_machine.specs.declared.wait.Wait.TheVariants as wait
use Rattle.sr_machine.specs.declared.why.Why.{Why}
use Rattle.sr_machine.specs.declared.why.Why.TheVariants as why

-- a turn with this job makes room first: it begins something, or takes the next word of a ring
abbrev pub makes_room : Job → Bool
makes_room job.Free = true
makes_room (job.Draw d) = false
makes_room (job.Store s) = false
makes_room (job.Pass grace pipe w) = false
makes_room (job.Drain pipe count w) = true
makes_room (job.Look pipe) = false
makes_room (job.Hit from ms key place taken) = false

-- it looks at the rings
abbrev pub is_look : Job → Bool
is_look (job.Look pipe) = true
is_look j = false

abbrev pub replied_needs : Option Reply → ℕ
replied_needs None = 1
replied_needs (Some r) = 2

abbrev pub cleared_needs : Why → ℕ
cleared_needs (why.Withdrawn reply) = replied_needs reply
cleared_needs why.Source = 1
cleared_needs (why.Retired version) = 1

-- a phase that is told
abbrev pub comes_needs : Phase → ℕ
comes_needs Steady = 1
comes_needs Recording = 1
comes_needs Holding = 2
comes_needs Transit = 1

-- a phase that is stored
abbrev pub vip_needs : Phase → ℕ
vip_needs Steady = 1
vip_needs Recording = 0
vip_needs Holding = 1
vip_needs Transit = 1

-- a phase that is waited for
abbrev pub passed_needs : Phase → ℕ
passed_needs Steady = 0
passed_needs Recording = 0
passed_needs Holding = 1
passed_needs Transit = 0

abbrev pub wait_needs : Wait → ℕ
wait_needs (wait.Judge p) = 0
wait_needs (wait.Live p) = 0
wait_needs (wait.Retire key) = 0
wait_needs (wait.Comes u p) = passed_needs p
wait_needs (wait.Release vip version) = 0

abbrev pub draw_needs : Draw → ℕ
draw_needs (draw.Grace w) = wait_needs w
draw_needs (draw.Refused change) = 1
draw_needs (draw.TakenDown server) = 1
draw_needs (draw.Given u) = 2
draw_needs (draw.Comes u p) = comes_needs p
draw_needs (draw.Reserved p) = 1
draw_needs (draw.Placed p) = 1
draw_needs (draw.Cleared key place w) = cleared_needs w
draw_needs (draw.Retired key place version) = 2
draw_needs (draw.Answer r) = 1
draw_needs (draw.From ms) = 1
draw_needs (draw.Swept from ms) = 1

abbrev pub store_needs : Store → ℕ
store_needs (store.Down server) = 0
store_needs (store.Member u index) = 2
store_needs (store.Head u) = 2
store_needs (store.Vip u p) = vip_needs p
store_needs (store.Filter u index) = 0
store_needs (store.Reserved p) = 0
store_needs (store.Judge p) = 3
store_needs (store.Empty key place w) = cleared_needs w

-- the room that there is between two turns
abbrev pub kept : Job → ℕ
kept job.Free = 0
kept (job.Draw d) = 1 + draw_needs d
kept (job.Store s) = 1 + store_needs s
kept (job.Pass grace pipe w) = 1 + wait_needs w
kept (job.Drain pipe count w) = 0
kept (job.Look pipe) = 0
kept (job.Hit from ms key place taken) = 2

-- the room that there is in a turn
abbrev pub needed : LayoutView → Job → ℕ
needed l job.Free = 1
needed l (job.Draw d) = 1 + draw_needs d
needed l (job.Store s) = 1 + store_needs s
needed l (job.Pass grace pipe w) = 1 + wait_needs w
needed l (job.Drain pipe count w) = 5
needed l (job.Look pipe) = 1 + max 1 (l.shape.pipes - pipe)
needed l (job.Hit from ms key place taken) = 2
