-- The room that the controller's steps take: an entry of the book, a held opener, a server that is down, a line.
use Rattle.std.specs.Prelude.{ℕ}
use Rattle.sr_machine.specs.declared.draw.Draw.{Draw}
use Rattle.sr_machine.specs.declared.draw.Draw.TheVariants as draw
use Rattle.sr_machine.specs.declared.job.Job.{Job}
use Rattle.sr_machine.specs.declared.job.Job.TheVariants as job
use Rattle.sr_machine.specs.declared.store.Store.{Store}
use Rattle.sr_machine.specs.declared.store.Store.TheVariants as store

-- ---- one step adds one of each at most

abbrev pub added_draw : Draw → ℕ
added_draw (draw.Grace w) = 0
added_draw (draw.From ms) = 0
added_draw d = 1

abbrev pub added_store : Store → ℕ
added_store (store.Judge p) = 1
added_store s = 0

abbrev pub added : Job → ℕ
added job.Free = 0
added (job.Draw d) = added_draw d
added (job.Store s) = added_store s
added (job.Pass grace pipe w) = 0
added (job.Drain pipe count w) = 1
added (job.Look pipe) = 1
added (job.Hit from ms key place taken) = 0
