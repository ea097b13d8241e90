-- The controller draws a tick: the line that it writes with it, and what comes next.
use Rattle.std.specs.Prelude.{ℕ, ◌+◌, ◌++◌, List, [], ◌∷◌, Option, Some, None}
use Rattle.sr_base.specs.Key.{KeyView}
use Rattle.sr_base.specs.declared.vip_word.Phase.{Phase}
use Rattle.sr_base.specs.declared.vip_word.Phase.TheVariants.{Steady, Recording, Holding, Transit}
use Rattle.sr_law.specs.declared.line.Line.{Line}
use Rattle.sr_law.specs.declared.line.Line.TheVariants as line
use Rattle.sr_shadow.specs.Book.{placed_from}
use Rattle.sr_shadow.specs.declared.entry.Entry.{Entry}
use Rattle.sr_base.specs.declared.place.Place.{Place}
use Rattle.sr_machine.specs.Config.{Config}
use Rattle.sr_machine.specs.Deciding.{verdict_of}
use Rattle.sr_machine.specs.declared.controller_view.ControllerView.{ControllerView}
use Rattle.sr_machine.specs.declared.draw.Draw.{Draw}
use Rattle.sr_machine.specs.declared.draw.Draw.TheVariants.{Grace, Refused, TakenDown, Given, Comes, Reserved, Placed, Cleared, Retired, Answer, From, Swept}
use Rattle.sr_machine.specs.declared.job.Job.{Job}
use Rattle.sr_machine.specs.declared.job.Job.TheVariants as job
use Rattle.sr_machine.specs.declared.reply.Reply.{Reply}
use Rattle.sr_machine.specs.declared.store.Store.TheVariants as store
use Rattle.sr_machine.specs.declared.pool_update.PoolUpdate.{PoolUpdate}
use Rattle.sr_machine.specs.declared.wait.Wait.TheVariants as wait
use Rattle.sr_machine.specs.declared.why.Why.{Why}
use Rattle.sr_machine.specs.declared.why.Why.TheVariants as why

-- ---- the line

abbrev pub phase_line : PoolUpdate → ℕ → Phase → Line
phase_line u t Steady = line.Finished t u.vip
phase_line u t Recording = line.Recorded t u.vip
phase_line u t Holding = line.Hold t u.vip
phase_line u t Transit = line.Switched t u.vip u.pool

abbrev pub answer_line : Config → ControllerView → Reply → ℕ → Line
answer_line k c r t = line.Answer t r.held.pipe r.held.nth r.held.key (verdict_of k c.named c.down r.held.key r.version)

-- the line whose tick was drawn, if there is one
abbrev pub draw_line : Config → ControllerView → Draw → ℕ → Option Line
draw_line k c (Grace w) t = None
draw_line k c (Refused change) t = Some (line.Refused t change)
draw_line k c (TakenDown server) t = Some (line.TakenDown t server)
draw_line k c (Given u) t = Some (line.Given t u.vip u.given u.pool)
draw_line k c (Comes u p) t = Some (phase_line u t p)
draw_line k c (Reserved p) t = Some (line.Reserved t p.key p.place)
draw_line k c (Placed p) t = Some (line.Placed t p.key p.place)
draw_line k c (Cleared key place w) t = Some (line.Cleared t key place)
draw_line k c (Retired key place version) t = Some (line.Retired t key)
draw_line k c (Answer r) t = Some (answer_line k c r t)
draw_line k c (From ms) t = None
draw_line k c (Swept from ms) t = Some (line.Swept (c.sweeps + 1) from t ms)

abbrev pub with_line : List Line → Option Line → List Line
with_line lines None = lines
with_line lines (Some l) = lines ++ l ∷ []

-- ---- the job after it

-- a sweep takes the hit of the first placed entry of those taken from a number on, and is over where there is none
abbrev pub hit_job : ℕ → ℕ → Entry → Option Place → Job
hit_job from ms e None = job.Draw (Swept from ms)
hit_job from ms e (Some place) = job.Hit from ms e.key place e.taken

abbrev pub sweep_job : ℕ → ℕ → Option Entry → Job
sweep_job from ms None = job.Draw (Swept from ms)
sweep_job from ms (Some e) = hit_job from ms e e.place

abbrev pub sweeping : List Entry → ℕ → ℕ → ℕ → Job
sweeping entries from ms number = sweep_job from ms (placed_from number entries)

-- the phases that are told before their store, and those after it
abbrev pub phase_job : PoolUpdate → Phase → Job
phase_job u Steady = job.Draw (Grace (wait.Comes u Steady))
phase_job u Recording = job.Store (store.Vip u Recording)
phase_job u Holding = job.Store (store.Vip u Holding)
phase_job u Transit = job.Draw (Grace (wait.Comes u Transit))

-- a place was emptied: a held opener is answered, where that is why; a connection that is over is waited for
abbrev pub cleared_job : KeyView → Why → Job
cleared_job key (why.Withdrawn None) = job.Free
cleared_job key (why.Withdrawn (Some r)) = job.Draw (Answer r)
cleared_job key why.Source = job.Free
cleared_job key (why.Retired version) = job.Draw (Grace (wait.Retire key))

abbrev pub draw_job : ControllerView → Draw → ℕ → Job
draw_job c (Grace w) t = job.Pass t 0 w
draw_job c (Refused change) t = job.Free
draw_job c (TakenDown server) t = job.Store (store.Down server)
draw_job c (Given u) t = job.Draw (Comes u Recording)
draw_job c (Comes u p) t = phase_job u p
draw_job c (Reserved p) t = job.Store (store.Reserved p)
draw_job c (Placed p) t = job.Draw (Grace (wait.Live p))
draw_job c (Cleared key place w) t = cleared_job key w
draw_job c (Retired key place version) t = job.Store (store.Empty key place (why.Retired version))
draw_job c (Answer r) t = job.Free
draw_job c (From ms) t = sweeping c.book.entries t ms 0
draw_job c (Swept from ms) t = job.Free
