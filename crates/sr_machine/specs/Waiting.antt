-- The controller waits: each pipe's packet passes, and then the reports in the rings are taken. And it looks at the rings where
-- nothing else is to be done.
use Rattle.std.specs.Prelude.{ℕ, ◌+◌, ◌==◌, ◌&&◌, ◌||◌, nat_lt, not, Bool, List, Some, if◌then◌else◌}
use Rattle.sr_base.specs.Layout.{LayoutView}
use Rattle.sr_base.specs.declared.vip_word.Phase.{Phase}
use Rattle.sr_base.specs.declared.vip_word.Phase.TheVariants.{Steady, Recording, Holding, Transit}
use Rattle.sr_base.specs.declared.vip_word.VipWord.{VipWord}
use Rattle.sr_shadow.specs.declared.entry.Entry.{Entry}
use Rattle.sr_machine.specs.Deciding.{version_for}
use Rattle.sr_machine.specs.declared.draw.Draw.TheVariants as draw
use Rattle.sr_machine.specs.declared.job.Job.{Job}
use Rattle.sr_machine.specs.declared.job.Job.TheVariants as job
use Rattle.sr_machine.specs.declared.put.Aim.{Aim}
use Rattle.sr_machine.specs.declared.put.Aim.TheVariants as aim
use Rattle.sr_machine.specs.declared.put.Put.{Put}
use Rattle.sr_machine.specs.declared.store.Store.TheVariants as store
use Rattle.sr_machine.specs.declared.pool_update.PoolUpdate.{PoolUpdate}
use Rattle.sr_machine.specs.declared.wait.Wait.{Wait}
use Rattle.sr_machine.specs.declared.wait.Wait.TheVariants.{Judge, Live, Retire, Comes, Release}
use Rattle.sr_machine.specs.declared.why.Why.TheVariants as why

-- there is a pipe after this one
abbrev pub has_next : LayoutView → ℕ → Bool
has_next l pipe = nat_lt (pipe + 1) l.shape.pipes

-- ---- a pipe's packet

-- the note tells a packet that entered before the wait began
abbrev pub is_under_way : ℕ → ℕ → Bool
is_under_way grace x = nat_lt 0 x && nat_lt x grace

-- every pipe has passed: the reports are taken; an update in Holding or over goes on at once
abbrev pub passed_phase : PoolUpdate → Phase → Job
passed_phase u Steady = job.Store (store.Filter u 0)
passed_phase u Recording = job.Drain 0 0 (Comes u Recording)
passed_phase u Holding = job.Store (store.Vip u Transit)
passed_phase u Transit = job.Drain 0 0 (Comes u Transit)

abbrev pub all_passed : Wait → Job
all_passed (Judge p) = job.Drain 0 0 (Judge p)
all_passed (Live p) = job.Drain 0 0 (Live p)
all_passed (Retire key) = job.Drain 0 0 (Retire key)
all_passed (Comes u p) = passed_phase u p
all_passed (Release vip version) = job.Drain 0 0 (Release vip version)

abbrev pub next_pass : LayoutView → ℕ → ℕ → Wait → Job
next_pass l grace pipe w = if has_next l pipe then job.Pass grace (pipe + 1) w else all_passed w

abbrev pub pass_job : LayoutView → ℕ → ℕ → Wait → ℕ → Job
pass_job l grace pipe w x = if is_under_way grace x then job.Pass grace pipe w else next_pass l grace pipe w

-- ---- a ring

-- the ring of a wait is done with: its cell was empty, or as many words were taken from it as it has cells
abbrev pub is_ring_done : LayoutView → ℕ → ℕ → Bool
is_ring_done l count x = (x == 0) || (count + 1 == l.shape.ring)

-- and so is the wait
abbrev pub is_wait_done : LayoutView → ℕ → ℕ → ℕ → Bool
is_wait_done l pipe count x = is_ring_done l count x && not (has_next l pipe)

abbrev pub live_job : List VipWord → List Entry → Put → Aim → Job
live_job vips entries p aim.Pending = job.Free
live_job vips entries p (aim.Held h) =
    job.Draw (draw.Answer (record { held = h; version = Some (version_for vips entries p.key) }))
live_job vips entries p (aim.Move from planned) = job.Store (store.Empty p.key from why.Source)

abbrev pub waited_phase : PoolUpdate → Phase → Job
waited_phase u Steady = job.Store (store.Filter u 0)
waited_phase u Recording = job.Free
waited_phase u Holding = job.Store (store.Vip u Transit)
waited_phase u Transit = job.Free

-- what a wait was for
abbrev pub waited_job : List VipWord → List Entry → Wait → Job
waited_job vips entries (Judge p) = job.Store (store.Judge p)
waited_job vips entries (Live p) = live_job vips entries p p.aim
waited_job vips entries (Retire key) = job.Free
waited_job vips entries (Comes u p) = waited_phase u p
waited_job vips entries (Release vip version) = job.Free

abbrev pub next_ring : LayoutView → List VipWord → List Entry → ℕ → Wait → Job
next_ring l vips entries pipe w = if has_next l pipe then job.Drain (pipe + 1) 0 w else waited_job vips entries w

-- the entries are those after the take
abbrev pub drain_job : LayoutView → List VipWord → List Entry → ℕ → ℕ → Wait → ℕ → Job
drain_job l vips entries pipe count w x =
    if is_ring_done l count x then next_ring l vips entries pipe w else job.Drain pipe (count + 1) w

-- ---- a look

abbrev pub look_job : LayoutView → ℕ → ℕ → Job
look_job l pipe x = if (x == 0) && has_next l pipe then job.Look (pipe + 1) else job.Free
