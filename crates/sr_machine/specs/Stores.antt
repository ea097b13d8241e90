-- The controller stores a word: which one, what, and what comes next.
use Rattle.std.specs.Prelude.{ℕ, ◌+◌, nat_lt, not, Bool, length, slice_index, Option, if◌then◌else◌}
use Rattle.sr_base.specs.Layout.{LayoutView}
use Rattle.sr_base.specs.RowHead.{packed_head}
use Rattle.sr_base.specs.VipWord.{packed_vip}
use Rattle.sr_base.specs.WordName.{filter_words}
use Rattle.sr_base.specs.declared.vip_word.Phase.{Phase}
use Rattle.sr_base.specs.declared.vip_word.Phase.TheVariants.{Steady, Recording, Holding, Transit}
use Rattle.sr_base.specs.declared.vip_word.VipWord.{VipWord}
use Rattle.sr_machine.specs.Config.{Config}
use Rattle.sr_machine.specs.Deciding.{dead_reply, is_withdrawn, update_pool, version_for}
use Rattle.sr_machine.specs.Reads.{live_word, reserved_word, steady}
use Rattle.sr_machine.specs.declared.controller_view.ControllerView.{ControllerView}
use Rattle.sr_machine.specs.declared.draw.Draw.{Draw}
use Rattle.sr_machine.specs.declared.draw.Draw.TheVariants as draw
use Rattle.sr_machine.specs.declared.job.Job.{Job}
use Rattle.sr_machine.specs.declared.job.Job.TheVariants as job
use Rattle.sr_machine.specs.declared.name.Name.{Name}
use Rattle.sr_machine.specs.declared.name.Name.TheVariants as name
use Rattle.sr_machine.specs.declared.put.Put.{Put}
use Rattle.sr_machine.specs.declared.reply.Reply.{Reply}
use Rattle.sr_machine.specs.declared.store.Store.{Store}
use Rattle.sr_machine.specs.declared.store.Store.TheVariants.{Down, Member, Head, Vip, Filter, Reserved, Judge, Empty}
use Rattle.sr_machine.specs.declared.pool_update.PoolUpdate.{PoolUpdate}
use Rattle.sr_machine.specs.declared.wait.Wait.TheVariants as wait
use Rattle.sr_machine.specs.declared.why.Why.TheVariants as why

-- ---- which word

abbrev pub store_name : Store → Name
store_name (Down server) = name.Down server
store_name (Member u index) = name.Member u.vip u.given index
store_name (Head u) = name.Head u.vip u.given
store_name (Vip u p) = name.Vip u.vip
store_name (Filter u index) = name.Filter index
store_name (Reserved p) = name.Entry p.place
store_name (Judge p) = name.Entry p.place
store_name (Empty key place w) = name.Entry place

-- ---- what

-- the word of an update's virtual address in a phase
abbrev pub phase_word : PoolUpdate → Phase → VipWord
phase_word u Steady = steady u.given
phase_word u Recording = record { phase = Recording; cur = u.replaced; next = u.given }
phase_word u Holding = record { phase = Holding; cur = u.replaced; next = u.given }
phase_word u Transit = record { phase = Transit; cur = u.replaced; next = u.given }

-- a reserved entry becomes live, or is given up
abbrev pub judged_word : Bool → LayoutView → Put → ℕ → ℕ
judged_word withdrawn l p version = if withdrawn then 0 else live_word l p.place p.key version

abbrev pub store_value : Config → ControllerView → Store → ℕ
store_value k c (Down server) = 1
store_value k c (Member u index) = slice_index (update_pool k u) index
store_value k c (Head u) = packed_head (record { size = length (update_pool k u); pool = u.pool })
store_value k c (Vip u p) = packed_vip (phase_word u p)
store_value k c (Filter u index) = 0
store_value k c (Reserved p) = reserved_word k.layout p.place p.key
store_value k c (Judge p) = judged_word (is_withdrawn k c p) k.layout p (version_for c.vips c.book.entries p.key)
store_value k c (Empty key place w) = 0

-- ---- the job after it

-- this was the last of the new version's servers
abbrev pub is_last_member : Config → PoolUpdate → ℕ → Bool
is_last_member k u index = not (nat_lt (index + 1) (length (update_pool k u)))

-- this was the last word of the transit filter
abbrev pub is_last_filter : LayoutView → ℕ → Bool
is_last_filter l index = not (nat_lt (index + 1) (filter_words l.shape))

-- the phases that are told before their store, and those after it
abbrev pub vip_draw : PoolUpdate → Phase → Draw
vip_draw u Steady = draw.Comes u Steady
vip_draw u Recording = draw.Grace (wait.Comes u Recording)
vip_draw u Holding = draw.Grace (wait.Comes u Holding)
vip_draw u Transit = draw.Comes u Transit

abbrev pub judged_draw : Bool → Put → Option Reply → Draw
judged_draw withdrawn p reply = if withdrawn then draw.Cleared p.key p.place (why.Withdrawn reply) else draw.Placed p

abbrev pub store_job : Config → ControllerView → Store → Job
store_job k c (Down server) = job.Free
store_job k c (Member u index) = job.Store (if is_last_member k u index then Head u else Member u (index + 1))
store_job k c (Head u) = job.Draw (draw.Given u)
store_job k c (Vip u p) = job.Draw (vip_draw u p)
store_job k c (Filter u index) = if is_last_filter k.layout index then job.Free else job.Store (Filter u (index + 1))
store_job k c (Reserved p) = job.Draw (draw.Grace (wait.Judge p))
store_job k c (Judge p) = job.Draw (judged_draw (is_withdrawn k c p) p (dead_reply k c p.aim))
store_job k c (Empty key place w) = job.Draw (draw.Cleared key place w)
