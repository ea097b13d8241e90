-- The jobs that follow a phase, an emptied place or a wait, as a few that a fact of jobs has to be shown of.
use Rattle.std.proofs.Common.{List, Some, None}
use Rattle.sr_base.specs.Key.{KeyView}
use Rattle.sr_base.specs.declared.place.Place.{Place}
use Rattle.sr_base.specs.declared.vip_word.Phase.{Phase}
use Rattle.sr_base.specs.declared.vip_word.Phase.TheVariants.{Steady, Recording, Holding, Transit}
use Rattle.sr_base.specs.declared.vip_word.VipWord.{VipWord}
use Rattle.sr_machine.specs.Deciding.{version_for}
use Rattle.sr_machine.specs.Draws.{cleared_job, phase_job}
use Rattle.sr_machine.specs.Stores.{vip_draw}
use Rattle.sr_machine.specs.Waiting.{all_passed, live_job, passed_phase, waited_job, waited_phase}
use Rattle.sr_machine.specs.declared.job.Job.{Job}
use Rattle.sr_machine.specs.declared.pool_update.PoolUpdate.{PoolUpdate}
use Rattle.sr_machine.specs.declared.put.Aim.{Aim}
use Rattle.sr_machine.specs.declared.put.Put.{Put}
use Rattle.sr_machine.specs.declared.reply.Reply.{Reply}
use Rattle.sr_machine.specs.declared.wait.Wait.{Wait}
use Rattle.sr_machine.specs.declared.why.Why.{Why}
use Rattle.sr_shadow.specs.declared.entry.Entry.{Entry}
use Rattle.sr_machine.specs.declared.draw.Draw.TheVariants as draw
use Rattle.sr_machine.specs.declared.store.Store.TheVariants as store
use Rattle.sr_machine.specs.declared.wait.Wait.TheVariants as wait
use Rattle.sr_machine.specs.declared.why.Why.TheVariants as why
use Rattle.sr_machine.specs.declared.put.Aim.TheVariants as aim
use Rattle.sr_machine.specs.declared.job.Job.TheVariants as job

-- what a fact of jobs owes to hold of all of them
pub record OfPlain (P : Job → Type 0) : Type 0 where
  pub free : P job.Free
  pub comes : (u : PoolUpdate) (p : Phase) → P (job.Draw (draw.Comes u p))
  pub coming : (u : PoolUpdate) (p : Phase) → P (job.Draw (draw.Grace (wait.Comes u p)))
  pub retiring : (key : KeyView) → P (job.Draw (draw.Grace (wait.Retire key)))
  pub answer : (r : Reply) → P (job.Draw (draw.Answer r))
  pub phase : (u : PoolUpdate) (p : Phase) → P (job.Store (store.Vip u p))
  pub filter : (u : PoolUpdate) → P (job.Store (store.Filter u 0))
  pub source : (key : KeyView) (from : Place) → P (job.Store (store.Empty key from why.Source))
  pub judge : (p : Put) → P (job.Store (store.Judge p))
  pub drain : (w : Wait) → P (job.Drain 0 0 w)

module _ (P : Job → Type 0) (h : OfPlain P) where
  pub plain_phase : (u : PoolUpdate) (p : Phase) → P (phase_job u p)
  plain_phase u Steady = h.coming u Steady
  plain_phase u Recording = h.phase u Recording
  plain_phase u Holding = h.phase u Holding
  plain_phase u Transit = h.coming u Transit

  pub plain_vip : (u : PoolUpdate) (p : Phase) → P (job.Draw (vip_draw u p))
  plain_vip u Steady = h.comes u Steady
  plain_vip u Recording = h.coming u Recording
  plain_vip u Holding = h.coming u Holding
  plain_vip u Transit = h.comes u Transit

  pub plain_cleared : (key : KeyView) (w : Why) → P (cleared_job key w)
  plain_cleared key (why.Withdrawn None) = h.free
  plain_cleared key (why.Withdrawn (Some r)) = h.answer r
  plain_cleared key why.Source = h.free
  plain_cleared key (why.Retired version) = h.retiring key

  plain_passed_phase : (u : PoolUpdate) (p : Phase) → P (passed_phase u p)
  plain_passed_phase u Steady = h.filter u
  plain_passed_phase u Recording = h.drain (wait.Comes u Recording)
  plain_passed_phase u Holding = h.phase u Transit
  plain_passed_phase u Transit = h.drain (wait.Comes u Transit)

  pub plain_passed : (w : Wait) → P (all_passed w)
  plain_passed (wait.Judge p) = h.drain (wait.Judge p)
  plain_passed (wait.Live p) = h.drain (wait.Live p)
  plain_passed (wait.Retire key) = h.drain (wait.Retire key)
  plain_passed (wait.Comes u p) = plain_passed_phase u p
  plain_passed (wait.Release vip version) = h.drain (wait.Release vip version)

  plain_live : (vips : List VipWord) (entries : List Entry) (p : Put) (a : Aim) → P (live_job vips entries p a)
  plain_live vips entries p aim.Pending = h.free
  plain_live vips entries p (aim.Held o) = h.answer (record { held = o; version = Some (version_for vips entries p.key) })
  plain_live vips entries p (aim.Move from planned) = h.source p.key from

  plain_waited_phase : (u : PoolUpdate) (p : Phase) → P (waited_phase u p)
  plain_waited_phase u Steady = h.filter u
  plain_waited_phase u Recording = h.free
  plain_waited_phase u Holding = h.phase u Transit
  plain_waited_phase u Transit = h.free

  pub plain_waited : (vips : List VipWord) (entries : List Entry) (w : Wait) → P (waited_job vips entries w)
  plain_waited vips entries (wait.Judge p) = h.judge p
  plain_waited vips entries (wait.Live p) = plain_live vips entries p p.aim
  plain_waited vips entries (wait.Retire key) = h.free
  plain_waited vips entries (wait.Comes u p) = plain_waited_phase u p
  plain_waited vips entries (wait.Release vip version) = h.free
