-- The value of its virtual address's word that a packet in flight has loaded.
use Rattle.std.proofs.Common.{◌≡◌, ℕ, ◌⊎◌, sym, ap, ◌∙◌, inl, inr}
use Rattle.sr_base.specs.VipWord.{packed_vip}
use Rattle.sr_base.specs.declared.vip_word.Phase.{Phase}
use Rattle.sr_base.specs.declared.vip_word.Phase.TheVariants.{Steady, Transit}
use Rattle.sr_inv_facts.specs.Doing.{HasEarlier, IsEarlier}
use Rattle.sr_inv_facts.specs.Flying.{OnFlight}
use Rattle.sr_inv_facts.specs.InFlight.{FlightHolds, HasWord}
use Rattle.sr_inv_facts.specs.InUpdate.{AtPhase, JobAt}
use Rattle.sr_inv_facts.specs.Invariant.{Invariant}
use Rattle.sr_inv_table.specs.Loaded.{InGrace, LoadedBefore, WordsAreLoaded}
use Rattle.sr_machine.specs.Core.{Core, printed}
use Rattle.sr_machine.specs.declared.flight.Flight.{Flight}
use Rattle.sr_machine.specs.declared.job.Job.{Job}
use Rattle.sr_machine.specs.declared.pool_update.PoolUpdate.{PoolUpdate}
use Rattle.sr_machine.specs.declared.stage.Stage.{Stage}
use Rattle.sr_machine.specs.declared.stage.Stage.TheVariants.{Fly}
use Rattle.sr_machine.specs.declared.draw.Draw.TheVariants as draw
use Rattle.sr_machine.specs.declared.job.Job.TheVariants as job
use Rattle.sr_machine.specs.declared.name.Name.TheVariants as name
use Rattle.sr_machine.specs.declared.wait.Wait.TheVariants as wait

module _ (s : Core) (i : Invariant s) where
  before : (f : Flight) (u : PoolUpdate) (phase : Phase) → AtPhase s.controller.update s.controller.vips u phase
      → IsEarlier u phase f.packet.key.vip f.vip → LoadedBefore s f u phase
  before f u phase a h =
      record { own = h.0; present = i.words.others.vip u.vip ∙ ap packed_vip a.1; before = h.1 }

  graced : (j : Job) (p : ℕ) (f : Flight) → JobAt s.config s.controller.update s.controller.vips j
      → HasEarlier j p f.entered f.packet.key.vip f.vip → InGrace j (LoadedBefore s f)
  graced (job.Draw (draw.Grace (wait.Comes u phase))) p f a h = before f u phase a h
  graced (job.Draw (draw.Comes u Steady)) p f a h = before f u Steady a h
  graced (job.Draw (draw.Comes u Transit)) p f a h = before f u Transit a h
  graced (job.Pass g n (wait.Comes u phase)) p f a h = before f u phase a h.0
  graced j p f a h = absurd h

  has_word : (p : ℕ) (f : Flight) → HasWord s.controller.vips s.controller.job p f
      → (s.words (name.Vip f.packet.key.vip) ≡ packed_vip f.vip) ⊎ InGrace s.controller.job (LoadedBefore s f)
  has_word p f (inl e) = inl (i.words.others.vip f.packet.key.vip ∙ ap packed_vip (sym e))
  has_word p f (inr h) = inr (graced s.controller.job p f i.update.update.phase h)

  stage_word : (p : ℕ) (a : Stage) → OnFlight a (FlightHolds s.controller.vips s.controller.job (printed s) p)
      → OnFlight a (λ f. (s.words (name.Vip f.packet.key.vip) ≡ packed_vip f.vip) ⊎ InGrace s.controller.job (LoadedBefore s f))
  stage_word p (Fly f leg) h = has_word p f h.word
  stage_word p a h = tt

pub words : (s : Core) → Invariant s → WordsAreLoaded s
words s i p v q = stage_word s i p v.stage (i.flight.flights p v q)
