-- Words of virtual addresses: which value a packet in flight has loaded.
use Rattle.std.specs.Prelude.{◌≡◌, ◌⊎◌}
use Rattle.sr_base.specs.VipWord.{packed_vip}
use Rattle.sr_base.specs.declared.vip_word.Phase.{Phase}
use Rattle.sr_base.specs.declared.vip_word.Phase.TheVariants.{Steady, Transit}
use Rattle.sr_inv_facts.specs.Doing.{word_before}
use Rattle.sr_inv_facts.specs.Flying.{OnFlight}
use Rattle.sr_inv_facts.specs.Readings.{EachPipe}
use Rattle.sr_machine.specs.Core.{Core}
use Rattle.sr_machine.specs.Stores.{phase_word}
use Rattle.sr_machine.specs.declared.flight.Flight.{Flight}
use Rattle.sr_machine.specs.declared.job.Job.{Job}
use Rattle.sr_machine.specs.declared.pool_update.PoolUpdate.{PoolUpdate}
use Rattle.sr_machine.specs.declared.draw.Draw.TheVariants as draw
use Rattle.sr_machine.specs.declared.job.Job.TheVariants as job
use Rattle.sr_machine.specs.declared.name.Name.TheVariants as name
use Rattle.sr_machine.specs.declared.wait.Wait.TheVariants as wait

-- the word of an update's phase is stored and the grace after it hasn't ended, and this holds of the two
abbrev pub InGrace : Job → (PoolUpdate → Phase → Type 0) → Type 0
InGrace (job.Draw (draw.Comes u Steady)) P = P u Steady
InGrace (job.Draw (draw.Comes u Transit)) P = P u Transit
InGrace (job.Draw (draw.Grace (wait.Comes u phase))) P = P u phase
InGrace (job.Pass grace pipe (wait.Comes u phase)) P = P u phase
InGrace j P = ⊥

-- the present word of the packet's virtual address is that of the phase, and the packet loaded the one before
pub record LoadedBefore (s : Core) (f : Flight) (u : PoolUpdate) (phase : Phase) : Type 0 where
  pub own : f.packet.key.vip ≡ u.vip
  pub present : s.words (name.Vip u.vip) ≡ packed_vip (phase_word u phase)
  pub before : f.vip ≡ word_before u phase

-- each packet in flight that has loaded the word of its virtual address loaded its present value, or in the grace the one before
abbrev pub WordsAreLoaded : Core → Type 0
WordsAreLoaded s =
    EachPipe (λ p v. OnFlight v.stage (λ f. (s.words (name.Vip f.packet.key.vip) ≡ packed_vip f.vip) ⊎ InGrace s.controller.job (LoadedBefore s f)))
    s.pipes
