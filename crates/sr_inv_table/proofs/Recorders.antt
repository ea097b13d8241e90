-- Until when a packet that has loaded Recording is in flight, and when the filter is clear.
use Rattle.std.proofs.Common.{◌≡◌, ◌⊎◌, sym, refl, ap, ◌∙◌, inl, inr, subst}
use Rattle.sr_base.specs.VipWord.{packed_vip}
use Rattle.sr_base.specs.declared.vip_word.Phase.{Phase}
use Rattle.sr_base.specs.declared.vip_word.Phase.TheVariants.{Steady, Recording, Holding, Transit}
use Rattle.sr_inv_facts.specs.Doing.{word_before}
use Rattle.sr_inv_facts.specs.Flying.{OnFlight}
use Rattle.sr_inv_facts.specs.InWords.{IsCleared}
use Rattle.sr_inv_facts.specs.Invariant.{Invariant}
use Rattle.sr_inv_table.proofs.Loading.{words}
use Rattle.sr_inv_table.specs.Clearing.{FilterIsClear, IsIn, IsInTime, RecordersAreInTime}
use Rattle.sr_inv_table.specs.Loaded.{InGrace, LoadedBefore}
use Rattle.sr_machine.specs.Core.{Core}
use Rattle.sr_machine.specs.Stores.{phase_word}
use Rattle.sr_machine.specs.declared.flight.Flight.{Flight}
use Rattle.sr_machine.specs.declared.job.Job.{Job}
use Rattle.sr_machine.specs.declared.pool_update.PoolUpdate.{PoolUpdate}
use Rattle.sr_machine.specs.declared.stage.Stage.{Stage}
use Rattle.sr_machine.specs.declared.stage.Stage.TheVariants.{Fly}
use Rattle.sr_machine.specs.declared.draw.Draw.TheVariants as draw
use Rattle.sr_machine.specs.declared.job.Job.TheVariants as job
use Rattle.sr_machine.specs.declared.name.Name.TheVariants as name
use Rattle.sr_machine.specs.declared.wait.Wait.TheVariants as wait

-- only before Holding a word says Recording
before_holding : (u : PoolUpdate) (phase : Phase) → (word_before u phase).phase ≡ Recording → phase ≡ Holding
before_holding u Steady e = cc
before_holding u Recording e = cc
before_holding u Holding e = refl
before_holding u Transit e = cc

grace_then : (j : Job) (P Q : PoolUpdate → Phase → Type 0) → ((u : PoolUpdate) (phase : Phase) → P u phase → Q u phase) → InGrace j P → InGrace j Q
grace_then (job.Draw (draw.Grace (wait.Comes u phase))) P Q t h = t u phase h
grace_then (job.Draw (draw.Comes u Steady)) P Q t h = t u Steady h
grace_then (job.Draw (draw.Comes u Transit)) P Q t h = t u Transit h
grace_then (job.Pass g n (wait.Comes u phase)) P Q t h = t u phase h
grace_then j P Q t h = absurd h

-- what holds of the phase and doesn't name it
grace_has : (j : Job) (P : PoolUpdate → Phase → Type 0) (C : Type 0) → ((u : PoolUpdate) (phase : Phase) → P u phase → C) → InGrace j P → C
grace_has (job.Draw (draw.Grace (wait.Comes u phase))) P C t h = t u phase h
grace_has (job.Draw (draw.Comes u Steady)) P C t h = t u Steady h
grace_has (job.Draw (draw.Comes u Transit)) P C t h = t u Transit h
grace_has (job.Pass g n (wait.Comes u phase)) P C t h = t u phase h
grace_has j P C t h = absurd h

module _ (s : Core) (i : Invariant s) where
  module _ (f : Flight) (e : f.vip.phase ≡ Recording) where
    is_holding : (u : PoolUpdate) (phase : Phase) → LoadedBefore s f u phase → phase ≡ Holding
    is_holding u phase h = before_holding u phase (ap (λ z. z.phase) (sym h.before) ∙ e)

    holds_now : (u : PoolUpdate) (phase : Phase) → LoadedBefore s f u phase → IsIn s f.packet.key.vip Holding
    holds_now u phase h =
        (phase_word u Holding, ap (λ n. s.words (name.Vip n)) h.own ∙ (h.present ∙ ap (λ q. packed_vip (phase_word u q)) (is_holding u phase h)), refl)

    in_time : (s.words (name.Vip f.packet.key.vip) ≡ packed_vip f.vip) ⊎ InGrace s.controller.job (LoadedBefore s f) → IsInTime s f.packet.key.vip
    in_time (inl same) = inl (f.vip, same, e)
    in_time (inr h) =
        inr (grace_has s.controller.job (LoadedBefore s f) (IsIn s f.packet.key.vip Holding) holds_now h, grace_then s.controller.job (LoadedBefore s f) Held held h)
      where
        Held : PoolUpdate → Phase → Type 0
        Held u phase = (f.packet.key.vip ≡ u.vip) × (phase ≡ Holding)

        held : (u : PoolUpdate) (phase : Phase) → LoadedBefore s f u phase → Held u phase
        held u phase k = (k.own, is_holding u phase k)

  stage_time : (a : Stage)
      → OnFlight a (λ f. (s.words (name.Vip f.packet.key.vip) ≡ packed_vip f.vip) ⊎ InGrace s.controller.job (LoadedBefore s f))
      → OnFlight a (λ f. f.vip.phase ≡ Recording → IsInTime s f.packet.key.vip)
  stage_time (Fly f leg) h = λ e. in_time f e h
  stage_time a h = tt

pub recorders : (s : Core) → Invariant s → RecordersAreInTime s
recorders s i p v q = stage_time s i v.stage (words s i p v q)

pub filter : (s : Core) → Invariant s → FilterIsClear s
filter s i none n h =
    i.words.others.filter n h (subst (λ o. IsCleared o s.controller.vips s.controller.job n) (sym none) tt)
