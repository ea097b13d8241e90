-- A packet that records itself in the filter does so while the filter needn't be clear.
use Rattle.std.proofs.Common.{◌≡◌, ℕ, Bool, true, false, ◌≢◌, ◌⊎◌, List, ◌==◌, Some, None, Option, sym, refl, ap, ◌∙◌, subst, inl, inr, arith}
use Rattle.std.proofs.lemmas.Bool.Decides.{nat_tests}
use Rattle.std.proofs.lemmas.Option.{same_Some}
use Rattle.sr_base.specs.declared.vip_word.Phase.{Phase}
use Rattle.sr_base.specs.declared.vip_word.Phase.TheVariants.{Steady, Recording, Holding, Transit}
use Rattle.sr_base.specs.declared.vip_word.VipWord.{VipWord}
use Rattle.sr_inv_facts.specs.Doing.{HasEarlier, IsEarlier}
use Rattle.sr_inv_facts.specs.InUpdate.{AtPhase, IsAside, JobAt}
use Rattle.sr_inv_facts.specs.InWords.{ClearedBelow, IsCleared}
use Rattle.sr_machine.specs.Config.{Config}
use Rattle.sr_machine.specs.Deciding.{vip_at}
use Rattle.sr_machine.specs.Stores.{phase_word}
use Rattle.sr_machine.specs.declared.job.Job.{Job}
use Rattle.sr_machine.specs.declared.pool_update.PoolUpdate.{PoolUpdate}
use Rattle.sr_machine.specs.declared.draw.Draw.TheVariants as draw
use Rattle.sr_machine.specs.declared.store.Store.TheVariants as store
use Rattle.sr_machine.specs.declared.wait.Wait.TheVariants as wait
use Rattle.sr_machine.specs.declared.job.Job.TheVariants as job

pub recording_isnt : Recording ≡ Steady → ⊥
recording_isnt e = cc

recording_isnt_transit : Recording ≡ Transit → ⊥
recording_isnt_transit e = cc

recording_isnt_holding : Recording ≡ Holding → ⊥
recording_isnt_holding e = cc

pub transit_isnt : Transit ≡ Steady → ⊥
transit_isnt e = cc

pub holding_isnt : Holding ≡ Steady → ⊥
holding_isnt e = cc

module _ (k : Config) (update : Option PoolUpdate) (vips : List VipWord) where
  -- the filter is being cleared in Steady
  cleared_steady : (j : Job) (n : ℕ) (u : PoolUpdate) → JobAt k update vips j → update ≡ Some u → ClearedBelow j n
      → (vip_at vips u.vip).phase ≡ Steady
  cleared_steady (job.Store (store.Filter w index)) n u a e c =
      let same : w ≡ u = same_Some w u (sym a.0.0 ∙ e) in
      ap (λ z. z.phase) (subst (λ t. vip_at vips t.vip ≡ phase_word t Steady) same a.0.1)
  cleared_steady j n u a e c = absurd c

  steady_cleared : (j : Job) (n : ℕ) (u : PoolUpdate) → JobAt k update vips j → update ≡ Some u → IsCleared (Some u) vips j n
      → (vip_at vips u.vip).phase ≡ Steady
  steady_cleared j n u a e (inl h) = ap (λ z. z.phase) h
  steady_cleared j n u a e (inr h) = cleared_steady j n u a e h

  -- the word of a packet that records is the present one
  present : (j : Job) → JobAt k update vips j → ((vip : ℕ) → IsAside update vip → (vip_at vips vip).phase ≡ Steady) → (vip n : ℕ)
      → (vip_at vips vip).phase ≡ Recording → (o : Option PoolUpdate) → update ≡ o → IsCleared o vips j n → ⊥
  present j a aside vip n is None e c =
      let steady : (vip_at vips vip).phase ≡ Steady = aside vip (subst (λ o. IsAside o vip) (sym e) tt) in
      recording_isnt (sym is ∙ steady)
  present j a aside vip n is (Some u) e c = at (vip == u.vip) refl
    where
      at : (t : Bool) → (vip == u.vip) ≡ t → ⊥
      at true q =
          let same : vip ≡ u.vip = grind (arith, nat_tests) in
          recording_isnt (sym is ∙ (ap (λ z. (vip_at vips z).phase) same ∙ steady_cleared j n u a e c))
      at false q =
          let other : vip ≢ u.vip = grind (arith, nat_tests) in
          recording_isnt (sym is ∙ aside vip (subst (λ o. IsAside o vip) (sym e) other))

  -- or that of a packet that Holding is waited with for
  is_waited : (u : PoolUpdate) (q : Phase) (vip : ℕ) (w : VipWord) → w.phase ≡ Recording → IsEarlier u q vip w → AtPhase update vips u q
      → (update ≡ Some u) × ((vip_at vips u.vip).phase ≡ Holding)
  is_waited u Steady vip w is e a = absurd (recording_isnt_transit (sym is ∙ ap (λ z. z.phase) e.1))
  is_waited u Recording vip w is e a = absurd (recording_isnt (sym is ∙ ap (λ z. z.phase) e.1))
  is_waited u Holding vip w is e a = (a.0, ap (λ z. z.phase) a.1)
  is_waited u Transit vip w is e a = absurd (recording_isnt_holding (sym is ∙ ap (λ z. z.phase) e.1))

  held_uncleared : (j : Job) (n : ℕ) (u : PoolUpdate) → JobAt k update vips j → (update ≡ Some u) × ((vip_at vips u.vip).phase ≡ Holding)
      → IsCleared update vips j n → ⊥
  held_uncleared j n u a h c =
      holding_isnt (sym h.1 ∙ steady_cleared j n u a h.0 (subst (λ o. IsCleared o vips j n) h.0 c))

  earlier : (j : Job) → JobAt k update vips j → (p entered vip n : ℕ) (w : VipWord) → w.phase ≡ Recording
      → HasEarlier j p entered vip w → IsCleared update vips j n → ⊥
  earlier (job.Draw (draw.Grace (wait.Comes u q))) a p entered vip n w is h c =
      held_uncleared (job.Draw (draw.Grace (wait.Comes u q))) n u a (is_waited u q vip w is h a) c
  earlier (job.Draw (draw.Comes u Steady)) a p entered vip n w is h c = recording_isnt_transit (sym is ∙ ap (λ z. z.phase) h.1)
  earlier (job.Draw (draw.Comes u Transit)) a p entered vip n w is h c = recording_isnt_holding (sym is ∙ ap (λ z. z.phase) h.1)
  earlier (job.Pass grace pipe (wait.Comes u q)) a p entered vip n w is h c =
      held_uncleared (job.Pass grace pipe (wait.Comes u q)) n u a (is_waited u q vip w is h.0 a) c
  earlier j a p entered vip n w is h c = absurd h

  -- a packet that loaded Recording
  pub recording_uncleared : (j : Job) → JobAt k update vips j → ((vip : ℕ) → IsAside update vip → (vip_at vips vip).phase ≡ Steady)
      → (p entered vip n : ℕ) (w : VipWord) → w.phase ≡ Recording → (w ≡ vip_at vips vip) ⊎ HasEarlier j p entered vip w
      → IsCleared update vips j n → ⊥
  recording_uncleared j a aside p entered vip n w is (inl h) c = present j a aside vip n (sym (ap (λ z. z.phase) h) ∙ is) update refl c
  recording_uncleared j a aside p entered vip n w is (inr h) c = earlier j a p entered vip n w is h c
