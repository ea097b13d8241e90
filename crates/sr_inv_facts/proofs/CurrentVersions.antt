-- The versions of a word that a packet has loaded are current ones.
use Rattle.std.proofs.Common.{◌≡◌, ℕ, ◌<◌, Bool, true, false, ◌≢◌, ◌⊎◌, if◌then◌else◌, ◌==◌, List, Some, None, Option, sym, refl, ap, ◌∙◌, subst, inl, inr, arith}
use Rattle.std.proofs.lemmas.Bool.Decides.{nat_tests}
use Rattle.std.proofs.lemmas.Option.{same_Some}
use Rattle.sr_base.specs.declared.vip_word.Phase.{Phase}
use Rattle.sr_base.specs.declared.vip_word.Phase.TheVariants.{Steady, Recording, Holding, Transit}
use Rattle.sr_base.specs.declared.vip_word.VipWord.{VipWord}
use Rattle.sr_inv_facts.proofs.Lists.{of_some}
use Rattle.sr_inv_facts.proofs.Ranges.{word_fits}
use Rattle.sr_inv_facts.specs.Doing.{HasEarlier, IsEarlier, word_before}
use Rattle.sr_inv_facts.specs.InUpdate.{AtFirst, AtPhase, IsAside, IsNew, IsWordOf, JobAt, UpdateFits, is_ungiven, standing}
use Rattle.sr_inv_facts.specs.Invariant.{Invariant}
use Rattle.sr_machine.specs.Config.{Config}
use Rattle.sr_machine.specs.Core.{Core}
use Rattle.sr_machine.specs.Deciding.{vip_at}
use Rattle.sr_machine.specs.Reads.{steady}
use Rattle.sr_machine.specs.Stores.{phase_word}
use Rattle.sr_machine.specs.declared.job.Job.{Job}
use Rattle.sr_machine.specs.declared.pool_update.PoolUpdate.{PoolUpdate}
use Rattle.sr_update.specs.Numbers.{NumberRows, state_of}
use Rattle.sr_update.specs.declared.number_state.NumberState.TheVariants.{Current}
use Rattle.sr_machine.specs.declared.draw.Draw.TheVariants as draw
use Rattle.sr_machine.specs.declared.store.Store.TheVariants as store
use Rattle.sr_machine.specs.declared.wait.Wait.TheVariants as wait
use Rattle.sr_machine.specs.declared.job.Job.TheVariants as job

-- the versions that an opener may learn by the word are current
pub record WordCurrent (numbers : NumberRows) (vip : ℕ) (w : VipWord) : Type 0 where
  pub cur : state_of vip w.cur numbers ≡ Some Current
  pub next : w.phase ≡ Transit → state_of vip w.next numbers ≡ Some Current

-- ---- phases differ

steady_isnt : Steady ≡ Transit → ⊥
steady_isnt e = cc

recording_isnt : Recording ≡ Transit → ⊥
recording_isnt e = cc

holding_isnt : Holding ≡ Transit → ⊥
holding_isnt e = cc

-- the word of a phase isn't the one before the first
phase_isnt : (u : PoolUpdate) (p : Phase) → u.replaced ≢ u.given → phase_word u p ≡ steady u.replaced → ⊥
phase_isnt u Steady n e = n (sym (ap (λ w. w.cur) e))
phase_isnt u Recording n e = at (ap (λ w. w.phase) e)
  where
    at : Recording ≡ Steady → ⊥
    at e = cc
phase_isnt u Holding n e = at (ap (λ w. w.phase) e)
  where
    at : Holding ≡ Steady → ⊥
    at e = cc
phase_isnt u Transit n e = at (ap (λ w. w.phase) e)
  where
    at : Transit ≡ Steady → ⊥
    at e = cc

ungiven_first : (k : Config) (update : Option PoolUpdate) (vips : List VipWord) (j : Job) → is_ungiven j ≡ true → JobAt k update vips j
    → (u : PoolUpdate) × AtFirst update vips u
ungiven_first k update vips (job.Store (store.Member u index)) e a = (u, a.0)
ungiven_first k update vips (job.Store (store.Head u)) e a = (u, a)
ungiven_first k update vips (job.Draw (draw.Given u)) e a = (u, a)
ungiven_first k update vips j e a = cc

module _ (s : Core) (i : Invariant s) where
  pub updating : (u : PoolUpdate) → s.controller.update ≡ Some u → UpdateFits s.config u
  updating u e = of_some (UpdateFits s.config) s.controller.update u i.update.update.fits e

  current_is : (vip version : ℕ) → vip < s.config.layout.vips → version < s.config.layout.shape.versions
      → (version ≡ standing s.controller.update s.controller.vips vip) ⊎ IsNew s.controller.update s.controller.job vip version
      → state_of vip version s.controller.numbers ≡ Some Current
  current_is vip version b v h = (i.update.versions.current vip version b v).1 h

  -- the version that an update replaces
  pub replaced_current : (u : PoolUpdate) → s.controller.update ≡ Some u → state_of u.vip u.replaced s.controller.numbers ≡ Some Current
  replaced_current u e =
      let f = updating u e in
      current_is u.vip u.replaced f.vip f.replaced
      (inl (subst (λ o. u.replaced ≡ standing o s.controller.vips u.vip) (sym e) (at (u.vip == u.vip) (grind (arith, nat_tests)))))
    where
      at : (b : Bool) → b ≡ true → u.replaced ≡ (if b then u.replaced else (vip_at s.controller.vips u.vip).cur)
      at true q = refl
      at false q = cc

  -- the one that it gives, from its Given line on
  pub given_current : (u : PoolUpdate) → s.controller.update ≡ Some u → is_ungiven s.controller.job ≡ false
      → state_of u.vip u.given s.controller.numbers ≡ Some Current
  given_current u e g =
      let f = updating u e in
      current_is u.vip u.given f.vip f.given (inr (subst (λ o. IsNew o s.controller.job u.vip u.given) (sym e) (g, refl, refl)))

  -- in a phase that line is out
  pub phase_given : (u : PoolUpdate) (p : Phase) → s.controller.update ≡ Some u → vip_at s.controller.vips u.vip ≡ phase_word u p
      → is_ungiven s.controller.job ≡ false
  phase_given u p e a = at (is_ungiven s.controller.job) refl
    where
      at : (b : Bool) → is_ungiven s.controller.job ≡ b → b ≡ false
      at false q = refl
      at true q =
          let f = ungiven_first s.config s.controller.update s.controller.vips s.controller.job q i.update.update.phase in
          let same : f.0 ≡ u = same_Some f.0 u (sym f.1.0 ∙ e) in
          let first : vip_at s.controller.vips u.vip ≡ steady u.replaced =
          subst (λ w. vip_at s.controller.vips w.vip ≡ steady w.replaced) same f.1.1 in
          absurd (phase_isnt u p (updating u e).other (sym a ∙ first))

  -- ---- the words

  word_of : (u : PoolUpdate) (w : VipWord) → s.controller.update ≡ Some u → w ≡ vip_at s.controller.vips u.vip → IsWordOf u w
      → WordCurrent s.controller.numbers u.vip w
  word_of u w e a (inl h) = record {
    cur = subst (λ z. state_of u.vip z.cur s.controller.numbers ≡ Some Current) (sym h) (replaced_current u e);
    next = λ t. absurd (steady_isnt (ap (λ z. z.phase) (sym h) ∙ t));
  }
  word_of u w e a (inr (p, h)) = subst (WordCurrent s.controller.numbers u.vip) (sym h) (at p (sym a ∙ h))
    where
      at : (p : Phase) → vip_at s.controller.vips u.vip ≡ phase_word u p → WordCurrent s.controller.numbers u.vip (phase_word u p)
      at Steady g = record { cur = given_current u e (phase_given u Steady e g); next = λ t. absurd (steady_isnt t) }
      at Recording g = record { cur = replaced_current u e; next = λ t. absurd (recording_isnt t) }
      at Holding g = record { cur = replaced_current u e; next = λ t. absurd (holding_isnt t) }
      at Transit g = record { cur = replaced_current u e; next = λ t. given_current u e (phase_given u Transit e g) }

  -- another virtual address than the update's
  aside : (vip : ℕ) → vip < s.config.layout.vips → IsAside s.controller.update vip
      → standing s.controller.update s.controller.vips vip ≡ (vip_at s.controller.vips vip).cur
      → WordCurrent s.controller.numbers vip (vip_at s.controller.vips vip)
  aside vip b a e = record {
    cur = current_is vip (vip_at s.controller.vips vip).cur b
        (word_fits s.config i.shape.config.layout s.controller i.shape.book i.shape.controller vip).cur (inl (sym e));
    next = λ t. absurd (steady_isnt (sym (i.update.update.others vip a) ∙ t));
  }

  pub present_current : (vip : ℕ) → vip < s.config.layout.vips → WordCurrent s.controller.numbers vip (vip_at s.controller.vips vip)
  present_current vip b = at s.controller.update refl
    where
      at : (o : Option PoolUpdate) → s.controller.update ≡ o → WordCurrent s.controller.numbers vip (vip_at s.controller.vips vip)
      at None e =
          aside vip b (subst (λ o. IsAside o vip) (sym e) tt) (ap (λ o. standing o s.controller.vips vip) e)
      at (Some u) e = by (vip == u.vip) refl
        where
          by : (t : Bool) → (vip == u.vip) ≡ t → WordCurrent s.controller.numbers vip (vip_at s.controller.vips vip)
          by true t =
              let same : vip ≡ u.vip = grind (arith, nat_tests) in
              subst (λ n. WordCurrent s.controller.numbers n (vip_at s.controller.vips n)) (sym same)
              (word_of u (vip_at s.controller.vips u.vip) e refl
              (of_some (λ w. IsWordOf w (vip_at s.controller.vips w.vip)) s.controller.update u i.update.update.word e))
          by false t =
              let other : vip ≢ u.vip = grind (arith, nat_tests) in
              aside vip b (subst (λ o. IsAside o vip) (sym e) other)
              (ap (λ o. standing o s.controller.vips vip) e ∙ ap (λ c. if c then u.replaced else (vip_at s.controller.vips vip).cur) t)

  -- the word before a phase
  before_current : (u : PoolUpdate) (q : Phase) → AtPhase s.controller.update s.controller.vips u q
      → WordCurrent s.controller.numbers u.vip (word_before u q)
  before_current u Steady a =
      record { cur = replaced_current u a.0; next = λ t. given_current u a.0 (phase_given u Steady a.0 a.1) }
  before_current u Recording a = record { cur = replaced_current u a.0; next = λ t. absurd (steady_isnt t) }
  before_current u Holding a = record { cur = replaced_current u a.0; next = λ t. absurd (recording_isnt t) }
  before_current u Transit a = record { cur = replaced_current u a.0; next = λ t. absurd (holding_isnt t) }

  earlier_of : (u : PoolUpdate) (q : Phase) (vip : ℕ) (w : VipWord) → AtPhase s.controller.update s.controller.vips u q → IsEarlier u q vip w
      → WordCurrent s.controller.numbers vip w
  earlier_of u q vip w a h =
      subst (λ n. WordCurrent s.controller.numbers n w) (sym h.0)
      (subst (WordCurrent s.controller.numbers u.vip) (sym h.1) (before_current u q a))

  earlier_current : (j : Job) → JobAt s.config s.controller.update s.controller.vips j → (p entered vip : ℕ) (w : VipWord)
      → HasEarlier j p entered vip w
      → WordCurrent s.controller.numbers vip w
  earlier_current (job.Draw (draw.Grace (wait.Comes u q))) a p entered vip w h = earlier_of u q vip w a h
  earlier_current (job.Draw (draw.Comes u Steady)) a p entered vip w h = earlier_of u Steady vip w a h
  earlier_current (job.Draw (draw.Comes u Transit)) a p entered vip w h = earlier_of u Transit vip w a h
  earlier_current (job.Pass grace pipe (wait.Comes u q)) a p entered vip w h = earlier_of u q vip w a h.0
  earlier_current j a p entered vip w h = absurd h

  -- a word that a packet has loaded
  pub loaded_current : (p entered vip : ℕ) (w : VipWord) → vip < s.config.layout.vips
      → (w ≡ vip_at s.controller.vips vip) ⊎ HasEarlier s.controller.job p entered vip w
      → WordCurrent s.controller.numbers vip w
  loaded_current p entered vip w b (inl e) = subst (WordCurrent s.controller.numbers vip) (sym e) (present_current vip b)
  loaded_current p entered vip w b (inr h) = earlier_current s.controller.job i.update.update.phase p entered vip w h
