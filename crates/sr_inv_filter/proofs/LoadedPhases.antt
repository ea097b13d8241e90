-- Which words a packet may have loaded in each phase of an update, and which versions an opener learns by them.
use Rattle.std.proofs.Common.{◌≡◌, ℕ, Bool, true, false, ◌≢◌, ◌⊎◌, List, ◌==◌, Some, None, Option, sym, refl, ap, ◌∙◌, subst, inl, inr, true≢false, arith}
use Rattle.std.proofs.lemmas.Bool.Decides.{nat_tests}
use Rattle.std.proofs.lemmas.Option.{same_Some}
use Rattle.sr_base.specs.declared.vip_word.Phase.{Phase}
use Rattle.sr_base.specs.declared.vip_word.Phase.TheVariants.{Steady, Recording, Holding, Transit}
use Rattle.sr_base.specs.declared.vip_word.VipWord.{VipWord}
use Rattle.sr_inv_facts.proofs.Lists.{of_some}
use Rattle.sr_inv_facts.specs.Doing.{HasEarlier, IsEarlier, word_before}
use Rattle.sr_inv_facts.specs.InFilter.{IsOfWord, is_settling, phase_at}
use Rattle.sr_inv_facts.specs.InFlight.{ChoosesBy}
use Rattle.sr_inv_facts.specs.InUpdate.{AtPhase, IsAside, IsWordOf, JobAt}
use Rattle.sr_inv_facts.specs.Invariant.{Invariant}
use Rattle.sr_machine.specs.Config.{Config}
use Rattle.sr_machine.specs.Core.{Core}
use Rattle.sr_machine.specs.Deciding.{learned_in, vip_at}
use Rattle.sr_machine.specs.Stores.{phase_word}
use Rattle.sr_machine.specs.declared.job.Job.{Job}
use Rattle.sr_machine.specs.declared.pool_update.PoolUpdate.{PoolUpdate}
use Rattle.sr_machine.specs.declared.draw.Draw.TheVariants as draw
use Rattle.sr_machine.specs.declared.job.Job.TheVariants as job
use Rattle.sr_machine.specs.declared.wait.Wait.TheVariants as wait

-- ---- phases differ

pub steady_recording : Steady ≡ Recording → ⊥
steady_recording e = cc

pub steady_holding : Steady ≡ Holding → ⊥
steady_holding e = cc

pub steady_transit : Steady ≡ Transit → ⊥
steady_transit e = cc

pub recording_holding : Recording ≡ Holding → ⊥
recording_holding e = cc

pub recording_transit : Recording ≡ Transit → ⊥
recording_transit e = cc

pub holding_transit : Holding ≡ Transit → ⊥
holding_transit e = cc

pub phase_is : (u : PoolUpdate) (p : Phase) → (phase_word u p).phase ≡ p
phase_is u Steady = refl
phase_is u Recording = refl
phase_is u Holding = refl
phase_is u Transit = refl

-- ---- words of a virtual address

-- a word of an update that isn't Steady is that of its phase
pub word_of_phase : (u : PoolUpdate) (w : VipWord) (p : Phase) → IsWordOf u w → w.phase ≡ p → (Steady ≡ p → ⊥) → w ≡ phase_word u p
word_of_phase u w p (inl h) e n = absurd (n (sym (ap (λ z. z.phase) h) ∙ e))
word_of_phase u w p (inr (q, h)) e n =
    let same : q ≡ p = sym (phase_is u q) ∙ (sym (ap (λ z. z.phase) h) ∙ e) in h ∙ ap (phase_word u) same

-- a packet that may have loaded the word before a phase that is waited with
pub record EarlierAt (update : Option PoolUpdate) (vips : List VipWord) (j : Job) (vip : ℕ) (w : VipWord) : Type 0 where
  pub u : PoolUpdate
  pub phase : Phase
  pub is : update ≡ Some u
  pub own : vip ≡ u.vip
  pub word : w ≡ word_before u phase
  pub now : vip_at vips u.vip ≡ phase_word u phase
  pub settling : phase ≡ Recording → is_settling Recording j ≡ true

earlier_of : (update : Option PoolUpdate) (vips : List VipWord) (j : Job) (vip : ℕ) (w : VipWord) (u : PoolUpdate) (q : Phase)
    → (q ≡ Recording → is_settling Recording j ≡ true) → AtPhase update vips u q → IsEarlier u q vip w
    → EarlierAt update vips j vip w
earlier_of update vips j vip w u q t a h =
    record { u = u; phase = q; is = a.0; own = h.0; word = h.1; now = a.1; settling = t }

grace_settles : (u : PoolUpdate) (q : Phase) → q ≡ Recording → is_settling Recording (job.Draw (draw.Grace (wait.Comes u q))) ≡ true
grace_settles u q e = ap (λ z. is_settling Recording (job.Draw (draw.Grace (wait.Comes u z)))) e

pass_settles : (g pipe : ℕ) (u : PoolUpdate) (q : Phase) → q ≡ Recording → is_settling Recording (job.Pass g pipe (wait.Comes u q)) ≡ true
pass_settles g pipe u q e = ap (λ z. is_settling Recording (job.Pass g pipe (wait.Comes u z))) e

pub earlier_at : (k : Config) (update : Option PoolUpdate) (vips : List VipWord) (j : Job) → JobAt k update vips j → (p entered vip : ℕ) (w : VipWord)
    → HasEarlier j p entered vip w
    → EarlierAt update vips j vip w
earlier_at k update vips (job.Draw (draw.Grace (wait.Comes u q))) a p entered vip w h =
    earlier_of update vips (job.Draw (draw.Grace (wait.Comes u q))) vip w u q (grace_settles u q) a h
earlier_at k update vips (job.Draw (draw.Comes u Steady)) a p entered vip w h =
    earlier_of update vips (job.Draw (draw.Comes u Steady)) vip w u Steady (λ e. absurd (steady_recording e)) a h
earlier_at k update vips (job.Draw (draw.Comes u Transit)) a p entered vip w h =
    earlier_of update vips (job.Draw (draw.Comes u Transit)) vip w u Transit (λ e. absurd (recording_transit (sym e))) a h
earlier_at k update vips (job.Pass g pipe (wait.Comes u q)) a p entered vip w h =
    earlier_of update vips (job.Pass g pipe (wait.Comes u q)) vip w u q (pass_settles g pipe u q) a h.0
earlier_at k update vips j a p entered vip w h = absurd h

-- ---- a packet that is recorded

-- a packet that loaded Recording did so of the update that is under way, which is in Recording or Holding
pub record RecordedAt (update : Option PoolUpdate) (vips : List VipWord) (vip : ℕ) (w : VipWord) : Type 0 where
  pub u : PoolUpdate
  pub is : update ≡ Some u
  pub own : vip ≡ u.vip
  pub word : w ≡ phase_word u Recording
  pub now : (vip_at vips u.vip ≡ phase_word u Recording) ⊎ (vip_at vips u.vip ≡ phase_word u Holding)

-- what an opener learned by its word, by the phase of its virtual address
abbrev pub LearnerIn : PoolUpdate → Phase → Bool → VipWord → ℕ → Type 0
LearnerIn u Steady settling w n = Unit {0}
LearnerIn u Recording settling w n = settling ≡ false → w.phase ≡ Recording
LearnerIn u Holding settling w n = w.phase ≡ Recording
LearnerIn u Transit settling w n = n ≡ u.given

module _ (s : Core) (i : Invariant s) where
  abbrev vips : List VipWord
  vips = s.controller.vips

  -- a virtual address whose word isn't Steady is the update's
  updated : (vip : ℕ) (p : Phase) → (vip_at vips vip).phase ≡ p → (Steady ≡ p → ⊥)
      → (u : PoolUpdate) × (s.controller.update ≡ Some u) × (vip ≡ u.vip) × (vip_at vips u.vip ≡ phase_word u p)
  updated vip p e n = at s.controller.update refl
    where
      at : (o : Option PoolUpdate) → s.controller.update ≡ o
          → (u : PoolUpdate) × (s.controller.update ≡ Some u) × (vip ≡ u.vip) × (vip_at vips u.vip ≡ phase_word u p)
      at None q = absurd (n (sym (i.update.update.others vip (subst (λ o. IsAside o vip) (sym q) tt)) ∙ e))
      at (Some u) q = by (vip == u.vip) refl
        where
          by : (b : Bool) → (vip == u.vip) ≡ b
              → (u : PoolUpdate) × (s.controller.update ≡ Some u) × (vip ≡ u.vip) × (vip_at vips u.vip ≡ phase_word u p)
          by true t =
              let same : vip ≡ u.vip = grind (arith, nat_tests) in (
                u,
                q,
                same,
                word_of_phase u (vip_at vips u.vip) p (of_some (λ w. IsWordOf w (vip_at vips w.vip)) s.controller.update u i.update.update.word q)
                    (ap (λ v. (vip_at vips v).phase) (sym same) ∙ e) n,
              )
          by false t =
              let other : vip ≢ u.vip = grind (arith, nat_tests) in
              absurd (n (sym (i.update.update.others vip (subst (λ o. IsAside o vip) (sym q) other)) ∙ e))

  -- the update of a virtual address in this phase
  pub phase_word_is : (u : PoolUpdate) (p : Phase) → s.controller.update ≡ Some u → phase_at vips u ≡ p → (Steady ≡ p → ⊥)
      → vip_at vips u.vip ≡ phase_word u p
  phase_word_is u p q e n =
      word_of_phase u (vip_at vips u.vip) p (of_some (λ w. IsWordOf w (vip_at vips w.vip)) s.controller.update u i.update.update.word q) e n

  -- a word that a packet has loaded
  abbrev Loaded : ℕ → ℕ → ℕ → VipWord → Type 0
  Loaded p entered vip w = (w ≡ vip_at vips vip) ⊎ HasEarlier s.controller.job p entered vip w

  earlier : (p entered vip : ℕ) (w : VipWord) → HasEarlier s.controller.job p entered vip w
      → EarlierAt s.controller.update vips s.controller.job vip w
  earlier p entered vip w h =
      earlier_at s.config s.controller.update vips s.controller.job i.update.update.phase p entered vip w h

  pub recorded_at : (p entered vip : ℕ) (w : VipWord) → Loaded p entered vip w → w.phase ≡ Recording
      → RecordedAt s.controller.update vips vip w
  recorded_at p entered vip w (inl h) e = at (updated vip Recording (ap (λ z. z.phase) (sym h) ∙ e) steady_recording)
    where
      at : (u : PoolUpdate) × (s.controller.update ≡ Some u) × (vip ≡ u.vip) × (vip_at vips u.vip ≡ phase_word u Recording)
          → RecordedAt s.controller.update vips vip w
      at (u, q, same, word) = record { u = u; is = q; own = same; word = h ∙ (ap (vip_at vips) same ∙ word); now = inl word }
  recorded_at p entered vip w (inr h) e = at (earlier p entered vip w h)
    where
      at : EarlierAt s.controller.update vips s.controller.job vip w → RecordedAt s.controller.update vips vip w
      at a = by a.phase a.word a.now
        where
          by : (q : Phase) → w ≡ word_before a.u q → vip_at vips a.u.vip ≡ phase_word a.u q → RecordedAt s.controller.update vips vip w
          by Steady g now = absurd (recording_transit (sym e ∙ ap (λ z. z.phase) g))
          by Recording g now = absurd (steady_recording (sym (sym e ∙ ap (λ z. z.phase) g)))
          by Holding g now = record { u = a.u; is = a.is; own = a.own; word = g; now = inr now }
          by Transit g now = absurd (recording_holding (sym e ∙ ap (λ z. z.phase) g))

  -- ---- what an opener learns

  -- by the present word
  present_of : (w : VipWord) (n : ℕ) (p : Phase) → w.phase ≡ p → n ≡ learned_in p w.cur w.next → IsOfWord w n
  present_of w n Steady e h = inl h
  present_of w n Recording e h = inl h
  present_of w n Holding e h = inl h
  present_of w n Transit e h = inr (e, h)

  -- by the one before a phase
  before_of : (u : PoolUpdate) (q : Phase) (n : ℕ) → ChoosesBy (word_before u q) n → IsOfWord (phase_word u q) n
  before_of u Steady n c = inl c.0
  before_of u Recording n c = inl c.0
  before_of u Holding n c = inl c.0
  before_of u Transit n c = absurd (c.1 refl)

  pub learner_of : (p entered vip : ℕ) (w : VipWord) (n : ℕ) → Loaded p entered vip w → ChoosesBy w n → IsOfWord (vip_at vips vip) n
  learner_of p entered vip w n (inl h) c = subst (λ z. IsOfWord z n) h (present_of w n w.phase refl c.0)
  learner_of p entered vip w n (inr h) c =
      let a = earlier p entered vip w h in
      subst (λ v. IsOfWord (vip_at vips v) n) (sym a.own)
      (subst (λ z. IsOfWord z n) (sym a.now) (before_of a.u a.phase n (subst (λ z. ChoosesBy z n) a.word c)))

  present_in : (u : PoolUpdate) (settling : Bool) (w : VipWord) (n : ℕ) (p : Phase) → s.controller.update ≡ Some u → w ≡ vip_at vips u.vip → ChoosesBy w n
      → phase_at vips u ≡ p
      → LearnerIn u p settling w n
  present_in u settling w n Steady q h c e = tt
  present_in u settling w n Recording q h c e = λ t. ap (λ z. z.phase) h ∙ e
  present_in u settling w n Holding q h c e = absurd (c.1 (ap (λ z. z.phase) h ∙ e))
  present_in u settling w n Transit q h c e =
      let is : w ≡ phase_word u Transit = h ∙ phase_word_is u Transit q e steady_transit in
      (subst (λ z. ChoosesBy z n) is c).0

  before_in : (u : PoolUpdate) (q : Phase) (settling : Bool) (n : ℕ) → (q ≡ Recording → settling ≡ true) → ChoosesBy (word_before u q) n
      → LearnerIn u q settling (word_before u q) n
  before_in u Steady settling n t c = tt
  before_in u Recording settling n t c = λ f. absurd (true≢false (sym (t refl) ∙ f))
  before_in u Holding settling n t c = refl
  before_in u Transit settling n t c = absurd (c.1 refl)

  pub learner_in : (u : PoolUpdate) (p entered vip : ℕ) (w : VipWord) (n : ℕ) → s.controller.update ≡ Some u → vip ≡ u.vip → Loaded p entered vip w → ChoosesBy w n
      → LearnerIn u (phase_at vips u) (is_settling Recording s.controller.job) w n
  learner_in u p entered vip w n q own (inl h) c =
      present_in u (is_settling Recording s.controller.job) w n (phase_at vips u) q (h ∙ ap (vip_at vips) own) c refl
  learner_in u p entered vip w n q own (inr h) c = at (earlier p entered vip w h)
    where
      at : EarlierAt s.controller.update vips s.controller.job vip w → LearnerIn u (phase_at vips u) (is_settling Recording s.controller.job) w n
      at a =
          let same : a.u ≡ u = same_Some a.u u (sym a.is ∙ q) in
          let now : vip_at vips u.vip ≡ phase_word u a.phase = subst (λ z. vip_at vips z.vip ≡ phase_word z a.phase) same a.now in
          let word : w ≡ word_before u a.phase = a.word ∙ ap (λ z. word_before z a.phase) same in
          subst (λ z. LearnerIn u z (is_settling Recording s.controller.job) w n) (sym (ap (λ z. z.phase) now ∙ phase_is u a.phase))
          (subst (λ z. LearnerIn u a.phase (is_settling Recording s.controller.job) z n) (sym word)
          (before_in u a.phase (is_settling Recording s.controller.job) n a.settling (subst (λ z. ChoosesBy z n) word c)))

  -- once the switch is stored, the current version of every word is the replaced one
  present_replaced : (u : PoolUpdate) (w : VipWord) → s.controller.update ≡ Some u → w ≡ vip_at vips u.vip → phase_at vips u ≡ Transit → w.cur ≡ u.replaced
  present_replaced u w q h e = ap (λ z. z.cur) (h ∙ phase_word_is u Transit q e steady_transit)

  before_replaced : (u : PoolUpdate) (q : Phase) → q ≡ Transit → (word_before u q).cur ≡ u.replaced
  before_replaced u Steady e = refl
  before_replaced u Recording e = refl
  before_replaced u Holding e = refl
  before_replaced u Transit e = refl

  pub current_replaced : (u : PoolUpdate) (p entered vip : ℕ) (w : VipWord) → s.controller.update ≡ Some u → vip ≡ u.vip → Loaded p entered vip w
      → phase_at vips u ≡ Transit
      → w.cur ≡ u.replaced
  current_replaced u p entered vip w q own (inl h) e = present_replaced u w q (h ∙ ap (vip_at vips) own) e
  current_replaced u p entered vip w q own (inr h) e =
      let a = earlier p entered vip w h in
      let same : a.u ≡ u = same_Some a.u u (sym a.is ∙ q) in
      let now : vip_at vips u.vip ≡ phase_word u a.phase = subst (λ z. vip_at vips z.vip ≡ phase_word z a.phase) same a.now in
      let phase : a.phase ≡ Transit = sym (phase_is u a.phase) ∙ (sym (ap (λ z. z.phase) now) ∙ e) in
      ap (λ z. z.cur) (a.word ∙ ap (λ z. word_before z a.phase) same) ∙ before_replaced u a.phase phase
