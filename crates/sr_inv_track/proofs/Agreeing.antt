-- Openers of one key that nothing has matched choose one version, or are held.
use Rattle.std.proofs.Common.{◌≡◌, ℕ, ◌∷◌, sym, refl, ap, ◌∙◌, subst, inl, inr}
use Rattle.sr_base.specs.Layout.{LayoutView}
use Rattle.sr_base.specs.declared.kind.Kind.TheVariants.{Opener}
use Rattle.sr_base.specs.declared.place.Place.{Place}
use Rattle.sr_base.specs.declared.vip_word.Phase.{Phase}
use Rattle.sr_base.specs.declared.vip_word.Phase.TheVariants.{Steady, Recording, Holding, Transit}
use Rattle.sr_base.specs.declared.vip_word.VipWord.{VipWord}
use Rattle.sr_inv_facts.specs.Doing.{HasEarlier, word_before}
use Rattle.sr_inv_facts.specs.Flying.{OnChoice, OnUnmatched}
use Rattle.sr_inv_facts.specs.InFlight.{ChoosesBy, HasWord}
use Rattle.sr_inv_facts.specs.InShape.{LegFits}
use Rattle.sr_inv_facts.specs.Invariant.{Invariant}
use Rattle.sr_inv_facts.specs.OnTrack.{GoesBy, GoesMissed, HeldIf}
use Rattle.sr_inv_matching.proofs.Unmatching.{opener_has}
use Rattle.sr_inv_track.proofs.Missing.{Before, before}
use Rattle.sr_inv_track.proofs.Passing.{opener_bits, opener_goes}
use Rattle.sr_machine.specs.Core.{Core}
use Rattle.sr_machine.specs.Deciding.{learned_in, vip_at}
use Rattle.sr_machine.specs.Stages.{is_opener, key_bits}
use Rattle.sr_machine.specs.Stores.{phase_word}
use Rattle.sr_machine.specs.declared.flight.Flight.{Flight}
use Rattle.sr_machine.specs.declared.job.Job.{Job}
use Rattle.sr_machine.specs.declared.leg.Leg.{Leg}
use Rattle.sr_machine.specs.declared.leg.Leg.TheVariants.{Look, Hit, Filter, Chosen, Judged}
use Rattle.sr_machine.specs.declared.pool_update.PoolUpdate.{PoolUpdate}
use Rattle.sr_machine.specs.declared.draw.Draw.TheVariants as draw
use Rattle.sr_machine.specs.declared.job.Job.TheVariants as job
use Rattle.sr_machine.specs.declared.wait.Wait.TheVariants as wait
use Rattle.sr_law.specs.declared.verdict.Verdict.TheVariants as verdict

-- an opener that has loaded the word, and that nothing matches, goes by this version or is held
abbrev pub SuitsIn : Phase → ℕ → ℕ → ℕ → Type 0
SuitsIn Steady cur next n = cur ≡ n
SuitsIn Recording cur next n = cur ≡ n
SuitsIn Holding cur next n = Unit {0}
SuitsIn Transit cur next n = next ≡ n

abbrev pub Suits : VipWord → ℕ → Type 0
Suits w n = SuitsIn w.phase w.cur w.next n

suits_self : (w : VipWord) (n : ℕ) → ChoosesBy w n → Suits w n
suits_self w n h = at w.phase h.0
  where
    at : (p : Phase) → n ≡ learned_in p w.cur w.next → SuitsIn p w.cur w.next n
    at Steady e = sym e
    at Recording e = sym e
    at Holding e = tt
    at Transit e = sym e

-- what it has chosen is this version
chosen_suits : (w : VipWord) (m n : ℕ) → ChoosesBy w m → Suits w n → m ≡ n
chosen_suits w m n h t = at w.phase h.0 h.1 t
  where
    at : (p : Phase) → m ≡ learned_in p w.cur w.next → (p ≡ Holding → ⊥) → SuitsIn p w.cur w.next n → m ≡ n
    at Steady e apart t = e ∙ t
    at Recording e apart t = e ∙ t
    at Holding e apart t = absurd (apart refl)
    at Transit e apart t = e ∙ t

-- ---- words that openers of one virtual address may have loaded

earlier_same : (j : Job) (p entered vip q came other : ℕ) (w z : VipWord) → HasEarlier j p entered vip w → HasEarlier j q came other z → w ≡ z
earlier_same (job.Draw (draw.Grace (wait.Comes u phase))) p e v q c o w z a b = a.1 ∙ sym b.1
earlier_same (job.Draw (draw.Comes u Steady)) p e v q c o w z a b = a.1 ∙ sym b.1
earlier_same (job.Draw (draw.Comes u Transit)) p e v q c o w z a b = a.1 ∙ sym b.1
earlier_same (job.Pass g n (wait.Comes u phase)) p e v q c o w z a b = a.0.1 ∙ sym b.0.1
earlier_same j p e v q c o w z a b = absurd a

-- the word before a phase, and that of the phase, agree
before_now : (u : PoolUpdate) (q : Phase) (n : ℕ) → ChoosesBy (word_before u q) n → Suits (phase_word u q) n
before_now u Steady n h = sym h.0
before_now u Recording n h = sym h.0
before_now u Holding n h = tt
before_now u Transit n h = absurd (h.1 refl)

now_before : (u : PoolUpdate) (q : Phase) (n : ℕ) → ChoosesBy (phase_word u q) n → Suits (word_before u q) n
now_before u Steady n h = sym h.0
now_before u Recording n h = sym h.0
now_before u Holding n h = absurd (h.1 refl)
now_before u Transit n h = tt

module _ (s : Core) (i : Invariant s) where
  abbrev l : LayoutView
  l = s.config.layout

  -- what one has chosen suits the other's word
  pub words_agree : (p q : ℕ) (f g : Flight) (n : ℕ) → f.packet.key.vip ≡ g.packet.key.vip → HasWord s.controller.vips s.controller.job p f
      → HasWord s.controller.vips s.controller.job q g → ChoosesBy f.vip n → Suits g.vip n
  words_agree p q f g n same (inl a) (inl b) h =
      subst (λ w. Suits w n) (a ∙ (ap (vip_at s.controller.vips) same ∙ sym b)) (suits_self f.vip n h)
  words_agree p q f g n same (inr a) (inr b) h =
      subst (λ w. Suits w n) (earlier_same s.controller.job p f.entered f.packet.key.vip q g.entered g.packet.key.vip f.vip g.vip a b) (suits_self f.vip n h)
  words_agree p q f g n same (inr a) (inl b) h =
      by (before s i s.controller.job p f.entered f.packet.key.vip f.vip i.update.update.phase a)
    where
      by : Before s.controller.update s.controller.vips f.packet.key.vip f.vip → Suits g.vip n
      by z =
          let now : g.vip ≡ phase_word z.update_is z.phase = b ∙ (ap (vip_at s.controller.vips) (sym same ∙ z.own) ∙ z.now.1) in
          subst (λ w. Suits w n) (sym now) (before_now z.update_is z.phase n (subst (λ w. ChoosesBy w n) z.word h))
  words_agree p q f g n same (inl a) (inr b) h =
      by (before s i s.controller.job q g.entered g.packet.key.vip g.vip i.update.update.phase b)
    where
      by : Before s.controller.update s.controller.vips g.packet.key.vip g.vip → Suits g.vip n
      by z =
          let now : f.vip ≡ phase_word z.update_is z.phase = a ∙ (ap (vip_at s.controller.vips) (same ∙ z.own) ∙ z.now.1) in
          subst (λ w. Suits w n) (sym z.word) (now_before z.update_is z.phase n (subst (λ w. ChoosesBy w n) now h))

  -- ---- an opener whose word suits the version

  module _ (w : Place → ℕ) (bits : ℕ → ℕ) (g : Flight) (n : ℕ) (o : g.packet.kind ≡ Opener) (t : Suits g.vip n) where
    suits_missed : GoesMissed l bits g n g.vip.phase
    suits_missed = at g.vip.phase t
      where
        at : (p : Phase) → SuitsIn p g.vip.cur g.vip.next n → GoesMissed l bits g n p
        at Steady h = h
        at Recording h = h
        at Holding h = subst (λ b. HeldIf b (g.vip.cur ≡ n)) (sym (ap is_opener o)) tt
        at Transit h = opener_bits l g n w bits o (key_bits l g.packet.key) h

    -- it goes by it wherever it is
    pub opener_agrees : (leg : Leg) → LegFits l g leg → OnUnmatched g leg (λ looks. OnChoice leg (ChoosesBy g.vip)) → GoesBy l w bits n g leg
    opener_agrees (Look place rest) fits c = opener_goes l g n w bits o (place ∷ rest) suits_missed
    opener_agrees (Hit place m) fits c = subst (λ b. HeldIf b (m ≡ n)) (sym (ap is_opener o)) tt
    opener_agrees (Filter bit rest) fits c =
        opener_bits l g n w bits o (bit ∷ rest) (subst (λ p. SuitsIn p g.vip.cur g.vip.next n) fits.transit t)
    opener_agrees (Chosen m load) fits c = chosen_suits g.vip m n (opener_has g.packet.kind (ChoosesBy g.vip m) o c) t
    opener_agrees (Judged (verdict.To server m pool) next) fits c = chosen_suits g.vip m n (opener_has g.packet.kind (ChoosesBy g.vip m) o c) t
    opener_agrees (Judged (verdict.Down server m pool) next) fits c = chosen_suits g.vip m n (opener_has g.packet.kind (ChoosesBy g.vip m) o c) t
    opener_agrees (Judged v next) fits c = tt
