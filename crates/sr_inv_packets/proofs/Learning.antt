-- An opener chooses the version that openers learn now, or is held.
use Rattle.std.proofs.Common.{◌≡◌, ℕ, ◌≢◌, ◌⊎◌, sym, refl, ap, ◌∙◌, subst, inl, inr}
use Rattle.sr_base.specs.declared.kind.Kind.TheVariants.{Opener}
use Rattle.sr_base.specs.declared.vip_word.Phase.{Phase}
use Rattle.sr_base.specs.declared.vip_word.Phase.TheVariants.{Steady, Recording, Holding, Transit}
use Rattle.sr_base.specs.declared.vip_word.VipWord.{VipWord}
use Rattle.sr_inv_facts.specs.Doing.{HasEarlier, word_before}
use Rattle.sr_inv_facts.specs.Flying.{IfOpener, OnChoice, OnMissing, OnVersion}
use Rattle.sr_inv_facts.specs.InFlight.{ChoosesBy, FlightHolds, LegHolds}
use Rattle.sr_inv_facts.specs.Invariant.{Invariant}
use Rattle.sr_inv_facts.specs.Readings.{bit_words}
use Rattle.sr_inv_filter.proofs.LoadedPhases.{earlier_at}
use Rattle.sr_inv_packets.proofs.Numbers.{vip_loaded}
use Rattle.sr_inv_packets.proofs.Parts.{leg_both}
use Rattle.sr_inv_packets.specs.Learning.{OnChosen, OnMissed, OpenersLearn, next_number, taken_in}
use Rattle.sr_law.specs.declared.verdict.Verdict.{Verdict}
use Rattle.sr_machine.specs.Core.{Core, printed}
use Rattle.sr_machine.specs.Deciding.{learned_in, vip_at}
use Rattle.sr_machine.specs.Stores.{phase_word}
use Rattle.sr_machine.specs.declared.flight.Flight.{Flight}
use Rattle.sr_machine.specs.declared.leg.Leg.{Leg}
use Rattle.sr_machine.specs.declared.leg.Leg.TheVariants.{Look, Hit, Filter, Chosen, Judged}
use Rattle.sr_machine.specs.declared.pool_update.PoolUpdate.{PoolUpdate}
use Rattle.sr_machine.specs.declared.leg.Last.TheVariants as last
use Rattle.sr_law.specs.declared.verdict.Verdict.TheVariants as verdict

-- what openers learn by a word
abbrev taken_by : VipWord → ℕ
taken_by w = taken_in w w.phase

learned_taken : (w : VipWord) (p : Phase) → learned_in p w.cur w.next ≡ taken_in w p
learned_taken w Steady = refl
learned_taken w Recording = refl
learned_taken w Holding = refl
learned_taken w Transit = refl

-- the word before a phase gives what the phase's own does, where it isn't Holding's
before_taken : (u : PoolUpdate) (q : Phase) → (word_before u q).phase ≢ Holding → taken_by (word_before u q) ≡ taken_by (phase_word u q)
before_taken u Steady n = refl
before_taken u Recording n = refl
before_taken u Holding n = refl
before_taken u Transit n = absurd (n refl)

module _ (s : Core) (i : Invariant s) where
  -- a word that a packet may have loaded, other than Holding's, gives what the present one does
  loaded_taken : (p entered vip : ℕ) (w : VipWord) → (w ≡ vip_at s.controller.vips vip) ⊎ HasEarlier s.controller.job p entered vip w
      → w.phase ≢ Holding → taken_by w ≡ taken_by (vip_at s.controller.vips vip)
  loaded_taken p entered vip w (inl h) n = ap taken_by h
  loaded_taken p entered vip w (inr h) n =
      let a = earlier_at s.config s.controller.update s.controller.vips s.controller.job i.update.update.phase p entered vip w h in
      ap taken_by a.word
      ∙ (before_taken a.u a.phase (subst (λ z. z.phase ≢ Holding) a.word n) ∙ (ap taken_by (sym a.now) ∙ ap (λ v. taken_by (vip_at s.controller.vips v)) (sym a.own)))

  module _ (p : ℕ) (f : Flight) (a : FlightHolds s.controller.vips s.controller.job (printed s) p f) where
    abbrev Takes : ℕ → Type 0
    Takes n = n ≡ next_number s f.packet.key.vip

    takes : f.vip.phase ≢ Holding → Takes (taken_by f.vip)
    takes n = loaded_taken p f.entered f.packet.key.vip f.vip a.word n ∙ ap taken_by (sym (vip_loaded s i f.packet.key.vip))

    -- what it will choose
    misses : OnMissed f.vip f.vip.phase Takes
    misses = at f.vip.phase refl
      where
        at : (q : Phase) → f.vip.phase ≡ q → OnMissed f.vip q Takes
        at Steady e = ap (taken_in f.vip) (sym e) ∙ takes (λ h. steady (sym e ∙ h))
          where
            steady : Steady ≡ Holding → ⊥
            steady e = cc
        at Recording e = ap (taken_in f.vip) (sym e) ∙ takes (λ h. recording (sym e ∙ h))
          where
            recording : Recording ≡ Holding → ⊥
            recording e = cc
        at Holding e = tt
        at Transit e = ap (taken_in f.vip) (sym e) ∙ takes (λ h. transit (sym e ∙ h))
          where
            transit : Transit ≡ Holding → ⊥
            transit e = cc

    -- what it has chosen
    chose : (n : ℕ) → ChoosesBy f.vip n → Takes n
    chose n c = c.0 ∙ (learned_taken f.vip f.vip.phase ∙ takes c.1)

    judged : (v : Verdict) → (missed : OnMissing (Judged v last.Out) (λ looks. OnVersion v (ChoosesBy f.vip))) → OnVersion v Takes
    judged (verdict.To server version pool) h = chose version h
    judged (verdict.Down server version pool) h = chose version h
    judged v h = tt

    chosen : (leg : Leg) → OnMissing leg (λ looks. OnChoice leg (ChoosesBy f.vip)) → OnChosen f.vip leg Takes
    chosen (Look place rest) h = misses
    chosen (Hit place version) h = tt
    chosen (Filter bit rest) h = misses
    chosen (Chosen version load) h = chose version h
    chosen (Judged v at) h = judged v h

pub openers_learn : OpenersLearn
openers_learn s i p v q =
    leg_both v.stage (FlightHolds s.controller.vips s.controller.job (printed s) p)
    (LegHolds s.config (bit_words s.words) s.controller.named s.controller.numbers s.controller.rings s.controller.job p v.pushed)
    (λ f leg. f.packet.kind ≡ Opener → OnChosen f.vip leg (λ n. n ≡ next_number s f.packet.key.vip))
    (λ f leg a h e.
    chosen s i p f a leg (subst (λ k. IfOpener k (OnMissing leg (λ looks. OnChoice leg (ChoosesBy f.vip)))) e h.choice))
    (i.flight.flights p v q) (i.flight.legs p v q)
