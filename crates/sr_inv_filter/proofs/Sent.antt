-- What is known of an opener that was sent, as it stores its report.
use Rattle.std.proofs.Common.{◌≡◌, ℕ, true, ◌&&◌, slice_get, Some, refl, ap, ◌∙◌, subst}
use Rattle.sr_base.specs.declared.kind.Kind.{Kind}
use Rattle.sr_base.specs.declared.kind.Kind.TheVariants.{Opener, Carry, Ending}
use Rattle.sr_base.specs.declared.vip_word.Phase.TheVariants.{Recording}
use Rattle.sr_inv_facts.specs.Flying.{IfOpener, OnFlight, OnLeg, OnMayLearn}
use Rattle.sr_inv_facts.specs.InFilter.{MayMarked}
use Rattle.sr_inv_facts.specs.InFlight.{Chooses, ChoosesBy, HasWord, LegSet}
use Rattle.sr_inv_facts.specs.Invariant.{Invariant}
use Rattle.sr_inv_facts.specs.Readings.{bit_words, is_marked}
use Rattle.sr_inv_filter.proofs.Learners.{learners_part}
use Rattle.sr_inv_flight.proofs.Choosing.{choices_part}
use Rattle.sr_inv_flight.proofs.FilterPlaces.{filters_part}
use Rattle.sr_inv_flight.proofs.LoadedWords.{words_part}
use Rattle.sr_machine.specs.Core.{Core}
use Rattle.sr_machine.specs.Stages.{is_opener, is_recorded, is_recording}
use Rattle.sr_machine.specs.declared.flight.Flight.{Flight}
use Rattle.sr_machine.specs.declared.leg.Leg.TheVariants.{Judged}
use Rattle.sr_machine.specs.declared.pipe_view.PipeView.{PipeView}
use Rattle.sr_machine.specs.declared.stage.Stage.TheVariants.{Fly}
use Rattle.sr_law.specs.declared.verdict.Verdict.TheVariants as verdict
use Rattle.sr_machine.specs.declared.leg.Last.TheVariants as last

pub opener_has : (kind : Kind) (P : Type 0) → kind ≡ Opener → IfOpener kind P → P
opener_has Opener P e h = h
opener_has Carry P e h = cc
opener_has Ending P e h = cc

opener_is : (kind : Kind) → kind ≡ Opener → is_opener kind ≡ true
opener_is Opener e = refl
opener_is Carry e = cc
opener_is Ending e = cc

module _ (s : Core) (i : Invariant s) (p : ℕ) (v : PipeView) (q : slice_get s.pipes p ≡ Some v) (f : Flight) (server version pool : ℕ) (e : v.stage ≡ Fly f (Judged (verdict.To server version pool) last.Push)) (o : f.packet.kind ≡ Opener) where
  pub sent_word : HasWord s.controller.vips s.controller.job p f
  sent_word = subst (λ z. OnFlight z (HasWord s.controller.vips s.controller.job p)) e (words_part s i p v q)

  pub sent_choice : ChoosesBy f.vip version
  sent_choice = opener_has f.packet.kind (ChoosesBy f.vip version) o (subst (λ z. OnLeg z Chooses) e (choices_part s i p v q)).choice

  -- where it loaded Recording its key is in the filter
  pub sent_marked : f.vip.phase ≡ Recording → is_marked s.config.layout (bit_words s.words) f.packet.key ≡ true
  sent_marked r =
      let recorded : is_recorded f (verdict.To server version pool) ≡ true =
      ap (λ b. b && is_recording f.vip.phase) (opener_is f.packet.kind o) ∙ ap is_recording r in
      (subst (λ z. OnLeg z (LegSet s.config.layout (bit_words s.words))) e (filters_part s i p v q)).1 recorded

  pub sent_may : MayMarked s.config.layout (bit_words s.words) s.controller.update s.controller.vips f.packet.key version
  sent_may =
      opener_has f.packet.kind (MayMarked s.config.layout (bit_words s.words) s.controller.update s.controller.vips f.packet.key version) o
      (subst (λ z. OnLeg z (λ f at. OnMayLearn f at (MayMarked s.config.layout (bit_words s.words) s.controller.update s.controller.vips f.packet.key))) e (learners_part s i p v q))
