-- A key's entry, the reports that tell it as learned and the openers that may learn it have one version.
use Rattle.std.proofs.Common.{◌≡◌, ℕ, true, false, true≢false, ◌⊎◌, slice_get, Some, sym, ap, ◌∙◌, subst, inl, inr}
use Rattle.std.proofs.lemmas.Option.{same_Some}
use Rattle.sr_base.specs.Key.{KeyView}
use Rattle.sr_base.specs.Layout.{LayoutView}
use Rattle.sr_base.specs.declared.kind.Kind.TheVariants.{Opener}
use Rattle.sr_base.specs.declared.place.Place.{Place}
use Rattle.sr_base.specs.declared.vip_word.Phase.TheVariants.{Steady, Transit}
use Rattle.sr_inv_facts.specs.Flying.{OnChoice, OnFlight, OnLeg, OnMissing, OnUnmatched}
use Rattle.sr_inv_facts.specs.InFilter.{IfGiven, IfReplaced, IsOfWord}
use Rattle.sr_inv_facts.specs.InFlight.{ChoosesBy, FlightHolds, LegHolds}
use Rattle.sr_inv_facts.specs.InShape.{LegFits, StageFits}
use Rattle.sr_inv_facts.specs.Invariant.{Invariant}
use Rattle.sr_inv_facts.specs.OnTrack.{GoesBy, IsKnown, IsOnDuty}
use Rattle.sr_inv_facts.specs.Readings.{bit_words, entry_words, is_marked, ring_words}
use Rattle.sr_inv_matching.proofs.Unmatching.{opener_has}
use Rattle.sr_inv_table.proofs.Matching.{own_live}
use Rattle.sr_inv_table.specs.Learning.{HasChosen, HasVersion, MayLearn, VersionsAreOne}
use Rattle.sr_inv_track.proofs.Agreeing.{Suits, opener_agrees, words_agree}
use Rattle.sr_inv_track.proofs.Known.{PlacedAs, Waits, known_cases}
use Rattle.sr_inv_track.proofs.Missing.{IsKept, IsUpdated, phase_is, updated}
use Rattle.sr_machine.specs.Core.{Core, printed}
use Rattle.sr_machine.specs.Deciding.{vip_at}
use Rattle.sr_machine.specs.Stores.{phase_word}
use Rattle.sr_machine.specs.declared.flight.Flight.{Flight}
use Rattle.sr_machine.specs.declared.leg.Leg.{Leg}
use Rattle.sr_machine.specs.declared.leg.Leg.TheVariants.{Chosen, Judged}
use Rattle.sr_machine.specs.declared.pipe_view.PipeView.{PipeView}
use Rattle.sr_machine.specs.declared.stage.Stage.{Stage}
use Rattle.sr_machine.specs.declared.stage.Stage.TheVariants.{Fly}
use Rattle.sr_law.specs.declared.verdict.Verdict.TheVariants as verdict
use Rattle.sr_machine.specs.declared.leg.Last.TheVariants as last

-- a packet that goes by a version has chosen it
goes_chosen : (l : LayoutView) (w : Place → ℕ) (bits : ℕ → ℕ) (f : Flight) (leg : Leg) (m n : ℕ) → HasChosen leg m → GoesBy l w bits n f leg → m ≡ n
goes_chosen l w bits f (Chosen version load) m n c g = sym c ∙ g
goes_chosen l w bits f (Judged (verdict.To server version pool) last.Ring) m n c g = sym c ∙ g
goes_chosen l w bits f (Judged (verdict.To server version pool) (last.Mark bit rest)) m n c g = sym c ∙ g
goes_chosen l w bits f (Judged (verdict.To server version pool) last.Push) m n c g = sym c ∙ g
goes_chosen l w bits f leg m n c g = absurd c

-- what an opener has chosen it chose by the word that it loaded
choice_of : (leg : Leg) (m : ℕ) (P : ℕ → Type 0) → HasChosen leg m → OnMissing leg (λ looks. OnChoice leg P) → P m
choice_of (Chosen version load) m P c h = subst P c h
choice_of (Judged (verdict.To server version pool) last.Ring) m P c h = subst P c h
choice_of (Judged (verdict.To server version pool) (last.Mark bit rest)) m P c h = subst P c h
choice_of (Judged (verdict.To server version pool) last.Push) m P c h = subst P c h
choice_of leg m P c h = absurd c

module _ (s : Core) (i : Invariant s) where
  abbrev l : LayoutView
  l = s.config.layout

  abbrev w : Place → ℕ
  w = entry_words s.words

  abbrev bits : ℕ → ℕ
  bits = bit_words s.words

  -- ---- versions that a key waits or was learned with

  kept_one : (key : KeyView) (m n : ℕ) → IsKept s i key m → IsKept s i key n → m ≡ n
  kept_one key m n a b = at a.of_word b.of_word
    where
      -- the one is current and the other the next, and the key is in the filter and isn't
      apart : (x y : ℕ) → IsKept s i key x → IsKept s i key y → x ≡ (vip_at s.controller.vips key.vip).cur
          → (vip_at s.controller.vips key.vip).phase ≡ Transit → y ≡ (vip_at s.controller.vips key.vip).next → ⊥
      apart x y a b cur t next = true≢false (sym (was.0 (cur ∙ ap (λ z. z.cur) here)) ∙ is.1 (next ∙ ap (λ z. z.next) here))
        where
          moving : Steady ≡ Transit → ⊥
          moving e = cc

          u : IsUpdated s i key.vip
          u = updated s i key.vip (λ e. moving (sym e ∙ t))

          word : vip_at s.controller.vips u.update.vip ≡ phase_word u.update Transit
          word =
              phase_is s i u.update Transit (vip_at s.controller.vips u.update.vip) u.word (ap (λ v. (vip_at s.controller.vips v).phase) (sym u.own) ∙ t) (λ e. cc)

          here : vip_at s.controller.vips key.vip ≡ phase_word u.update Transit
          here = ap (vip_at s.controller.vips) u.own ∙ word

          was : IfReplaced u.update x (is_marked l bits key ≡ true) × IfGiven u.update x (is_marked l bits key ≡ false)
          was = a.marks u.update u.is u.own (ap (λ z. z.phase) word)

          is : IfReplaced u.update y (is_marked l bits key ≡ true) × IfGiven u.update y (is_marked l bits key ≡ false)
          is = b.marks u.update u.is u.own (ap (λ z. z.phase) word)

      at : IsOfWord (vip_at s.controller.vips key.vip) m → IsOfWord (vip_at s.controller.vips key.vip) n → m ≡ n
      at (inl c) (inl d) = c ∙ sym d
      at (inl c) (inr d) = absurd (apart m n a b c d.0 d.1)
      at (inr c) (inl d) = absurd (apart n m b a d c.0 c.1)
      at (inr c) (inr d) = c.1 ∙ sym d.1

  -- ---- by the entry or by a report

  known_one : (key : KeyView) (m n : ℕ) → IsKnown l (ring_words s.words) s.controller.book.entries key m
      → IsKnown l (ring_words s.words) s.controller.book.entries key n → m ≡ n
  known_one key m n a b = at (known_cases s i key m a) (known_cases s i key n b)
    where
      at : PlacedAs s i key m ⊎ Waits s i key m → PlacedAs s i key n ⊎ Waits s i key n → m ≡ n
      at (inl x) (inl y) =
          sym x.version ∙ (ap (λ e. e.version) (same_Some x.entry y.entry (sym x.found ∙ y.found)) ∙ y.version)
      at (inl x) (inr y) = absurd (own_live s i key x.entry x.place x.found x.stands y.unspoken)
      at (inr x) (inl y) = absurd (own_live s i key y.entry y.place y.found y.stands x.unspoken)
      at (inr x) (inr y) = kept_one key m n x.kept y.kept

  -- ---- by an opener

  -- it goes by the version of the entry or of a report
  opener_known : (key : KeyView) (m n : ℕ) (a : Stage)
      → OnLeg a (λ f leg. (n : ℕ) → IsKnown l (ring_words s.words) s.controller.book.entries f.packet.key n → IsOnDuty (printed s) f → GoesBy l w bits n f leg)
      → MayLearn key m a → IsKnown l (ring_words s.words) s.controller.book.entries key n → m ≡ n
  opener_known key m n (Fly f leg) h c known =
      goes_chosen l w bits f leg m n c.2 (h n (subst (λ k. IsKnown l (ring_words s.words) s.controller.book.entries k n) (sym c.1) known) (inl c.0))
  opener_known key m n a h c known = absurd c

  -- what is known of one that may learn
  record Learner (p : ℕ) (key : KeyView) (m : ℕ) : Type 0 where
    flight : Flight
    leg : Leg
    opener : flight.packet.kind ≡ Opener
    own : flight.packet.key ≡ key
    chosen : HasChosen leg m
    loaded : FlightHolds s.controller.vips s.controller.job (printed s) p flight
    fits : LegFits l flight leg
    choice : OnUnmatched flight leg (λ looks. OnChoice leg (ChoosesBy flight.vip))

  learner : (p : ℕ) (v : PipeView) (key : KeyView) (m : ℕ) (a : Stage) → OnFlight a (FlightHolds s.controller.vips s.controller.job (printed s) p)
      → OnLeg a (LegHolds s.config bits s.controller.named s.controller.numbers s.controller.rings s.controller.job p v.pushed) → StageFits l a
      → MayLearn key m a → Learner p key m
  learner p v key m (Fly f leg) h k fits c = record {
    flight = f;
    leg = leg;
    opener = c.0;
    own = c.1;
    chosen = c.2;
    loaded = h;
    fits = fits.1;
    choice = k.choice;
  }
  learner p v key m a h k fits c = absurd c

  learner_at : (key : KeyView) (m p : ℕ) (v : PipeView) → slice_get s.pipes p ≡ Some v → MayLearn key m v.stage → Learner p key m
  learner_at key m p v q c =
      learner p v key m v.stage (i.flight.flights p v q) (i.flight.legs p v q) (i.shape.pipes.stage p v q) c

  -- two of them agree
  learners_one : (key : KeyView) (m n p q : ℕ) → Learner p key m → Learner q key n → m ≡ n
  learners_one key m n p q a b =
      sym (goes_chosen l w bits b.flight b.leg n m b.chosen (opener_agrees s i w bits b.flight m b.opener suits b.leg b.fits b.choice))
    where
      chose : ChoosesBy a.flight.vip m
      chose =
          choice_of a.leg m (ChoosesBy a.flight.vip) a.chosen
          (opener_has a.flight.packet.kind (OnMissing a.leg (λ looks. OnChoice a.leg (ChoosesBy a.flight.vip))) a.opener a.choice)

      suits : Suits b.flight.vip m
      suits =
          words_agree s i p q a.flight b.flight m (ap (λ k. k.vip) (a.own ∙ sym b.own)) a.loaded.word b.loaded.word chose

  one : (key : KeyView) (m n : ℕ) → HasVersion s key m → HasVersion s key n → m ≡ n
  one key m n (inl e) (inl d) = known_one key m n (inl e) (inl d)
  one key m n (inl e) (inr (inl r)) = known_one key m n (inl e) (inr r)
  one key m n (inr (inl r)) (inl d) = known_one key m n (inr r) (inl d)
  one key m n (inr (inl r)) (inr (inl t)) = known_one key m n (inr r) (inr t)
  one key m n (inr (inr (p, v, q, c))) (inl d) = opener_known key m n v.stage (i.track.track.track p v q) c (inl d)
  one key m n (inr (inr (p, v, q, c))) (inr (inl t)) = opener_known key m n v.stage (i.track.track.track p v q) c (inr t)
  one key m n (inl e) (inr (inr (p, v, q, c))) = sym (opener_known key n m v.stage (i.track.track.track p v q) c (inl e))
  one key m n (inr (inl r)) (inr (inr (p, v, q, c))) = sym (opener_known key n m v.stage (i.track.track.track p v q) c (inr r))
  one key m n (inr (inr (p, v, q, c))) (inr (inr (o, u, t, d))) =
      learners_one key m n p o (learner_at key m p v q c) (learner_at key n o u t d)

pub one_version : (s : Core) → Invariant s → VersionsAreOne s
one_version s i = one s i
