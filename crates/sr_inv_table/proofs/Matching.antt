-- No live place speaks to a key that is about to be learned.
use Rattle.std.proofs.Common.{◌≡◌, ℕ, true, ◌⊎◌, List, [], Some, sym, refl, subst, inl, inr}
use Rattle.sr_base.specs.Key.{KeyView}
use Rattle.sr_base.specs.Layout.{LayoutView}
use Rattle.sr_base.specs.declared.kind.Kind.TheVariants.{Opener}
use Rattle.sr_base.specs.declared.place.Place.{Place}
use Rattle.sr_base.specs.declared.ring_word.RingKind.TheVariants.{Learn}
use Rattle.sr_hash.specs.Uses.{is_place_of}
use Rattle.sr_inv_facts.proofs.Books.{found_key}
use Rattle.sr_inv_facts.proofs.Lists.{all_in}
use Rattle.sr_inv_facts.proofs.Ranges.{entry_fits}
use Rattle.sr_inv_facts.specs.Doing.{MissedReserved}
use Rattle.sr_inv_facts.specs.Flying.{OnLeg, OnMissing, OnUnmatched}
use Rattle.sr_inv_facts.specs.InMatching.{IsUnspoken, OwnSpeak, Unmatched}
use Rattle.sr_inv_facts.specs.InShape.{PlaceFits}
use Rattle.sr_inv_facts.specs.Invariant.{Invariant}
use Rattle.sr_inv_facts.specs.Readings.{In, SpeaksLive, entry_words}
use Rattle.sr_inv_matching.proofs.Members.{in_found}
use Rattle.sr_inv_matching.proofs.Saying.{at_held, missed_reserved, own_said, reserved_not_live, speaks_live}
use Rattle.sr_inv_matching.proofs.Unmatching.{opener_has}
use Rattle.sr_inv_table.specs.Learning.{HasChosen, IsLearned, MayLearn}
use Rattle.sr_inv_table.specs.Matched.{NoOtherMatches, PlacedAreSettled}
use Rattle.sr_machine.specs.Core.{Core}
use Rattle.sr_machine.specs.Reads.{says}
use Rattle.sr_machine.specs.declared.flight.Flight.{Flight}
use Rattle.sr_machine.specs.declared.leg.Leg.{Leg}
use Rattle.sr_machine.specs.declared.leg.Leg.TheVariants.{Chosen, Judged}
use Rattle.sr_machine.specs.declared.stage.Stage.{Stage}
use Rattle.sr_machine.specs.declared.stage.Stage.TheVariants.{Fly}
use Rattle.sr_shadow.specs.Book.{entry_for}
use Rattle.sr_shadow.specs.Entry.{is_of}
use Rattle.sr_shadow.specs.declared.entry.Entry.{Entry}
use Rattle.sr_law.specs.declared.verdict.Verdict.TheVariants as verdict
use Rattle.sr_machine.specs.declared.leg.Last.TheVariants as last

-- one that has chosen has no place left to look at, and nothing has matched it
pub chosen_missing : (leg : Leg) (n : ℕ) (P : List Place → Type 0) → HasChosen leg n → OnMissing leg P → P []
chosen_missing (Chosen version load) n P c h = h
chosen_missing (Judged (verdict.To server version pool) last.Ring) n P c h = h
chosen_missing (Judged (verdict.To server version pool) (last.Mark bit rest)) n P c h = h
chosen_missing (Judged (verdict.To server version pool) last.Push) n P c h = h
chosen_missing leg n P c h = absurd c

module _ (s : Core) (i : Invariant s) where
  abbrev l : LayoutView
  l = s.config.layout

  abbrev es : List Entry
  es = s.controller.book.entries

  abbrev w : Place → ℕ
  w = entry_words s.words

  -- no place speaks live to an opener that may learn
  flight_unspoken : (p : ℕ) (f : Flight) (leg : Leg) (n : ℕ) → f.packet.kind ≡ Opener → HasChosen leg n
      → OnUnmatched f leg (Unmatched l w s.controller.job p f) → IsUnspoken l w f.packet.key
  flight_unspoken p f leg n o c h place own sp = at (looks place own (speaks_live (says l place f.packet.key (w place)) sp))
    where
      looks : Unmatched l w s.controller.job p f []
      looks =
          chosen_missing leg n (Unmatched l w s.controller.job p f) c (opener_has f.packet.kind (OnMissing leg (Unmatched l w s.controller.job p f)) o h)

      at : In place [] ⊎ MissedReserved s.controller.job p f.entered place → ⊥
      at (inl none) = none
      at (inr m) =
          let r = missed_reserved s i s.controller.job p f.entered place refl m in
          reserved_not_live l i.shape.config.layout r.put.place r.put.key f.packet.key r.fits.key.is_key
          (subst (λ x. SpeaksLive (says l r.put.place f.packet.key x)) r.word (subst (λ z. SpeaksLive (says l z f.packet.key (w z))) r.same sp))

  stage_unspoken : (p : ℕ) (key : KeyView) (n : ℕ) (a : Stage)
      → OnLeg a (λ f leg. OnUnmatched f leg (Unmatched l w s.controller.job p f)) → MayLearn key n a → IsUnspoken l w key
  stage_unspoken p key n (Fly f leg) h m = subst (IsUnspoken l w) m.1 (flight_unspoken p f leg n m.0 m.2 h)
  stage_unspoken p key n a h m = absurd m

  pub learned_unspoken : (key : KeyView) (n : ℕ) → IsLearned s key n → IsUnspoken l w key
  learned_unspoken key n (inl (pipe, cell, read)) =
      i.matching.matching.unlearned pipe cell (record { kind = Learn; version = n; key = key }) read
  learned_unspoken key n (inr (p, v, q, m)) = stage_unspoken p key n v.stage (i.matching.matching.unmatched p v q) m

  -- the own place of a key speaks live to it
  own_place : (key : KeyView) (e : Entry) (place : Place) → entry_for key es ≡ Some e → e.place ≡ Some place
      → is_place_of l.shape key place ≡ true
  own_place key e place q t =
      let fits = entry_fits s.config i.shape.config.layout s.controller i.shape.book i.shape.controller key e q in
      subst (λ k. is_place_of l.shape k place ≡ true) (sym (found_key key es e q)) (subst (PlaceFits l.shape e.key) t fits.place)

  pub own_live : (key : KeyView) (e : Entry) (place : Place) → entry_for key es ≡ Some e → e.place ≡ Some place
      → IsUnspoken l w key → ⊥
  own_live key e place q t quiet =
      quiet place (own_place key e place q t) (subst SpeaksLive (sym (own_said s i key e place q (at_held place e t))) tt)

pub settled : (s : Core) → Invariant s → PlacedAreSettled s
settled s i key e place q t n learned = own_live s i key e place q t (learned_unspoken s i key n learned)

pub no_other : (s : Core) → Invariant s → NoOtherMatches s
no_other s i = record {
  learned = λ key n learned place m. learned_unspoken s i key n learned place m.0 m.1;
  registered = λ key e q out place m.
      let own : key ≡ e.key = found_key key s.controller.book.entries e q in
      all_in (OwnSpeak s.config.layout (entry_words s.words)) s.controller.book.entries e i.matching.matching.own
      (in_found (is_of key) s.controller.book.entries e q) out place
      (subst (λ k. is_place_of s.config.layout.shape k place ≡ true) own m.0)
      (subst (λ k. SpeaksLive (says s.config.layout place k (entry_words s.words place))) own m.1);
}
