-- Where a packet goes that finds no entry: by the version of a key that is pending or learned.
use Rattle.std.proofs.Common.{◌≡◌, ℕ, true, false, nat_lt, ◌⊎◌, ◌≢◌, List, Some, None, Option, sym, refl, ap, ◌∙◌, subst, inl, inr}
use Rattle.std.specs.Prelude.{is_none}
use Rattle.std.proofs.lemmas.Bool.{cases_eq}
use Rattle.sr_base.specs.Key.{KeyView}
use Rattle.sr_base.specs.Layout.{LayoutView}
use Rattle.sr_base.specs.declared.kind.Kind.TheVariants.{Opener}
use Rattle.sr_base.specs.declared.vip_word.Phase.{Phase}
use Rattle.sr_base.specs.declared.vip_word.Phase.TheVariants.{Steady, Recording, Holding, Transit}
use Rattle.sr_base.specs.declared.vip_word.VipWord.{VipWord}
use Rattle.sr_inv_facts.proofs.Books.{found_key}
use Rattle.sr_inv_facts.proofs.Lists.{all_in, of_some}
use Rattle.sr_inv_facts.specs.Doing.{HasEarlier, word_before}
use Rattle.sr_inv_facts.specs.InFilter.{EntryMarked, IfGiven, IfReplaced, IsOfWord, KeyMarked, LearnMarked, OfUpdate, PendingMarked, is_settling, phase_at}
use Rattle.sr_inv_facts.specs.InFlight.{HasWord}
use Rattle.sr_inv_facts.specs.InUpdate.{AtPhase, IsAside, IsWordOf, JobAt}
use Rattle.sr_inv_facts.specs.Invariant.{Invariant}
use Rattle.sr_inv_facts.specs.OnTrack.{GoesMissed, HeldIf}
use Rattle.sr_base.specs.declared.ring_word.RingKind.TheVariants.{Learn}
use Rattle.std.proofs.lemmas.Option.{same_Some}
use Rattle.sr_inv_facts.specs.Readings.{SomeLearn, bit_words, is_marked, ring_words}
use Rattle.sr_inv_matching.proofs.Members.{in_found}
use Rattle.sr_inv_track.proofs.Passing.{clear_goes, held_of, opener_bits, set_goes}
use Rattle.sr_machine.specs.Core.{Core}
use Rattle.sr_machine.specs.Deciding.{vip_at}
use Rattle.sr_machine.specs.Stages.{is_opener, key_bits}
use Rattle.sr_machine.specs.Stores.{phase_word}
use Rattle.sr_machine.specs.declared.flight.Flight.{Flight}
use Rattle.sr_machine.specs.declared.job.Job.{Job}
use Rattle.sr_machine.specs.declared.pool_update.PoolUpdate.{PoolUpdate}
use Rattle.sr_shadow.specs.Book.{entry_for}
use Rattle.sr_shadow.specs.Entry.{is_of}
use Rattle.sr_shadow.specs.declared.entry.Entry.{Entry}
use Rattle.sr_machine.specs.declared.draw.Draw.TheVariants as draw
use Rattle.sr_machine.specs.declared.job.Job.TheVariants as job
use Rattle.sr_machine.specs.declared.wait.Wait.TheVariants as wait

pub word_phase : (u : PoolUpdate) (p : Phase) → (phase_word u p).phase ≡ p
word_phase u Steady = refl
word_phase u Recording = refl
word_phase u Holding = refl
word_phase u Transit = refl

-- a word that a packet may have loaded before a phase, and that phase
pub record Before (update : Option PoolUpdate) (vips : List VipWord) (vip : ℕ) (w : VipWord) : Type 0 where
  pub update_is : PoolUpdate
  pub phase : Phase
  pub own : vip ≡ update_is.vip
  pub word : w ≡ word_before update_is phase
  pub now : AtPhase update vips update_is phase

module _ (s : Core) (i : Invariant s) where
  abbrev l : LayoutView
  l = s.config.layout

  abbrev vips : List VipWord
  vips = s.controller.vips

  abbrev bits : ℕ → ℕ
  bits = bit_words s.words

  abbrev es : List Entry
  es = s.controller.book.entries

  -- ---- updates

  -- the update of a virtual address
  pub record IsUpdated (vip : ℕ) : Type 0 where
    pub update : PoolUpdate
    pub is : s.controller.update ≡ Some update
    pub own : vip ≡ update.vip
    pub word : IsWordOf update (vip_at vips update.vip)

  -- a virtual address that isn't steady is the one of the update
  pub updated : (vip : ℕ) → (vip_at vips vip).phase ≢ Steady → IsUpdated vip
  updated vip apart = at s.controller.update refl
    where
      at : (o : Option PoolUpdate) → s.controller.update ≡ o → IsUpdated vip
      at None q = absurd (apart (i.update.update.others vip (subst (λ o. IsAside o vip) (sym q) tt)))
      at (Some u) q = by (cases_eq vip u.vip)
        where
          by : (vip ≡ u.vip) ⊎ (vip ≢ u.vip) → IsUpdated vip
          by (inl same) = record {
            update = u;
            is = q;
            own = same;
            word = of_some (λ u. IsWordOf u (vip_at vips u.vip)) s.controller.update u i.update.update.word q;
          }
          by (inr other) = absurd (apart (i.update.update.others vip (subst (λ o. IsAside o vip) (sym q) other)))

  -- in a phase the word is the update's of this phase
  pub phase_is : (u : PoolUpdate) (p : Phase) (w : VipWord) → IsWordOf u w → w.phase ≡ p → p ≢ Steady → w ≡ phase_word u p
  phase_is u p w (inl e) q apart = absurd (apart (sym q ∙ ap (λ z. z.phase) e))
  phase_is u p w (inr (o, e)) q apart = e ∙ ap (phase_word u) (sym (word_phase u o) ∙ (ap (λ z. z.phase) (sym e) ∙ q))

  -- what a packet may have loaded before a phase
  pub before : (j : Job) (p entered vip : ℕ) (w : VipWord) → JobAt s.config s.controller.update vips j → HasEarlier j p entered vip w
      → Before s.controller.update vips vip w
  before (job.Draw (draw.Grace (wait.Comes u q))) p e vip w a h = record { update_is = u; phase = q; own = h.0; word = h.1; now = a }
  before (job.Draw (draw.Comes u Steady)) p e vip w a h = record { update_is = u; phase = Steady; own = h.0; word = h.1; now = a }
  before (job.Draw (draw.Comes u Transit)) p e vip w a h = record { update_is = u; phase = Transit; own = h.0; word = h.1; now = a }
  before (job.Pass g n (wait.Comes u q)) p e vip w a h = record { update_is = u; phase = q; own = h.0.0; word = h.0.1; now = a }
  before j p e vip w a h = absurd h

  -- ---- a version that a key waits or was learned with

  pub record IsKept (key : KeyView) (n : ℕ) : Type 0 where
    pub of_word : IsOfWord (vip_at vips key.vip) n
    pub marks : (u : PoolUpdate) → s.controller.update ≡ Some u → key.vip ≡ u.vip → phase_at vips u ≡ Transit
        → IfReplaced u n (is_marked l bits key ≡ true) × IfGiven u n (is_marked l bits key ≡ false)

  of_update : (o : Option PoolUpdate) (key : KeyView) (P : PoolUpdate → Type 0) (u : PoolUpdate) → o ≡ Some u → key.vip ≡ u.vip → OfUpdate o key P → P u
  of_update None key P u q e h = absurd cc
  of_update (Some v) key P u q e h =
      let same : v ≡ u = same_Some v u q in subst P same (h (e ∙ ap (λ z. z.vip) (sym same)))

  pub pending_kept : (key : KeyView) (e : Entry) → entry_for key es ≡ Some e → e.place ≡ None → IsKept key e.version
  pending_kept key e q none =
      let own : key ≡ e.key = found_key key es e q in
      let h = all_in (PendingMarked l bits s.controller.update vips s.controller.job s.controller.mark) es e i.filter.filter.pending (in_found (is_of key) es e q) (ap is_none none) in
      subst (λ k. IsKept k e.version) (sym own) (record {
        of_word = h.0;
        marks = λ u r v t.
            subst (λ p. KeyMarked u p (is_settling Recording s.controller.job) (nat_lt e.taken s.controller.mark) e.version (is_marked l bits e.key)) t
            (of_update s.controller.update e.key (λ u. EntryMarked l bits vips s.controller.job s.controller.mark u e) u r v h.1);
      })

  pub learned_kept : (key : KeyView) (n : ℕ) → SomeLearn l (ring_words s.words) key n → IsKept key n
  learned_kept key n (pipe, cell, read) =
      let h = i.filter.filter.reports pipe cell (record { kind = Learn; version = n; key = key }) read in
      record {
        of_word = h.0;
        marks = λ u r v t.
            subst (λ p. KeyMarked u p (is_settling Recording s.controller.job) false n (is_marked l bits key)) t
            (of_update s.controller.update key (LearnMarked l bits vips s.controller.job key n) u r v h.1).marked;
      }

  -- ---- a packet that finds nothing

  -- it has loaded the present word
  pub present_missed : (f : Flight) (n : ℕ) → IsKept f.packet.key n → f.vip ≡ vip_at vips f.packet.key.vip → GoesMissed l bits f n f.vip.phase
  present_missed f n k same = at f.vip.phase refl
    where
      w : VipWord
      w = vip_at vips f.packet.key.vip

      current : (p : Phase) → f.vip.phase ≡ p → (p ≡ Transit → ⊥) → f.vip.cur ≡ n
      current p q apart = by k.of_word
        where
          by : IsOfWord w n → f.vip.cur ≡ n
          by (inl e) = ap (λ z. z.cur) same ∙ sym e
          by (inr e) = absurd (apart (sym q ∙ (ap (λ z. z.phase) same ∙ e.0)))

      moving : f.vip.phase ≡ Transit → GoesMissed l bits f n Transit
      moving q = by k.of_word
        where
          u : IsUpdated f.packet.key.vip
          u = updated f.packet.key.vip (λ t. not_both (sym t ∙ (ap (λ z. z.phase) (sym same) ∙ q)))
            where
              not_both : Steady ≡ Transit → ⊥
              not_both t = cc

          word : vip_at vips u.update.vip ≡ phase_word u.update Transit
          word =
              phase_is u.update Transit (vip_at vips u.update.vip) u.word (ap (λ v. (vip_at vips v).phase) (sym u.own) ∙ (ap (λ z. z.phase) (sym same) ∙ q)) (λ t. cc)

          here : w ≡ phase_word u.update Transit
          here = ap (vip_at vips) u.own ∙ word

          marks : IfReplaced u.update n (is_marked l bits f.packet.key ≡ true) × IfGiven u.update n (is_marked l bits f.packet.key ≡ false)
          marks = k.marks u.update u.is u.own (ap (λ z. z.phase) word)

          by : IsOfWord w n → GoesMissed l bits f n Transit
          by (inl e) =
              set_goes l f n bits (key_bits l f.packet.key) (marks.0 (e ∙ ap (λ z. z.cur) here)) (ap (λ z. z.cur) same ∙ sym e)
          by (inr e) =
              clear_goes l f n bits (key_bits l f.packet.key) (marks.1 (e.1 ∙ ap (λ z. z.next) here)) (ap (λ z. z.next) same ∙ sym e.1)

      at : (p : Phase) → f.vip.phase ≡ p → GoesMissed l bits f n p
      at Steady q = current Steady q (λ t. cc)
      at Recording q = current Recording q (λ t. cc)
      at Holding q = held_of (is_opener f.packet.kind) (f.vip.cur ≡ n) (current Holding q (λ t. cc))
      at Transit q = moving q

  -- an opener may have loaded the word before
  pub opener_missed : (p : ℕ) (f : Flight) (n : ℕ) → IsKept f.packet.key n → f.packet.kind ≡ Opener → HasWord vips s.controller.job p f
      → GoesMissed l bits f n f.vip.phase
  opener_missed p f n k o (inl same) = present_missed f n k same
  opener_missed p f n k o (inr h) =
      earlier (before s.controller.job p f.entered f.packet.key.vip f.vip i.update.update.phase h)
    where
      earlier : Before s.controller.update vips f.packet.key.vip f.vip → GoesMissed l bits f n f.vip.phase
      earlier b = at b.phase refl
        where
          u : PoolUpdate
          u = b.update_is

          now : (q : Phase) → b.phase ≡ q → IsOfWord (phase_word u q) n
          now q e = subst (λ z. IsOfWord z n) (ap (vip_at vips) b.own ∙ (b.now.1 ∙ ap (phase_word u) e)) k.of_word

          was : (q : Phase) → b.phase ≡ q → f.vip ≡ word_before u q
          was q e = b.word ∙ ap (word_before u) e

          by_phase : (p : Phase) → f.vip.phase ≡ p → GoesMissed l bits f n p → GoesMissed l bits f n f.vip.phase
          by_phase p e h = subst (GoesMissed l bits f n) (sym e) h

          at : (q : Phase) → b.phase ≡ q → GoesMissed l bits f n f.vip.phase
          at Steady e = two (now Steady e)
            where
              two : IsOfWord (phase_word u Steady) n → GoesMissed l bits f n f.vip.phase
              two (inl t) =
                  by_phase Transit (ap (λ z. z.phase) (was Steady e)) (opener_bits l f n (λ place. 0) bits o (key_bits l f.packet.key) (ap (λ z. z.next) (was Steady e) ∙ sym t))
              two (inr t) = absurd cc
          at Recording e = two (now Recording e)
            where
              two : IsOfWord (phase_word u Recording) n → GoesMissed l bits f n f.vip.phase
              two (inl t) = by_phase Steady (ap (λ z. z.phase) (was Recording e)) (ap (λ z. z.cur) (was Recording e) ∙ sym t)
              two (inr t) = absurd cc
          at Holding e = two (now Holding e)
            where
              two : IsOfWord (phase_word u Holding) n → GoesMissed l bits f n f.vip.phase
              two (inl t) = by_phase Recording (ap (λ z. z.phase) (was Holding e)) (ap (λ z. z.cur) (was Holding e) ∙ sym t)
              two (inr t) = absurd cc
          at Transit e =
              by_phase Holding (ap (λ z. z.phase) (was Transit e)) (subst (λ b. HeldIf b (f.vip.cur ≡ n)) (sym (ap is_opener o)) tt)
