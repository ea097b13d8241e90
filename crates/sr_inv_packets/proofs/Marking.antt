-- The keys that keep the version of their virtual address are in the transit filter.
use Rattle.std.proofs.Common.{◌≡◌, ℕ, Bool, true, false, ◌≢◌, ◌⊎◌, ◌==◌, ◌&&◌, nat_lt, Some, None, Option, sym, refl, ap, ◌∙◌, subst, inl, inr, arith}
use Rattle.std.proofs.lemmas.Bool.Decides.{nat_tests}
use Rattle.sr_base.specs.Key.{KeyView}
use Rattle.sr_base.specs.declared.vip_word.Phase.{Phase}
use Rattle.sr_base.specs.declared.vip_word.Phase.TheVariants.{Steady, Recording, Transit}
use Rattle.sr_inv_facts.proofs.Lists.{all_then}
use Rattle.sr_inv_facts.specs.InFilter.{EntryMarked, KeyMarked, LearnMarked, OfUpdate, PendingMarked, ReportMarked, is_settling, phase_at}
use Rattle.sr_inv_facts.specs.InUpdate.{IsAside}
use Rattle.sr_inv_facts.specs.Invariant.{Invariant}
use Rattle.sr_inv_facts.specs.Readings.{bit_words, is_marked}
use Rattle.sr_inv_filter.proofs.LoadedPhases.{phase_word_is, steady_recording, steady_transit}
use Rattle.sr_inv_packets.proofs.Numbers.{vip_loaded}
use Rattle.sr_inv_packets.proofs.Parts.{learn_then}
use Rattle.sr_inv_packets.specs.Filter.{AwaitedOrMarked, IsMarked, KeptMarked, RecordedMarked, word_of}
use Rattle.sr_machine.specs.Core.{Core}
use Rattle.sr_machine.specs.Deciding.{vip_at}
use Rattle.sr_machine.specs.declared.pool_update.PoolUpdate.{PoolUpdate}
use Rattle.sr_shadow.specs.Entry.{is_pending}
use Rattle.sr_shadow.specs.declared.entry.Entry.{Entry}
use Rattle.sr_update.specs.Waits.{recording_waits_for}

-- the virtual address's update, in this phase
record Updated (s : Core) (vip : ℕ) (p : Phase) : Type 0 where
  u : PoolUpdate
  is : s.controller.update ≡ Some u
  own : vip ≡ u.vip
  phase : phase_at s.controller.vips u ≡ p

module _ (s : Core) (i : Invariant s) where
  -- a virtual address whose word isn't Steady is the update's
  updated : (vip : ℕ) (p : Phase) → (word_of s vip).phase ≡ p → (Steady ≡ p → ⊥) → Updated s vip p
  updated vip p e n = at s.controller.update refl
    where
      phase : (vip_at s.controller.vips vip).phase ≡ p
      phase = ap (λ w. w.phase) (sym (vip_loaded s i vip)) ∙ e

      at : (o : Option PoolUpdate) → s.controller.update ≡ o → Updated s vip p
      at None q = absurd (n (sym (i.update.update.others vip (subst (λ o. IsAside o vip) (sym q) tt)) ∙ phase))
      at (Some u) q = by (vip == u.vip) refl
        where
          by : (b : Bool) → (vip == u.vip) ≡ b → Updated s vip p
          by true t =
              let same : vip ≡ u.vip = grind (arith, nat_tests) in
              record { u = u; is = q; own = same; phase = ap (λ v. (vip_at s.controller.vips v).phase) (sym same) ∙ phase }
          by false t =
              let other : vip ≢ u.vip = grind (arith, nat_tests) in
              absurd (n (sym (i.update.update.others vip (subst (λ o. IsAside o vip) (sym q) other)) ∙ phase))

  -- in Transit the current version is the one that is replaced
  current_is : (vip : ℕ) (t : Updated s vip Transit) → (word_of s vip).cur ≡ t.u.replaced
  current_is vip t =
      ap (λ w. w.cur) (vip_loaded s i vip) ∙ (ap (λ v. (vip_at s.controller.vips v).cur) t.own
      ∙ ap (λ w. w.cur) (phase_word_is s i t.u Transit t.is t.phase steady_transit))

  of_update : (u : PoolUpdate) (key : KeyView) (P : PoolUpdate → Type 0) → s.controller.update ≡ Some u → key.vip ≡ u.vip
      → OfUpdate s.controller.update key P → P u
  of_update u key P e own h = subst (λ o. OfUpdate o key P) e h own

  marked_of : (u : PoolUpdate) (p : Phase) (settling awaited : Bool) (n : ℕ) (key : KeyView) → phase_at s.controller.vips u ≡ p
      → KeyMarked u (phase_at s.controller.vips u) settling awaited n (is_marked s.config.layout (bit_words s.words) key)
      → KeyMarked u p settling awaited n (is_marked s.config.layout (bit_words s.words) key)
  marked_of u p settling awaited n key e h =
      subst (λ z. KeyMarked u z settling awaited n (is_marked s.config.layout (bit_words s.words) key)) e h

  abbrev Pending : Entry → Type 0
  Pending =
      PendingMarked s.config.layout (bit_words s.words) s.controller.update s.controller.vips s.controller.job s.controller.mark

  pending_of : (u : PoolUpdate) (p : Phase) (e : Entry) → s.controller.update ≡ Some u → phase_at s.controller.vips u ≡ p → e.key.vip ≡ u.vip
      → is_pending e ≡ true → Pending e
      → KeyMarked u p (is_settling Recording s.controller.job) (nat_lt e.taken s.controller.mark) e.version (is_marked s.config.layout (bit_words s.words) e.key)
  pending_of u p e q phase own waits h =
      marked_of u p (is_settling Recording s.controller.job) (nat_lt e.taken s.controller.mark) e.version e.key phase
      (of_update u e.key (λ u. EntryMarked s.config.layout (bit_words s.words) s.controller.vips s.controller.job s.controller.mark u e) q own (h waits).1)

  -- ---- in Recording

  recorded_entry : (vip : ℕ) (t : Updated s vip Recording) → is_settling Recording s.controller.job ≡ false → (e : Entry) → Pending e
      → AwaitedOrMarked s vip e
  recorded_entry vip t over e h own waits = at (nat_lt e.taken s.controller.mark) refl (pending_of t.u Recording e t.is t.phase (own ∙ t.own) waits h)
    where
      waited : (a b c : Bool) → a ≡ true → b ≡ true → c ≡ true → (a && (b && c)) ≡ true
      waited true true true p q r = refl
      waited true true false p q r = cc
      waited true false c p q r = cc
      waited false b c p q r = cc

      at : (b : Bool) → nat_lt e.taken s.controller.mark ≡ b
          → (is_settling Recording s.controller.job ≡ false → b ≡ false → is_marked s.config.layout (bit_words s.words) e.key ≡ true)
          → (recording_waits_for vip s.controller.mark e ≡ true) ⊎ IsMarked s e.key
      at true q m = inl (waited (is_pending e) (e.key.vip == vip) (nat_lt e.taken s.controller.mark) waits (grind (arith, nat_tests)) q)
      at false q m = inr (m over refl)

  -- ---- in Transit

  kept_entry : (vip : ℕ) → Updated s vip Transit → (e : Entry) → Pending e → e.key.vip ≡ vip → is_pending e ≡ true
      → e.version ≡ (word_of s vip).cur → IsMarked s e.key
  kept_entry vip t e h own waits v =
      (pending_of t.u Transit e t.is t.phase (own ∙ t.own) waits h).0 (v ∙ current_is vip t)

  kept_learn : (vip : ℕ) → Updated s vip Transit → (key : KeyView) (n : ℕ)
      → ReportMarked s.config.layout (bit_words s.words) s.controller.update s.controller.vips s.controller.job key n → key.vip ≡ vip
      → n ≡ (word_of s vip).cur → IsMarked s key
  kept_learn vip t key n h own v =
      let m = of_update t.u key (LearnMarked s.config.layout (bit_words s.words) s.controller.vips s.controller.job key n) t.is (own ∙ t.own) h.1 in
      (marked_of t.u Transit (is_settling Recording s.controller.job) false n key t.phase m.marked).0 (v ∙ current_is vip t)

pub recorded : RecordedMarked
recorded s i vip e over =
    let t = updated s i vip Recording e steady_recording in
    all_then (Pending s i) (AwaitedOrMarked s vip) (λ x h. recorded_entry s i vip t over x h) s.controller.book.entries i.filter.filter.pending

pub kept : KeptMarked
kept s i vip e =
    let t = updated s i vip Transit e steady_transit in
    record {
      pending =
          all_then (Pending s i) (λ x. x.key.vip ≡ vip → is_pending x ≡ true → x.version ≡ (word_of s vip).cur → IsMarked s x.key)
          (λ x h. kept_entry s i vip t x h) s.controller.book.entries i.filter.filter.pending;
      learns = λ pipe cell w read.
          learn_then w.kind
          (ReportMarked s.config.layout (bit_words s.words) s.controller.update s.controller.vips s.controller.job w.key w.version)
          (w.key.vip ≡ vip → w.version ≡ (word_of s vip).cur → IsMarked s w.key) (λ h. kept_learn s i vip t w.key w.version h)
          (i.filter.filter.reports pipe cell w read);
    }
