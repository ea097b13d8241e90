-- What the tables and the rings of a state that meets the invariant say.
use Rattle.sr_base.specs.Key.{KeyView}
use Rattle.sr_base.specs.Layout.{LayoutView}
use Rattle.sr_base.specs.declared.kind.Kind.{Kind}
use Rattle.sr_base.specs.declared.kind.Kind.TheVariants.{Opener}
use Rattle.sr_base.specs.declared.place.Place.{Place}
use Rattle.sr_base.specs.declared.ring_word.RingKind.{RingKind}
use Rattle.sr_base.specs.declared.ring_word.RingKind.TheVariants.{Close, Learn, Punt}
use Rattle.sr_base.specs.declared.ring_word.RingWord.{RingWord}
use Rattle.sr_hash.specs.Uses.{is_place_of}
use Rattle.sr_inv_facts.proofs.CurrentVersions.{WordCurrent, present_current}
use Rattle.sr_inv_facts.proofs.Lists.{all_in, of_some}
use Rattle.sr_inv_facts.proofs.Ranges.{PutFits, put_fits}
use Rattle.sr_inv_facts.proofs.Reading.{report_fits}
use Rattle.sr_inv_facts.specs.Doing.{MissedReserved}
use Rattle.sr_inv_facts.specs.Flying.{IfOpener, IsLeaving, OnLeg, OnUnmatched, SomeLeaving}
use Rattle.sr_inv_facts.specs.InFilter.{IsOfWord, ReportMarked}
use Rattle.sr_inv_facts.specs.InFlight.{LegHolds}
use Rattle.sr_inv_facts.specs.InJobs.{JobHolds, PutHolds, seen}
use Rattle.sr_inv_facts.specs.InMatching.{Judged, Unmatched}
use Rattle.sr_inv_facts.specs.InShape.{EntryFits}
use Rattle.sr_inv_facts.specs.Invariant.{Invariant}
use Rattle.sr_inv_facts.specs.OnTrack.{GoesBy, IsKnown, IsOnDuty}
use Rattle.sr_inv_facts.specs.Readings.{EachLearn, IfLearn, In, SomeLearn, Speaks, SpeaksLive, bit_words, entry_words, ring_words}
use Rattle.sr_inv_matching.proofs.Members.{in_own}
use Rattle.sr_inv_matching.proofs.Saying.{at_held, own_said, reserved_is, reserved_speaks, stands_self}
use Rattle.sr_machine.specs.Core.{Core, printed}
use Rattle.sr_machine.specs.Deciding.{named_at, vip_at}
use Rattle.sr_machine.specs.Reads.{read_report, says, stands_for}
use Rattle.sr_machine.specs.declared.flight.Flight.{Flight}
use Rattle.sr_machine.specs.declared.leg.Last.{Last}
use Rattle.sr_machine.specs.declared.pipe_view.PipeView.{PipeView}
use Rattle.sr_machine.specs.declared.put.Put.{Put}
use Rattle.sr_machine.specs.declared.stage.Stage.{Stage}
use Rattle.sr_shadow.specs.declared.entry.Entry.{Entry}
use Rattle.sr_update.specs.Numbers.{state_of}
use Rattle.sr_update.specs.declared.number_state.NumberState.TheVariants.{Current}
use Rattle.std.proofs.Common.{List, Some, [], ap, false, inl, inr, refl, slice_get, subst, sym, true, true≢false, ℕ, ◌∙◌, ◌≡◌, ◌≢◌, ◌⊎◌}
use Rattle.sr_machine.specs.declared.store.Store.TheVariants as store
use Rattle.sr_machine.specs.declared.job.Job.TheVariants as job
use Rattle.sr_machine.specs.declared.leg.Leg.TheVariants as leg
use Rattle.sr_machine.specs.declared.leg.Last.TheVariants as last
use Rattle.sr_machine.specs.declared.stage.Stage.TheVariants as stage
use Rattle.sr_machine.specs.declared.said.Said.TheVariants as said
use Rattle.sr_machine.specs.declared.name.Name.TheVariants as name
use Rattle.sr_law.specs.declared.verdict.Verdict.TheVariants as verdict

-- ---- openers that are sent

-- an opener whose line is to be drawn, sent by this version
pub record Leaves (a : Stage) (key : KeyView) (version : ℕ) : Type 0 where
  pub flight : Flight
  pub server : ℕ
  pub pool : ℕ
  pub is : a ≡ stage.Fly flight (leg.Judged (verdict.To server version pool) last.Out)
  pub opener : flight.packet.kind ≡ Opener
  pub own : flight.packet.key ≡ key

pub leaves : (a : Stage) (key : KeyView) (version : ℕ) → IsLeaving key version a → Leaves a key version
leaves (stage.Fly f (leg.Judged (verdict.To server n pool) last.Out)) key version h = record {
  flight = f;
  server = server;
  pool = pool;
  is = ap (λ m. stage.Fly f (leg.Judged (verdict.To server m pool) last.Out)) h.2;
  opener = h.0;
  own = h.1;
}
leaves a key version h = absurd h

-- what is said of an opener is said of a packet that is one
pub is_opener_so : (kind : Kind) (P : Type 0) → kind ≡ Opener → IfOpener kind P → P
is_opener_so kind P e h = subst (λ z. IfOpener z P) e h

module _ (s : Core) (i : Invariant s) where
  abbrev l : LayoutView
  l = s.config.layout

  abbrev book : List Entry
  book = s.controller.book.entries

  -- ---- places

  pub fits_entry : (e : Entry) → In e book → EntryFits l e
  fits_entry e m = all_in (EntryFits l) book e i.shape.book.entries m

  -- an entry's place says its version to its key
  pub placed_says : (e : Entry) (place : Place) → In e book → e.place ≡ Some place
      → says l place e.key (s.words (name.Entry place)) ≡ said.Live e.version
  placed_says e place m q = own_said s i e.key e place (in_own book e i.shape.book.distinct m) (at_held place e q)

  pub placed_own : (e : Entry) (place : Place) → In e book → e.place ≡ Some place → is_place_of l.shape e.key place ≡ true
  placed_own e place m q = of_some (λ p. is_place_of l.shape e.key p ≡ true) e.place place (fits_entry e m).place q

  -- so nothing in a ring tells that its key was learned
  pub placed_unlearned : (e : Entry) (place : Place) → In e book → e.place ≡ Some place → (version : ℕ)
      → SomeLearn l (ring_words s.words) e.key version → ⊥
  placed_unlearned e place m q version (pipe, cell, read) =
      i.matching.matching.unlearned pipe cell _ read place (placed_own e place m q)
      (subst SpeaksLive (sym (placed_says e place m q)) tt)

  -- ---- packets

  -- an opener that was sent has missed each place that speaks to its key
  pub sent_missed : (p : ℕ) (v : PipeView) (f : Flight) (server n pool : ℕ) (at : Last) → slice_get s.pipes p ≡ Some v
      → v.stage ≡ stage.Fly f (leg.Judged (verdict.To server n pool) at) → f.packet.kind ≡ Opener → (place : Place)
      → is_place_of l.shape f.packet.key place ≡ true → Speaks (says l place f.packet.key (s.words (name.Entry place)))
      → MissedReserved s.controller.job p f.entered place
  sent_missed p v f server n pool at q e kind place own speaks =
      by (is_opener_so f.packet.kind (Unmatched l (entry_words s.words) s.controller.job p f []) kind
      (subst (λ z. OnLeg z (λ f leg. OnUnmatched f leg (Unmatched l (entry_words s.words) s.controller.job p f))) e (i.matching.matching.unmatched p v q))
      place own speaks)
    where
      by : In place [] ⊎ MissedReserved s.controller.job p f.entered place → MissedReserved s.controller.job p f.entered place
      by (inl h) = absurd h
      by (inr h) = h

  -- an opener that was sent goes by the version that its key is known to have
  pub sent_known : (p : ℕ) (v : PipeView) (f : Flight) (server n pool : ℕ) (at : Last) → slice_get s.pipes p ≡ Some v
      → v.stage ≡ stage.Fly f (leg.Judged (verdict.To server n pool) at) → f.packet.kind ≡ Opener → (m : ℕ)
      → IsKnown l (ring_words s.words) book f.packet.key m → n ≡ m
  sent_known p v f server n pool at q e kind m known =
      subst (λ z. OnLeg z (λ f leg. (n : ℕ) → IsKnown l (ring_words s.words) book f.packet.key n → IsOnDuty (printed s) f → GoesBy l (entry_words s.words) (bit_words s.words) n f leg)) e
      (i.track.track.track p v q) m known (inl kind)

  -- the version by which it was sent has the pool that it names
  pub sent_pool : (p : ℕ) (v : PipeView) (f : Flight) (server n pool : ℕ) (at : Last) → slice_get s.pipes p ≡ Some v
      → v.stage ≡ stage.Fly f (leg.Judged (verdict.To server n pool) at) → named_at s.controller.named f.packet.key.vip n ≡ pool
  sent_pool p v f server n pool at q e =
      (subst (λ z. OnLeg z (LegHolds s.config (bit_words s.words) s.controller.named s.controller.numbers s.controller.rings s.controller.job p v.pushed)) e
      (i.flight.legs p v q)).server.names

  -- an opener that is leaving goes by that version
  pub leaving_known : (key : KeyView) (n m : ℕ) → SomeLeaving s.pipes key n → IsKnown l (ring_words s.words) book key m → n ≡ m
  leaving_known key n m (p, v, q, h) known =
      let a = leaves v.stage key n h in
      sent_known p v a.flight a.server n a.pool last.Out q a.is a.opener m (subst (λ z. IsKnown l (ring_words s.words) book z m) (sym a.own) known)

  -- ---- versions that are learned

  -- a report in a ring tells a version that may still be learned
  pub learn_current : (pipe cell : ℕ) (w : RingWord) → read_report l (s.words (name.Ring pipe cell)) ≡ Some w → w.kind ≡ Learn
      → state_of w.key.vip w.version s.controller.numbers ≡ Some Current
  learn_current pipe cell w read kind =
      let m : ReportMarked l (bit_words s.words) s.controller.update s.controller.vips s.controller.job w.key w.version =
      subst (λ z. IfLearn z (ReportMarked l (bit_words s.words) s.controller.update s.controller.vips s.controller.job w.key w.version)) kind (i.filter.filter.reports pipe cell w read) in
      at m.0
    where
      word : WordCurrent s.controller.numbers w.key.vip (vip_at s.controller.vips w.key.vip)
      word = present_current s i w.key.vip (report_fits s.config.layout (s.words (name.Ring pipe cell)) w read).1

      at : IsOfWord (vip_at s.controller.vips w.key.vip) w.version → state_of w.key.vip w.version s.controller.numbers ≡ Some Current
      at (inl e) = ap (λ n. state_of w.key.vip n s.controller.numbers) e ∙ word.cur
      at (inr e) = ap (λ n. state_of w.key.vip n s.controller.numbers) e.1 ∙ word.next e.0

  -- ---- a put that is to be made live or given up

  -- its place speaks to its key
  pub judged_speaks : (p : Put) → s.controller.job ≡ job.Store (store.Judge p) → Speaks (says l p.place p.key (s.words (name.Entry p.place)))
  judged_speaks p e =
      let put : PutHolds l.shape book s.controller.held p = (subst (JobHolds s.config (seen s.controller) (printed s)) e i.jobs.holds.stands).0 in
      let fits : PutFits l p = put_fits s.config i.shape.config.layout s.controller i.shape.book i.shape.controller p put in
      subst (λ x. Speaks (says l p.place p.key x)) (sym (reserved_is s i p (job.Store (store.Judge p)) e put refl))
      (reserved_speaks l i.shape.config.layout p.place p.key p.key fits.key.is_key (stands_self l p.place p.key))

  pub judged_own : (p : Put) → s.controller.job ≡ job.Store (store.Judge p) → is_place_of l.shape p.key p.place ≡ true
  judged_own p e = (subst (JobHolds s.config (seen s.controller) (printed s)) e i.jobs.holds.stands).0.own

  -- no opener of its key was sent and isn't out, or is yet to be told
  pub judged_unsent : (q : Put) → s.controller.job ≡ job.Store (store.Judge q) → (p : ℕ) (v : PipeView) (f : Flight) (server n pool : ℕ) (at : Last)
      → slice_get s.pipes p ≡ Some v → v.stage ≡ stage.Fly f (leg.Judged (verdict.To server n pool) at) → f.packet.kind ≡ Opener
      → f.packet.key ≡ q.key → ⊥
  judged_unsent q e p v f server n pool at g d kind own =
      subst (λ j. MissedReserved j p f.entered q.place) e
      (sent_missed p v f server n pool at g d kind q.place (subst (λ z. is_place_of l.shape z q.place ≡ true) (sym own) (judged_own q e))
      (subst (λ z. Speaks (says l q.place z (s.words (name.Entry q.place)))) (sym own) (judged_speaks q e)))

  -- and nothing is learned of it
  pub judged_unlearned : (q : Put) → s.controller.job ≡ job.Store (store.Judge q) → EachLearn l (ring_words s.words) (λ other version. other ≢ q.key)
  judged_unlearned q e n c w read =
      by w.kind (subst (Judged l s.controller.rings (ring_words s.words)) e i.matching.matching.judged n c w read)
    where
      by : (kind : RingKind) → IfLearn kind (is_place_of l.shape w.key q.place ≡ true → stands_for l q.place q.key w.key ≡ false)
          → IfLearn kind (w.key ≢ q.key)
      by Learn h = λ same.
          true≢false (sym (stands_self l q.place q.key)
          ∙ (ap (stands_for l q.place q.key) (sym same) ∙ h (subst (λ z. is_place_of l.shape z q.place ≡ true) (sym same) (judged_own q e))))
      by Punt h = tt
      by Close h = tt
