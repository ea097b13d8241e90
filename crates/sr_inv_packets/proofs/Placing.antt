-- Once the drain of a placing has ended, nothing that was learned or may be matches its place.
use Rattle.std.proofs.Common.{◌≡◌, ℕ, Bool, true, false, ◌⊎◌, List, [], if◌then◌else◌, sym, refl, ap, ◌∙◌, subst, inl, inr}
use Rattle.sr_base.specs.Key.{KeyView}
use Rattle.sr_base.specs.declared.kind.Kind.{Kind}
use Rattle.sr_base.specs.declared.kind.Kind.TheVariants.{Opener, Carry, Ending}
use Rattle.sr_base.specs.declared.place.Place.{Place}
use Rattle.sr_hash.specs.Uses.{is_place_of}
use Rattle.sr_inv_facts.proofs.Ranges.{put_fits}
use Rattle.sr_inv_facts.specs.Doing.{MissedReserved}
use Rattle.sr_inv_facts.specs.Flying.{BeforePush, IfMissed, IfOpener, OnLearning, OnMayLearn, OnMissing, OnTo, OnUnmatched}
use Rattle.sr_inv_facts.specs.InJobs.{JobHolds, PutHolds, seen}
use Rattle.sr_inv_facts.specs.InMatching.{Judged, Unmatched}
use Rattle.sr_inv_facts.specs.Invariant.{Invariant}
use Rattle.sr_inv_facts.specs.Readings.{In, Speaks, entry_words, ring_words}
use Rattle.sr_inv_matching.proofs.Saying.{reserved_is}
use Rattle.sr_inv_packets.proofs.Parts.{leg_then, learn_then}
use Rattle.sr_inv_packets.specs.Placing.{DrainedMiss, Misses}
use Rattle.sr_law.specs.declared.verdict.Verdict.{Verdict}
use Rattle.sr_machine.proofs.Written.{reserved_says}
use Rattle.sr_machine.specs.Core.{Core, printed}
use Rattle.sr_machine.specs.Reads.{reserved_word, says, stands_for}
use Rattle.sr_machine.specs.declared.flight.Flight.{Flight}
use Rattle.sr_machine.specs.declared.leg.Last.{Last}
use Rattle.sr_machine.specs.declared.leg.Leg.{Leg}
use Rattle.sr_machine.specs.declared.leg.Leg.TheVariants.{Look, Hit, Filter, Chosen}
use Rattle.sr_machine.specs.declared.put.Put.{Put}
use Rattle.sr_machine.specs.declared.said.Said.{Said}
use Rattle.sr_machine.specs.declared.job.Job.TheVariants as job
use Rattle.sr_machine.specs.declared.leg.Last.TheVariants as last
use Rattle.sr_machine.specs.declared.leg.Leg.TheVariants as leg
use Rattle.sr_machine.specs.declared.name.Name.TheVariants as name
use Rattle.sr_machine.specs.declared.said.Said.TheVariants as said
use Rattle.sr_machine.specs.declared.store.Store.TheVariants as store
use Rattle.sr_law.specs.declared.verdict.Verdict.TheVariants as verdict

-- ---- an opener that may yet be learned was matched by nothing

before_push : (at : Last) (P : Type 0) → P → BeforePush at P
before_push last.Ring P h = h
before_push (last.Mark bit rest) P h = h
before_push last.Push P h = h
before_push last.Out P h = tt

sent_missed : (v : Verdict) (M : Type 0) (P : ℕ → Type 0) → (M → (n : ℕ) → P n) → IfMissed v M → OnTo v P
sent_missed (verdict.To server version pool) M P turn h = turn h version
sent_missed v M P turn h = tt

learning_missed : (at : Leg) (M : List Place → Type 0) (P : ℕ → Type 0) → (M [] → (n : ℕ) → P n) → OnMissing at M → OnLearning at P
learning_missed (Chosen version load) M P turn h = turn h version
learning_missed (leg.Judged v at) M P turn h = before_push at (OnTo v P) (sent_missed v (M []) P turn h)
learning_missed at M P turn h = tt

may_missed : (k : Kind) (at : Leg) (M : List Place → Type 0) (P : ℕ → Type 0) → (M [] → (n : ℕ) → P n) → IfOpener k (OnMissing at M)
    → IfOpener k (OnLearning at P)
may_missed Opener at M P turn h = learning_missed at M P turn h
may_missed Carry at M P turn h = tt
may_missed Ending at M P turn h = tt

-- ---- words

speaks_reserved : (t : Said) → t ≡ said.Reserved → Speaks t
speaks_reserved t e = subst Speaks (sym e) tt

if_reserved : (b : Bool) → b ≡ false → (if b then said.Reserved else said.Nothing) ≡ said.Reserved → ⊥
if_reserved true q e = cc
if_reserved false q e = cc

module _ (s : Core) (i : Invariant s) (q : Put) (e : s.controller.job ≡ job.Store (store.Judge q)) where
  put : PutHolds s.config.layout.shape s.controller.book.entries s.controller.held q
  put = (subst (JobHolds s.config (seen s.controller) (printed s)) e i.jobs.holds.stands).0

  word : s.words (name.Entry q.place) ≡ reserved_word s.config.layout q.place q.key
  word = reserved_is s i q (job.Store (store.Judge q)) e put refl

  apart_misses : (key : KeyView) → (is_place_of s.config.layout.shape key q.place ≡ true → stands_for s.config.layout q.place q.key key ≡ false)
      → Misses s q key
  apart_misses key h own says_so =
      let is_key = (put_fits s.config i.shape.config.layout s.controller i.shape.book i.shape.controller q put).key.is_key in
      if_reserved (stands_for s.config.layout q.place q.key key) (h own)
      (sym (reserved_says s.config.layout i.shape.config.layout q.place q.key key is_key)
      ∙ (ap (says s.config.layout q.place key) (sym word) ∙ says_so))

  missed_misses : (p : ℕ) (f : Flight) → Unmatched s.config.layout (entry_words s.words) s.controller.job p f [] → Misses s q f.packet.key
  missed_misses p f h own says_so = at (subst (λ j. In q.place [] ⊎ MissedReserved j p f.entered q.place) e (h q.place own (speaks_reserved (says s.config.layout q.place f.packet.key (s.words (name.Entry q.place))) says_so)))
    where
      at : ⊥ ⊎ ⊥ → ⊥
      at (inl x) = x
      at (inr x) = x

pub drained : DrainedMiss
drained s i q e = record {
  learns = λ pipe cell w read.
      learn_then w.kind
      (is_place_of s.config.layout.shape w.key q.place ≡ true → stands_for s.config.layout q.place q.key w.key ≡ false) (Misses s q w.key)
      (apart_misses s i q e w.key)
      (subst (Judged s.config.layout s.controller.rings (ring_words s.words)) e i.matching.matching.judged pipe cell w read);
  openers = λ p v g.
      leg_then v.stage (λ f at. OnUnmatched f at (Unmatched s.config.layout (entry_words s.words) s.controller.job p f))
      (λ f at. OnMayLearn f at (λ n. Misses s q f.packet.key))
      (λ f at h.
      may_missed f.packet.kind at (Unmatched s.config.layout (entry_words s.words) s.controller.job p f) (λ n. Misses s q f.packet.key)
      (λ m n. missed_misses s i q e p f m) h)
      (i.matching.matching.unmatched p v g);
}
