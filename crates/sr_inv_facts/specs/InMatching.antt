-- Matching: no packet is taken for another connection's. An opener that nothing has matched still looks at each place that speaks to its key; no live place
-- speaks to a key that is to be learned, and to a registered key only its own do; and the reports behind a drain know of the reserved place.
use Rattle.std.specs.List.{AllByRecursion}
use Rattle.std.specs.Prelude.{◌≡◌, ℕ, ◌≤◌, true, false, ◌⊎◌, List, IfSome}
use Rattle.sr_base.specs.Key.{KeyView}
use Rattle.sr_base.specs.Layout.{LayoutView}
use Rattle.sr_base.specs.declared.place.Place.{Place}
use Rattle.sr_base.specs.declared.ring_word.RingWord.{RingWord}
use Rattle.sr_base.specs.declared.shape.Shape.{Shape}
use Rattle.sr_hash.specs.Uses.{is_place_of}
use Rattle.sr_inv_facts.specs.Doing.{MissedLive, MissedReserved, OnPut}
use Rattle.sr_inv_facts.specs.Flying.{OnLeg, OnLook, OnUnmatched}
use Rattle.sr_inv_facts.specs.Readings.{EachBehind, EachLearn, EachPipe, EachReport, IfLearn, In, Speaks, SpeaksLive, entry_words, ring_words}
use Rattle.sr_machine.specs.Core.{Core}
use Rattle.sr_machine.specs.Reads.{says, stands_for}
use Rattle.sr_machine.specs.declared.flight.Flight.{Flight}
use Rattle.sr_machine.specs.declared.job.Job.{Job}
use Rattle.sr_machine.specs.declared.pipe_view.PipeView.{PipeView}
use Rattle.sr_machine.specs.declared.put.Put.{Put}
use Rattle.sr_machine.specs.declared.ring_count.RingCount.{RingCount}
use Rattle.sr_shadow.specs.Book.{entry_for, is_registered}
use Rattle.sr_shadow.specs.Entry.{holds, is_outside, is_slot}
use Rattle.sr_shadow.specs.Plan.{is_clear}
use Rattle.sr_shadow.specs.declared.entry.Entry.{Entry}
use Rattle.sr_machine.specs.declared.store.Store.TheVariants as store
use Rattle.sr_machine.specs.declared.wait.Wait.TheVariants as wait
use Rattle.sr_machine.specs.declared.job.Job.TheVariants as job

-- an opener that nothing has matched is still to look at each place that speaks to its key, but perhaps for one that was reserved
-- behind it
abbrev pub Unmatched : LayoutView → (Place → ℕ) → Job → ℕ → Flight → List Place → Type 0
Unmatched l entries j p f looks =
    (place : Place) → is_place_of l.shape f.packet.key place ≡ true → Speaks (says l place f.packet.key (entries place))
    → In place looks ⊎ MissedReserved j p f.entered place

-- a packet that looks at places is still to look at its key's, but perhaps for one where the key came to be live behind it
abbrev pub LooksOn : Job → ℕ → List Entry → Flight → List Place → Type 0
LooksOn j p book f looks =
    IfSome (entry_for f.packet.key book) (λ e. IfSome e.place (λ place. In place looks ⊎ MissedLive j p f.entered f.packet.key))

-- a report of a key that isn't taken for the put's, where the put's place is one of the key's
abbrev pub IsApart : LayoutView → Put → RingWord → Type 0
IsApart l q w = IfLearn w.kind (is_place_of l.shape w.key q.place ≡ true → stands_for l q.place q.key w.key ≡ false)

-- behind the drain before a put is made live no report is of a key that its place speaks to
abbrev pub Judged : LayoutView → List RingCount → (ℕ → ℕ → ℕ) → Job → Type 0
Judged l rings ring (job.Drain pipe count (wait.Judge q)) = EachBehind l rings ring pipe count (IsApart l q)
Judged l rings ring (job.Store (store.Judge q)) = EachReport l ring (IsApart l q)
Judged l rings ring j = Unit {0}

-- no place says to the key that an entry is live
abbrev pub IsUnspoken : LayoutView → (Place → ℕ) → KeyView → Type 0
IsUnspoken l entries key =
    (place : Place) → is_place_of l.shape key place ≡ true → SpeaksLive (says l place key (entries place)) → ⊥

-- only the entry's own places do, where it is outside the full-key table
abbrev pub OwnSpeak : LayoutView → (Place → ℕ) → Entry → Type 0
OwnSpeak l entries e =
    is_outside e ≡ true → (place : Place) → is_place_of l.shape e.key place ≡ true
    → SpeaksLive (says l place e.key (entries place)) → holds place e ≡ true

-- a key that isn't registered and is put into a slot is clear
abbrev pub IsClearPut : Shape → List Entry → Put → Type 0
IsClearPut shape book q = is_slot q.place ≡ true → is_registered q.key book ≡ false → is_clear shape book q.key ≡ true

-- no word stands in a ring that no pipe has, nor behind a ring's last cell
abbrev pub NoneBeyond : LayoutView → (ℕ → ℕ → ℕ) → Type 0
NoneBeyond l ring = (pipe cell : ℕ) → (l.shape.pipes ≤ pipe) ⊎ (l.shape.ring ≤ cell) → ring pipe cell ≡ 0

pub record MatchingHolds (l : LayoutView) (entries : Place → ℕ) (ring : ℕ → ℕ → ℕ) (pipes : List PipeView) (book : List Entry) (rings : List RingCount) (j : Job) : Type 0 where
  pub unmatched : EachPipe (λ p v. OnLeg v.stage (λ f leg. OnUnmatched f leg (Unmatched l entries j p f))) pipes
  pub looks : EachPipe (λ p v. OnLeg v.stage (λ f leg. OnLook leg (LooksOn j p book f))) pipes
  pub judged : Judged l rings ring j
  pub unlearned : EachLearn l ring (λ key version. IsUnspoken l entries key)
  pub own : AllByRecursion (OwnSpeak l entries) book
  pub clear : OnPut j (IsClearPut l.shape book)
  pub beyond : NoneBeyond l ring

pub record InMatching (s : Core) : Type 0 where
  pub matching : MatchingHolds s.config.layout (entry_words s.words) (ring_words s.words) s.pipes s.controller.book.entries s.controller.rings s.controller.job

-- ---- parts of it that stand alone

abbrev pub UnmatchedLook : Core → Type 0
UnmatchedLook s =
    EachPipe (λ p v. OnLeg v.stage (λ f leg. OnUnmatched f leg (Unmatched s.config.layout (entry_words s.words) s.controller.job p f))) s.pipes

abbrev pub PlacedAreFound : Core → Type 0
PlacedAreFound s = EachPipe (λ p v. OnLeg v.stage (λ f leg. OnLook leg (LooksOn s.controller.job p s.controller.book.entries f))) s.pipes

abbrev pub DrainsAreApart : Core → Type 0
DrainsAreApart s = Judged s.config.layout s.controller.rings (ring_words s.words) s.controller.job

abbrev pub LearnedAreUnspoken : Core → Type 0
LearnedAreUnspoken s = EachLearn s.config.layout (ring_words s.words) (λ key version. IsUnspoken s.config.layout (entry_words s.words) key)

abbrev pub OwnAreFound : Core → Type 0
OwnAreFound s = AllByRecursion (OwnSpeak s.config.layout (entry_words s.words)) s.controller.book.entries

abbrev pub PutsAreClear : Core → Type 0
PutsAreClear s = OnPut s.controller.job (IsClearPut s.config.layout.shape s.controller.book.entries)

abbrev pub RingsEnd : Core → Type 0
RingsEnd s = NoneBeyond s.config.layout (ring_words s.words)
