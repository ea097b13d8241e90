-- What facts about states are said of: parts of lists, words of one kind, and what a state's rings hold.
use Rattle.std.specs.List.{list_all}
use Rattle.std.specs.Prelude.{◌≡◌, ℕ, ◌+◌, ◌%◌, ◌<◌, ◌≤◌, Bool, ◌⊎◌, List, [], ◌∷◌, ◌++◌, slice_get, Some}
use Rattle.sr_base.specs.Key.{KeyView}
use Rattle.sr_base.specs.Layout.{LayoutView}
use Rattle.sr_base.specs.declared.place.Place.{Place}
use Rattle.sr_base.specs.declared.ring_word.RingKind.{RingKind}
use Rattle.sr_base.specs.declared.ring_word.RingKind.TheVariants.{Learn, Punt, Close}
use Rattle.sr_base.specs.declared.ring_word.RingWord.{RingWord}
use Rattle.sr_machine.specs.Deciding.{ring_count}
use Rattle.sr_machine.specs.Reads.{filter_word, has_bit, read_report}
use Rattle.sr_machine.specs.Stages.{key_bits}
use Rattle.sr_machine.specs.declared.name.Name.{Name}
use Rattle.sr_machine.specs.declared.pipe_view.PipeView.{PipeView}
use Rattle.sr_machine.specs.declared.ring_count.RingCount.{RingCount}
use Rattle.sr_machine.specs.declared.said.Said.{Said}
use Rattle.sr_machine.specs.declared.name.Name.TheVariants as name
use Rattle.sr_machine.specs.declared.said.Said.TheVariants as said

-- ---- lists

-- the one list is an end of the other
abbrev pub IsEnd : {X : Type 0} → List X → List X → Type 0
IsEnd {X} end whole = (front : List X) × (whole ≡ front ++ end)

-- the list has the thing
abbrev pub In : {X : Type 0} → X → List X → Type 0
In x [] = ⊥
In x (y ∷ rest) = (x ≡ y) ⊎ In x rest

-- each pipe has the fact, with its number
abbrev pub EachPipe : (ℕ → PipeView → Type 0) → List PipeView → Type 0
EachPipe P pipes = (p : ℕ) (v : PipeView) → slice_get pipes p ≡ Some v → P p v

-- some pipe has it
abbrev pub SomePipe : (ℕ → PipeView → Type 0) → List PipeView → Type 0
SomePipe P pipes = (p : ℕ) × (v : PipeView) × (slice_get pipes p ≡ Some v) × P p v

-- ---- words of one kind

abbrev pub entry_words : (Name → ℕ) → Place → ℕ
entry_words words place = words (name.Entry place)

abbrev pub hit_words : (Name → ℕ) → Place → ℕ
hit_words words place = words (name.Hit place)

abbrev pub ring_words : (Name → ℕ) → ℕ → ℕ → ℕ
ring_words words pipe cell = words (name.Ring pipe cell)

abbrev pub bit_words : (Name → ℕ) → ℕ → ℕ
bit_words words index = words (name.Filter index)

-- ---- a place of the tables

-- what a word says is not that nothing is there
abbrev pub Speaks : Said → Type 0
Speaks said.Nothing = ⊥
Speaks said.Reserved = Unit {0}
Speaks (said.Live version) = Unit {0}

-- what a word says is that an entry is live
abbrev pub SpeaksLive : Said → Type 0
SpeaksLive said.Nothing = ⊥
SpeaksLive said.Reserved = ⊥
SpeaksLive (said.Live version) = Unit {0}

-- ---- places of the filter

-- the place of the filter is set
abbrev pub is_set_in : (ℕ → ℕ) → ℕ → Bool
is_set_in bits bit = has_bit bit (bits (filter_word bit))

-- each of the key's places is
abbrev pub is_marked : LayoutView → (ℕ → ℕ) → KeyView → Bool
is_marked l bits key = list_all (is_set_in bits) (key_bits l key)

-- ---- reports in rings

-- the reports of this number that wait, of those that a ring's word tells
abbrev pub OnReport : LayoutView → ℕ → (RingWord → Type 0) → Type 0
OnReport l x P = (w : RingWord) → read_report l x ≡ Some w → P w

-- each report in a ring has the fact
abbrev pub EachReport : LayoutView → (ℕ → ℕ → ℕ) → (RingWord → Type 0) → Type 0
EachReport l ring P = (pipe cell : ℕ) → OnReport l (ring pipe cell) P

-- of the reports that tell what an opener learned
abbrev pub IfLearn : RingKind → Type 0 → Type 0
IfLearn Learn P = P
IfLearn Punt P = Unit {0}
IfLearn Close P = Unit {0}

-- of those that tell that a connection's packet ended it
abbrev pub IfClose : RingKind → Type 0 → Type 0
IfClose Learn P = Unit {0}
IfClose Punt P = Unit {0}
IfClose Close P = P

abbrev pub EachLearn : LayoutView → (ℕ → ℕ → ℕ) → (KeyView → ℕ → Type 0) → Type 0
EachLearn l ring P = EachReport l ring (λ w. IfLearn w.kind (P w.key w.version))

-- some ring has a report that an opener of the key learned this version
abbrev pub SomeLearn : LayoutView → (ℕ → ℕ → ℕ) → KeyView → ℕ → Type 0
SomeLearn l ring key version =
    (pipe : ℕ) × (cell : ℕ) × (read_report l (ring pipe cell) ≡ Some (record { kind = Learn; version = version; key = key }))

-- the words of a ring by their position from the controller's place on
abbrev pub from_place : LayoutView → List RingCount → (ℕ → ℕ → ℕ) → ℕ → ℕ → ℕ
from_place l rings ring pipe i = ring pipe (((ring_count rings pipe).words + i) % l.shape.ring)

-- The words that a drain at this pipe has done with: those of the rings before it, and of its own ring those behind the ones that it
-- may still take, by their position.
abbrev pub IsBehind : LayoutView → ℕ → ℕ → ℕ → ℕ → Type 0
IsBehind l pipe count p i = (p < pipe) ⊎ ((p ≡ pipe) × (l.shape.ring ≤ i + count))

-- each report behind a drain has the fact
abbrev pub EachBehind : LayoutView → List RingCount → (ℕ → ℕ → ℕ) → ℕ → ℕ → (RingWord → Type 0) → Type 0
EachBehind l rings ring pipe count P =
    (p i : ℕ) → p < l.shape.pipes → i < l.shape.ring → IsBehind l pipe count p i → OnReport l (from_place l rings ring p i) P
