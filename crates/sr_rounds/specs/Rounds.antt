-- The rounds of a list of packets.
use Rattle.std.specs.Prelude.{◌≡◌, ℕ, ◌+◌, ◌-◌, ◌*◌, ◌/◌, ◌<◌, ◌≤◌, ◌==◌, ◌&&◌, ◌⊎◌, ◌≢◌, nat_lt, Bool, List, [], ◌∷◌, length, slice_get, Some, if◌then◌else◌}
use Rattle.sr_rounds.specs.declared.round.Round.{Round}
use Rattle.sr_rounds.specs.declared.timed.Timed.{Timed}

-- how many packets a round has at most
abbrev pub most_packets : ℕ
most_packets = 65536

-- when the window of a time begins, where each is so many milliseconds long
abbrev pub window_start : ℕ → ℕ → ℕ
window_start window_ms ms = ms / window_ms * window_ms

-- a round of the packet at this position alone
abbrev pub opened : ℕ → ℕ → Timed → Round
opened window_ms at p = record { start_ms = window_start window_ms p.ms; from = at; to = at + 1 }

-- the packet that follows a round is of its window, and finds room in it
abbrev pub takes : ℕ → Round → Timed → Bool
takes window_ms r p = (window_start window_ms p.ms == r.start_ms) && nat_lt (r.to - r.from) most_packets

-- a round with the packet that follows it
abbrev pub grown : Round → Round
grown r = record { start_ms = r.start_ms; from = r.from; to = r.to + 1 }

-- this round and those after it, where these packets follow it
abbrev pub rounds_after : ℕ → Round → List Timed → List Round
rounds_after window_ms r [] = r ∷ []
rounds_after window_ms r (p ∷ rest) =
    if takes window_ms r p then rounds_after window_ms (grown r) rest else
    (r ∷ rounds_after window_ms (opened window_ms r.to p) rest)

-- the rounds of a list of packets
abbrev pub rounds_of : ℕ → List Timed → List Round
rounds_of window_ms [] = []
rounds_of window_ms (p ∷ rest) = rounds_after window_ms (opened window_ms 0 p) rest

-- ---- what they are

-- the rounds follow one another from this position to that one
abbrev pub Follow : ℕ → List Round → ℕ → Type 0
Follow from [] to = from ≡ to
Follow from (r ∷ rest) to = (r.from ≡ from) × Follow r.to rest to

-- a round has 1 to 65,536 packets, all of its window
pub record IsRoundOf (window_ms : ℕ) (packets : List Timed) (r : Round) : Type 0 where
  pub some : r.from < r.to
  pub most : r.to ≤ r.from + most_packets
  pub window : (at : ℕ) (p : Timed) → r.from ≤ at → at < r.to → slice_get packets at ≡ Some p → window_start window_ms p.ms ≡ r.start_ms

abbrev pub AreRoundsOf : ℕ → List Timed → List Round → Type 0
AreRoundsOf window_ms packets [] = Unit {0}
AreRoundsOf window_ms packets (r ∷ rest) = IsRoundOf window_ms packets r × AreRoundsOf window_ms packets rest

-- a round is cut where the window changes, or it is full, and nowhere else
abbrev pub CutWhereDue : List Round → Type 0
CutWhereDue [] = Unit {0}
CutWhereDue (r ∷ []) = Unit {0}
CutWhereDue (r ∷ next ∷ rest) = ((r.start_ms ≢ next.start_ms) ⊎ (r.to ≡ r.from + most_packets)) × CutWhereDue (next ∷ rest)

-- the rounds of these packets: all of them, each in one round, as few rounds as can be
pub record AreTheRounds (window_ms : ℕ) (packets : List Timed) (rounds : List Round) : Type 0 where
  pub all : Follow 0 rounds (length packets)
  pub each : AreRoundsOf window_ms packets rounds
  pub cut : CutWhereDue rounds
