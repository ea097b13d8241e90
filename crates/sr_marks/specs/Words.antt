-- Marks in words of 64, and what is known of a whole word.
use Rattle.std.specs.Prelude.{ℕ, zero, suc, ◌≡◌, ◌+◌, ◌-◌, ◌*◌, ◌/◌, ◌%◌, ◌^◌, ◌<◌, ◌≤◌, Bool, false, List, [], ◌∷◌, ◌++◌, length, get_or, take, drop, nat_eq, nat_lt}
use Rattle.sr_marks.specs.Marks.{count_set}

-- so many bits of a number, from the lowest
unfoldable pub bits_of : ℕ → ℕ → List Bool
bits_of zero word = []
bits_of (suc n) word = nat_eq (word % 2) 1 ∷ bits_of n (word / 2)

-- the bits of words, 64 of each
unfoldable pub bits_in : List ℕ → List Bool
bits_in [] = []
bits_in (word ∷ words) = bits_of 64 word ++ bits_in words

-- the marks of a word
abbrev pub word_of : ℕ → List Bool → List Bool
word_of word marks = take 64 (drop (64 * word) marks)

-- whether some mark of a word is set
abbrev pub some_in : ℕ → List Bool → Bool
some_in word marks = nat_lt 0 (count_set (word_of word marks))

-- the marks up to the end of the word that a position is in
abbrev pub up_to_word_end : ℕ → List Bool → List Bool
up_to_word_end at marks = take (64 * (at / 64 + 1)) marks

-- Marks above others: one for each word of those, set where some mark of it is.
pub record IsSummary (above below : List Bool) : Type 0 where
  pub each : (word : ℕ) → get_or above word false ≡ some_in word below
  pub fits : length below ≤ 64 * length above

-- Tiers of marks, each above the one before, from a tier on; the last is one word.
pub record AreSummed (from : ℕ) (tiers : List (List Bool)) : Type 0 where
  pub each : (i : ℕ) → from ≤ i → i + 1 < length tiers → IsSummary (get_or tiers (i + 1) []) (get_or tiers i [])
  pub one : length (get_or tiers (length tiers - 1) []) ≤ 64

-- the lowest of some tiers
abbrev pub lowest_of : List (List Bool) → List Bool
lowest_of tiers = get_or tiers 0 []

-- how many marks of each word are set
pub record AreWordCounts (counts : List ℕ) (marks : List Bool) : Type 0 where
  pub each : (word : ℕ) → word < length counts → get_or counts word 0 ≡ count_set (word_of word marks)
  pub long : 64 * length counts ≡ length marks

-- Marks of which so many are pushed, beside the counts of their words and how many are set.
pub record AreKept (marks : List Bool) (pushed : ℕ) (counts : List ℕ) (set : ℕ) : Type 0 where
  pub counted : AreWordCounts counts marks
  pub unset : (at : ℕ) → pushed ≤ at → get_or marks at false ≡ false
  pub set_is : set ≡ count_set marks
  pub within : pushed ≤ length marks
  pub short : length marks < 2 ^ 32
