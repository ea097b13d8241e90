-- The words of bits beside the states of a virtual address's numbers.
use Rattle.std.specs.Prelude.{◌≡◌, ℕ, ◌<◌, ◌≤◌, Bool, false, cond, List, length, slice_get, Option, Some, None}
use Rattle.std.specs.Int.{bit_at}
use Rattle.sr_update.specs.declared.number_state.NumberState.{NumberState}
use Rattle.sr_update.specs.Numbers.{is_free, is_draining}

-- there is a state, and it passes the test
abbrev pub is_state : (NumberState → Bool) → Option NumberState → Bool
is_state test None = false
is_state test (Some state) = test state

-- the numbers below 64 whose states pass the test are the bits of the word
abbrev pub Marks : (NumberState → Bool) → List NumberState → ℕ → Type 0
Marks test row word = (n : ℕ) → n < 64 → bit_at word n ≡ cond (is_state test (slice_get row n)) 1 0

-- 1 to 64 numbers, and the words of the Free and of the Draining ones
pub record IsRow (row : List NumberState) (free_word draining_word : ℕ) : Type 0 where
  pub some : 1 ≤ length row
  pub most : length row ≤ 64
  pub free : Marks is_free row free_word
  pub draining : Marks is_draining row draining_word
