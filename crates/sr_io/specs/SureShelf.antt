-- A shelf in memory, and what a fetch from it gives.
use Rattle.std.specs.Prelude.{◌≡◌, ℕ, nat_le, List, length, Option, Some, None, Result, Ok, Err, IsOk, if◌then◌else◌}
use Rattle.sr_io.specs.declared.shelf.FetchRefusal.{FetchRefusal}
use Rattle.sr_io.specs.declared.shelf.FetchRefusal.TheVariants.{TooLong, Failed, Memory}

-- the text of a name, where there is memory for it; a name without one is a fault
abbrev pub fetched_of : Option (List ℕ) → ℕ → Result (List ℕ) FetchRefusal
fetched_of (Some text) limit = if nat_le (length text) limit then Ok text else Err TooLong
fetched_of None limit = Err Failed

-- The result is the wanted one, or no memory was found for the wanted text. `items` are the bytes of a result.
abbrev pub Gives : {V : Type 0} → (V → List ℕ) → Result V FetchRefusal → Result (List ℕ) FetchRefusal → Type 0
Gives items (Ok v) wanted = wanted ≡ Ok (items v)
Gives items (Err TooLong) wanted = wanted ≡ Err TooLong
Gives items (Err Failed) wanted = wanted ≡ Err Failed
Gives items (Err Memory) wanted = IsOk wanted
