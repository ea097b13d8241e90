-- What is known of a shelf, and what a fetch from it gives.
use Rattle.std.specs.Prelude.{◌≡◌, ℕ, ◌<◌, ◌≤◌, List, length, Option, Some, None, Result, Ok, Err}
use Rattle.sr_io.specs.declared.shelf.FetchRefusal.{FetchRefusal}
use Rattle.sr_io.specs.declared.shelf.FetchRefusal.TheVariants.{TooLong, Failed, Memory}

-- The text of each name, where the shelf tells them (a name may have none), and how often it failed; the count stands still at the end of 64
-- bits.
pub record ShelfKnown : Type 0 where
  pub texts : Option (List ℕ → Option (List ℕ))
  pub faults : ℕ

-- a refusal of a text that is there: too long exactly where it has more bytes than the limit
abbrev pub Refuses : FetchRefusal → List ℕ → ℕ → Type 0
Refuses TooLong text limit = limit < length text
Refuses Failed text limit = Unit {0}
Refuses Memory text limit = Unit {0}

-- a refusal of a name that has no text
abbrev pub RefusesName : FetchRefusal → Type 0
RefusesName TooLong = ⊥
RefusesName Failed = Unit {0}
RefusesName Memory = Unit {0}

-- Where a name has this text (or none): the text whole and within the limit, or a refusal with its cause. `items` are the bytes of a result.
abbrev pub Fetches : {V : Type 0} → (V → List ℕ) → Result V FetchRefusal → Option (List ℕ) → ℕ → Type 0
Fetches items (Ok v) (Some text) limit = (items v ≡ text) × (length text ≤ limit)
Fetches items (Ok v) None limit = ⊥
Fetches items (Err e) (Some text) limit = Refuses e text limit
Fetches items (Err e) None limit = RefusesName e

-- the device failed
abbrev pub FetchFailed : {V : Type 0} → Result V FetchRefusal → Type 0
FetchFailed (Ok v) = ⊥
FetchFailed (Err TooLong) = ⊥
FetchFailed (Err Failed) = Unit {0}
FetchFailed (Err Memory) = ⊥
