-- The fields of a word, and what an unpacking answers.
use Rattle.std.specs.Prelude.{◌≡◌, ℕ, ◌/◌, ◌%◌, ◌^◌, Option, Some, None}

-- the number in so many bits of a word, from this bit on; the lowest bit is 0
abbrev pub bits : ℕ → ℕ → ℕ → ℕ
bits low width word = word / 2 ^ low % 2 ^ width

-- the value whose packing this word is; none where it is the packing of no value
abbrev pub Unpacks : {X : Type 0} → (X → ℕ) → (X → Type 0) → ℕ → Option X → Type 0
Unpacks {X} pack IsWord word None = (x : X) → IsWord x → pack x ≡ word → ⊥
Unpacks {X} pack IsWord word (Some x) = IsWord x × (pack x ≡ word)

-- a packed value unpacks to itself, and what unpacks to a value is its packing
pub record RoundTrip {X : Type 0} (pack : X → ℕ) (IsWord : X → Type 0) (unpack : ℕ → Option X) : Type 0 where
  pub unpacks : (x : X) → IsWord x → unpack (pack x) ≡ Some x
  pub packs : (n : ℕ) (x : X) → unpack n ≡ Some x → IsWord x × (pack x ≡ n)
