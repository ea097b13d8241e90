-- Address texts: `a.b.c.d:p`, four numbers 0 to 255 and a port 1 to 65,535, in decimal digits without leading zeros.
use Rattle.std.specs.Prelude.{ℕ, ◌+◌, ◌*◌, ◌==◌, if◌then◌else◌, List, [], ◌∷◌, Option, Some, None, option_and_then}
use Rattle.sr_decimal.specs.Front.{number_front}

infixl 10 ◌>>=◌
abbrev ◌>>=◌ : {A B : Type 0} → Option A → (A → Option B) → Option B
o >>= f = option_and_then f o

-- the bytes after this one at the front
abbrev pub after_byte : ℕ → List ℕ → Option (List ℕ)
after_byte byte [] = None
after_byte byte (b ∷ bytes) = if b == byte then Some bytes else None

-- a number up to 255, and the bytes after the separator that follows it
unfoldable pub part_front : ℕ → List ℕ → Option (ℕ × List ℕ)
part_front separator bytes = do
  part ← number_front 255 bytes
  rest ← after_byte separator part.1
  Some (part.0, rest)

-- a port, with which the text ends
unfoldable pub port_of : List ℕ → Option ℕ
port_of bytes = do
  port ← number_front 65535 bytes
  whole port
  where
    whole : ℕ × List ℕ → Option ℕ
    whole (n, []) = if n == 0 then None else Some n
    whole (n, byte ∷ bytes) = None

-- the address and port that a text spells
unfoldable pub address_of : List ℕ → Option (ℕ × ℕ)
address_of bytes = do
  a ← part_front 46 bytes
  b ← part_front 46 a.1
  c ← part_front 46 b.1
  d ← part_front 58 c.1
  port ← port_of d.1
  Some (((a.0 * 256 + b.0) * 256 + c.0) * 256 + d.0, port)
