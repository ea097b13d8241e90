-- Decimal numbers at the front of bytes, and what digits come to.
use Rattle.std.specs.Prelude.{ℕ, ◌+◌, ◌*◌, ◌-◌, Bool, ◌&&◌, ◌==◌, nat_le, if◌then◌else◌, List, [], ◌∷◌, Option, Some, None}

-- the byte is one of 0 to 9
abbrev pub is_digit : ℕ → Bool
is_digit byte = nat_le 48 byte && nat_le byte 57

-- the number that goes on from n with these digits
abbrev pub value_from : ℕ → List ℕ → ℕ
value_from n [] = n
value_from n (digit ∷ digits) = value_from (10 * n + (digit - 48)) digits

-- the number that goes on from n with the digits at the front, and the bytes after them; none where it passes `most`
abbrev pub digits_on : ℕ → ℕ → List ℕ → Option (ℕ × List ℕ)
digits_on most n [] = Some (n, [])
digits_on most n (byte ∷ bytes) =
    if is_digit byte
    then (if nat_le (10 * n + (byte - 48)) most then digits_on most (10 * n + (byte - 48)) bytes else None)
    else Some (n, byte ∷ bytes)

-- the number at the front, and the bytes after it: a zero alone, or digits that don't begin with a zero
unfoldable pub number_front : ℕ → List ℕ → Option (ℕ × List ℕ)
number_front most [] = None
number_front most (byte ∷ bytes) =
    if byte == 48 then Some (0, bytes)
    else if is_digit byte then (if nat_le (byte - 48) most then digits_on most (byte - 48) bytes else None)
    else None
