-- The servers that a word names.
use Rattle.std.specs.Prelude.{ℕ, Bool, true, not, ◌&&◌, ◌==◌, nat_le, if◌then◌else◌, List, [], ◌∷◌, length, Option, Some, None, option_map, option_and_then}
use Rattle.std.specs.List.{list_any, slice_split}
use Rattle.sr_script.specs.Address.{address_of}
use Rattle.sr_script.specs.Spelled.{same_address}

-- the addresses that these texts spell, if each of them spells one
abbrev pub addresses_of : List (List ℕ) → Option (List (ℕ × ℕ))
addresses_of [] = Some []
addresses_of (text ∷ texts) = option_and_then (λ a. option_map (λ others. a ∷ others) (addresses_of texts)) (address_of text)

-- no address stands twice
abbrev pub all_differ : List (ℕ × ℕ) → Bool
all_differ [] = true
all_differ (a ∷ others) = not (list_any (same_address a) others) && all_differ others

-- how many these are, if they are 1 to 255 and all different
abbrev pub counted : List (ℕ × ℕ) → Option ℕ
counted known = if nat_le 1 (length known) && nat_le (length known) 255 && all_differ known then Some (length known) else None

-- how many servers a word names: addresses joined by commas, 1 to 255, all different
unfoldable pub count_of_servers : List ℕ → Option ℕ
count_of_servers word = option_and_then counted (addresses_of (slice_split (λ b. b == 44) word))
