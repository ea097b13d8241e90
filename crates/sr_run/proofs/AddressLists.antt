-- Reading addresses one after another.
use Rattle.std.proofs.Common.{◌≡◌, ◌==◌, ◌<◌, length, arith, ℕ, List, [], ◌∷◌, ◌++◌, Option, Some, None, option_map, refl, ap, ◌∙◌, sym, append_assoc}
use Rattle.std.specs.Option.{option_and_then}
use Rattle.std.specs.List.{slice_split, position_or_len, before_first, after_first}
use Rattle.std.proofs.lemmas.List.Splits.{slice_split_first, slice_split_none}
use Rattle.std.proofs.lemmas.List.Sums.{fails_before_first}
use Rattle.sr_script.specs.Address.{address_of}
use Rattle.sr_run.specs.Servers.{addresses_of}

-- these addresses, and then those that are read
abbrev pub prefixed : List (ℕ × ℕ) → Option (List (ℕ × ℕ)) → Option (List (ℕ × ℕ))
prefixed known read = option_map (λ others. known ++ others) read

onto_read : (known : List (ℕ × ℕ)) (a : ℕ × ℕ) (read : Option (List (ℕ × ℕ))) → prefixed known (option_map (λ others. a ∷ others) read) ≡ prefixed (known ++ a ∷ []) read
onto_read known a None = refl
onto_read known a (Some others) = ap Some (sym (append_assoc known (a ∷ []) others))

-- one address more
pub prefixed_more : (known : List (ℕ × ℕ)) (text : List ℕ) (texts : List (List ℕ)) (a : ℕ × ℕ) → address_of text ≡ Some a
    → prefixed known (addresses_of (text ∷ texts)) ≡ prefixed (known ++ a ∷ []) (addresses_of texts)
prefixed_more known text texts a e = ap (λ o. prefixed known (option_and_then (λ b. option_map (λ others. b ∷ others) (addresses_of texts)) o)) e ∙ onto_read known a (addresses_of texts)

-- a text that is no address
pub prefixed_none : (known : List (ℕ × ℕ)) (text : List ℕ) (texts : List (List ℕ)) → address_of text ≡ None
    → prefixed known (addresses_of (text ∷ texts)) ≡ None
prefixed_none known text texts e = ap (λ o. prefixed known (option_and_then (λ b. option_map (λ others. b ∷ others) (addresses_of texts)) o)) e

-- the first text ends at the first comma
pub split_more : (rest front back : List ℕ) → position_or_len (λ b. b == 44) rest < length rest
    → front ≡ before_first (λ b. b == 44) rest → back ≡ after_first (λ b. b == 44) rest
    → slice_split (λ b. b == 44) rest ≡ front ∷ slice_split (λ b. b == 44) back
split_more rest front back comma is_front is_back =
    slice_split_first (λ b. b == 44) rest 0 comma ∙ ap (λ t. t ∷ slice_split (λ b. b == 44) (after_first (λ b. b == 44) rest)) (sym is_front)
    ∙ ap (λ t. front ∷ slice_split (λ b. b == 44) t) (sym is_back)

-- without a comma there is one text
pub split_last : (rest : List ℕ) → position_or_len (λ b. b == 44) rest ≡ length rest → slice_split (λ b. b == 44) rest ≡ rest ∷ []
split_last rest none = slice_split_none (λ b. b == 44) rest (λ k d below. fails_before_first (λ b. b == 44) rest k d (omega arith))
