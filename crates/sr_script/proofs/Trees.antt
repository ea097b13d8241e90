-- What `toml` holds beside what it stands for.
use Rattle.std.proofs.Common.{◌≡◌, List, [], ◌∷◌, String, Global, string_bytes, map, refl, ap}
use Rattle.std.specs.Map.{keys_of as map_keys}
use Rattle.toml.specs.declared.value.Value.{Value}
use Rattle.toml.specs.Data.{Data}
use Rattle.toml.specs.View.{items_of, members_view}
use Rattle.sr_script.specs.Judge.{list_of, keys_of}

-- the elements of an array
pub list_of_items : (ds : List Data) → list_of (items_of ds) ≡ ds
list_of_items [] = refl
list_of_items (d ∷ ds) = ap (λ rest. d ∷ rest) (list_of_items ds)

-- the keys of a table
pub keys_of_view : (es : List (String Global × Value)) → keys_of (members_view es) ≡ map string_bytes (map_keys es)
keys_of_view [] = refl
keys_of_view (e ∷ es) = ap (λ rest. string_bytes e.0 ∷ rest) (keys_of_view es)
