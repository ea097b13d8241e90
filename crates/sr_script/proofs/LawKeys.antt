-- The walk gives a value exactly where the schema has it: keys.
use Rattle.std.proofs.Common.{◌≡◌, ℕ, true, false, List, Option, Some, Ordering, Less, Equal, Greater, is_some, nat_cmp, is_eq, Ok, sym}
use Rattle.std.specs.Ordering.{match_ordering}
use Rattle.std.specs.Cmp.Lexicographic.{slice_cmp}
use Rattle.std.specs.List.{AllByRecursion}
use Rattle.std.specs.Str.{bytes_eq}
use Rattle.std.proofs.lemmas.Map.Text.{is_eq-slice_cmp}
use Rattle.std.proofs.lemmas.Slice.Eq.{bytes_eq-Decides}
use Rattle.toml.specs.Data.{Data, Members, no_members, member, get_member}
use Rattle.sr_script.specs.declared.why.Why.TheVariants.{Missing}
use Rattle.sr_script.specs.Judge.{keys_of, has, wanted}
use Rattle.sr_script.specs.Schema.{HasOnly, IsAmong, At}
use Rattle.sr_script.proofs.LawWords.{ok_or_ok}

known_order : (key l : List ℕ) (known : List (List ℕ)) (d rest : Option Data) (o : Ordering) → is_eq o ≡ bytes_eq key l → is_some (match_ordering o rest d rest) ≡ true
    → IsAmong known l → (is_some rest ≡ true → IsAmong known key) → IsAmong known key
known_order key l known d rest Less e h here more = more h
known_order key l known d rest Greater e h here more = more h
known_order key l known d rest Equal e h here more = let same : key ≡ l = (bytes_eq-Decides key l).0 (sym e) in rw same here

-- a key that the table has is one of its known ones
pub has_known : (key : List ℕ) (known : List (List ℕ)) (t : Members) → has key t ≡ true → HasOnly known t → IsAmong known key
has_known key known no_members h only = cc
has_known key known (member l d ms) h only =
    known_order key l known (Some d) (get_member key ms) (slice_cmp nat_cmp key l) (is_eq-slice_cmp key l) h only.0 (λ h. has_known key known ms h only.1)

lacks_order : (key l : List ℕ) (d : Data) (rest : Option Data) (o : Ordering) → is_eq o ≡ bytes_eq key l → is_some (match_ordering o rest (Some d) rest) ≡ false
    → (bytes_eq key l ≡ false) × (is_some rest ≡ false)
lacks_order key l d rest Less e h = (sym e, h)
lacks_order key l d rest Greater e h = (sym e, h)
lacks_order key l d rest Equal e h = cc

-- a key that the table hasn't isn't among its keys
pub lacks_key : (key : List ℕ) (t : Members) → has key t ≡ false → AllByRecursion (λ l. bytes_eq key l ≡ false) (keys_of t)
lacks_key key no_members h = tt
lacks_key key (member l d ms) h =
    let p = lacks_order key l d (get_member key ms) (slice_cmp nat_cmp key l) (is_eq-slice_cmp key l) h in
    (p.0, lacks_key key ms p.1)

-- a key that has to be there
pub wanted_to : (key : List ℕ) (t : Members) (d : Data) → wanted key t ≡ Ok d → get_member key t ≡ Some d
wanted_to key t d h = ok_or_ok (get_member key t) Missing d h

pub has_at : (key : List ℕ) (t : Members) (P : Data → Type 0) → At key t P → has key t ≡ true
has_at key t P h = rw h.1
