-- Of one way, how many registered keys are in each class of keys that clash, how many of them are outside the full-key table, and how many
-- stand in a slot of the way.
use Rattle.std.specs.Prelude.{◌≡◌, ℕ, ◌+◌, ◌*◌, ◌≤◌, Bool, ◌&&◌, List, ◌∷◌, ◌++◌, length, Option, Some, None, cond, unwrap_or, count_by}
use Rattle.sr_base.specs.Key.{KeyView}
use Rattle.sr_base.specs.declared.shape.Shape.{Shape}
use Rattle.sr_hash.specs.Clash.{clashes}
use Rattle.sr_hash.specs.Uses.{bucket_of, digest_of}
use Rattle.sr_shadow.specs.Book.{standing_of, most_taken}
use Rattle.sr_shadow.specs.Entry.{is_outside}
use Rattle.sr_shadow.specs.declared.entry.Entry.{Entry}
use Rattle.sr_shadow.specs.declared.tally.Tally.{Tally}

-- a number for the keys that clash with this one
abbrev pub class_of : Shape → ℕ → KeyView → ℕ
class_of shape way key = (key.vip * 65536 + bucket_of way key shape.buckets) * 65536 + digest_of way key shape.digest_bits

-- the entry's key is in the key's class
abbrev pub is_member : Shape → ℕ → KeyView → Entry → Bool
is_member shape way key e = clashes shape way key e.key

-- and it is outside the full-key table
abbrev pub is_outsider : Shape → ℕ → KeyView → Entry → Bool
is_outsider shape way key e = is_outside e && clashes shape way key e.key

-- the numbers of a class without a registered key
abbrev pub no_tally : Tally
no_tally = record { members = 0; outside = 0; standing = 0 }

-- the numbers of a class
abbrev pub tally_of : (ℕ → Option Tally) → ℕ → Tally
tally_of tallies class = unwrap_or (tallies class) no_tally

-- the numbers are those of the entries
pub record Tallied (shape : Shape) (way : ℕ) (tallies : ℕ → Option Tally) (es : List Entry) : Type 0 where
  pub members : (key : KeyView) → (tally_of tallies (class_of shape way key)).members ≡ count_by (is_member shape way key) es
  pub outside : (key : KeyView) → (tally_of tallies (class_of shape way key)).outside ≡ count_by (is_outsider shape way key) es
  pub standing : (key : KeyView) → (tally_of tallies (class_of shape way key)).standing ≡ standing_of shape way key es

-- what a class needs to be a number of its own
abbrev pub IsClassed : Shape → Type 0
IsClassed shape = (1 ≤ shape.buckets) × (shape.buckets ≤ 65536) × (shape.digest_bits ≤ 16)

-- whether the key's own entry is an outsider
abbrev pub own_outside : Option Entry → ℕ
own_outside None = 0
own_outside (Some e) = cond (is_outside e) 1 0

-- there are few enough entries for 64 bits
abbrev pub FewTallied : Shape → ℕ → (ℕ → Option Tally) → Type 0
FewTallied shape way tallies = (es : List Entry) × Tallied shape way tallies es × (length es ≤ most_taken)

-- the entry is one of those tallied
abbrev pub HasTallied : Shape → ℕ → (ℕ → Option Tally) → Entry → Type 0
HasTallied shape way tallies e = (front : List Entry) × (back : List Entry) × Tallied shape way tallies (front ++ e ∷ back)
