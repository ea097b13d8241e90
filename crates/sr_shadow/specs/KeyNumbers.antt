-- From a key to the number of its entry.
use Rattle.std.specs.Prelude.{◌≡◌, ℕ, List, Option, option_map}
use Rattle.sr_base.specs.Key.{KeyView, IsKey, packed}
use Rattle.sr_shadow.specs.Book.{entry_for}
use Rattle.sr_shadow.specs.declared.entry.Entry.{Entry}

-- under each packed key the number of the key's entry, and nothing where it has none
abbrev pub Numbered : (ℕ → Option ℕ) → List Entry → Type 0
Numbered numbers es = (key : KeyView) → IsKey key → numbers (packed key) ≡ option_map (λ e. e.taken) (entry_for key es)
