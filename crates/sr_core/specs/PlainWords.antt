-- The shared words as a plain list, in the order of a layout.
use Rattle.std.specs.Prelude.{◌≡◌, ℕ, List}
use Rattle.sr_base.specs.Layout.{LayoutView}
use Rattle.sr_base.specs.WordName.{HasWord, word_at}
use Rattle.sr_machine.specs.Names.{word_name}
use Rattle.sr_machine.specs.declared.name.Name.{Name}

pub record HeldWords : Type 0 where
  pub layout : LayoutView
  pub words : List ℕ

-- each word of the layout is the one of its name
abbrev pub ShowsWords : LayoutView → List ℕ → (Name → ℕ) → Type 0
ShowsWords l list words = (name : Name) → HasWord l (word_name name) → word_at l list (word_name name) ≡ words name
