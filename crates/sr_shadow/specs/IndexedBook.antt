-- What the parts of an `IndexedBook` have to do with the list of its entries.
use Rattle.std.specs.Prelude.{◌≡◌, ℕ, List, Option, Some}
use Rattle.sr_base.specs.Key.{KeyView}
use Rattle.sr_base.specs.Layout.{LayoutView}
use Rattle.sr_shadow.specs.Book.{entry_for, IsBook}
use Rattle.sr_shadow.specs.VersionCounts.{Counted}
use Rattle.sr_shadow.specs.Holders.{IsHolderTable}
use Rattle.sr_shadow.specs.KeyNumbers.{Numbered}
use Rattle.sr_shadow.specs.Rivals.{Tallied}
use Rattle.sr_shadow.specs.declared.entry.Entry.{Entry}
use Rattle.sr_shadow.specs.declared.tally.Tally.{Tally}

-- each index is that of the entries
pub record IsIndexed (layout : LayoutView) (es : List Entry) (taken : ℕ) (numbers : ℕ → Option ℕ) (counts : List ℕ) (one two : ℕ → Option Tally) (table : List (Option KeyView)) : Type 0 where
  pub book : IsBook es taken
  pub numbered : Numbered numbers es
  pub counted : Counted counts es
  pub first : Tallied layout.shape 1 one es
  pub second : Tallied layout.shape 2 two es
  pub held : IsHolderTable layout.shape table es

-- an entry may stand in the place of the key's: all that the indexes know of it is the same
abbrev pub CanNote : KeyView → Entry → List Entry → Type 0
CanNote key f entries =
    (e : Entry) × (entry_for key entries ≡ Some e) × (f.key ≡ e.key) × (f.version ≡ e.version) × (f.place ≡ e.place) × (f.also ≡ e.also) × (f.taken ≡ e.taken)
