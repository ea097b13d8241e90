-- What the book is seen as where its room is counted, and what holds of its entries in a ledger.
use Rattle.std.specs.Prelude.{ℕ, ◌<◌, IfSome}
use Rattle.std.specs.List.{AllByRecursion}
use Rattle.sr_base.specs.Layout.{LayoutView}
use Rattle.sr_base.specs.WordName.{HasPlace}
use Rattle.sr_base.specs.declared.shape.Shape.{Shape}
use Rattle.sr_shadow.specs.declared.book.Book.{Book}
use Rattle.sr_shadow.specs.declared.entry.Entry.{Entry}

-- the layout that it was made of, the book, and how many more entries it takes without memory
pub record LedgerView : Type 0 where
  pub layout : LayoutView
  pub book : Book
  pub room : ℕ

-- an entry stands where the tables have a place, and was taken before so many were
pub record FitsEntry (shape : Shape) (taken : ℕ) (e : Entry) : Type 0 where
  pub stands : IfSome e.place (HasPlace shape)
  pub before : e.taken < taken

-- all entries do
abbrev pub AllFit : LedgerView → Type 0
AllFit l = AllByRecursion (FitsEntry l.layout.shape l.book.taken) l.book.entries
