-- Who holds each place of a layout, as a table in the order of the places: the cells of the connection table, then the rows of full keys.
use Rattle.std.specs.Prelude.{◌≡◌, List, length, slice_index_or, Option, None}
use Rattle.sr_base.specs.Key.{KeyView}
use Rattle.sr_base.specs.WordName.{HasPlace, entries_of, entry_number}
use Rattle.sr_base.specs.declared.place.Place.{Place}
use Rattle.sr_base.specs.declared.place.Place.TheVariants as place
use Rattle.sr_base.specs.declared.shape.Shape.{Shape}
use Rattle.sr_base.specs.declared.word_name.WordName.{WordName}
use Rattle.sr_base.specs.declared.word_name.WordName.TheVariants.{Slot, Full}
use Rattle.sr_shadow.specs.Book.{holder_of}
use Rattle.sr_shadow.specs.declared.entry.Entry.{Entry}

-- the table is that of the entries, for the places that the layout has
pub record IsHolderTable (shape : Shape) (table : List (Option KeyView)) (es : List Entry) : Type 0 where
  pub size : length table ≡ entries_of shape
  pub told : (place : Place) → HasPlace shape place → slice_index_or table (entry_number shape place) None ≡ holder_of place es

-- the name of the word at a place
abbrev pub name_of : Place → WordName
name_of (place.Slot way bucket cell) = Slot way bucket cell
name_of (place.Row row) = Full row
