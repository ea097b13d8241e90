-- What a board over shared words belongs to, and what its seat holds beside its actor's view.
use Rattle.std.specs.Prelude.{List, [], ◌∷◌, Some, None}
use Rattle.atomic_table.specs.Seated.{TableId}
use Rattle.sr_base.specs.Layout.{LayoutView}
use Rattle.sr_machine.specs.Boards.{Beside}
use Rattle.sr_machine.specs.declared.view.View.{View}
use Rattle.sr_words.specs.declared.seated.Seated.{Seated}

abbrev pub all_but_first : List View → List View
all_but_first [] = []
all_but_first (x ∷ rest) = rest

abbrev pub beside_of : LayoutView → TableId → Seated → Beside
beside_of l table seat = record {
  layout = l;
  actor = None;
  table = Some table;
  joined = all_but_first seat.actors;
  name = None;
}
