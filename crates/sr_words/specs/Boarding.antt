-- Boards as data, and the boards of a switch.
use Rattle.std.specs.List.{list_all, range_with_len}
use Rattle.std.specs.Prelude.{◌≡◌, ℕ, ◌+◌, ◌-◌, ◌++◌, Bool, true, false, List, [], ◌∷◌, map}
use Rattle.atomic_table.specs.Seated.{TableId}
use Rattle.atomic_table.specs.Table.{Me}
use Rattle.sr_base.specs.Layout.{LayoutView}
use Rattle.sr_machine.specs.Config.{Config}
use Rattle.sr_machine.specs.Deciding.{words_taken}
use Rattle.sr_machine.specs.Opening.{opening_controller}
use Rattle.sr_machine.specs.Pipe.{fresh_pipe, is_idle}
use Rattle.sr_machine.specs.declared.controller_view.ControllerView.{ControllerView}
use Rattle.sr_machine.specs.declared.pipe_view.PipeView.{PipeView}
use Rattle.sr_machine.specs.declared.view.View.{View}
use Rattle.sr_machine.specs.declared.view.View.TheVariants.{OfPipe, OfController}
use Rattle.sr_words.specs.Seats.{first_seated, seated}
use Rattle.sr_words.specs.Steps.{FitsSeat}
use Rattle.sr_words.specs.declared.heard.Heard.{Heard}
use Rattle.sr_words.specs.declared.heard.Heard.TheVariants.{Nothing}
use Rattle.sr_words.specs.declared.seated.Seated.{Seated}
use Rattle.sr_words.specs.declared.word_board.WordBoard.{WordBoard}

-- What a board is for: what the machine was made for, which table it belongs to, what its seat's actors know and were told.
pub record HeldBoard : Type 0 where
  pub config : Config
  pub table : TableId
  pub seat : Seated
  pub heard : Heard

abbrev pub held : WordBoard → HeldBoard
held b = record { config = b.words.now.key; table = b.seat.table_id; seat = b.seat.me.0; heard = b.heard }

-- ---- at the beginning

-- the first seat steps for all actors
abbrev pub IsFirst : Config → TableId → TableId → Me (Unit {0}) Seated → Type 0
IsFirst k table own me = (own ≡ table) × (me ≡ (first_seated k, []))

-- a board of one actor
abbrev pub board_of : Config → TableId → View → HeldBoard
board_of k table x = record { config = k; table = table; seat = seated (x ∷ []); heard = Nothing }

-- the boards of so many pipes from this one on, which have done nothing yet
abbrev pub new_boards : Config → TableId → ℕ → ℕ → List HeldBoard
new_boards k table from count = map (λ p. board_of k table (OfPipe (fresh_pipe p))) (range_with_len from count)

-- one board a pipe, in order, and the controller's
abbrev pub AreNew : Config → TableId → List WordBoard → WordBoard → Type 0
AreNew k table pipes controller =
    (map held pipes ≡ new_boards k table 0 k.layout.shape.pipes)
    × (held controller ≡ board_of k table (OfController (opening_controller k)))

-- ---- at rest

-- the number after that of the one actor, where this is a pipe; else 0
abbrev pub number_of : List View → ℕ
number_of (OfPipe v ∷ []) = v.number + 1
number_of views = 0

-- the views of all these boards
abbrev pub views_of : List HeldBoard → List View
views_of [] = []
views_of (b ∷ rest) = b.seat.actors ++ views_of rest

-- each board fits its pipe's view, and the pipe is idle
abbrev pub FitIdle : List HeldBoard → List PipeView → Type 0
FitIdle [] [] = Unit {0}
FitIdle [] (v ∷ views) = ⊥
FitIdle (b ∷ rest) [] = ⊥
FitIdle (b ∷ rest) (v ∷ views) =
    ((k : Config) × FitsSeat b.config b.seat b.heard k (OfPipe v)) × (is_idle v.stage ≡ true) × FitIdle rest views

-- the one actor is the controller
abbrev pub is_controlled : List View → Bool
is_controlled (OfController c ∷ []) = true
is_controlled views = false

-- These are what the controller and all pipes know, in order, and no pipe has a packet in hand.
pub record AreAtRest (l : LayoutView) (views : List View) : Type 0 where
  pub controller : ControllerView
  pub pipes : List PipeView
  pub are : views ≡ OfController controller ∷ map OfPipe pipes
  pub numbers : map (λ v. v.number) pipes ≡ range_with_len 0 l.shape.pipes
  pub idle : list_all (λ v. is_idle v.stage) pipes ≡ true

-- how many reports pipes have pushed
abbrev pub pushed_in : List View → ℕ
pushed_in [] = 0
pushed_in (OfPipe v ∷ rest) = v.pushed + pushed_in rest
pushed_in (OfController c ∷ rest) = pushed_in rest

-- and how many of them the controller, whose view is the first, hasn't taken
abbrev pub reports_in : List View → ℕ
reports_in (OfController c ∷ rest) = pushed_in rest - words_taken c.rings
reports_in (OfPipe v ∷ rest) = 0
reports_in [] = 0
