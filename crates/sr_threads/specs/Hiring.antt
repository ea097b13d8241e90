-- A pipe for each board of a switch at the beginning, and the boards again.
use Rattle.std.specs.Prelude.{◌≡◌, ℕ, zero, suc, ◌+◌, List, [], ◌∷◌, map}
use Rattle.atomic_table.specs.Seated.{TableId}
use Rattle.sr_machine.specs.Config.{Config}
use Rattle.sr_machine.specs.Pipe.{fresh_pipe}
use Rattle.sr_machine.specs.declared.pipe_view.PipeView.{PipeView}
use Rattle.sr_machine.specs.declared.view.View.TheVariants.{OfPipe}
use Rattle.sr_threads.specs.declared.worker.Worker.{Worker}
use Rattle.sr_words.specs.Boarding.{HeldBoard, board_of, held}

-- A pipe that has done nothing yet, with its board.
pub record IsHired (k : Config) (t : TableId) (n : ℕ) (w : Worker) : Type 0 where
  pub layout : w.pipe.layout ≡ k.layout
  pub view : w.pipe.view ≡ fresh_pipe n
  pub board : held w.board ≡ board_of k t (OfPipe (fresh_pipe n))

-- so many pipes from this number on
abbrev pub Hired : Config → TableId → ℕ → ℕ → List Worker → Type 0
Hired k t from zero [] = Unit {0}
Hired k t from zero (w ∷ ws) = ⊥
Hired k t from (suc n) [] = ⊥
Hired k t from (suc n) (w ∷ ws) = IsHired k t from w × Hired k t (from + 1) n ws

-- what the boards are for
abbrev pub held_by : List Worker → List HeldBoard
held_by ws = map (λ w. held w.board) ws

-- what the pipes know
abbrev pub views_in : List Worker → List PipeView
views_in ws = map (λ w. w.pipe.view) ws
