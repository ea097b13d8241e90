-- What a whole run on threads leads to.
use Rattle.std.specs.Prelude.{◌≡◌, ℕ, zero, suc, ◌+◌, true, List, [], ◌∷◌, Option, None, Some, map}
use Rattle.std.specs.List.{range_with_len}
use Rattle.atomic_table.specs.Seated.{TableId}
use Rattle.sr_base.specs.Key.{KeyView}
use Rattle.sr_ctl.specs.SeenController.{SeenController}
use Rattle.sr_inv_ends.specs.Laws.{last_clock}
use Rattle.sr_inv_entered.specs.Entered.{AreTakable, given}
use Rattle.sr_inv_facts.specs.Fitted.{IsFitted}
use Rattle.sr_inv_final.specs.Reached.{IsReached}
use Rattle.sr_inv_final.specs.Rest.{AreIdle}
use Rattle.sr_inv_lawful.specs.Lawful.{HaveHandled}
use Rattle.sr_inv_rest.specs.Laws.{AtLeisure}
use Rattle.sr_law.specs.declared.line.Line.{Line}
use Rattle.sr_machine.specs.Boards.{Beside}
use Rattle.sr_machine.specs.Config.{Config}
use Rattle.sr_machine.specs.Core.{Core, lines_of, pipe_lines}
use Rattle.sr_machine.specs.Pipe.{is_idle}
use Rattle.sr_machine.specs.Settling.{Settles}
use Rattle.sr_machine.specs.declared.controller_view.ControllerView.{ControllerView}
use Rattle.sr_machine.specs.declared.pipe_view.PipeView.{PipeView}
use Rattle.sr_machine.specs.declared.view.View.TheVariants.{OfPipe}
use Rattle.sr_rounds.specs.declared.timed.Timed.{Timed}
use Rattle.sr_scripted.specs.Played.{settled_for}
use Rattle.sr_threads.specs.Governing.{Governs, beside as beside_board}
use Rattle.sr_threads.specs.Working.{Fits, beside}
use Rattle.sr_threads.specs.declared.worker.Worker.{Worker}
use Rattle.sr_words.specs.Boarding.{FitIdle, held}
use Rattle.sr_words.specs.declared.boards.Boards.{Boards}
use Rattle.sr_words.specs.declared.word_board.WordBoard.{WordBoard}

-- ---- between rounds

-- the board is one of this table, and its seat has one actor
abbrev pub alone_on : Config → TableId → Beside
alone_on k t = record { layout = k.layout; actor = None; table = Some t; joined = []; name = None }

-- A pipe of this number has no packet in hand, and its board fits what it knows.
pub record IsAtWork (k : Config) (t : TableId) (n : ℕ) (w : Worker) : Type 0 where
  pub layout : w.pipe.layout ≡ k.layout
  pub idle : is_idle w.pipe.view.stage ≡ true
  pub fits : Fits w k (OfPipe w.pipe.view)
  pub belongs : beside w ≡ alone_on k t
  pub number : w.pipe.view.number ≡ n

-- so do so many from this number on
abbrev pub AreAtWork : Config → TableId → ℕ → ℕ → List Worker → Type 0
AreAtWork k t from zero [] = Unit {0}
AreAtWork k t from zero (w ∷ ws) = ⊥
AreAtWork k t from (suc n) [] = ⊥
AreAtWork k t from (suc n) (w ∷ ws) = IsAtWork k t from w × AreAtWork k t (from + 1) n ws

-- All pipes and the controller are between rounds.
pub record AtWork (k : Config) (t : TableId) (ws : List Worker) (b : WordBoard) (c : SeenController) : Type 0 where
  pub pipes : AreAtWork k t 0 k.layout.shape.pipes ws
  pub governs : Governs b c
  pub belongs : beside_board b ≡ alone_on k t

-- ---- at the end

-- The pipes, whose lines are these, have no packet in hand, and their boards and the controller's fit what they know.
pub record MayEnd (boards : Boards) (c : SeenController) (lines : List Line) (views : List PipeView) : Type 0 where
  pub idle : FitIdle (map held boards.pipes.items) views
  pub numbers : map (λ v. v.number) views ≡ range_with_len 0 c.config.layout.shape.pipes
  pub governs : Governs boards.controller c
  pub lines_are : lines ≡ pipe_lines views

-- Events lead to a state in which the pipes and the controller know this. From there the controller's turns lead to a state with these lines, and end with
-- this key waited for, if with any.
pub record Ends (k : Config) (views : List PipeView) (c : ControllerView) (lines : List Line) (awaited : Option KeyView) : Type 0 where
  pub last : Core
  pub reached : IsReached k last
  pub pipes : last.pipes ≡ views
  pub controller : last.controller ≡ c
  pub state : Core
  pub turns : Settles last (settled_for awaited) state
  pub all : lines ≡ lines_of state

-- Events lead to a state in which the boards rest: no packet is in hand, and all packets were handled, each once, where they can be taken. From there the
-- controller's turns lead to a state with these lines, and end with this key waited for, if with any.
pub record RunsOnThreads (k : Config) (packets : List Timed) (lines : List Line) (awaited : Option KeyView) : Type 0 where
  pub last : Core
  pub reached : IsReached k last
  pub idle : AreIdle last
  pub leisure : AtLeisure last
  pub clock : last.controller.clock ≡ last_clock k packets
  pub handled : AreTakable k packets → HaveHandled (given packets) last
  pub state : Core
  pub turns : Settles last (settled_for awaited) state
  pub all : lines ≡ lines_of state
