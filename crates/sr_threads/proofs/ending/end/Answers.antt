use Rattle.std.proofs.Common.{◌≡◌, ◌∙◌, List, map, refl, sym, ap, subst}
use Rattle.std.specs.List.{range_with_len}
use Rattle.atomic_table.specs.Seated.{TableId}
use Rattle.sr_ctl.specs.SeenController.{SeenController}
use Rattle.sr_law.specs.declared.line.Line.{Line}
use Rattle.sr_machine.specs.Config.{Config}
use Rattle.sr_machine.specs.Core.{pipe_lines}
use Rattle.sr_threads.proofs.Together.{fit_idle, views_numbered}
use Rattle.sr_threads.specs.Governing.{Governs}
use Rattle.sr_threads.specs.Hiring.{held_by, views_in}
use Rattle.sr_threads.specs.Replayed.{AtWork, MayEnd}
use Rattle.sr_threads.specs.declared.worker.Worker.{Worker}
use Rattle.sr_words.specs.Boarding.{FitIdle, HeldBoard, held}
use Rattle.sr_words.specs.declared.boards.Boards.{Boards}
use Rattle.sr_words.specs.declared.word_board.WordBoard.{WordBoard}
use Rattle.sr_threads.proofs.ending.end.Goals as goal

pub gather-requires : goal.gather-requires
gather-requires c = (c.requires.0, c.args.controller.now, c.requires.1)

-- the pipes of the boards are those of the workers, between rounds
module _ (k : Config) (t : TableId) (workers now : List Worker) (board : WordBoard) (boards : Boards) (c : SeenController) (lines : List Line)
    (work : AtWork k t workers board c) (same : c.config ≡ k) (all : now ≡ workers) (pipes : map held boards.pipes.items ≡ held_by workers)
    (controller : boards.controller ≡ board) (are : lines ≡ pipe_lines (views_in now)) where
  may_end : MayEnd boards c lines (views_in workers)
  may_end = record {
    idle = subst (λ (hs : List HeldBoard). FitIdle hs (views_in workers)) (sym pipes) (fit_idle k t 0 k.layout.shape.pipes workers work.pipes);
    numbers =
        subst (λ (x : Config). map (λ v. v.number) (views_in workers) ≡ range_with_len 0 x.layout.shape.pipes) (sym same)
        (views_numbered k t 0 k.layout.shape.pipes workers work.pipes);
    governs = subst (λ (b : WordBoard). Governs b c) (sym controller) work.governs;
    lines_are = are ∙ ap (λ (ws : List Worker). pipe_lines (views_in ws)) all;
  }

pub settle-requires : goal.settle-requires
settle-requires c = (
  views_in c.args.workers.items,
  may_end c.args.controller.now.config c.requires.0 c.args.workers.items c.deref.result.now c.args.board c.in_ok-boards.boards c.args.controller.now
      c.in_ok-lines.lines.items c.requires.1 refl c.deref.ensures.value c.in_ok-boards.ensures.pipes c.in_ok-boards.ensures.controller
      c.in_ok-lines.ensures.lines,
)

pub returns-clause-lines : goal.returns-clause-lines
returns-clause-lines c =
    c.in_ok-ended.ensures.lines (views_in c.args.workers.items)
    (may_end c.args.controller.now.config c.requires.0 c.args.workers.items c.deref.result.now c.args.board c.in_ok-boards.boards c.args.controller.now
    c.in_ok-lines.lines.items c.requires.1 refl c.deref.ensures.value c.in_ok-boards.ensures.pipes c.in_ok-boards.ensures.controller
    c.in_ok-lines.ensures.lines)
