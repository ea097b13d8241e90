use Rattle.std.proofs.Common.{◌∙◌, ◌++◌, ap, reverse, refl}
use Rattle.sr_base.specs.Layout.{LayoutView}
use Rattle.sr_base.specs.declared.shape.Shape.{Shape}
use Rattle.sr_core.specs.HeldPipes.{views_of}
use Rattle.sr_law.specs.declared.line.Line.{Line}
use Rattle.sr_machine.specs.Config.{Config}
use Rattle.sr_machine.specs.Core.{newest_first, pipe_lines}
use Rattle.sr_rounds.specs.Rounds.{rounds_of}
use Rattle.std.proofs.Common.{List}
use Rattle.sr_stepped.proofs.WholeRun.{runs_to}
use Rattle.sr_stepped.proofs.running.run_all.Goals as goal

pub returns : goal.returns
returns c =
    runs_to c.args.controller.now.config c.args.seed c.args.packets.now c.deref.result.now c.args.board.now c.play_rounds.new.board c.settle.new.board
    c.args.pipes.now c.play_rounds.new.pipes c.args.controller.now c.play_rounds.new.controller c.settle.new.controller c.settle.result
    c.in_ok-awaited.awaited c.in_ok-lines.lines.items refl c.requires.first
    (c.deref.ensures.value ∙ c.in_ok-rounds.ensures
    ∙ ap (λ (s : Shape). rounds_of s.window_ms c.args.packets.now)
    (c.shape.ensures ∙ ap (λ (l : LayoutView). l.shape) c.layout.ensures ∙ ap (λ (k : Config). k.layout.shape) c.config.ensures))
    c.in_ok-play_rounds.ensures.played c.settle.ensures.settled c.in_ok-awaited.ensures
    (c.in_ok-lines.ensures
    ∙ ap (λ (ls : List Line). reverse (newest_first (pipe_lines (views_of c.play_rounds.new.pipes) ++ ls))) c.lines.ensures)
