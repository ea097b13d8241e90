use Rattle.std.proofs.Common.{◌+◌, ◌*◌}
use Rattle.sr_machine.specs.Stages.{looking}
use Rattle.sr_machine.specs.declared.stage.Stage.TheVariants.{Fly}
use Rattle.sr_pipe.specs.Known.{Goes, known, staged}
use Rattle.sr_pipe.specs.Places.{places_from}
use Rattle.sr_pipe.proofs.looking.look_cells.Given as goal

-- the cells before this one said nothing
abbrev pub invariant-loop-cell : goal.invariant-loop-cell
invariant-loop-cell g l =
    Goes l.pipe.layout
    (known (g.B.Board.fits l.initial.board) (g.B.Board.shows l.initial.board) (g.B.Board.beside l.initial.board) (g.B.Board.rests l.initial.board))
    (staged l.pipe.view (Fly l.flight (looking l.pipe.layout l.flight (places_from l.pipe.layout l.flight.packet.key (4 * l.way)))))
    (known (g.B.Board.fits l.board) (g.B.Board.shows l.board) (g.B.Board.beside l.board) (g.B.Board.rests l.board))
    (staged l.pipe.view (Fly l.flight (looking l.pipe.layout l.flight (places_from l.pipe.layout l.flight.packet.key (4 * l.way + l.cell)))))
