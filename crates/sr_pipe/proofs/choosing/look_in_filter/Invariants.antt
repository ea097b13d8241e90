use Rattle.std.proofs.Common.{drop}
use Rattle.sr_machine.specs.Stages.{filtering, key_bits}
use Rattle.sr_machine.specs.declared.stage.Stage.TheVariants.{Fly}
use Rattle.sr_pipe.specs.Known.{Goes, known, staged}
use Rattle.sr_pipe.proofs.choosing.look_in_filter.Given as goal

-- the places before this one were set
abbrev pub invariant-loop-i : goal.invariant-loop-i
invariant-loop-i g l =
    Goes l.pipe.layout
    (known (g.B.Board.fits l.initial.board) (g.B.Board.shows l.initial.board) (g.B.Board.beside l.initial.board) (g.B.Board.rests l.initial.board))
    (staged l.pipe.view (Fly l.flight (filtering l.flight (key_bits l.pipe.layout l.flight.packet.key))))
    (known (g.B.Board.fits l.board) (g.B.Board.shows l.board) (g.B.Board.beside l.board) (g.B.Board.rests l.board))
    (staged l.pipe.view (Fly l.flight (filtering l.flight (drop l.i (key_bits l.pipe.layout l.flight.packet.key)))))
