use Rattle.sr_machine.specs.Stages.{looking}
use Rattle.sr_machine.specs.declared.stage.Stage.TheVariants.{Fly}
use Rattle.sr_pipe.specs.Known.{Goes, known, staged}
use Rattle.sr_pipe.specs.Places.{places_from}
use Rattle.sr_pipe.proofs.looking.look_rows.Given as goal

-- the rows before this one said nothing
abbrev pub invariant-loop-i : goal.invariant-loop-i
invariant-loop-i g l =
    Goes l.pipe.layout
    (known (g.B.Board.fits l.initial.board) (g.B.Board.shows l.initial.board) (g.B.Board.beside l.initial.board) (g.B.Board.rests l.initial.board))
    (staged l.pipe.view (Fly l.flight (looking l.pipe.layout l.flight (places_from l.pipe.layout l.flight.packet.key 0))))
    (known (g.B.Board.fits l.board) (g.B.Board.shows l.board) (g.B.Board.beside l.board) (g.B.Board.rests l.board))
    (staged l.pipe.view (Fly l.flight (looking l.pipe.layout l.flight (places_from l.pipe.layout l.flight.packet.key l.i))))
