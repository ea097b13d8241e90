use Rattle.std.proofs.Common.{◌≡◌}
use Rattle.sr_ctl.proofs.Going.{Going}
use Rattle.sr_ctl.proofs.acting.act.Given as goal

-- the steps so far end nothing
abbrev pub invariant-loop-step : goal.invariant-loop-step
invariant-loop-step g l =
    Going l.initial.machine.config (g.B.Board.fits l.initial.board) (g.B.Board.shows l.initial.board) l.initial.machine.view l._step
    l.machine.config (g.B.Board.fits l.board) (g.B.Board.shows l.board) l.machine.view l.machine.room
    × (g.B.Board.beside l.board ≡ g.B.Board.beside l.initial.board)
    × (g.B.Board.rests l.initial.board → g.B.Board.rests l.board)
