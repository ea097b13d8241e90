use Rattle.std.proofs.Common.{◌≡◌, false}
use Rattle.sr_machine.specs.Pipe.{is_idle}
use Rattle.sr_pipe.specs.Known.{IsFor}
use Rattle.sr_pipe_rows.proofs.scene.stepped.Given as goal

-- the packet has a further step, and the board is its pipe's
abbrev pub invariant-loop-n : goal.invariant-loop-n
invariant-loop-n g l = (is_idle l.pipe.view.stage ≡ false) × IsFor (g.B.Board.fits l.board) (g.B.Board.beside l.board) l.pipe
