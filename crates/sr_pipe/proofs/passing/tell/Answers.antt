use Rattle.sr_pipe.proofs.Entering.{can_enter}
use Rattle.sr_pipe.proofs.passing.tell.Goals as goal

pub enter-requires : goal.enter-requires
enter-requires g c =
    can_enter (g.B.Board.fits c.args.board.now) (g.B.Board.beside c.args.board.now) c.args.pipe.now c.args.packet.now c.requires.idle
    c.requires.vip c.requires.lines c.requires.board
