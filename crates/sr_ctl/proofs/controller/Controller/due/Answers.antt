use Rattle.sr_ctl.proofs.Telling.{can_be_told}
use Rattle.sr_ctl.proofs.controller.Controller.due.Goals as goal

pub due-requires-2 : goal.due-requires-2
due-requires-2 g c =
    can_be_told (g.B.Board.fits c.args.board.now) (g.B.Board.beside c.args.board.now) c.args.self.now c.args.ms c.requires.board c.requires.time
