use Rattle.std.proofs.Common.{◌≡◌}
use Rattle.sr_ctl.proofs.Endings.{Settling}
use Rattle.sr_ctl.specs.SeenController.{IsFor}
use Rattle.sr_ctl.proofs.controller.Controller.settle_all.Given as goal

-- the turns so far aren't the last
abbrev pub invariant-loop-turn : goal.invariant-loop-turn
invariant-loop-turn g l =
    Settling l.initial.self.config (g.B.Board.fits l.initial.board) (g.B.Board.shows l.initial.board) l.initial.self.view l.self.config
    (g.B.Board.fits l.board) (g.B.Board.shows l.board) l.self.view
    × IsFor (g.B.Board.fits l.board) (g.B.Board.beside l.board) l.self
    × (g.B.Board.beside l.board ≡ g.B.Board.beside l.initial.board)
    × (g.B.Board.rests l.initial.board → g.B.Board.rests l.board)
