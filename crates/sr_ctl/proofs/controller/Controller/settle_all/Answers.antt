use Rattle.std.proofs.Common.{◌∙◌, refl}
use Rattle.sr_ctl.proofs.Endings.{settling_ends, settling_first, settling_on}
use Rattle.sr_ctl.proofs.controller.Controller.settle_all.Goals as goal

pub loop-turn-init : goal.loop-turn-init
loop-turn-init g c = (
  settling_first c.args.self.now.config (g.B.Board.fits c.args.board.now) (g.B.Board.shows c.args.board.now) c.args.self.now.view,
  c.requires.board,
  refl,
  λ r. r,
)

pub returns-in-Over-clause-settled : goal.returns-in-Over-clause-settled
returns-in-Over-clause-settled g c =
    settling_ends c.args.self.now.config (g.B.Board.fits c.args.board.now) (g.B.Board.fits c.loop-turn.board) (g.B.Board.fits c.go_on.new.board)
    (g.B.Board.shows c.args.board.now) (g.B.Board.shows c.loop-turn.board) (g.B.Board.shows c.go_on.new.board) c.args.self.now.view
    c.loop-turn.self.view c.go_on.new.self.view c.loop-turn.self.config c.go_on.new.self.config c.loop-turn.invariant.0 c.ending.result c.in-Over.ensures.went c.ending.ensures

pub loop-turn-preserved : goal.loop-turn-preserved
loop-turn-preserved g c = (
  settling_on c.args.self.now.config (g.B.Board.fits c.args.board.now) (g.B.Board.fits c.loop-turn.board) (g.B.Board.fits c.go_on.new.board)
      (g.B.Board.shows c.args.board.now) (g.B.Board.shows c.loop-turn.board) (g.B.Board.shows c.go_on.new.board) c.args.self.now.view
      c.loop-turn.self.view c.go_on.new.self.view c.loop-turn.self.config c.go_on.new.self.config c.loop-turn.invariant.0 c.in-On.ensures.went c.go_on.ensures.config,
  c.go_on.ensures.board,
  c.go_on.ensures.beside ∙ c.loop-turn.invariant.2,
  λ r. c.go_on.ensures.rest (c.loop-turn.invariant.3 r),
)
