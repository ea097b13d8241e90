use Rattle.std.proofs.Common.{Bool, refl, sym, subst}
use Rattle.sr_machine.specs.Stages.{filtered}
use Rattle.sr_machine.specs.Reads.{filter_word}
use Rattle.sr_machine.specs.declared.leg.Leg.TheVariants.{Filter}
use Rattle.sr_machine.specs.declared.name.Name.TheVariants as name
use Rattle.sr_machine.specs.declared.op.Op.TheVariants.{Loads}
use Rattle.sr_machine.specs.declared.stage.Stage.TheVariants.{Fly}
use Rattle.sr_pipe.proofs.Leading.{goes_one}
use Rattle.sr_pipe.specs.Known.{Goes, known, staged}
use Rattle.sr_pipe.proofs.choosing.look_at_bit.Goals as goal

pub returns : goal.returns
returns g c = record {
  goes = λ rest.
      subst
      (λ (set : Bool). Goes c.args.pipe.now.layout (known (g.B.Board.fits c.args.board.now) (g.B.Board.shows c.args.board.now) (g.B.Board.beside c.args.board.now) (g.B.Board.rests c.args.board.now)) (staged c.args.pipe.now.view (Fly c.args.flight.now (Filter c.args.bit rest)))
      (known (g.B.Board.fits c.load-x.new.self) (g.B.Board.shows c.load-x.new.self) (g.B.Board.beside c.load-x.new.self) (g.B.Board.rests c.load-x.new.self)) (staged c.args.pipe.now.view (Fly c.args.flight.now (filtered c.args.flight.now rest set))))
      (sym c.has_bit.ensures)
      (goes_one c.args.pipe.now.layout (known (g.B.Board.fits c.args.board.now) (g.B.Board.shows c.args.board.now) (g.B.Board.beside c.args.board.now) (g.B.Board.rests c.args.board.now)) (known (g.B.Board.fits c.load-x.new.self) (g.B.Board.shows c.load-x.new.self) (g.B.Board.beside c.load-x.new.self) (g.B.Board.rests c.load-x.new.self))
      (staged c.args.pipe.now.view (Fly c.args.flight.now (Filter c.args.bit rest))) (Loads (name.Filter (filter_word c.args.bit))) c.load-x.result refl refl
      c.load-x.ensures.fits c.load-x.ensures.words c.load-x.ensures.beside c.load-x.ensures.rest.still);
}
