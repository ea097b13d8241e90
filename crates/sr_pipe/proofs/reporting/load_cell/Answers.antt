use Rattle.std.proofs.Common.{Some, refl, sym, ap}
use Rattle.sr_base.specs.declared.word_name.WordName.{WordName}
use Rattle.sr_machine.specs.Names.{name_for}
use Rattle.sr_machine.specs.declared.leg.Last.TheVariants as last
use Rattle.sr_machine.specs.declared.leg.Leg.TheVariants.{Judged}
use Rattle.sr_machine.specs.declared.op.Op.TheVariants.{Loads}
use Rattle.sr_machine.specs.declared.stage.Stage.TheVariants.{Fly}
use Rattle.sr_pipe.proofs.Leading.{goes_one}
use Rattle.sr_pipe.specs.Known.{known, staged}
use Rattle.sr_pipe.proofs.reporting.load_cell.Goals as goal

pub returns : goal.returns
returns g c =
    goes_one c.args.pipe.now.layout (known (g.B.Board.fits c.args.board.now) (g.B.Board.shows c.args.board.now) (g.B.Board.beside c.args.board.now) (g.B.Board.rests c.args.board.now)) (known (g.B.Board.fits c.load-x.new.self) (g.B.Board.shows c.load-x.new.self) (g.B.Board.beside c.load-x.new.self) (g.B.Board.rests c.load-x.new.self)) (staged c.args.pipe.now.view (Fly c.args.flight.now (Judged c.args.verdict.now last.Ring))) (Loads (name_for c.args.cell)) c.load-x.result
    (ap (λ (w : WordName). Some (Loads (name_for w))) (sym c.requires.cell)) refl
    c.load-x.ensures.fits c.load-x.ensures.words c.load-x.ensures.beside c.load-x.ensures.rest.still
