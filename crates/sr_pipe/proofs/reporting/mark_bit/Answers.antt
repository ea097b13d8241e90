use Rattle.std.proofs.Common.{ℕ, Some, refl, sym, ap}
use Rattle.sr_machine.specs.Reads.{filter_word}
use Rattle.sr_machine.specs.declared.leg.Last.TheVariants as last
use Rattle.sr_machine.specs.declared.leg.Leg.TheVariants.{Judged}
use Rattle.sr_machine.specs.declared.name.Name.TheVariants as name
use Rattle.sr_machine.specs.declared.op.Op.TheVariants.{Ors}
use Rattle.sr_machine.specs.declared.stage.Stage.TheVariants.{Fly}
use Rattle.sr_pipe.proofs.Leading.{goes_one}
use Rattle.sr_pipe.specs.Known.{known, staged}
use Rattle.sr_pipe.proofs.reporting.mark_bit.Goals as goal

pub returns : goal.returns
returns g c = λ rest.
    goes_one c.args.pipe.now.layout (known (g.B.Board.fits c.args.board.now) (g.B.Board.shows c.args.board.now) (g.B.Board.beside c.args.board.now) (g.B.Board.rests c.args.board.now)) (known (g.B.Board.fits c.or.new.self) (g.B.Board.shows c.or.new.self) (g.B.Board.beside c.or.new.self) (g.B.Board.rests c.or.new.self)) (staged c.args.pipe.now.view (Fly c.args.flight.now (Judged c.args.verdict.now (last.Mark c.args.bit rest))))
    (Ors (name.Filter (filter_word c.args.bit)) c.bit_of-bits.result) c.or.result
    (ap (λ (b : ℕ). Some (Ors (name.Filter (filter_word c.args.bit)) b)) (sym c.bit_of-bits.ensures)) refl c.or.ensures.fits c.or.ensures.words
    c.or.ensures.beside c.or.ensures.rest.still
