use Rattle.std.proofs.Common.{true, if◌then◌else◌}
use Rattle.sr_machine.specs.Stages.{key_bits, marking, is_recorded}
use Rattle.sr_machine.specs.declared.leg.Last.TheVariants as last
use Rattle.sr_machine.specs.declared.leg.Leg.TheVariants.{Judged}
use Rattle.sr_machine.specs.declared.stage.Stage.TheVariants.{Fly}
use Rattle.sr_pipe.proofs.Leading.{goes_on}
use Rattle.sr_pipe.specs.Known.{known, reported, staged}
use Rattle.sr_pipe.proofs.reporting.report.Goals as goal

pub returns : goal.returns
returns g c =
    goes_on c.args.pipe.now.layout (known (g.B.Board.fits c.args.board.now) (g.B.Board.shows c.args.board.now) (g.B.Board.beside c.args.board.now) (g.B.Board.rests c.args.board.now)) (known (g.B.Board.fits c.record.new.board) (g.B.Board.shows c.record.new.board) (g.B.Board.beside c.record.new.board) (g.B.Board.rests c.record.new.board)) (known (g.B.Board.fits c.push.new.board) (g.B.Board.shows c.push.new.board) (g.B.Board.beside c.push.new.board) (g.B.Board.rests c.push.new.board)) (staged c.args.pipe.now.view (Fly c.args.flight.now (Judged c.args.verdict last.Ring))) (staged c.args.pipe.now.view (Fly c.args.flight.now (Judged c.args.verdict last.Push))) (reported c.args.pipe.now.view true (Fly c.args.flight.now (Judged c.args.verdict last.Out)))
    (goes_on c.args.pipe.now.layout (known (g.B.Board.fits c.args.board.now) (g.B.Board.shows c.args.board.now) (g.B.Board.beside c.args.board.now) (g.B.Board.rests c.args.board.now)) (known (g.B.Board.fits c.load_cell.new.board) (g.B.Board.shows c.load_cell.new.board) (g.B.Board.beside c.load_cell.new.board) (g.B.Board.rests c.load_cell.new.board)) (known (g.B.Board.fits c.record.new.board) (g.B.Board.shows c.record.new.board) (g.B.Board.beside c.record.new.board) (g.B.Board.rests c.record.new.board)) (staged c.args.pipe.now.view (Fly c.args.flight.now (Judged c.args.verdict last.Ring))) (staged c.args.pipe.now.view (Fly c.args.flight.now (Judged c.args.verdict (if is_recorded c.args.flight.now c.args.verdict then marking (key_bits c.args.pipe.now.layout c.args.flight.now.packet.key) else last.Push)))) (staged c.args.pipe.now.view (Fly c.args.flight.now (Judged c.args.verdict last.Push))) c.if-not-load_cell.ensures c.record.ensures) c.push.ensures
