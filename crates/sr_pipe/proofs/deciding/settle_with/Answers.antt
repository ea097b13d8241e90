use Rattle.std.proofs.Common.{false, ap}
use Rattle.sr_machine.specs.Stages.{last_by}
use Rattle.sr_machine.specs.declared.leg.Last.{Last}
use Rattle.sr_machine.specs.declared.leg.Last.TheVariants as last
use Rattle.sr_machine.specs.declared.leg.Leg.TheVariants.{Chosen, Judged}
use Rattle.sr_machine.specs.declared.leg.Load.TheVariants as load
use Rattle.sr_machine.specs.declared.stage.Stage.TheVariants.{Fly}
use Rattle.sr_pipe.proofs.Leading.{goes_nowhere}
use Rattle.sr_pipe.proofs.Legs.{for_leg, leg_on}
use Rattle.sr_pipe.specs.Causes.{is_down}
use Rattle.sr_pipe.specs.Known.{known, reported, staged}
use Rattle.sr_pipe.proofs.deciding.settle_with.Goals as goal

pub returns-then-not-reports : goal.returns-then-not-reports
returns-then-not-reports g c =
    leg_on c.args.pipe.now.layout c.args.flight.now (Judged c.serve-verdict.result (last_by c.args.flight.now.packet.kind (is_down c.serve-verdict.result))) (Judged c.serve-verdict.result last.Out) (ap (λ (n : Last). Judged c.serve-verdict.result n) c.if-not-reports.ensures) (known (g.B.Board.fits c.args.board.now) (g.B.Board.shows c.args.board.now) (g.B.Board.beside c.args.board.now) (g.B.Board.rests c.args.board.now)) (known (g.B.Board.fits c.serve-verdict.new.board) (g.B.Board.shows c.serve-verdict.new.board) (g.B.Board.beside c.serve-verdict.new.board) (g.B.Board.rests c.serve-verdict.new.board)) (known (g.B.Board.fits c.serve-verdict.new.board) (g.B.Board.shows c.serve-verdict.new.board) (g.B.Board.beside c.serve-verdict.new.board) (g.B.Board.rests c.serve-verdict.new.board)) c.args.pipe.now.view (staged c.args.pipe.now.view (Fly c.args.flight.now (Chosen c.args.version load.Head))) (reported c.args.pipe.now.view false (Fly c.args.flight.now (Judged c.serve-verdict.result last.Out))) c.serve-verdict.ensures
    (goes_nowhere c.args.pipe.now.layout (known (g.B.Board.fits c.serve-verdict.new.board) (g.B.Board.shows c.serve-verdict.new.board) (g.B.Board.beside c.serve-verdict.new.board) (g.B.Board.rests c.serve-verdict.new.board)) (staged c.args.pipe.now.view (Fly c.args.flight.now (Judged c.serve-verdict.result last.Out))))

pub report-requires : goal.report-requires
report-requires g c =
    for_leg c.args.pipe.now.layout c.args.flight.now (Judged c.serve-verdict.result (last_by c.args.flight.now.packet.kind (is_down c.serve-verdict.result))) (Judged c.serve-verdict.result last.Ring) (ap (λ (n : Last). Judged c.serve-verdict.result n) c.if-not-reports.ensures) (known (g.B.Board.fits c.args.board.now) (g.B.Board.shows c.args.board.now) (g.B.Board.beside c.args.board.now) (g.B.Board.rests c.args.board.now)) (known (g.B.Board.fits c.serve-verdict.new.board) (g.B.Board.shows c.serve-verdict.new.board) (g.B.Board.beside c.serve-verdict.new.board) (g.B.Board.rests c.serve-verdict.new.board)) c.args.pipe.now.view (staged c.args.pipe.now.view (Fly c.args.flight.now (Chosen c.args.version load.Head))) c.args.pipe.now.room c.serve-verdict.ensures c.requires.board

pub returns : goal.returns
returns g c =
    leg_on c.args.pipe.now.layout c.args.flight.now (Judged c.serve-verdict.result (last_by c.args.flight.now.packet.kind (is_down c.serve-verdict.result))) (Judged c.serve-verdict.result last.Ring) (ap (λ (n : Last). Judged c.serve-verdict.result n) c.if-not-reports.ensures) (known (g.B.Board.fits c.args.board.now) (g.B.Board.shows c.args.board.now) (g.B.Board.beside c.args.board.now) (g.B.Board.rests c.args.board.now)) (known (g.B.Board.fits c.serve-verdict.new.board) (g.B.Board.shows c.serve-verdict.new.board) (g.B.Board.beside c.serve-verdict.new.board) (g.B.Board.rests c.serve-verdict.new.board)) (known (g.B.Board.fits c.report.new.board) (g.B.Board.shows c.report.new.board) (g.B.Board.beside c.report.new.board) (g.B.Board.rests c.report.new.board)) c.args.pipe.now.view (staged c.args.pipe.now.view (Fly c.args.flight.now (Chosen c.args.version load.Head))) (reported c.args.pipe.now.view c.report.result.stored (Fly c.args.flight.now (Judged c.report.result.verdict last.Out)))
    c.serve-verdict.ensures c.report.ensures
