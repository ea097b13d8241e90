use Rattle.sr_machine.specs.Stages.{last_by}
use Rattle.sr_machine.specs.declared.leg.Leg.TheVariants.{Chosen, Judged}
use Rattle.sr_machine.specs.declared.leg.Load.TheVariants as load
use Rattle.sr_machine.specs.declared.stage.Stage.TheVariants.{Fly}
use Rattle.sr_pipe.proofs.Leading.{goes_on}
use Rattle.sr_pipe.specs.Causes.{is_down}
use Rattle.sr_pipe.specs.Known.{known, staged}
use Rattle.sr_pipe.proofs.serving.serve.Goals as goal

pub returns : goal.returns
returns g c =
    goes_on c.args.pipe.now.layout (known (g.B.Board.fits c.args.board.now) (g.B.Board.shows c.args.board.now) (g.B.Board.beside c.args.board.now) (g.B.Board.rests c.args.board.now)) (known (g.B.Board.fits c.load_member-server.new.board) (g.B.Board.shows c.load_member-server.new.board) (g.B.Board.beside c.load_member-server.new.board) (g.B.Board.rests c.load_member-server.new.board)) (known (g.B.Board.fits c.load_down.new.board) (g.B.Board.shows c.load_down.new.board) (g.B.Board.beside c.load_down.new.board) (g.B.Board.rests c.load_down.new.board)) (staged c.args.pipe.now.view (Fly c.args.flight.now (Chosen c.args.version load.Head))) (staged c.args.pipe.now.view (Fly c.args.flight.now (Chosen c.args.version (load.Down c.load_head-head.result.pool c.load_member-server.result)))) (staged c.args.pipe.now.view (Fly c.args.flight.now (Judged c.load_down.result (last_by c.args.flight.now.packet.kind (is_down c.load_down.result)))))
    (goes_on c.args.pipe.now.layout (known (g.B.Board.fits c.args.board.now) (g.B.Board.shows c.args.board.now) (g.B.Board.beside c.args.board.now) (g.B.Board.rests c.args.board.now)) (known (g.B.Board.fits c.load_head-head.new.board) (g.B.Board.shows c.load_head-head.new.board) (g.B.Board.beside c.load_head-head.new.board) (g.B.Board.rests c.load_head-head.new.board)) (known (g.B.Board.fits c.load_member-server.new.board) (g.B.Board.shows c.load_member-server.new.board) (g.B.Board.beside c.load_member-server.new.board) (g.B.Board.rests c.load_member-server.new.board)) (staged c.args.pipe.now.view (Fly c.args.flight.now (Chosen c.args.version load.Head))) (staged c.args.pipe.now.view (Fly c.args.flight.now (Chosen c.args.version (load.Member c.load_head-head.result)))) (staged c.args.pipe.now.view (Fly c.args.flight.now (Chosen c.args.version (load.Down c.load_head-head.result.pool c.load_member-server.result)))) c.load_head-head.ensures.goes c.load_member-server.ensures.goes)
    c.load_down.ensures.goes
