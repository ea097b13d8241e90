use Rattle.std.proofs.Common.{refl}
use Rattle.sr_machine.specs.declared.name.Name.TheVariants as name
use Rattle.sr_machine.specs.declared.op.Op.TheVariants.{Adds}
use Rattle.sr_machine.specs.declared.stage.Stage.TheVariants.{Enter}
use Rattle.sr_pipe.proofs.Leading.{goes_one}
use Rattle.sr_pipe.specs.Known.{known, staged}
use Rattle.sr_pipe.proofs.passing.draw_entry.Goals as goal

pub returns : goal.returns
returns g c =
    goes_one c.args.pipe.now.layout (known (g.B.Board.fits c.args.board.now) (g.B.Board.shows c.args.board.now) (g.B.Board.beside c.args.board.now) (g.B.Board.rests c.args.board.now)) (known (g.B.Board.fits c.add.new.self) (g.B.Board.shows c.add.new.self) (g.B.Board.beside c.add.new.self) (g.B.Board.rests c.add.new.self)) (staged c.args.pipe.now.view (Enter c.args.packet.now)) (Adds name.Tick 1) c.add.result refl refl
    c.add.ensures.fits c.add.ensures.words c.add.ensures.beside c.add.ensures.rest.still
