use Rattle.sr_base.specs.declared.place.Place.TheVariants.{Row}
use Rattle.sr_pipe.proofs.Looks.{looks}
use Rattle.sr_pipe.specs.Known.{known}
use Rattle.sr_pipe.proofs.looking.look_row.Goals as goal

pub returns-clause-goes : goal.returns-clause-goes
returns-clause-goes g c =
    looks c.args.pipe.now.layout c.layout-layout.result.now (known (g.B.Board.fits c.args.board.now) (g.B.Board.shows c.args.board.now) (g.B.Board.beside c.args.board.now) (g.B.Board.rests c.args.board.now))
    (known (g.B.Board.fits c.load-x.new.self) (g.B.Board.shows c.load-x.new.self) (g.B.Board.beside c.load-x.new.self) (g.B.Board.rests c.load-x.new.self))
    c.args.pipe.now.view c.args.flight.now (Row c.args.row) c.load-x.result c.full_says-said.result c.found_at.result c.layout-layout.ensures c.full_says-said.ensures.value
    c.found_at.ensures.leg c.load-x.ensures.fits c.load-x.ensures.words c.load-x.ensures.beside c.load-x.ensures.rest.still
