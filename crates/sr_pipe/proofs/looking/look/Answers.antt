use Rattle.std.proofs.Common.{[]}
use Rattle.sr_machine.specs.Stages.{looking}
use Rattle.sr_machine.specs.declared.stage.Stage.TheVariants.{Fly}
use Rattle.sr_pipe.proofs.Leading.{goes_on}
use Rattle.sr_pipe.proofs.Looks.{found_any}
use Rattle.sr_pipe.specs.Choices.{found_leg}
use Rattle.sr_pipe.specs.Known.{known, staged}
use Rattle.sr_pipe.specs.Places.{places_from}
use Rattle.sr_pipe.proofs.looking.look.Goals as goal

pub returns-in_default-found : goal.returns-in_default-found
returns-in_default-found g c = record {
  goes =
      found_any c.args.pipe.now.layout c.args.flight.now (places_from c.args.pipe.now.layout c.args.flight.now.packet.key 8) [] c.look_cells-found.result c.in_default-found.not-Nothing
      (known (g.B.Board.fits c.args.board.now) (g.B.Board.shows c.args.board.now) (g.B.Board.beside c.args.board.now) (g.B.Board.rests c.args.board.now)) (known (g.B.Board.fits c.look_cells-found.new.board) (g.B.Board.shows c.look_cells-found.new.board) (g.B.Board.beside c.look_cells-found.new.board) (g.B.Board.rests c.look_cells-found.new.board)) (staged c.args.pipe.now.view (Fly c.args.flight.now (looking c.args.pipe.now.layout c.args.flight.now (places_from c.args.pipe.now.layout c.args.flight.now.packet.key 0)))) c.args.pipe.now.view
      (goes_on c.args.pipe.now.layout (known (g.B.Board.fits c.args.board.now) (g.B.Board.shows c.args.board.now) (g.B.Board.beside c.args.board.now) (g.B.Board.rests c.args.board.now)) (known (g.B.Board.fits c.look_rows-found.new.board) (g.B.Board.shows c.look_rows-found.new.board) (g.B.Board.beside c.look_rows-found.new.board) (g.B.Board.rests c.look_rows-found.new.board)) (known (g.B.Board.fits c.look_cells-found.new.board) (g.B.Board.shows c.look_cells-found.new.board) (g.B.Board.beside c.look_cells-found.new.board) (g.B.Board.rests c.look_cells-found.new.board)) (staged c.args.pipe.now.view (Fly c.args.flight.now (looking c.args.pipe.now.layout c.args.flight.now (places_from c.args.pipe.now.layout c.args.flight.now.packet.key 0)))) (staged c.args.pipe.now.view (Fly c.args.flight.now (looking c.args.pipe.now.layout c.args.flight.now (places_from c.args.pipe.now.layout c.args.flight.now.packet.key 4))))
      (staged c.args.pipe.now.view (Fly c.args.flight.now (found_leg c.args.pipe.now.layout c.args.flight.now (places_from c.args.pipe.now.layout c.args.flight.now.packet.key 8) c.look_cells-found.result)))
      c.in-Nothing.ensures.goes c.look_cells-found.ensures.goes);
  fits = c.look_cells-found.ensures.fits;
}

pub returns-clause-goes : goal.returns-clause-goes
returns-clause-goes g c =
    goes_on c.args.pipe.now.layout (known (g.B.Board.fits c.args.board.now) (g.B.Board.shows c.args.board.now) (g.B.Board.beside c.args.board.now) (g.B.Board.rests c.args.board.now)) (known (g.B.Board.fits c.look_cells-found.new.board) (g.B.Board.shows c.look_cells-found.new.board) (g.B.Board.beside c.look_cells-found.new.board) (g.B.Board.rests c.look_cells-found.new.board)) (known (g.B.Board.fits c.look_cells.new.board) (g.B.Board.shows c.look_cells.new.board) (g.B.Board.beside c.look_cells.new.board) (g.B.Board.rests c.look_cells.new.board)) (staged c.args.pipe.now.view (Fly c.args.flight.now (looking c.args.pipe.now.layout c.args.flight.now (places_from c.args.pipe.now.layout c.args.flight.now.packet.key 0)))) (staged c.args.pipe.now.view (Fly c.args.flight.now (looking c.args.pipe.now.layout c.args.flight.now (places_from c.args.pipe.now.layout c.args.flight.now.packet.key 8)))) (staged c.args.pipe.now.view (Fly c.args.flight.now (found_leg c.args.pipe.now.layout c.args.flight.now [] c.look_cells.result)))
    (goes_on c.args.pipe.now.layout (known (g.B.Board.fits c.args.board.now) (g.B.Board.shows c.args.board.now) (g.B.Board.beside c.args.board.now) (g.B.Board.rests c.args.board.now)) (known (g.B.Board.fits c.look_rows-found.new.board) (g.B.Board.shows c.look_rows-found.new.board) (g.B.Board.beside c.look_rows-found.new.board) (g.B.Board.rests c.look_rows-found.new.board)) (known (g.B.Board.fits c.look_cells-found.new.board) (g.B.Board.shows c.look_cells-found.new.board) (g.B.Board.beside c.look_cells-found.new.board) (g.B.Board.rests c.look_cells-found.new.board)) (staged c.args.pipe.now.view (Fly c.args.flight.now (looking c.args.pipe.now.layout c.args.flight.now (places_from c.args.pipe.now.layout c.args.flight.now.packet.key 0)))) (staged c.args.pipe.now.view (Fly c.args.flight.now (looking c.args.pipe.now.layout c.args.flight.now (places_from c.args.pipe.now.layout c.args.flight.now.packet.key 4)))) (staged c.args.pipe.now.view (Fly c.args.flight.now (looking c.args.pipe.now.layout c.args.flight.now (places_from c.args.pipe.now.layout c.args.flight.now.packet.key 8)))) c.in-Nothing.ensures.goes c.in-Nothing-found.ensures.goes)
    c.look_cells.ensures.goes
