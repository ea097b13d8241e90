use Rattle.std.proofs.Common.{◌∙◌, ◌+◌, ◌*◌, ap}
use Rattle.sr_base.specs.Layout.{LayoutView}
use Rattle.sr_base.specs.declared.place.Place.TheVariants.{Row}
use Rattle.sr_hash.specs.Uses.{group_of}
use Rattle.sr_machine.specs.Stages.{looking}
use Rattle.sr_machine.specs.declared.stage.Stage.TheVariants.{Fly}
use Rattle.sr_pipe.proofs.Leading.{goes_nowhere}
use Rattle.sr_pipe.proofs.Looks.{for_look, found_any, look_on, row_at}
use Rattle.sr_pipe.specs.Choices.{found_leg}
use Rattle.sr_pipe.specs.Known.{known, staged}
use Rattle.sr_pipe.specs.Places.{places_from}
use Rattle.sr_pipe.proofs.looking.look_rows.Goals as goal

pub loop-i-init : goal.loop-i-init
loop-i-init g c =
    goes_nowhere c.args.pipe.now.layout (known (g.B.Board.fits c.args.board.now) (g.B.Board.shows c.args.board.now) (g.B.Board.beside c.args.board.now) (g.B.Board.rests c.args.board.now))
    (staged c.args.pipe.now.view (Fly c.args.flight.now (looking c.args.pipe.now.layout c.args.flight.now (places_from c.args.pipe.now.layout c.args.flight.now.packet.key (0)))))

pub look_row-requires-clause-board : goal.look_row-requires-clause-board
look_row-requires-clause-board g c = (
  (places_from c.args.pipe.now.layout c.args.flight.now.packet.key ((c.loop-i.i + 1))),
  for_look c.args.pipe.now.layout c.args.flight.now (Row (c.first_row-first.result + c.loop-i.i)) (places_from c.args.pipe.now.layout c.args.flight.now.packet.key (c.loop-i.i)) (places_from c.args.pipe.now.layout c.args.flight.now.packet.key ((c.loop-i.i + 1)))
      (row_at c.args.pipe.now.layout c.args.flight.now.packet.key c.first_row-first.result c.loop-i.i (c.first_row-first.ensures.value ∙ ap (λ (s : LayoutView). 4 * group_of c.args.flight.now.packet.key s.shape.full_rows) c.layout.ensures) c.loop-i-test.true)
      (known (g.B.Board.fits c.args.board.now) (g.B.Board.shows c.args.board.now) (g.B.Board.beside c.args.board.now) (g.B.Board.rests c.args.board.now)) (known (g.B.Board.fits c.loop-i.board) (g.B.Board.shows c.loop-i.board) (g.B.Board.beside c.loop-i.board) (g.B.Board.rests c.loop-i.board)) c.args.pipe.now.view (staged c.args.pipe.now.view (Fly c.args.flight.now (looking c.args.pipe.now.layout c.args.flight.now (places_from c.args.pipe.now.layout c.args.flight.now.packet.key (0))))) c.args.pipe.now.room c.loop-i.invariant c.requires.board,
)

pub loop-i-preserved : goal.loop-i-preserved
loop-i-preserved g c =
    look_on c.args.pipe.now.layout c.args.flight.now (Row (c.first_row-first.result + c.loop-i.i)) (places_from c.args.pipe.now.layout c.args.flight.now.packet.key (c.loop-i.i)) (places_from c.args.pipe.now.layout c.args.flight.now.packet.key ((c.loop-i.i + 1)))
    (row_at c.args.pipe.now.layout c.args.flight.now.packet.key c.first_row-first.result c.loop-i.i (c.first_row-first.ensures.value ∙ ap (λ (s : LayoutView). 4 * group_of c.args.flight.now.packet.key s.shape.full_rows) c.layout.ensures) c.loop-i-test.true)
    (known (g.B.Board.fits c.args.board.now) (g.B.Board.shows c.args.board.now) (g.B.Board.beside c.args.board.now) (g.B.Board.rests c.args.board.now)) (known (g.B.Board.fits c.loop-i.board) (g.B.Board.shows c.loop-i.board) (g.B.Board.beside c.loop-i.board) (g.B.Board.rests c.loop-i.board)) (known (g.B.Board.fits c.look_row.new.board) (g.B.Board.shows c.look_row.new.board) (g.B.Board.beside c.look_row.new.board) (g.B.Board.rests c.look_row.new.board)) c.args.pipe.now.view (staged c.args.pipe.now.view (Fly c.args.flight.now (looking c.args.pipe.now.layout c.args.flight.now (places_from c.args.pipe.now.layout c.args.flight.now.packet.key (0)))))
    (staged c.args.pipe.now.view (Fly c.args.flight.now (looking c.args.pipe.now.layout c.args.flight.now (places_from c.args.pipe.now.layout c.args.flight.now.packet.key ((c.loop-i.i + 1)))))) c.loop-i.invariant
    (c.in-Nothing.ensures.goes (places_from c.args.pipe.now.layout c.args.flight.now.packet.key ((c.loop-i.i + 1))))

pub returns-in_default : goal.returns-in_default
returns-in_default g c = record {
  goes =
      found_any c.args.pipe.now.layout c.args.flight.now (places_from c.args.pipe.now.layout c.args.flight.now.packet.key ((c.loop-i.i + 1))) (places_from c.args.pipe.now.layout c.args.flight.now.packet.key (4)) c.look_row.result c.in_default.not-Nothing
      (known (g.B.Board.fits c.args.board.now) (g.B.Board.shows c.args.board.now) (g.B.Board.beside c.args.board.now) (g.B.Board.rests c.args.board.now)) (known (g.B.Board.fits c.look_row.new.board) (g.B.Board.shows c.look_row.new.board) (g.B.Board.beside c.look_row.new.board) (g.B.Board.rests c.look_row.new.board)) (staged c.args.pipe.now.view (Fly c.args.flight.now (looking c.args.pipe.now.layout c.args.flight.now (places_from c.args.pipe.now.layout c.args.flight.now.packet.key (0))))) c.args.pipe.now.view
      (look_on c.args.pipe.now.layout c.args.flight.now (Row (c.first_row-first.result + c.loop-i.i)) (places_from c.args.pipe.now.layout c.args.flight.now.packet.key (c.loop-i.i)) (places_from c.args.pipe.now.layout c.args.flight.now.packet.key ((c.loop-i.i + 1)))
      (row_at c.args.pipe.now.layout c.args.flight.now.packet.key c.first_row-first.result c.loop-i.i (c.first_row-first.ensures.value ∙ ap (λ (s : LayoutView). 4 * group_of c.args.flight.now.packet.key s.shape.full_rows) c.layout.ensures) c.loop-i-test.true)
      (known (g.B.Board.fits c.args.board.now) (g.B.Board.shows c.args.board.now) (g.B.Board.beside c.args.board.now) (g.B.Board.rests c.args.board.now)) (known (g.B.Board.fits c.loop-i.board) (g.B.Board.shows c.loop-i.board) (g.B.Board.beside c.loop-i.board) (g.B.Board.rests c.loop-i.board)) (known (g.B.Board.fits c.look_row.new.board) (g.B.Board.shows c.look_row.new.board) (g.B.Board.beside c.look_row.new.board) (g.B.Board.rests c.look_row.new.board)) c.args.pipe.now.view (staged c.args.pipe.now.view (Fly c.args.flight.now (looking c.args.pipe.now.layout c.args.flight.now (places_from c.args.pipe.now.layout c.args.flight.now.packet.key (0)))))
      (staged c.args.pipe.now.view (Fly c.args.flight.now (found_leg c.args.pipe.now.layout c.args.flight.now (places_from c.args.pipe.now.layout c.args.flight.now.packet.key ((c.loop-i.i + 1))) c.look_row.result))) c.loop-i.invariant
      (c.look_row.ensures.goes (places_from c.args.pipe.now.layout c.args.flight.now.packet.key ((c.loop-i.i + 1)))));
  fits = c.look_row.ensures.fits;
}
