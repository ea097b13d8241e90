use Rattle.std.proofs.Common.{◌∙◌, ℕ, ◌+◌, ◌*◌, add-zero, ap, subst, sym}
use Rattle.sr_base.specs.Layout.{LayoutView}
use Rattle.sr_base.specs.declared.place.Place.TheVariants.{Slot}
use Rattle.sr_hash.specs.Uses.{bucket_of}
use Rattle.sr_machine.specs.Stages.{looking}
use Rattle.sr_machine.specs.declared.stage.Stage.TheVariants.{Fly}
use Rattle.sr_pipe.proofs.Leading.{goes_nowhere}
use Rattle.sr_pipe.proofs.Looks.{cell_at, for_look, found_any, look_on}
use Rattle.sr_pipe.specs.Choices.{found_leg}
use Rattle.sr_pipe.specs.Known.{Goes, known, staged}
use Rattle.sr_pipe.specs.Places.{places_from}
use Rattle.sr_pipe.proofs.looking.look_cells.Goals as goal

pub loop-cell-init : goal.loop-cell-init
loop-cell-init g c =
    subst
    (λ (n : ℕ). Goes c.args.pipe.now.layout (known (g.B.Board.fits c.args.board.now) (g.B.Board.shows c.args.board.now) (g.B.Board.beside c.args.board.now) (g.B.Board.rests c.args.board.now))
    (staged c.args.pipe.now.view (Fly c.args.flight.now (looking c.args.pipe.now.layout c.args.flight.now (places_from c.args.pipe.now.layout c.args.flight.now.packet.key (4 * c.args.way)))))
    (known (g.B.Board.fits c.args.board.now) (g.B.Board.shows c.args.board.now) (g.B.Board.beside c.args.board.now) (g.B.Board.rests c.args.board.now))
    (staged c.args.pipe.now.view (Fly c.args.flight.now (looking c.args.pipe.now.layout c.args.flight.now (places_from c.args.pipe.now.layout c.args.flight.now.packet.key n)))))
    (sym (add-zero (4 * c.args.way)))
    (goes_nowhere c.args.pipe.now.layout (known (g.B.Board.fits c.args.board.now) (g.B.Board.shows c.args.board.now) (g.B.Board.beside c.args.board.now) (g.B.Board.rests c.args.board.now))
    (staged c.args.pipe.now.view (Fly c.args.flight.now (looking c.args.pipe.now.layout c.args.flight.now (places_from c.args.pipe.now.layout c.args.flight.now.packet.key (4 * c.args.way))))))

pub look_cell-requires-clause-board : goal.look_cell-requires-clause-board
look_cell-requires-clause-board g c = (
  (places_from c.args.pipe.now.layout c.args.flight.now.packet.key (4 * c.args.way + (c.loop-cell.cell + 1))),
  for_look c.args.pipe.now.layout c.args.flight.now (Slot c.args.way c.own_bucket-bucket.result c.loop-cell.cell) (places_from c.args.pipe.now.layout c.args.flight.now.packet.key (4 * c.args.way + c.loop-cell.cell)) (places_from c.args.pipe.now.layout c.args.flight.now.packet.key (4 * c.args.way + (c.loop-cell.cell + 1)))
      (cell_at c.args.pipe.now.layout c.args.flight.now.packet.key c.args.way c.own_bucket-bucket.result c.loop-cell.cell c.requires.way.0 c.requires.way.1 (c.own_bucket-bucket.ensures.value ∙ ap (λ (s : LayoutView). bucket_of c.args.way c.args.flight.now.packet.key s.shape.buckets) c.layout.ensures) c.loop-cell-test.true)
      (known (g.B.Board.fits c.args.board.now) (g.B.Board.shows c.args.board.now) (g.B.Board.beside c.args.board.now) (g.B.Board.rests c.args.board.now)) (known (g.B.Board.fits c.loop-cell.board) (g.B.Board.shows c.loop-cell.board) (g.B.Board.beside c.loop-cell.board) (g.B.Board.rests c.loop-cell.board)) c.args.pipe.now.view (staged c.args.pipe.now.view (Fly c.args.flight.now (looking c.args.pipe.now.layout c.args.flight.now (places_from c.args.pipe.now.layout c.args.flight.now.packet.key (4 * c.args.way))))) c.args.pipe.now.room c.loop-cell.invariant c.requires.board,
)

pub loop-cell-preserved : goal.loop-cell-preserved
loop-cell-preserved g c =
    look_on c.args.pipe.now.layout c.args.flight.now (Slot c.args.way c.own_bucket-bucket.result c.loop-cell.cell) (places_from c.args.pipe.now.layout c.args.flight.now.packet.key (4 * c.args.way + c.loop-cell.cell)) (places_from c.args.pipe.now.layout c.args.flight.now.packet.key (4 * c.args.way + (c.loop-cell.cell + 1)))
    (cell_at c.args.pipe.now.layout c.args.flight.now.packet.key c.args.way c.own_bucket-bucket.result c.loop-cell.cell c.requires.way.0 c.requires.way.1 (c.own_bucket-bucket.ensures.value ∙ ap (λ (s : LayoutView). bucket_of c.args.way c.args.flight.now.packet.key s.shape.buckets) c.layout.ensures) c.loop-cell-test.true)
    (known (g.B.Board.fits c.args.board.now) (g.B.Board.shows c.args.board.now) (g.B.Board.beside c.args.board.now) (g.B.Board.rests c.args.board.now)) (known (g.B.Board.fits c.loop-cell.board) (g.B.Board.shows c.loop-cell.board) (g.B.Board.beside c.loop-cell.board) (g.B.Board.rests c.loop-cell.board)) (known (g.B.Board.fits c.look_cell.new.board) (g.B.Board.shows c.look_cell.new.board) (g.B.Board.beside c.look_cell.new.board) (g.B.Board.rests c.look_cell.new.board)) c.args.pipe.now.view (staged c.args.pipe.now.view (Fly c.args.flight.now (looking c.args.pipe.now.layout c.args.flight.now (places_from c.args.pipe.now.layout c.args.flight.now.packet.key (4 * c.args.way)))))
    (staged c.args.pipe.now.view (Fly c.args.flight.now (looking c.args.pipe.now.layout c.args.flight.now (places_from c.args.pipe.now.layout c.args.flight.now.packet.key (4 * c.args.way + (c.loop-cell.cell + 1)))))) c.loop-cell.invariant
    (c.in-Nothing.ensures.goes (places_from c.args.pipe.now.layout c.args.flight.now.packet.key (4 * c.args.way + (c.loop-cell.cell + 1))))

pub returns-in_default : goal.returns-in_default
returns-in_default g c = record {
  goes =
      found_any c.args.pipe.now.layout c.args.flight.now (places_from c.args.pipe.now.layout c.args.flight.now.packet.key (4 * c.args.way + (c.loop-cell.cell + 1))) (places_from c.args.pipe.now.layout c.args.flight.now.packet.key (4 * c.args.way + 4)) c.look_cell.result c.in_default.not-Nothing
      (known (g.B.Board.fits c.args.board.now) (g.B.Board.shows c.args.board.now) (g.B.Board.beside c.args.board.now) (g.B.Board.rests c.args.board.now)) (known (g.B.Board.fits c.look_cell.new.board) (g.B.Board.shows c.look_cell.new.board) (g.B.Board.beside c.look_cell.new.board) (g.B.Board.rests c.look_cell.new.board)) (staged c.args.pipe.now.view (Fly c.args.flight.now (looking c.args.pipe.now.layout c.args.flight.now (places_from c.args.pipe.now.layout c.args.flight.now.packet.key (4 * c.args.way))))) c.args.pipe.now.view
      (look_on c.args.pipe.now.layout c.args.flight.now (Slot c.args.way c.own_bucket-bucket.result c.loop-cell.cell) (places_from c.args.pipe.now.layout c.args.flight.now.packet.key (4 * c.args.way + c.loop-cell.cell)) (places_from c.args.pipe.now.layout c.args.flight.now.packet.key (4 * c.args.way + (c.loop-cell.cell + 1)))
      (cell_at c.args.pipe.now.layout c.args.flight.now.packet.key c.args.way c.own_bucket-bucket.result c.loop-cell.cell c.requires.way.0 c.requires.way.1 (c.own_bucket-bucket.ensures.value ∙ ap (λ (s : LayoutView). bucket_of c.args.way c.args.flight.now.packet.key s.shape.buckets) c.layout.ensures) c.loop-cell-test.true)
      (known (g.B.Board.fits c.args.board.now) (g.B.Board.shows c.args.board.now) (g.B.Board.beside c.args.board.now) (g.B.Board.rests c.args.board.now)) (known (g.B.Board.fits c.loop-cell.board) (g.B.Board.shows c.loop-cell.board) (g.B.Board.beside c.loop-cell.board) (g.B.Board.rests c.loop-cell.board)) (known (g.B.Board.fits c.look_cell.new.board) (g.B.Board.shows c.look_cell.new.board) (g.B.Board.beside c.look_cell.new.board) (g.B.Board.rests c.look_cell.new.board)) c.args.pipe.now.view (staged c.args.pipe.now.view (Fly c.args.flight.now (looking c.args.pipe.now.layout c.args.flight.now (places_from c.args.pipe.now.layout c.args.flight.now.packet.key (4 * c.args.way)))))
      (staged c.args.pipe.now.view (Fly c.args.flight.now (found_leg c.args.pipe.now.layout c.args.flight.now (places_from c.args.pipe.now.layout c.args.flight.now.packet.key (4 * c.args.way + (c.loop-cell.cell + 1))) c.look_cell.result))) c.loop-cell.invariant
      (c.look_cell.ensures.goes (places_from c.args.pipe.now.layout c.args.flight.now.packet.key (4 * c.args.way + (c.loop-cell.cell + 1)))));
  fits = c.look_cell.ensures.fits;
}
