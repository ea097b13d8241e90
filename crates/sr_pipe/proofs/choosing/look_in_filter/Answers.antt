use Rattle.std.proofs.Common.{◌∙◌, ◌+◌, drop, slice_index, ap}
use Rattle.sr_base.specs.Layout.{LayoutView}
use Rattle.sr_machine.specs.Stages.{filtering, key_bits}
use Rattle.sr_machine.specs.declared.leg.Leg.TheVariants.{Chosen, Filter}
use Rattle.sr_machine.specs.declared.leg.Load.TheVariants as load
use Rattle.sr_machine.specs.declared.stage.Stage.TheVariants.{Fly}
use Rattle.sr_pipe.proofs.Leading.{goes_nowhere}
use Rattle.sr_pipe.proofs.Legs.{bits_at, for_leg, leg_on}
use Rattle.sr_pipe.specs.Known.{known, staged}
use Rattle.sr_pipe.proofs.choosing.look_in_filter.Goals as goal

pub loop-i-init : goal.loop-i-init
loop-i-init g c = goes_nowhere c.args.pipe.now.layout (known (g.B.Board.fits c.args.board.now) (g.B.Board.shows c.args.board.now) (g.B.Board.beside c.args.board.now) (g.B.Board.rests c.args.board.now)) (staged c.args.pipe.now.view (Fly c.args.flight.now (filtering c.args.flight.now (key_bits c.args.pipe.now.layout c.args.flight.now.packet.key))))

pub look_at_bit-requires-clause-board : goal.look_at_bit-requires-clause-board
look_at_bit-requires-clause-board g c = (
  drop (c.loop-i.i + 1) (key_bits c.args.pipe.now.layout c.args.flight.now.packet.key),
  for_leg c.args.pipe.now.layout c.args.flight.now (filtering c.args.flight.now (drop c.loop-i.i (key_bits c.args.pipe.now.layout c.args.flight.now.packet.key))) (Filter (slice_index c.key_bits-bits.result c.loop-i.i) (drop (c.loop-i.i + 1) (key_bits c.args.pipe.now.layout c.args.flight.now.packet.key)))
      (ap (filtering c.args.flight.now) (bits_at c.args.pipe.now.layout c.args.flight.now.packet.key c.key_bits-bits.result c.loop-i.i (c.key_bits-bits.ensures.value ∙ ap (λ (l : LayoutView). key_bits l c.args.flight.now.packet.key) c.layout-layout.ensures) c.loop-i-test.true))
      (known (g.B.Board.fits c.args.board.now) (g.B.Board.shows c.args.board.now) (g.B.Board.beside c.args.board.now) (g.B.Board.rests c.args.board.now)) (known (g.B.Board.fits c.loop-i.board) (g.B.Board.shows c.loop-i.board) (g.B.Board.beside c.loop-i.board) (g.B.Board.rests c.loop-i.board)) c.args.pipe.now.view (staged c.args.pipe.now.view (Fly c.args.flight.now (filtering c.args.flight.now (key_bits c.args.pipe.now.layout c.args.flight.now.packet.key)))) c.args.pipe.now.room c.loop-i.invariant c.requires.board,
)

pub returns-then-not-look_at_bit-clause-goes : goal.returns-then-not-look_at_bit-clause-goes
returns-then-not-look_at_bit-clause-goes g c =
    leg_on c.args.pipe.now.layout c.args.flight.now (filtering c.args.flight.now (drop c.loop-i.i (key_bits c.args.pipe.now.layout c.args.flight.now.packet.key))) (Filter (slice_index c.key_bits-bits.result c.loop-i.i) (drop (c.loop-i.i + 1) (key_bits c.args.pipe.now.layout c.args.flight.now.packet.key)))
    (ap (filtering c.args.flight.now) (bits_at c.args.pipe.now.layout c.args.flight.now.packet.key c.key_bits-bits.result c.loop-i.i (c.key_bits-bits.ensures.value ∙ ap (λ (l : LayoutView). key_bits l c.args.flight.now.packet.key) c.layout-layout.ensures) c.loop-i-test.true))
    (known (g.B.Board.fits c.args.board.now) (g.B.Board.shows c.args.board.now) (g.B.Board.beside c.args.board.now) (g.B.Board.rests c.args.board.now)) (known (g.B.Board.fits c.loop-i.board) (g.B.Board.shows c.loop-i.board) (g.B.Board.beside c.loop-i.board) (g.B.Board.rests c.loop-i.board)) (known (g.B.Board.fits c.look_at_bit.new.board) (g.B.Board.shows c.look_at_bit.new.board) (g.B.Board.beside c.look_at_bit.new.board) (g.B.Board.rests c.look_at_bit.new.board)) c.args.pipe.now.view (staged c.args.pipe.now.view (Fly c.args.flight.now (filtering c.args.flight.now (key_bits c.args.pipe.now.layout c.args.flight.now.packet.key)))) (staged c.args.pipe.now.view (Fly c.args.flight.now (Chosen c.args.flight.now.vip.next load.Head))) c.loop-i.invariant
    (c.if-not-look_at_bit.ensures.goes (drop (c.loop-i.i + 1) (key_bits c.args.pipe.now.layout c.args.flight.now.packet.key)))

pub loop-i-preserved : goal.loop-i-preserved
loop-i-preserved g c =
    leg_on c.args.pipe.now.layout c.args.flight.now (filtering c.args.flight.now (drop c.loop-i.i (key_bits c.args.pipe.now.layout c.args.flight.now.packet.key))) (Filter (slice_index c.key_bits-bits.result c.loop-i.i) (drop (c.loop-i.i + 1) (key_bits c.args.pipe.now.layout c.args.flight.now.packet.key)))
    (ap (filtering c.args.flight.now) (bits_at c.args.pipe.now.layout c.args.flight.now.packet.key c.key_bits-bits.result c.loop-i.i (c.key_bits-bits.ensures.value ∙ ap (λ (l : LayoutView). key_bits l c.args.flight.now.packet.key) c.layout-layout.ensures) c.loop-i-test.true))
    (known (g.B.Board.fits c.args.board.now) (g.B.Board.shows c.args.board.now) (g.B.Board.beside c.args.board.now) (g.B.Board.rests c.args.board.now)) (known (g.B.Board.fits c.loop-i.board) (g.B.Board.shows c.loop-i.board) (g.B.Board.beside c.loop-i.board) (g.B.Board.rests c.loop-i.board)) (known (g.B.Board.fits c.look_at_bit.new.board) (g.B.Board.shows c.look_at_bit.new.board) (g.B.Board.beside c.look_at_bit.new.board) (g.B.Board.rests c.look_at_bit.new.board)) c.args.pipe.now.view (staged c.args.pipe.now.view (Fly c.args.flight.now (filtering c.args.flight.now (key_bits c.args.pipe.now.layout c.args.flight.now.packet.key)))) (staged c.args.pipe.now.view (Fly c.args.flight.now (filtering c.args.flight.now (drop (c.loop-i.i + 1) (key_bits c.args.pipe.now.layout c.args.flight.now.packet.key))))) c.loop-i.invariant
    (c.if-not-look_at_bit.ensures.goes (drop (c.loop-i.i + 1) (key_bits c.args.pipe.now.layout c.args.flight.now.packet.key)))
