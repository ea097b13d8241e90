use Rattle.std.proofs.Common.{List, slice_index_or, subst}
use Rattle.sr_rounds.specs.declared.timed.Timed.{Timed}
use Rattle.sr_threads.proofs.Rounding.{no_round, part_within, so_far_first, so_far_more, this_item}
use Rattle.sr_threads.specs.Working.{AllWorked}
use Rattle.sr_threads.proofs.playing.play_rounds.Goals as goal

pub loop-round-init : goal.loop-round-init
loop-round-init g c =
    so_far_first c.args.layout.now c.args.packets.now c.args.rounds.now c.args.workers.now c.args.board.now c.args.controller.now c.requires.pipes
    c.requires.controller c.requires.rounds (c.rounds_are_windows.ensures c.args.layout.now.shape.window_ms c.args.packets.now)

pub packets_from-part-requires-clause-within : goal.packets_from-part-requires-clause-within
packets_from-part-requires-clause-within g c =
    part_within c.args.layout.now c.args.packets.now c.args.rounds.now c.loop-round.round-index c.args.workers.now c.args.board.now
    c.args.controller.now c.loop-round.workers c.loop-round.board c.loop-round.controller c.loop-round.invariant
    (slice_index_or c.args.rounds.now c.loop-round.round-index no_round) c.loop-round-test.true
    (this_item c.args.rounds.now c.loop-round.round-index no_round c.loop-round-test.true)

pub loop-round-preserved : goal.loop-round-preserved
loop-round-preserved g c =
    so_far_more c.args.layout.now c.args.packets.now c.args.rounds.now c.loop-round.round-index c.args.workers.now c.args.board.now
    c.args.controller.now c.loop-round.workers c.loop-round.board c.loop-round.controller c.loop-round.invariant
    (slice_index_or c.args.rounds.now c.loop-round.round-index no_round) c.loop-round-test.true
    (this_item c.args.rounds.now c.loop-round.round-index no_round c.loop-round-test.true)
    c.play_round.new.workers c.tell.new.board c.play_round.new.board c.tell.new.controller c.play_round.new.controller
    c.tell.ensures.config c.tell.ensures.beside c.tell.ensures.clock
    (subst (λ (xs : List Timed). AllWorked c.args.layout.now xs c.loop-round.workers c.play_round.new.workers) c.packets_from-part.ensures
    c.play_round.ensures.pipes)
    c.play_round.ensures.controller
