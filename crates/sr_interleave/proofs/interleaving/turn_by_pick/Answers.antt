use Rattle.sr_interleave.proofs.Picks.{turned_play}
use Rattle.sr_interleave.proofs.interleaving.turn_by_pick.Goals as goal

pub returns-clause-made : goal.returns-clause-made
returns-clause-made c =
    turned_play c.args.board.now c.turn.new.board c.args.pipes.now c.args.controller.now c.turn.new.controller c.args.standing.now c.turned.new.self
    c.is_done-done.result c.in_ok-nothing.nothing c.in_ok-nothing.ensures.turned c.is_done-done.ensures c.turned.ensures
