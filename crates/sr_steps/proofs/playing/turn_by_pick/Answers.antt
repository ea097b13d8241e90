use Rattle.sr_steps.proofs.Plays.{turned_play}
use Rattle.sr_steps.proofs.playing.turn_by_pick.Goals as goal

pub returns : goal.returns
returns c = λ words shows.
    turned_play c.args.core.now c.turn.new.core c.args.standing.now c.turned.new.self words c.in_ok-answer.answer c.is_done-done.result
    c.finds_nothing.result (c.in_ok-answer.ensures words shows) c.is_done-done.ensures c.finds_nothing.ensures c.turned.ensures
