use Rattle.std.proofs.Common.{◌+◌, ◌-◌, length, reverse, take, sym, ◌∙◌}
use Rattle.sr_settled.proofs.Stepping.{stand_next}
use Rattle.sr_settled.proofs.standing.standing.Goals as goal

pub loop-later-preserved : goal.loop-later-preserved
loop-later-preserved c =
    let lines = c.args.lines.now in
    let later = c.loop-later.later in
    stand_next c.args.c lines later c.index-lines-lines.result c.loop-later.ticks.items (reverse c.loop-later.cleared.items) c.loop-later-test.true
    (sym c.index-lines-lines.is) c.loop-later.invariant
    ∙ c.in_ok-look.ensures (reverse (take (length lines - (later + 1)) lines))
