use Rattle.std.proofs.Common.{reverse, refl, ◌∙◌}
use Rattle.sr_settled.proofs.Taking.{due_times, made_times}
use Rattle.sr_settled.proofs.downs.is_made_as_often.Goals as goal

pub returns : goal.returns
returns c =
    let due = c.count_due.ensures ∙ due_times c.args.clock c.args.changes.now c.args.server in
    let made = c.count_made.ensures ∙ made_times (reverse c.args.lines.now) c.args.server in
    rw (due, made) refl
