use Rattle.std.proofs.Common.{◌∙◌}
use Rattle.sr_update.proofs.Rows.{row_opened, view_opened}
use Rattle.sr_update.proofs.row.Row.new.Goals as goal

pub invariant_of-row : goal.invariant_of-row
invariant_of-row c =
    row_opened _ _ _ c.free_states.ensures c.requires.some c.requires.most c.numbers_below.ensures.within c.numbers_below.ensures.past

pub returns : goal.returns
returns c = c.put.ensures ∙ view_opened _ c.args.versions c.free_states.ensures c.requires.some c.requires.most
