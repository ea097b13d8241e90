use Rattle.std.proofs.Common.{◌∙◌}
use Rattle.sr_acts.proofs.Lists.{first_replicated}
use Rattle.sr_acts.proofs.named_row.NamedRow.new.Goals as goal

pub returns : goal.returns
returns c = c.put.ensures ∙ first_replicated _ c.args.versions c.no_pools.ensures c.requires.some c.requires.most
