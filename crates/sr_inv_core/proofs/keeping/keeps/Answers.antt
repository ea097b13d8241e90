use Rattle.sr_inv_core.proofs.Standing.{stands_on}
use Rattle.sr_inv_core.proofs.keeping.keeps.Goals as goal

pub returns-clause-kept : goal.returns-clause-kept
returns-clause-kept c = stands_on c.args.core.now c.step.new.self c.args.event c.step.result c.step.ensures c.event_ranges.ensures
