use Rattle.sr_machine.proofs.Kept.{reached_config, reaches_more}
use Rattle.sr_machine.proofs.laws.runs_go_on.Goals as goal

pub returns-clause-config : goal.returns-clause-config
returns-clause-config c = reached_config

pub returns-clause-more : goal.returns-clause-more
returns-clause-more c = reaches_more
