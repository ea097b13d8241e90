use Rattle.sr_ctl.proofs.Machines.{turns_as_machine}
use Rattle.sr_ctl.proofs.meaning.turning_is_the_machines.Goals as goal

pub returns : goal.returns
returns c = turns_as_machine
