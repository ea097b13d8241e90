use Rattle.sr_ctl.proofs.Machines.{settles_as_machine}
use Rattle.sr_ctl.proofs.meaning.settling_is_the_machines.Goals as goal

pub returns : goal.returns
returns c = settles_as_machine
