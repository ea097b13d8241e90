use Rattle.sr_machine.proofs.PacketSteps.{packets_end}
use Rattle.sr_machine.proofs.laws.packets_end.Goals as goal

pub returns : goal.returns
returns c = packets_end
