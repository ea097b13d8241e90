use Rattle.sr_inv_packets.proofs.Passing.{passed_know}
use Rattle.sr_inv_packets.proofs.laws.passed_packets_know_the_store.Goals as goal

pub returns : goal.returns
returns c = passed_know
