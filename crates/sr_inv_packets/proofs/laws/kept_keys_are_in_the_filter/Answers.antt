use Rattle.sr_inv_packets.proofs.Marking.{kept}
use Rattle.sr_inv_packets.proofs.laws.kept_keys_are_in_the_filter.Goals as goal

pub returns : goal.returns
returns c = kept
