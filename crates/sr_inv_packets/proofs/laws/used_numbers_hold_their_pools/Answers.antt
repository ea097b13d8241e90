use Rattle.sr_inv_packets.proofs.Numbers.{pools}
use Rattle.sr_inv_packets.proofs.laws.used_numbers_hold_their_pools.Goals as goal

pub returns : goal.returns
returns c = pools
