use Rattle.sr_inv_table.proofs.Matching.{settled}
use Rattle.sr_inv_table.proofs.laws.placed_keys_are_settled.Goals as goal

pub returns : goal.returns
returns c = settled
