use Rattle.sr_inv_table.proofs.Matching.{no_other}
use Rattle.sr_inv_table.proofs.laws.slots_match_no_other.Goals as goal

pub returns : goal.returns
returns c = no_other
