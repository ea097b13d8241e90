use Rattle.sr_inv_table.proofs.OneVersion.{one_version}
use Rattle.sr_inv_table.proofs.laws.versions_are_one.Goals as goal

pub returns : goal.returns
returns c = one_version
