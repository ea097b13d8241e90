use Rattle.std.proofs.Common.{◌-◌, length}
use Rattle.sr_marks.proofs.tiers.+next_from.Given as goal

abbrev pub decreases-next_from : goal.decreases-next_from
decreases-next_from l = length l.tiers.now.items - l.i
