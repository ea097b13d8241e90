use Rattle.std.proofs.Common.{◌-◌, length}
use Rattle.sr_marks.proofs.tiers.+put_from.Given as goal

abbrev pub decreases-put_from : goal.decreases-put_from
decreases-put_from l = length l.tiers.now.items - l.i
