use Rattle.std.proofs.Common.{length}
use Rattle.sr_inv_core.proofs.events.+keeps_all.Given as goal

abbrev pub decreases-keeps_all : goal.decreases-keeps_all
decreases-keeps_all l = length l.events.now
