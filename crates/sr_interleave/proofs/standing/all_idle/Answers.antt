use Rattle.std.proofs.Common.{◌∙◌}
use Rattle.sr_interleave.proofs.Pipes.{all_views}
use Rattle.sr_interleave.proofs.standing.all_idle.Goals as goal

pub returns : goal.returns
returns c = c.all_idle_in.ensures ∙ all_views c.args.pipes.now
