use Rattle.std.proofs.Common.{ap, get_or}
use Rattle.sr_interleave.proofs.Picks.{share_past, takes_there}
use Rattle.sr_interleave.proofs.standing.take_at.Goals as goal

pub returns-then-pipe-shares : goal.returns-then-pipe-shares
returns-then-pipe-shares c =
    takes_there c.args.shares.now c.args.pipe _ c.take.new.self c.take.result c.if-pipe-shares.true
    (ap (λ z. get_or c.args.shares.now c.args.pipe z) c.index-shares-pipe.is) c.take.ensures

pub returns-else-pipe-shares : goal.returns-else-pipe-shares
returns-else-pipe-shares c = share_past c.args.shares.now c.args.pipe c.if-pipe-shares.false
