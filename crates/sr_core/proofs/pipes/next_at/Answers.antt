use Rattle.sr_core.proofs.Views.{next_at}
use Rattle.sr_core.proofs.pipes.next_at.Goals as goal

pub returns-then-pipe-pipes-clause-value : goal.returns-then-pipe-pipes-clause-value
returns-then-pipe-pipes-clause-value c =
    next_at c.args.layout.now c.args.pipes.now c.args.pipe c.index-pipes-pipe.result c.requires c.if-pipe-pipes.true
    c.index-pipes-pipe.is c.next.result c.next.ensures.value
