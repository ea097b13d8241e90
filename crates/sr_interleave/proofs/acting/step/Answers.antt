use Rattle.sr_interleave.proofs.Events.{step_made, step_past}
use Rattle.sr_interleave.proofs.Pipes.{layout_at, number_at, on_set}
use Rattle.sr_interleave.proofs.acting.step.Goals as goal

pub step_on-requires-clause-number : goal.step_on-requires-clause-number
step_on-requires-clause-number c = number_at c.args.board.now c.args.pipes.now c.args.pipe c.index-pipes-pipe.result c.requires c.if-pipe-pipes.true

pub step_on-requires-clause-layout : goal.step_on-requires-clause-layout
step_on-requires-clause-layout c = layout_at c.args.board.now c.args.pipes.now c.args.pipe c.index-pipes-pipe.result c.requires c.if-pipe-pipes.true

pub returns-then-pipe-pipes-clause-on : goal.returns-then-pipe-pipes-clause-on
returns-then-pipe-pipes-clause-on c =
    on_set c.args.board.now c.args.pipes.now c.args.pipe c.index-pipes-pipe.result c.requires c.if-pipe-pipes.true c.step_on.new.board c.step_on.new.pipe
    c.step_on.ensures.layout c.step_on.ensures.pipe

pub returns-then-pipe-pipes-clause-made : goal.returns-then-pipe-pipes-clause-made
returns-then-pipe-pipes-clause-made c =
    step_made c.args.board.now c.step_on.new.board c.args.pipes.now c.args.pipe c.index-pipes-pipe.result c.step_on.new.pipe c.if-pipe-pipes.true
    c.step_on.ensures.layout c.step_on.ensures.step

pub returns-else-pipe-pipes-clause-made : goal.returns-else-pipe-pipes-clause-made
returns-else-pipe-pipes-clause-made c = step_past c.args.board.now c.args.pipes.now c.args.pipe c.if-pipe-pipes.false
