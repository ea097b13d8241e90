use Rattle.sr_interleave.proofs.Events.{enter_made, enter_past, kept_pipes}
use Rattle.sr_interleave.proofs.Pipes.{layout_at, number_at, on_set}
use Rattle.sr_interleave.proofs.acting.enter.Goals as goal

pub enter_on-requires-clause-number : goal.enter_on-requires-clause-number
enter_on-requires-clause-number c =
    number_at c.args.board.now c.args.pipes.now c.args.pipe c.index-pipes-pipe.result c.requires.on c.if-pipe-pipes.true

pub enter_on-requires-clause-pipe : goal.enter_on-requires-clause-pipe
enter_on-requires-clause-pipe c =
    layout_at c.args.board.now c.args.pipes.now c.args.pipe c.index-pipes-pipe.result c.requires.on c.if-pipe-pipes.true

pub returns-in_err-enter_on-clause-on : goal.returns-in_err-enter_on-clause-on
returns-in_err-enter_on-clause-on c =
    on_set c.args.board.now c.args.pipes.now c.args.pipe c.index-pipes-pipe.result c.requires.on c.if-pipe-pipes.true c.enter_on.new.board
    c.enter_on.new.pipe c.enter_on.ensures.layout c.enter_on.ensures.pipe

pub returns-in_err-enter_on-clause-kept : goal.returns-in_err-enter_on-clause-kept
returns-in_err-enter_on-clause-kept c =
    kept_pipes c.from_residual.result c.args.board.now c.enter_on.new.board c.args.pipes.now c.args.pipe c.index-pipes-pipe.result c.enter_on.new.pipe
    c.if-pipe-pipes.true c.in_err-enter_on.ensures.kept

pub returns-in_ok-enter_on-clause-on : goal.returns-in_ok-enter_on-clause-on
returns-in_ok-enter_on-clause-on c =
    on_set c.args.board.now c.args.pipes.now c.args.pipe c.index-pipes-pipe.result c.requires.on c.if-pipe-pipes.true c.enter_on.new.board
    c.enter_on.new.pipe c.enter_on.ensures.layout c.enter_on.ensures.pipe

pub returns-in_ok-enter_on-clause-made : goal.returns-in_ok-enter_on-clause-made
returns-in_ok-enter_on-clause-made c =
    enter_made c.args.board.now c.enter_on.new.board c.args.pipes.now c.args.pipe c.index-pipes-pipe.result c.enter_on.new.pipe c.if-pipe-pipes.true
    c.enter_on.ensures.layout c.args.packet c.in_ok-enter_on.ensures.made

pub returns-else-pipe-pipes-clause-made : goal.returns-else-pipe-pipes-clause-made
returns-else-pipe-pipes-clause-made c = enter_past c.args.board.now c.args.pipes.now c.args.pipe c.args.packet c.if-pipe-pipes.false
