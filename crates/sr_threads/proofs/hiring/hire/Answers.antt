use Rattle.std.proofs.Common.{◌<◌, ◌+◌, false, List, length, refl, sym, subst, arith}
use Rattle.sr_base.specs.declared.shape.Shape.{Shape}
use Rattle.sr_threads.proofs.Together.{hire_more, some_board}
use Rattle.sr_threads.specs.Hiring.{Hired}
use Rattle.sr_threads.specs.declared.worker.Worker.{Worker}
use Rattle.sr_threads.proofs.hiring.hire.Goals as goal

pub remove-board-requires : goal.remove-board-requires
remove-board-requires c =
    let less : c.loop-number.number < c.args.layout.now.shape.pipes =
    subst (λ (x : Shape). c.loop-number.number < x.pipes) c.shape.ensures c.loop-number-test.true in
    let some : 0 < length c.loop-number.boards.items =
    some_board c.args.switch.now.table.shared.key c.args.switch.now.table.shared.table_id c.loop-number.number c.args.layout.now.shape.pipes
    c.loop-number.boards.items less c.loop-number.invariant.1 in
    let same = c.loop-number.boards.ok.0 in omega arith

pub loop-number-preserved : goal.loop-number-preserved
loop-number-preserved c =
    let less : c.loop-number.number < c.args.layout.now.shape.pipes =
    subst (λ (x : Shape). c.loop-number.number < x.pipes) c.shape.ensures c.loop-number-test.true in
    let more = hire_more c.args.switch.now.table.shared.key c.args.switch.now.table.shared.table_id c.args.layout.now c.loop-number.number
    c.args.layout.now.shape.pipes c.loop-number.boards.items c.remove-board.new.self.items c.remove-board.result c.loop-number.workers.items
    (record { board = c.remove-board.result; pipe = c.new-pipe.result; short = false })
    less c.loop-number.invariant.0 c.loop-number.invariant.1 c.remove-board.ensures.value c.remove-board.ensures.items
    c.requires.layout refl c.new-pipe.ensures.layout c.new-pipe.ensures.view in (
      subst
          (λ (ws : List Worker). Hired c.args.switch.now.table.shared.key c.args.switch.now.table.shared.table_id 0 (c.loop-number.number + 1) ws)
          (sym c.in_ok-push.ensures.items) more.0,
      more.1,
    )
