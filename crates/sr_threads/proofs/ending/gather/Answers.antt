use Rattle.std.proofs.Common.{refl, ap}
use Rattle.sr_machine.specs.Boards.{Beside}
use Rattle.sr_threads.proofs.Together.{one_each_of, one_table_of}
use Rattle.sr_threads.proofs.ending.gather.Goals as goal

pub invariant_of-result : goal.invariant_of-result
invariant_of-result c =
    let k = c.requires.1.config in
    let t = c.requires.0 in
    let work = c.requires.2 in record {
      one_table = one_table_of k t k.layout.shape.pipes c.args.workers.items c.in_ok-pipes.pipes.items c.args.board work.pipes c.in_ok-pipes.ensures work.belongs;
      one_each =
          one_each_of k t k.layout.shape.pipes c.args.workers.items c.in_ok-pipes.pipes.items c.args.board work.pipes c.in_ok-pipes.ensures work.belongs
          c.boards_know_their_pipes.ensures.pipes refl;
      alone =
          c.boards_know_their_pipes.ensures.controller c.args.board.words.now.key c.args.board.seat.me.0 c.args.board.heard k c.requires.1.view
          work.governs.view (ap (λ (b : Beside). b.joined) work.belongs);
    }
