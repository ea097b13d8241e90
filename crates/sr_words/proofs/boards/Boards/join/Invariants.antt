use Rattle.std.proofs.Common.{◌≡◌, ◌++◌, length, map, replicate}
use Rattle.sr_words.specs.Boarding.{held, views_of}
use Rattle.sr_words.proofs.boards.Boards.join.Given as goal

abbrev pub invariant-loop-pipes : goal.invariant-loop-pipes
invariant-loop-pipes l =
    (l.controller.seat.me.0.actors ++ views_of (map held l.pipes.items)
    ≡ l.fn.self.controller.seat.me.0.actors ++ views_of (map held l.fn.self.pipes.items))
    × (map (λ b. b.seat.table_id) l.pipes.items ≡ replicate (length l.pipes.items) l.fn.self.controller.seat.table_id)
    × (l.controller.heard ≡ l.fn.self.controller.heard) × (l.controller.words.now.key ≡ l.fn.self.controller.words.now.key)
    × (l.controller.layout ≡ l.fn.self.controller.layout) × (l.controller.seat.table_id ≡ l.fn.self.controller.seat.table_id)

abbrev pub decreases-loop-pipes : goal.decreases-loop-pipes
decreases-loop-pipes l = length l.pipes.items
