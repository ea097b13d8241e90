use Rattle.std.proofs.Common.{◌≡◌, [], ◌-◌, ◌≤◌, map, vec_len}
use Rattle.sr_words.proofs.Launching.{views_left}
use Rattle.sr_words.specs.Boarding.{held, new_boards}
use Rattle.sr_words.specs.Seats.{seated}
use Rattle.sr_words.proofs.switch.Switch.boards.Given as goal

abbrev pub invariant-loop-number : goal.invariant-loop-number
invariant-loop-number l =
    (l.seat.table_id ≡ l.self.table.shared.table_id) × (l.seat.me.1 ≡ [])
    × (l.seat.me.0 ≡ seated (views_left l.self.table.shared.key l.number (l.count - l.number)))
    × (map held l.pipes.items ≡ new_boards l.self.table.shared.key l.self.table.shared.table_id 0 l.number)
    × (vec_len l.pipes ≡ l.number) × (l.count ≤ l.pipes.cap)
