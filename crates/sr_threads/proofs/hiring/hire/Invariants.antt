use Rattle.std.proofs.Common.{◌≡◌, ◌-◌, map}
use Rattle.sr_threads.specs.Hiring.{Hired}
use Rattle.sr_words.specs.Boarding.{held, new_boards}
use Rattle.sr_threads.proofs.hiring.hire.Given as goal

-- the pipes so far have their boards, and the others' are left
abbrev pub invariant-loop-number : goal.invariant-loop-number
invariant-loop-number l =
    Hired l.switch.table.shared.key l.switch.table.shared.table_id 0 l.number l.workers.items
    × (map held l.boards.items ≡ new_boards l.switch.table.shared.key l.switch.table.shared.table_id l.number (l.layout.shape.pipes - l.number))
