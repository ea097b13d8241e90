use Rattle.std.proofs.Common.{◌≡◌, ◌++◌, length, map}
use Rattle.sr_threads.specs.Hiring.{held_by}
use Rattle.sr_words.specs.Boarding.{held}
use Rattle.sr_threads.proofs.hiring.dismiss.Given as goal

-- the boards so far and those of the other pipes are those of all
abbrev pub invariant-loop-workers : goal.invariant-loop-workers
invariant-loop-workers l = map held l.boards.items ++ held_by l.workers.items ≡ held_by l.initial.workers.items

abbrev pub decreases-loop-workers : goal.decreases-loop-workers
decreases-loop-workers l = length l.workers.items
