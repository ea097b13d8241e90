use Rattle.std.proofs.Common.{◌≡◌, ◌++◌, drop}
use Rattle.sr_machine.specs.Core.{pipe_lines}
use Rattle.sr_threads.specs.Hiring.{views_in}
use Rattle.sr_threads.proofs.hiring.lines_of_all.Given as goal

-- the lines so far and those of the other pipes are those of all
abbrev pub invariant-loop-worker : goal.invariant-loop-worker
invariant-loop-worker l = l.lines.items ++ pipe_lines (views_in (drop l.worker-index l.workers)) ≡ pipe_lines (views_in l.workers)
