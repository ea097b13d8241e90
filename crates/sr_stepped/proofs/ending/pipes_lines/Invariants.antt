use Rattle.std.proofs.Common.{◌≡◌, ◌++◌, drop}
use Rattle.sr_core.specs.HeldPipes.{views_of}
use Rattle.sr_machine.specs.Core.{pipe_lines}
use Rattle.sr_stepped.proofs.ending.pipes_lines.Given as goal

-- the lines so far and those of the other pipes are those of all
abbrev pub invariant-loop-pipe : goal.invariant-loop-pipe
invariant-loop-pipe l = l.lines.items ++ pipe_lines (views_of (drop l.pipe-index l.pipes)) ≡ pipe_lines (views_of l.pipes)
