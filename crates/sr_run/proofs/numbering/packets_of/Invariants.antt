use Rattle.std.proofs.Common.{◌≡◌, ◌++◌, drop}
use Rattle.sr_law.specs.Final.{packets_of}
use Rattle.sr_run.proofs.numbering.packets_of.Given as goal

-- the packets so far and those of the other lines are those of all
abbrev pub invariant-loop-line : goal.invariant-loop-line
invariant-loop-line l = l.packets.items ++ packets_of (drop l.line-index l.lines) ≡ packets_of l.lines
