use Rattle.std.proofs.Common.{◌≡◌, map}
use Rattle.std.specs.List.{range_with_len}
use Rattle.sr_machine.specs.Opening.{opening_line}
use Rattle.sr_acts.proofs.controller_machine.opening_lines.Given as goal

abbrev pub invariant-loop-vip : goal.invariant-loop-vip
invariant-loop-vip l = l.lines.lines ≡ map opening_line (range_with_len 0 l.vip)
