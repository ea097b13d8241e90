use Rattle.std.proofs.Common.{◌≡◌, reverse, take, ◌≤◌}
use Rattle.std.specs.List.{count_by}
use Rattle.sr_law.specs.Final.{same_packet, packets_of}
use Rattle.sr_law.proofs.packets.count_told.Given as goal

abbrev pub invariant-loop-line : goal.invariant-loop-line
invariant-loop-line l = (l.count ≡ count_by (same_packet l.packet) (packets_of (reverse (take l.line-index l.lines)))) × (l.count ≤ l.line-index)
