use Rattle.std.proofs.Common.{◌≡◌, ◌≤◌, length, reverse, take}
use Rattle.sr_law.specs.Final.{packets_of}
use Rattle.sr_audit.proofs.final_lines.tell_in_order.Given as goal

abbrev pub invariant-loop-line : goal.invariant-loop-line
invariant-loop-line l = record {
  within : l.next ≤ length l.packets;
  told : packets_of (reverse (take l.line-index l.lines)) ≡ reverse (take l.next l.packets);
}
