use Rattle.std.proofs.Common.{◌≡◌, ℕ, ◌≤◌}
use Rattle.sr_audit.specs.Used.{IsUsedBy}
use Rattle.sr_audit.proofs.used.Used.advance.Given as goal

abbrev pub invariant-loop-i : goal.invariant-loop-i
invariant-loop-i l = record {
  cursor : l.self.next ≡ l.i;
  used : (earlier : ℕ) → earlier ≤ l.tick → IsUsedBy l.initial.self earlier l.lines → IsUsedBy l.self l.tick l.lines;
}
