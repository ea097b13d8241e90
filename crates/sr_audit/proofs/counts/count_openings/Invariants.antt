use Rattle.std.proofs.Common.{◌≡◌, ◌≤◌, reverse, take}
use Rattle.sr_audit.specs.Connections.{TellsConnections}
use Rattle.sr_audit.specs.Counts.{openings_in}
use Rattle.sr_audit.proofs.counts.count_openings.Given as goal

abbrev pub invariant-loop-line : goal.invariant-loop-line
invariant-loop-line l = record {
  tells : TellsConnections l.connections (reverse (take l.line-index l.lines));
  counted : l.count ≡ openings_in (reverse (take l.line-index l.lines));
  few : l.count ≤ l.line-index;
}
