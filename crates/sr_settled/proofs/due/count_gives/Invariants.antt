use Rattle.std.proofs.Common.{◌≡◌, ◌≤◌, length, reverse, take}
use Rattle.sr_law.specs.Pools.{gives_to}
use Rattle.sr_settled.proofs.due.count_gives.Given as goal

abbrev pub invariant-loop-change : goal.invariant-loop-change
invariant-loop-change l = record {
  counted : l.count ≡ length (gives_to l.vip (reverse (take l.change-index l.changes)));
  few : l.count ≤ l.change-index;
}
