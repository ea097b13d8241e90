use Rattle.std.proofs.Common.{◌≡◌, ◌++◌, drop}
use Rattle.sr_law.specs.Pools.{pools_from}
use Rattle.sr_law.proofs.pools.Pools.new.Given as goal

abbrev pub invariant-loop-vip : goal.invariant-loop-vip
invariant-loop-vip l = l.vips.items ++ pools_from l.vip (drop l.vip l.first) l.changes ≡ pools_from 0 l.first l.changes
