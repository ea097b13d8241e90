use Rattle.std.proofs.Common.{◌≡◌, take}
use Rattle.sr_law.proofs.own_pools.copied.Given as goal

abbrev pub invariant-loop-i : goal.invariant-loop-i
invariant-loop-i l = l.servers.items ≡ take l.i l.pool
