use Rattle.std.proofs.Common.{◌≡◌, ◌++◌, drop}
use Rattle.sr_law.specs.Pools.{gives_to}
use Rattle.sr_law.proofs.own_pools.gives.Given as goal

abbrev pub invariant-loop-change : goal.invariant-loop-change
invariant-loop-change l = l.pools.items ++ gives_to l.vip (drop l.change-index l.changes) ≡ gives_to l.vip l.changes
