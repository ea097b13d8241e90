use Rattle.std.proofs.Common.{◌≡◌, take, []}
use Rattle.sr_update.specs.Updates.{gives_after, Pooled}
use Rattle.sr_update.proofs.updates.Updates.new.Given as goal

abbrev pub invariant-loop-position : goal.invariant-loop-position
invariant-loop-position l = record { given : l.gives.items ≡ gives_after [] (take l.position l.changes); pooled : Pooled l.pools.items (take l.position l.changes) }
