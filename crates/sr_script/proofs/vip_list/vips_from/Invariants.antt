use Rattle.std.proofs.Common.{◌≡◌, length}
use Rattle.sr_script.proofs.Readings.{Parts}
use Rattle.sr_script.proofs.vip_list.vips_from.Given as goal

-- what is left gives what all give
abbrev pub invariant-loop-value : goal.invariant-loop-value
invariant-loop-value l =
    (length l.addresses ≡ l.value-index)
    × Parts l.pool_max l.servers l.addresses l.pools.items l.value-index l.values
