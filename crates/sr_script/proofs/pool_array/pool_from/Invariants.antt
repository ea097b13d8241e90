use Rattle.std.proofs.Common.{◌≡◌, [], map, drop, vec_len}
use Rattle.toml.specs.View.{view}
use Rattle.sr_script.specs.Fault.{each_after}
use Rattle.sr_script.specs.Walk.{member_in}
use Rattle.sr_script.proofs.pool_array.pool_from.Given as goal

-- what is left gives what all give
abbrev pub invariant-loop-value : goal.invariant-loop-value
invariant-loop-value l =
    (vec_len l.members ≡ l.value-index)
    × (each_after (member_in l.section l.servers) l.members.items (map view (drop l.value-index l.values)) ≡ each_after (member_in l.section l.servers) [] (map view l.values))
