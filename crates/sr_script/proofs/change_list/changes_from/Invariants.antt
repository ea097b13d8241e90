use Rattle.std.proofs.Common.{◌≡◌, [], map, drop, vec_len}
use Rattle.toml.specs.View.{view}
use Rattle.sr_script.specs.Fault.{each_after}
use Rattle.sr_script.specs.Walk.{change_in}
use Rattle.sr_script.proofs.change_list.changes_from.Given as goal

-- what is left gives what all give
abbrev pub invariant-loop-value : goal.invariant-loop-value
invariant-loop-value l =
    (vec_len l.changes ≡ l.value-index)
    × (each_after (change_in l.pool_max l.servers l.vips) l.changes.items (map view (drop l.value-index l.values)) ≡ each_after (change_in l.pool_max l.servers l.vips) [] (map view l.values))
