use Rattle.std.proofs.Common.{◌≡◌, [], map, drop, length}
use Rattle.toml.specs.View.{view}
use Rattle.sr_script.specs.Fault.{each_after}
use Rattle.sr_script.specs.Walk.{server_in}
use Rattle.sr_script.proofs.servers.servers_from.Given as goal

-- what is left gives what all give
abbrev pub invariant-loop-value : goal.invariant-loop-value
invariant-loop-value l =
    (length l.servers ≡ l.value-index)
    × (each_after server_in l.servers (map view (drop l.value-index l.values)) ≡ each_after server_in [] (map view l.values))
