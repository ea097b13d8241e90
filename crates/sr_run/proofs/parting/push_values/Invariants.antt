use Rattle.std.proofs.Common.{◌≡◌, ◌++◌, drop}
use Rattle.clap.specs.Words.{found_of, rows_of}
use Rattle.sr_run.specs.Parting.{texts, values_of}
use Rattle.sr_run.proofs.parting.push_values.Given as goal

-- the texts so far and those that are left are all of them
abbrev pub invariant-loop-name : goal.invariant-loop-name
invariant-loop-name l =
    texts l.parts.items ++ values_of (texts (drop l.name-index l.names)) (rows_of (found_of l.found))
    ≡ texts l.initial.parts.items ++ values_of (texts l.names) (rows_of (found_of l.found))
