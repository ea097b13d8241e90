use Rattle.std.proofs.Common.{◌≡◌, drop}
use Rattle.std.specs.List.{list_any}
use Rattle.sr_run.specs.Command.{begins_with_dash}
use Rattle.sr_run.specs.Parting.{texts}
use Rattle.sr_run.proofs.command.any_begins_with_dash.Given as goal

-- one that does is among the words that are left
abbrev pub invariant-loop-word : goal.invariant-loop-word
invariant-loop-word l = list_any begins_with_dash (texts (drop l.word-index l.words)) ≡ list_any begins_with_dash (texts l.words)
