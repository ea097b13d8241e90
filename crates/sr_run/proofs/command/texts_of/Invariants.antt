use Rattle.std.proofs.Common.{◌≡◌, ◌++◌, drop, map, string_bytes}
use Rattle.sr_run.specs.Parting.{texts}
use Rattle.sr_run.proofs.command.texts_of.Given as goal

-- the texts so far and those that are left are all of them
abbrev pub invariant-loop-word : goal.invariant-loop-word
invariant-loop-word l = texts l.known.items ++ map string_bytes (drop l.word-index l.words) ≡ map string_bytes l.words
