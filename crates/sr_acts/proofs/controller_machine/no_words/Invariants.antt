use Rattle.std.proofs.Common.{◌≡◌, replicate}
use Rattle.sr_acts.proofs.controller_machine.no_words.Given as goal

abbrev pub invariant-loop-pipe : goal.invariant-loop-pipe
invariant-loop-pipe l = l.rings.items ≡ replicate l._pipe (record { words = 0; punts = 0 })
