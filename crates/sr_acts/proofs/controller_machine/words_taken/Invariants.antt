use Rattle.std.proofs.Common.{◌≡◌, ◌+◌, drop}
use Rattle.sr_machine.specs.Deciding.{words_taken}
use Rattle.sr_acts.proofs.controller_machine.words_taken.Given as goal

-- those so far and those that are left are all
abbrev pub invariant-loop-ring : goal.invariant-loop-ring
invariant-loop-ring l = l.words + words_taken (drop l.ring-index l.rings) ≡ words_taken l.rings
