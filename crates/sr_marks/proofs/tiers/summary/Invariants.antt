use Rattle.std.proofs.Common.{length}
use Rattle.sr_marks.proofs.Tiering.{Summing}
use Rattle.sr_marks.proofs.tiers.summary.Given as goal

abbrev pub invariant-loop-word : goal.invariant-loop-word
invariant-loop-word l = Summing l.above l.below (length l.initial.above) l.word
