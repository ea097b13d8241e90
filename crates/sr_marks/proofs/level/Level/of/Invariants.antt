use Rattle.sr_marks.proofs.Keeping.{Counting}
use Rattle.sr_marks.proofs.level.Level.of.Given as goal

abbrev pub invariant-loop-word : goal.invariant-loop-word
invariant-loop-word l = Counting l.counts.items l.flags l.word
