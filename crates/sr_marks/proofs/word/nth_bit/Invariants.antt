use Rattle.std.proofs.Common.{◌≡◌, ◌+◌}
use Rattle.sr_marks.specs.Marks.{rank_of}
use Rattle.sr_marks.specs.Words.{bits_of}
use Rattle.sr_marks.proofs.word.nth_bit.Given as goal

abbrev pub invariant-loop-bit : goal.invariant-loop-bit
invariant-loop-bit l = l.left + rank_of l.bit (bits_of 64 l.word) ≡ l.n
