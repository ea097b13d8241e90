use Rattle.std.proofs.Common.{arith}
use Rattle.sr_marks.proofs.SetMarks.{count_set-le}
use Rattle.sr_marks.proofs.Keeping.{word_counts-total}
use Rattle.sr_marks.proofs.counts.Counts.of.Goals as goal

pub over-requires : goal.over-requires
over-requires c =
    let sum = word_counts-total c.in_ok-lowest.lowest c.args.flags.now c.in_ok-lowest.ensures in
    omega (arith, count_set-le c.args.flags.now, c.requires.short)
