use Rattle.sr_update.proofs.Bits.{below_within, below_past}
use Rattle.sr_update.proofs.number_set.numbers_below.Goals as goal

pub returns-clause-within : goal.returns-clause-within
returns-clause-within c n h = below_within c.args.count n c.requires.most h

pub returns-clause-past : goal.returns-clause-past
returns-clause-past c n h = below_past c.args.count n c.requires.most h
