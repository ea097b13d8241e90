-- The law follows from the ranges.
use Rattle.sr_base.proofs.Ranges.{filter_bits_have_words}
use Rattle.sr_base.proofs.layout.filter_bits_have_words.Goals as goal

pub returns : goal.returns
returns c = filter_bits_have_words _ c.layout_ranges.ensures
