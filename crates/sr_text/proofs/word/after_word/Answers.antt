use Rattle.std.proofs.lemmas.Slice.Eq.{strip_prefix_is}
use Rattle.std.proofs.lemmas.Bool.Decides.{Decides-eqb}
use Rattle.sr_text.proofs.Words.{after_word_is}
use Rattle.sr_text.proofs.word.after_word.Goals as goal

pub returns : goal.returns
returns c = after_word_is c.args.word.now c.args.bytes.now c.strip_prefix.result (strip_prefix_is Decides-eqb _ _ _ c.strip_prefix.ensures.cases)
