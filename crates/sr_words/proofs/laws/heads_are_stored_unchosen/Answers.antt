use Rattle.sr_words.proofs.Unchosen.{heads_unchosen}
use Rattle.sr_words.proofs.laws.heads_are_stored_unchosen.Goals as goal

pub returns : goal.returns
returns c = heads_unchosen
