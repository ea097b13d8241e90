use Rattle.sr_inv_table.proofs.Loading.{words}
use Rattle.sr_inv_table.proofs.laws.vip_words_are_loaded.Goals as goal

pub returns : goal.returns
returns c = words
