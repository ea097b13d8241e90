use Rattle.sr_inv_facts.proofs.Keeping.{begun_keeps, events_keep}
use Rattle.sr_inv_facts.specs.InWords.{InWords}
use Rattle.sr_inv_words.proofs.WordsKept.{words_keep}
use Rattle.sr_inv_words.proofs.WordsOpen.{words_open}
use Rattle.sr_inv_words.proofs.laws.words_are_kept.Goals as goal

pub returns-clause-opening : goal.returns-clause-opening
returns-clause-opening c = words_open

pub returns-clause-begun : goal.returns-clause-begun
returns-clause-begun c = begun_keeps InWords (λ s i. i.words) words_keep

pub returns-clause-event : goal.returns-clause-event
returns-clause-event c = events_keep InWords (λ s i. i.words) words_keep
