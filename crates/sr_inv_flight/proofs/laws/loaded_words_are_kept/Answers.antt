use Rattle.sr_inv_facts.proofs.Keeping.{begun_keeps, events_keep}
use Rattle.sr_inv_facts.specs.InFlight.{WordsLoaded}
use Rattle.sr_inv_flight.proofs.LoadedWords.{words_keep, words_open, words_part}
use Rattle.sr_inv_flight.proofs.laws.loaded_words_are_kept.Goals as goal

pub returns-clause-opening : goal.returns-clause-opening
returns-clause-opening c = words_open

pub returns-clause-begun : goal.returns-clause-begun
returns-clause-begun c = begun_keeps WordsLoaded words_part words_keep

pub returns-clause-event : goal.returns-clause-event
returns-clause-event c = events_keep WordsLoaded words_part words_keep
