use Rattle.sr_words.proofs.Unchosen.{shown_meet, steps_made}
use Rattle.sr_words.proofs.laws.shown_states_meet_the_invariant.Goals as goal

pub returns-clause-shown : goal.returns-clause-shown
returns-clause-shown c = shown_meet

pub returns-clause-steps : goal.returns-clause-steps
returns-clause-steps c = steps_made
