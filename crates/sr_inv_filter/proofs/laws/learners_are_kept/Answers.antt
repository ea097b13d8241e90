use Rattle.sr_inv_facts.proofs.Keeping.{begun_keeps, events_keep}
use Rattle.sr_inv_facts.specs.InFilter.{LearnersKept}
use Rattle.sr_inv_filter.proofs.Learners.{learners_keep, learners_open, learners_part}
use Rattle.sr_inv_filter.proofs.laws.learners_are_kept.Goals as goal

pub returns-clause-opening : goal.returns-clause-opening
returns-clause-opening c = learners_open

pub returns-clause-begun : goal.returns-clause-begun
returns-clause-begun c = begun_keeps LearnersKept learners_part learners_keep

pub returns-clause-event : goal.returns-clause-event
returns-clause-event c = events_keep LearnersKept learners_part learners_keep
