use Rattle.sr_inv_quiet.proofs.SweepsKept.{sweeps_begun, sweeps_event, sweeps_open}
use Rattle.sr_inv_quiet.proofs.laws.sweeps_are_kept.Goals as goal

pub returns-clause-opening : goal.returns-clause-opening
returns-clause-opening c = sweeps_open

pub returns-clause-begun : goal.returns-clause-begun
returns-clause-begun c = sweeps_begun

pub returns-clause-event : goal.returns-clause-event
returns-clause-event c = sweeps_event
