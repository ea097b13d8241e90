use Rattle.sr_inv_facts.proofs.Keeping.{begun_keeps, events_keep}
use Rattle.sr_inv_facts.specs.InHeld.{InHeld}
use Rattle.sr_inv_held.proofs.HeldsKept.{helds_keep, helds_open}
use Rattle.sr_inv_held.proofs.laws.helds_are_kept.Goals as goal

pub returns-clause-opening : goal.returns-clause-opening
returns-clause-opening c = helds_open

pub returns-clause-begun : goal.returns-clause-begun
returns-clause-begun c = begun_keeps InHeld (λ s i. i.held) helds_keep

pub returns-clause-event : goal.returns-clause-event
returns-clause-event c = events_keep InHeld (λ s i. i.held) helds_keep
