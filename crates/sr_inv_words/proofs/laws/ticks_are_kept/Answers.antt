use Rattle.sr_inv_facts.proofs.Keeping.{begun_keeps, events_keep}
use Rattle.sr_inv_facts.specs.InTicks.{InTicks}
use Rattle.sr_inv_words.proofs.TicksKept.{ticks_keep}
use Rattle.sr_inv_words.proofs.TicksOpen.{ticks_open}
use Rattle.sr_inv_words.proofs.laws.ticks_are_kept.Goals as goal

pub returns-clause-opening : goal.returns-clause-opening
returns-clause-opening c = ticks_open

pub returns-clause-begun : goal.returns-clause-begun
returns-clause-begun c = begun_keeps InTicks (λ s i. i.ticks) ticks_keep

pub returns-clause-event : goal.returns-clause-event
returns-clause-event c = events_keep InTicks (λ s i. i.ticks) ticks_keep
