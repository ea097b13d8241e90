-- From what a family owes to its law.
use Rattle.sr_inv_facts.specs.Fitted.{IsPacket}
use Rattle.sr_inv_facts.specs.Invariant.{Invariant}
use Rattle.sr_inv_facts.specs.Laws.{BegunKeeps, EventsKeep}
use Rattle.sr_machine.proofs.Kept.{event_keeps}
use Rattle.sr_machine.specs.Core.{Core}
use Rattle.sr_machine.specs.Keeping.{Keeps}

module _ (Family : Core → Type 0) (part : (s : Core) → Invariant s → Family s) (keeps : Keeps IsPacket Invariant Family) where
  pub begun_keeps : BegunKeeps Family
  begun_keeps s i = keeps.begins s i (part s i)

  pub events_keep : EventsKeep Family
  events_keep s t e h allowed q =
      event_keeps IsPacket Invariant Family keeps s t h.now h.begun (part s h.now) e allowed q
