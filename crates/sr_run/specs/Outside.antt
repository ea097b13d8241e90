-- The outside of a run: what is known of it before and after.
use Rattle.std.specs.Prelude.{◌≡◌, ◌⊎◌, ◌≤◌, []}
use Rattle.sr_io.specs.Faults.{Rose, Counts}
use Rattle.sr_io.specs.Shelf.{ShelfKnown}
use Rattle.sr_io.specs.Sink.{SinkKnown, Adds}
use Rattle.sr_io.specs.Source.{SourceKnown}
use Rattle.sr_run.specs.declared.status.Status.{Status}
use Rattle.sr_run.specs.declared.status.Status.TheVariants.{Done, Capture, ReadFault, WriteFault, Waiting}

-- what is known of the source, the shelf and the sink
pub record Outside : Type 0 where
  pub source : SourceKnown
  pub shelf : ShelfKnown
  pub sink : SinkKnown

abbrev pub outside : SourceKnown → ShelfKnown → SinkKnown → Outside
outside source shelf sink = record { source = source; shelf = shelf; sink = sink }

-- No fault is passed over, and none is told without a cause: a read fault has one of the source or the shelf behind it, and a write fault one of
-- the sink; with every other status the counts are as they were.
pub record TellsFaults (status : Status) (before after : Outside) : Type 0 where
  pub source_never_falls : before.source.faults ≤ after.source.faults
  pub shelf_never_falls : before.shelf.faults ≤ after.shelf.faults
  pub read : status ≡ ReadFault → Rose before.source.faults after.source.faults ⊎ Rose before.shelf.faults after.shelf.faults
  pub source_still : ¬ (status ≡ ReadFault) → after.source.faults ≡ before.source.faults
  pub shelf_still : ¬ (status ≡ ReadFault) → after.shelf.faults ≡ before.shelf.faults
  pub sink : Counts (status ≡ WriteFault) before.sink.faults after.sink.faults

-- Printing comes last: only with these statuses something may have been written.
abbrev pub WritesNothing : Status → SinkKnown → SinkKnown → Type 0
WritesNothing Done before after = Unit {0}
WritesNothing (Capture why) before after = Unit {0}
WritesNothing WriteFault before after = Unit {0}
WritesNothing (Waiting key) before after = Unit {0}
WritesNothing status before after = Adds before.taken after.taken []
