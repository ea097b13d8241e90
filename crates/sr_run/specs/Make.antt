-- What the command `make` does.
use Rattle.std.specs.Prelude.{ℕ, []}
use Rattle.sr_gen.specs.Capture.{capture_of}
use Rattle.sr_io.specs.Sink.{SinkKnown, Adds, AddsFront}
use Rattle.sr_run.specs.declared.status.Status.{Status}
use Rattle.sr_run.specs.declared.status.Status.TheVariants.{Done, WriteFault, Memory}

-- The capture was written; or the sink failed after a prefix of it; nothing else comes but want of memory, before anything was written.
abbrev pub RunsMake : ℕ → ℕ → Status → SinkKnown → SinkKnown → Type 0
RunsMake number packets Done before after = Adds before.taken after.taken (capture_of number packets)
RunsMake number packets WriteFault before after = AddsFront before.taken after.taken (capture_of number packets)
RunsMake number packets Memory before after = Adds before.taken after.taken []
RunsMake number packets status before after = ⊥
