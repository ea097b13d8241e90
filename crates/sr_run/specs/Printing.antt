-- How a run ends once it prints.
use Rattle.std.specs.Prelude.{◌≡◌, ℕ, List, Option, Some, None}
use Rattle.sr_io.specs.Sink.{SinkKnown, Writes}
use Rattle.sr_io.specs.declared.sink.Put.TheVariants as put
use Rattle.sr_capture.specs.declared.capture_refusal.CaptureRefusal.{CaptureRefusal}
use Rattle.sr_run.specs.declared.status.Status.{Status}
use Rattle.sr_run.specs.declared.status.Status.TheVariants.{Done, Capture, WriteFault}

-- The text was printed where the capture ended so; or a prefix of it.
abbrev pub EndsPrinting : Status → Option CaptureRefusal → List ℕ → SinkKnown → SinkKnown → Type 0
EndsPrinting Done ending text before after = (ending ≡ None) × Writes put.All before after text
EndsPrinting (Capture why) ending text before after = (ending ≡ Some why) × Writes put.All before after text
EndsPrinting WriteFault ending text before after = Writes put.Failed before after text
EndsPrinting status ending text before after = ⊥
