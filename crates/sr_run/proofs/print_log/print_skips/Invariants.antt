use Rattle.std.proofs.Common.{drop}
use Rattle.std.specs.List.{flat_map}
use Rattle.sr_text.specs.LineText.{skip_text}
use Rattle.sr_io.proofs.Writing.{Wrote}
use Rattle.sr_run.proofs.print_log.print_skips.Given as goal

abbrev pub invariant-loop-skip : goal.invariant-loop-skip
invariant-loop-skip g l = Wrote (g.K.Sink.known l.fn.sink) (g.K.Sink.known l.sink) (flat_map skip_text (drop l.skip-index l.skips)) (flat_map skip_text l.skips)
