use Rattle.std.proofs.Common.{◌-◌}
use Rattle.sr_io.proofs.Writing.{Wrote}
use Rattle.sr_gen.specs.Connections.{StandsAt}
use Rattle.sr_gen.specs.Capture.{records_from}
use Rattle.sr_gen.proofs.capture.write_records.Given as goal

abbrev pub invariant-loop-t : goal.invariant-loop-t
invariant-loop-t g l = record {
  wrote : Wrote (g.K.Sink.known l.fn.sink) (g.K.Sink.known l.sink) (records_from l.number l.t (l.packets - l.t)) (records_from l.number 0 l.packets);
  turn : StandsAt l.number l.t l.connections;
}
