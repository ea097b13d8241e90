use Rattle.std.proofs.Common.{◌≡◌, ◌+◌, ◌*◌, drop}
use Rattle.std.specs.List.{flat_map}
use Rattle.sr_text.specs.LineText.{line_text}
use Rattle.sr_run.specs.One.{packet_lines}
use Rattle.sr_io.proofs.Writing.{Wrote}
use Rattle.sr_run.proofs.print_log.print_packets.Given as goal

abbrev pub invariant-loop-packet : goal.invariant-loop-packet
invariant-loop-packet g l = record {
  wrote : Wrote (g.K.Sink.known l.fn.sink) (g.K.Sink.known l.sink) (flat_map line_text (packet_lines l.servers l.tick (drop l.packet-index l.packets))) (flat_map line_text (packet_lines l.servers 2 l.packets));
  tick : l.tick ≡ 2 + 2 * l.packet-index;
}
