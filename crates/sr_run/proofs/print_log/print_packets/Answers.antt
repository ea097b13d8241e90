use Rattle.std.proofs.Common.{◌+◌, drop, arith, sym, subst}
use Rattle.std.specs.List.{flat_map}
use Rattle.std.proofs.lemmas.Result.{err_from_is_err_and}
use Rattle.sr_io.specs.Sink.{Writes, put_of}
use Rattle.sr_io.specs.declared.sink.Put.TheVariants.{All, Failed}
use Rattle.sr_text.specs.LineText.{line_text}
use Rattle.sr_run.specs.One.{packet_lines}
use Rattle.sr_io.proofs.Writing.{Wrote, wrote_more, wrote_failed}
use Rattle.sr_run.proofs.PrintedLines.{packets_step}
use Rattle.sr_run.proofs.print_log.print_packets.Goals as goal

pub returns-in_err-ok : goal.returns-in_err-ok
returns-in_err-ok g c =
    let known = g.K.Sink.known in
    let packets = c.args.packets.now in
    let r = err_from_is_err_and c.from_residual.result c.from_residual.ensures.1 in
    let step = packets_step c.args.servers c.loop-packet.tick packets c.loop-packet.packet-index c.packet-item.result c.loop-packet-test.true c.packet-item.is in
    let so_far = subst (λ rest. Wrote (known c.args.sink.now) (known c.loop-packet.sink) rest (flat_map line_text (packet_lines c.args.servers 2 packets))) step c.loop-packet.invariant.wrote in
    let failed = subst (λ p. Writes p (known c.loop-packet.sink) (known c.print.new.sink) (line_text c.line_of.result)) (sym c.in_err-ok.ensures) c.print.ensures in
    let front = subst (λ line. Writes Failed (known c.loop-packet.sink) (known c.print.new.sink) (line_text line)) c.line_of.ensures failed in
    subst (λ z. Writes (put_of z) (known c.args.sink.now) (known c.print.new.sink) (flat_map line_text (packet_lines c.args.servers 2 packets))) (sym r.1)
    (wrote_failed _ (flat_map line_text (packet_lines c.args.servers (c.loop-packet.tick + 2) (drop (c.loop-packet.packet-index + 1) packets))) so_far front)

pub loop-packet-preserved : goal.loop-packet-preserved
loop-packet-preserved g c =
    let known = g.K.Sink.known in
    let packets = c.args.packets.now in
    let step = packets_step c.args.servers c.loop-packet.tick packets c.loop-packet.packet-index c.packet-item.result c.loop-packet-test.true c.packet-item.is in
    let so_far = subst (λ rest. Wrote (known c.args.sink.now) (known c.loop-packet.sink) rest (flat_map line_text (packet_lines c.args.servers 2 packets))) step c.loop-packet.invariant.wrote in
    let all = subst (λ p. Writes p (known c.loop-packet.sink) (known c.print.new.sink) (line_text c.line_of.result)) (sym c.in_ok-ok.ensures) c.print.ensures in
    let whole = subst (λ line. Writes All (known c.loop-packet.sink) (known c.print.new.sink) (line_text line)) c.line_of.ensures all in
    record {
      wrote = wrote_more _ (flat_map line_text (packet_lines c.args.servers (c.loop-packet.tick + 2) (drop (c.loop-packet.packet-index + 1) packets))) so_far whole;
      tick = omega (arith, c.loop-packet.invariant.tick);
    }
