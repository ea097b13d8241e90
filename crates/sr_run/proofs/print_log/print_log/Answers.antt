-- Each part in turn, and where one fails a prefix of the whole.
use Rattle.std.proofs.Common.{◌∷◌, sym, subst}
use Rattle.std.specs.List.{flat_map}
use Rattle.std.proofs.lemmas.Result.{err_from_is_err_and}
use Rattle.sr_io.specs.Sink.{Writes, put_of}
use Rattle.sr_text.specs.LineText.{line_text, skip_text, head_text}
use Rattle.sr_run.specs.One.{one_text, opening_line, packet_lines}
use Rattle.sr_run.proofs.Writing.{fails_in_head, fails_in_skips, fails_in_opening, fails_in_packets, flushed}
use Rattle.sr_run.proofs.print_log.print_log.Goals as goal

pub returns-in_err-ok : goal.returns-in_err-ok
unfolding one_text
returns-in_err-ok g c =
    let known = g.K.Sink.known in
    let r = err_from_is_err_and c.from_residual.result c.from_residual.ensures.1 in
    let front = subst (λ p. Writes p (known c.args.sink.now) (known c.print_head.new.sink) head_text) (sym c.in_err-ok.ensures) c.print_head.ensures in
    subst (λ z. Writes (put_of z) (known c.args.sink.now) (known c.print_head.new.sink) (one_text c.args.servers c.args.skips.now c.args.packets.now)) (sym r.1)
    (fails_in_head head_text (flat_map skip_text c.args.skips.now) (flat_map line_text (opening_line ∷ packet_lines c.args.servers 2 c.args.packets.now)) front)

pub returns-in_err-print_skips : goal.returns-in_err-print_skips
unfolding one_text
returns-in_err-print_skips g c =
    let known = g.K.Sink.known in
    let r = err_from_is_err_and c.from_residual-in_err-print_skips.result c.from_residual-in_err-print_skips.ensures.1 in
    let head = subst (λ p. Writes p (known c.args.sink.now) (known c.print_head.new.sink) head_text) (sym c.in_ok-ok.ensures) c.print_head.ensures in
    subst (λ z. Writes (put_of z) (known c.args.sink.now) (known c.print_skips.new.sink) (one_text c.args.servers c.args.skips.now c.args.packets.now)) (sym r.1)
    (fails_in_skips head_text (flat_map skip_text c.args.skips.now) (flat_map line_text (opening_line ∷ packet_lines c.args.servers 2 c.args.packets.now)) head c.in_err-print_skips.ensures)

pub returns-in_err-print_opening : goal.returns-in_err-print_opening
unfolding one_text
returns-in_err-print_opening g c =
    let known = g.K.Sink.known in
    let r = err_from_is_err_and c.from_residual-in_err-print_opening.result c.from_residual-in_err-print_opening.ensures.1 in
    let head = subst (λ p. Writes p (known c.args.sink.now) (known c.print_head.new.sink) head_text) (sym c.in_ok-ok.ensures) c.print_head.ensures in
    subst (λ z. Writes (put_of z) (known c.args.sink.now) (known c.print_opening.new.sink) (one_text c.args.servers c.args.skips.now c.args.packets.now)) (sym r.1)
    (fails_in_opening head_text (flat_map skip_text c.args.skips.now) (line_text opening_line) (flat_map line_text (packet_lines c.args.servers 2 c.args.packets.now))
    head c.in_ok-print_skips.ensures c.in_err-print_opening.ensures)

pub returns-in_err-print_packets : goal.returns-in_err-print_packets
unfolding one_text
returns-in_err-print_packets g c =
    let known = g.K.Sink.known in
    let r = err_from_is_err_and c.from_residual-in_err-print_packets.result c.from_residual-in_err-print_packets.ensures.1 in
    let head = subst (λ p. Writes p (known c.args.sink.now) (known c.print_head.new.sink) head_text) (sym c.in_ok-ok.ensures) c.print_head.ensures in
    subst (λ z. Writes (put_of z) (known c.args.sink.now) (known c.print_packets.new.sink) (one_text c.args.servers c.args.skips.now c.args.packets.now)) (sym r.1)
    (fails_in_packets head_text (flat_map skip_text c.args.skips.now) (line_text opening_line) (flat_map line_text (packet_lines c.args.servers 2 c.args.packets.now))
    head c.in_ok-print_skips.ensures c.in_ok-print_opening.ensures c.in_err-print_packets.ensures)

pub returns : goal.returns
unfolding one_text
returns g c =
    let known = g.K.Sink.known in
    let head = subst (λ p. Writes p (known c.args.sink.now) (known c.print_head.new.sink) head_text) (sym c.in_ok-ok.ensures) c.print_head.ensures in
    subst (λ p. Writes p (known c.args.sink.now) (known c.flush.new.self) (one_text c.args.servers c.args.skips.now c.args.packets.now)) (sym c.ok-2.ensures)
    (flushed c.flush.result head_text (flat_map skip_text c.args.skips.now) (line_text opening_line) (flat_map line_text (packet_lines c.args.servers 2 c.args.packets.now))
    head c.in_ok-print_skips.ensures c.in_ok-print_opening.ensures c.in_ok-print_packets.ensures c.flush.ensures)
