-- Each part in turn, and where one fails a prefix of the whole.
use Rattle.std.proofs.Common.{sym, subst}
use Rattle.std.specs.List.{flat_map}
use Rattle.std.proofs.lemmas.Result.{err_from_is_err_and}
use Rattle.sr_io.specs.Sink.{Writes, put_of}
use Rattle.sr_text.specs.LineText.{line_text, log_text, skip_text, head_text}
use Rattle.sr_run.proofs.Writing.{fails_in_head, fails_in_skips, fails_in_lines, log_flushed}
use Rattle.sr_run.proofs.print_lines.print_lines.Goals as goal

pub returns-in_err-ok : goal.returns-in_err-ok
returns-in_err-ok g c =
    let known = g.K.Sink.known in
    let r = err_from_is_err_and c.from_residual.result c.from_residual.ensures.1 in
    let front = subst (λ p. Writes p (known c.args.sink.now) (known c.print_head.new.sink) head_text) (sym c.in_err-ok.ensures) c.print_head.ensures in
    subst (λ z. Writes (put_of z) (known c.args.sink.now) (known c.print_head.new.sink) (log_text c.args.skips.now c.args.lines.now)) (sym r.1)
    (fails_in_head head_text (flat_map skip_text c.args.skips.now) (flat_map line_text c.args.lines.now) front)

pub returns-in_err-print_skips : goal.returns-in_err-print_skips
returns-in_err-print_skips g c =
    let known = g.K.Sink.known in
    let r = err_from_is_err_and c.from_residual-in_err-print_skips.result c.from_residual-in_err-print_skips.ensures.1 in
    let head = subst (λ p. Writes p (known c.args.sink.now) (known c.print_head.new.sink) head_text) (sym c.in_ok-ok.ensures) c.print_head.ensures in
    subst (λ z. Writes (put_of z) (known c.args.sink.now) (known c.print_skips.new.sink) (log_text c.args.skips.now c.args.lines.now)) (sym r.1)
    (fails_in_skips head_text (flat_map skip_text c.args.skips.now) (flat_map line_text c.args.lines.now) head c.in_err-print_skips.ensures)

pub returns-in_err-print_each : goal.returns-in_err-print_each
returns-in_err-print_each g c =
    let known = g.K.Sink.known in
    let r = err_from_is_err_and c.from_residual-in_err-print_each.result c.from_residual-in_err-print_each.ensures.1 in
    let head = subst (λ p. Writes p (known c.args.sink.now) (known c.print_head.new.sink) head_text) (sym c.in_ok-ok.ensures) c.print_head.ensures in
    subst (λ z. Writes (put_of z) (known c.args.sink.now) (known c.print_each.new.sink) (log_text c.args.skips.now c.args.lines.now)) (sym r.1)
    (fails_in_lines head_text (flat_map skip_text c.args.skips.now) (flat_map line_text c.args.lines.now) head c.in_ok-print_skips.ensures c.in_err-print_each.ensures)

pub returns : goal.returns
returns g c =
    let known = g.K.Sink.known in
    let head = subst (λ p. Writes p (known c.args.sink.now) (known c.print_head.new.sink) head_text) (sym c.in_ok-ok.ensures) c.print_head.ensures in
    subst (λ p. Writes p (known c.args.sink.now) (known c.flush.new.self) (log_text c.args.skips.now c.args.lines.now)) (sym c.ok-2.ensures)
    (log_flushed c.flush.result head_text (flat_map skip_text c.args.skips.now) (flat_map line_text c.args.lines.now)
    head c.in_ok-print_skips.ensures c.in_ok-print_each.ensures c.flush.ensures)
