use Rattle.std.proofs.Common.{◌+◌, drop, sym, subst}
use Rattle.std.specs.List.{flat_map}
use Rattle.std.proofs.lemmas.Result.{err_from_is_err_and}
use Rattle.sr_io.specs.Sink.{Writes, put_of}
use Rattle.sr_text.specs.LineText.{line_text}
use Rattle.sr_io.proofs.Writing.{Wrote, wrote_more, wrote_failed}
use Rattle.sr_run.proofs.PrintedLines.{lines_step}
use Rattle.sr_run.proofs.print_lines.print_each.Goals as goal

pub returns-in_err-ok : goal.returns-in_err-ok
returns-in_err-ok g c =
    let known = g.K.Sink.known in
    let lines = c.args.lines.now in
    let r = err_from_is_err_and c.from_residual.result c.from_residual.ensures.1 in
    let step = lines_step lines c.loop-line.line-index c.line-item.result c.loop-line-test.true c.line-item.is in
    let so_far = subst (λ rest. Wrote (known c.args.sink.now) (known c.loop-line.sink) rest (flat_map line_text lines)) step c.loop-line.invariant in
    let front = subst (λ p. Writes p (known c.loop-line.sink) (known c.print.new.sink) (line_text c.line-item.result)) (sym c.in_err-ok.ensures) c.print.ensures in
    subst (λ z. Writes (put_of z) (known c.args.sink.now) (known c.print.new.sink) (flat_map line_text lines)) (sym r.1)
    (wrote_failed _ (flat_map line_text (drop (c.loop-line.line-index + 1) lines)) so_far front)

pub loop-line-preserved : goal.loop-line-preserved
loop-line-preserved g c =
    let known = g.K.Sink.known in
    let lines = c.args.lines.now in
    let step = lines_step lines c.loop-line.line-index c.line-item.result c.loop-line-test.true c.line-item.is in
    let so_far = subst (λ rest. Wrote (known c.args.sink.now) (known c.loop-line.sink) rest (flat_map line_text lines)) step c.loop-line.invariant in
    let whole = subst (λ p. Writes p (known c.loop-line.sink) (known c.print.new.sink) (line_text c.line-item.result)) (sym c.in_ok-ok.ensures) c.print.ensures in
    wrote_more _ (flat_map line_text (drop (c.loop-line.line-index + 1) lines)) so_far whole
