use Rattle.std.proofs.Common.{◌+◌, drop, sym, subst}
use Rattle.std.specs.List.{flat_map}
use Rattle.std.proofs.lemmas.Result.{err_from_is_err_and}
use Rattle.sr_io.specs.Sink.{Writes, put_of}
use Rattle.sr_text.specs.LineText.{skip_text}
use Rattle.sr_io.proofs.Writing.{Wrote, wrote_more, wrote_failed}
use Rattle.sr_run.proofs.PrintedLines.{skips_step}
use Rattle.sr_run.proofs.print_log.print_skips.Goals as goal

pub returns-in_err-ok : goal.returns-in_err-ok
returns-in_err-ok g c =
    let known = g.K.Sink.known in
    let skips = c.args.skips.now in
    let r = err_from_is_err_and c.from_residual.result c.from_residual.ensures.1 in
    let so_far = subst (λ rest. Wrote (known c.args.sink.now) (known c.loop-skip.sink) rest (flat_map skip_text skips)) (skips_step skips c.loop-skip.skip-index c.loop-skip-test.true) c.loop-skip.invariant in
    let front = rw (← c.in_err-ok.ensures) at c.print_skip.ensures in
    subst (λ z. Writes (put_of z) (known c.args.sink.now) (known c.print_skip.new.sink) (flat_map skip_text skips)) (sym r.1)
    (wrote_failed _ (flat_map skip_text (drop (c.loop-skip.skip-index + 1) skips)) so_far front)

pub loop-skip-preserved : goal.loop-skip-preserved
loop-skip-preserved g c =
    let known = g.K.Sink.known in
    let skips = c.args.skips.now in
    let so_far = subst (λ rest. Wrote (known c.args.sink.now) (known c.loop-skip.sink) rest (flat_map skip_text skips)) (skips_step skips c.loop-skip.skip-index c.loop-skip-test.true) c.loop-skip.invariant in
    let whole = rw (← c.in_ok-ok.ensures) at c.print_skip.ensures in
    wrote_more _ (flat_map skip_text (drop (c.loop-skip.skip-index + 1) skips)) so_far whole
