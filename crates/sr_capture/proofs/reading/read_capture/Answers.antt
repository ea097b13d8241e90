use Rattle.std.proofs.Common.{Err, ap, sym, subst, ◌∙◌}
use Rattle.std.proofs.lemmas.Result.{err_from_is_err_and}
use Rattle.sr_capture.specs.Capture.{Reads}
use Rattle.sr_capture.proofs.Gathering.{reads_from, reads_not}
use Rattle.sr_capture.proofs.reading.read_capture.Goals as goal

pub returns-in_err-reader-clause-capture : goal.returns-in_err-reader-clause-capture
returns-in_err-reader-clause-capture g c = λ xs e.
    let r = err_from_is_err_and c.from_residual.result c.from_residual.ensures.1 in
    let left = (g.S.Source.known c.begin.new.source).left in
    subst (λ z. Reads g.T.Kept.kept z c.args.vips.now xs left) (sym (r.1 ∙ ap (λ y. Err y) r.2))
    (reads_not g.T.Kept.kept c.in_err-reader.field-0.0 c.args.vips.now xs left (c.in_err-reader.ensures.begins xs e))

pub returns-clause-capture : goal.returns-clause-capture
returns-clause-capture g c = λ xs e.
    let begun = c.in_ok-reader.ensures.begins xs e in
    reads_from g.T.Kept.kept c.read_records.result c.args.vips.now xs c.in_ok-reader.reader _ _ begun (c.read_records.ensures.capture begun.rest begun.pending)
