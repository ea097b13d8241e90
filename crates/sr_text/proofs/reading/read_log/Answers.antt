use Rattle.std.proofs.Common.{[], Err, ap, sym, subst, ◌∙◌}
use Rattle.std.proofs.lemmas.Result.{err_from_is_err_and}
use Rattle.sr_text.specs.Log.{Reads}
use Rattle.sr_text.specs.declared.log.Log.{Log}
use Rattle.sr_text.proofs.Growing.{window_begins, start_reached, head_reads, body_reads}
use Rattle.sr_text.proofs.reading.read_log.Goals as goal

pub returns-in_err-read_head-clause-text : goal.returns-in_err-read_head-clause-text
returns-in_err-read_head-clause-text g c = λ xs e.
    let r = err_from_is_err_and c.from_residual-in_err-read_head.result c.from_residual-in_err-read_head.ensures.1 in
    let left = (g.S.Source.known c.read_head.new.source).left in
    subst (λ z. Reads (λ (log : Log). log.skips.items) (λ (log : Log). log.lines.items) z xs left) (sym (r.1 ∙ ap (λ y. Err y) r.2))
    (head_reads (λ (log : Log). log.skips.items) (λ (log : Log). log.lines.items) c.in_err-read_head.field-0.0 c.read_head.new.window left xs
    (c.in_err-read_head.ensures.bytes xs (window_begins _ c.in_ok-window.window _ xs c.in_ok-window.ensures e)))

pub returns-in_err-read_body-clause-text : goal.returns-in_err-read_body-clause-text
returns-in_err-read_body-clause-text g c = λ xs e.
    let r = err_from_is_err_and c.from_residual-in_err-read_body.result c.from_residual-in_err-read_body.ensures.1 in
    let left = (g.S.Source.known c.read_body.new.source).left in
    let h = c.in_ok-read_head.ensures.bytes xs (window_begins _ c.in_ok-window.window _ xs c.in_ok-window.ensures e) in
    subst (λ z. Reads (λ (log : Log). log.skips.items) (λ (log : Log). log.lines.items) z xs left) (sym (r.1 ∙ ap (λ y. Err y) r.2))
    (body_reads (λ (log : Log). log.skips.items) (λ (log : Log). log.lines.items) c.in_err-read_body.field-0.0 _ _ left xs (c.in_err-read_body.ensures.bytes xs (start_reached _ _ xs h)))

pub returns-clause-text : goal.returns-clause-text
returns-clause-text g c = λ xs e.
    let h = c.in_ok-read_head.ensures.bytes xs (window_begins _ c.in_ok-window.window _ xs c.in_ok-window.ensures e) in
    c.in_ok-read_body.ensures.bytes xs (start_reached _ _ xs h)
