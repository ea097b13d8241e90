use Rattle.std.proofs.Common.{◌≡◌, Err, ap, sym, subst, ◌∙◌, arith}
use Rattle.std.proofs.lemmas.Result.{err_from_is_err_and}
use Rattle.sr_text.specs.Adding.{Bodies}
use Rattle.sr_text.specs.Log.{line_count, most_lines}
use Rattle.sr_text.proofs.Growing.{none_left, some_left, ended_here, body_not, past_here}
use Rattle.sr_text.proofs.reading.read_body.Goals as goal

pub returns-in_err-more-clause-bytes : goal.returns-in_err-more-clause-bytes
returns-in_err-more-clause-bytes g c = λ xs q.
    let i = c.loop-number.invariant in
    let r = err_from_is_err_and c.from_residual.result c.from_residual.ensures.1 in
    let why = c.in_err-more.field-0.0 in
    let left = (g.S.Source.known c.read_line.new.source).left in
    subst (λ z. Bodies z c.read_line.new.log.skips.items c.read_line.new.log.lines.items left xs) (sym (r.1 ∙ ap (λ y. Err y) r.2))
    (body_not why c.loop-number.number _ _ _ _ c.read_line.new.window left xs i.numbers i.lines (omega arith) c.in_err-more.ensures.grows (c.in_err-more.ensures.bytes xs (i.reached xs q)))

pub returns-then-not-more-clause-bytes : goal.returns-then-not-more-clause-bytes
returns-then-not-more-clause-bytes g c = λ xs q. rw c.if-not-more.true at (c.in_ok-more.ensures.bytes xs (c.loop-number.invariant.reached xs q))

pub returns-then-is_empty-clause-bytes : goal.returns-then-is_empty-clause-bytes
returns-then-is_empty-clause-bytes g c = λ xs r.
    let q = c.loop-number.invariant.reached xs r in
    let p = c.fill.ensures.reads.pending q.rest q.pending in
    ended_here _ _ c.fill.new.self _ xs q.rest c.in_ok-fill.ensures.filled (none_left c.unread.result.now c.fill.new.self.unread c.is_empty.result c.unread.ensures c.is_empty.ensures c.if-is_empty.true) q.text p

pub returns-else-is_empty-clause-bytes : goal.returns-else-is_empty-clause-bytes
returns-else-is_empty-clause-bytes g c = λ xs r.
    let i = c.loop-number.invariant in
    let q = i.reached xs r in
    let count : line_count c.loop-number.log.skips.items c.loop-number.log.lines.items ≡ most_lines = let l = i.lines in omega arith in
    past_here _ _ c.fill.new.self _ xs i.numbers count (some_left c.unread.result.now c.fill.new.self.unread c.is_empty.result c.unread.ensures c.is_empty.ensures c.if-is_empty.false) (record { rest = q.rest; text = q.text; pending = c.fill.ensures.reads.pending q.rest q.pending })
