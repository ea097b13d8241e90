use Rattle.sr_text.proofs.Growing.{none_left, some_left, ended_here, reached_more, strays_here}
use Rattle.sr_text.proofs.reading.read_line.Goals as goal

pub returns-then-is_empty-clause-bytes : goal.returns-then-is_empty-clause-bytes
returns-then-is_empty-clause-bytes g c = λ xs r.
    let p = c.fill.ensures.reads.pending r.rest r.pending in
    ended_here _ _ c.fill.new.self _ xs r.rest c.in_ok-fill.ensures.filled (none_left c.unread.result.now c.fill.new.self.unread c.is_empty.result c.unread.ensures c.is_empty.ensures c.if-is_empty.true) r.text p

pub returns-then-added-clause-bytes : goal.returns-then-added-clause-bytes
returns-then-added-clause-bytes g c = λ xs r.
    let p = c.fill.ensures.reads.pending r.rest r.pending in
    let one = rw c.if-added.true at c.in_ok-added.ensures in
    reached_more c.fill.new.self c.add_line.new.window _ _ _ _ _ xs r.rest one r.text p

pub returns-else-added-clause-bytes : goal.returns-else-added-clause-bytes
returns-else-added-clause-bytes g c = λ xs r.
    let p = c.fill.ensures.reads.pending r.rest r.pending in
    let n = rw c.if-added.false at c.in_ok-added.ensures in
    strays_here _ _ _ _ c.fill.new.self _ xs r.rest c.in_ok-fill.ensures.filled (some_left c.unread.result.now c.fill.new.self.unread c.is_empty.result c.unread.ensures c.is_empty.ensures c.if-is_empty.false) n.0 n.2 n.3 r.text p
