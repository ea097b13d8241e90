use Rattle.std.proofs.Common.{◌+◌, ap, eqb, ◌∙◌}
use Rattle.sr_shadow.specs.Book.{standing_of}
use Rattle.sr_plan.specs.Clear.{mistaken_one}
use Rattle.sr_plan.proofs.Clearing.{clear_counted}
use Rattle.sr_plan.proofs.clear.is_clear_but.Goals as goal

pub returns : goal.returns
returns c =
    let es = c.args.indexed.now.book.entries in
    let key = c.args.key in
    let shape = c.args.layout.now.shape in
    let first = c.standing.ensures ∙ ap (λ l. standing_of l.shape 1 key es) c.requires.made in
    let second = c.standing-2.ensures ∙ ap (λ l. standing_of l.shape 2 key es) c.requires.made in
    let one = c.mistaken_one.ensures ∙ ap (mistaken_one shape key) c.get.ensures in
    ap (λ n. eqb (n + c.standing-2.result) c.mistaken_one.result) first
    ∙ ap (λ n. eqb (standing_of shape 1 key es + n) c.mistaken_one.result) second
    ∙ ap (λ n. eqb (standing_of shape 1 key es + standing_of shape 2 key es) n) one
    ∙ clear_counted shape key c.args.other es c.indexed_book_rules.ensures.distinct c.requires.unplaced
