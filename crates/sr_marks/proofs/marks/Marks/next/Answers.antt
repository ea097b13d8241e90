use Rattle.std.proofs.Common.{◌<◌, Option, ℕ, length, IfSome, ap, sym, ◌∙◌, subst}
use Rattle.sr_marks.specs.Marks.{MarksView, next_set}
use Rattle.sr_marks.proofs.SetMarks.{next_set-within}
use Rattle.sr_marks.proofs.Keeping.{kept-next}
use Rattle.sr_marks.proofs.marks.Marks.next.Goals as goal

pub returns-clause-value : goal.returns-clause-value
returns-clause-value c =
    let inside = c.self.inside in
    c.next.ensures ∙ (kept-next inside.tiers inside.pushed c.args.from inside.counts inside.set c.self.invariant ∙ ap (λ (v : MarksView). next_set c.args.from v.marks) c.self.view_is)

pub returns-clause-within : goal.returns-clause-within
returns-clause-within c =
    let inside = c.self.inside in
    let value = c.next.ensures ∙ (kept-next inside.tiers inside.pushed c.args.from inside.counts inside.set c.self.invariant ∙ ap (λ (v : MarksView). next_set c.args.from v.marks) c.self.view_is) in
    subst (λ (found : Option ℕ). IfSome found (λ at. at < length c.args.self.now.marks)) (sym value) (next_set-within c.args.from c.args.self.now.marks)
