use Rattle.std.proofs.Common.{ap, ◌∙◌}
use Rattle.sr_marks.specs.Marks.{MarksView, count_set}
use Rattle.sr_marks.proofs.Keeping.{kept-count}
use Rattle.sr_marks.proofs.marks.Marks.count.Goals as goal

pub returns : goal.returns
returns c = let inside = c.self.inside in kept-count inside.tiers inside.pushed inside.counts inside.set c.self.invariant ∙ ap (λ (v : MarksView). count_set v.marks) c.self.view_is
