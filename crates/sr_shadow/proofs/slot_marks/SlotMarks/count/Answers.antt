use Rattle.std.proofs.Common.{ap, ◌∙◌}
use Rattle.sr_marks.specs.Marks.{count_set}
use Rattle.sr_shadow.proofs.Slots.{count_entries}
use Rattle.sr_shadow.proofs.slot_marks.SlotMarks.count.Goals as goal

pub returns : goal.returns
returns c = λ slots h. c.count.ensures ∙ ap count_set h.filled ∙ count_entries slots
