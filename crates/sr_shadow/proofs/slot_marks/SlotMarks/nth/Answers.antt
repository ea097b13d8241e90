use Rattle.std.proofs.Common.{ap, sym, ◌∙◌}
use Rattle.sr_marks.specs.Marks.{nth_set}
use Rattle.sr_shadow.specs.Roll.{entry_found}
use Rattle.sr_shadow.proofs.Slots.{nth_entry}
use Rattle.sr_shadow.proofs.slot_marks.SlotMarks.nth.Goals as goal

pub returns : goal.returns
returns c = λ slots h. nth_entry c.args.n slots ∙ ap (λ r. entry_found r slots) (sym (c.nth.ensures.value ∙ ap (nth_set c.args.n) h.filled))
