use Rattle.std.proofs.Common.{ap, sym, ◌∙◌}
use Rattle.sr_marks.specs.Marks.{next_set}
use Rattle.sr_shadow.specs.Entry.{is_placed}
use Rattle.sr_shadow.specs.Roll.{entry_found}
use Rattle.sr_shadow.proofs.Slots.{next_entry}
use Rattle.sr_shadow.proofs.slot_marks.SlotMarks.next_placed.Goals as goal

pub returns : goal.returns
returns c = λ slots h. next_entry is_placed c.args.from slots ∙ ap (λ r. entry_found r slots) (sym (c.next.ensures.value ∙ ap (next_set c.args.from) h.placed))
