use Rattle.std.proofs.Common.{ap, sym, ◌∙◌}
use Rattle.sr_marks.specs.Marks.{next_set}
use Rattle.sr_shadow.specs.Entry.{may_retire}
use Rattle.sr_shadow.specs.Roll.{entry_found}
use Rattle.sr_shadow.proofs.Slots.{next_entry}
use Rattle.sr_shadow.proofs.slot_marks.SlotMarks.next_retirable.Goals as goal

pub returns : goal.returns
returns c = λ slots h. next_entry (may_retire c.args.self.now.lives) c.args.from slots ∙ ap (λ r. entry_found r slots) (sym (c.next.ensures.value ∙ ap (next_set c.args.from) h.retirable))
