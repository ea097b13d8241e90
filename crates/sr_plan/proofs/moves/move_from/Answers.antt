use Rattle.std.proofs.Common.{ap, sym}
use Rattle.sr_base.specs.declared.place.Place.TheVariants.{Slot}
use Rattle.sr_shadow.specs.Plan.{move_at}
use Rattle.sr_shadow.proofs.Holding.{none_held}
use Rattle.sr_plan.proofs.moves.move_from.Goals as goal

pub returns-in-None : goal.returns-in-None
returns-in-None c =
    let slot = Slot c.in-Slot.way c.in-Slot.bucket c.in-Slot.cell in
    let es = c.args.indexed.now.book.entries in
    rw c.in-Slot.is (sym (ap (move_at c.args.layout.now.shape es c.args.key c.in-Slot.way slot) (none_held slot es (sym c.in-None.ensures))))
