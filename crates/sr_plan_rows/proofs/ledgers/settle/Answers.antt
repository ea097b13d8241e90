use Rattle.std.proofs.Common.{sym, subst, ◌∙◌}
use Rattle.sr_base.specs.WordName.{HasPlace}
use Rattle.sr_base.specs.declared.place.Place.TheVariants.{Row}
use Rattle.sr_shadow.specs.Plan.{GivesRow, GivesSlot}
use Rattle.sr_plan_rows.proofs.ledgers.settle.Goals as goal

slot : (c : goal.After-settle-arg-1) → GivesSlot c.args.layout.now.shape c.args.ledger.now.book.entries c.args.key c.in-Slot.place
slot c = c.plans_give.ensures.slots _ _ _ _ (sym c.plan_in-plan.ensures ∙ c.in-Slot.is)

row : (c : goal.After-settle-arg-in-FullKey-1) → GivesRow c.args.layout.now.shape c.args.ledger.now.book.entries c.args.key c.in-FullKey.row
row c = c.plans_give.ensures.rows _ _ _ _ (sym c.plan_in-plan.ensures ∙ c.in-FullKey.is)

pub settle-requires-clause-has : goal.settle-requires-clause-has
settle-requires-clause-has c = subst (λ l. HasPlace l.shape c.in-Slot.place) (sym c.requires) (c.own_places_stand.ensures c.args.key c.in-Slot.place (slot c).own)

pub settle-requires-clause-free : goal.settle-requires-clause-free
settle-requires-clause-free c = (slot c).free

pub settle-requires-in-FullKey-clause-has : goal.settle-requires-in-FullKey-clause-has
settle-requires-in-FullKey-clause-has c = subst (λ l. HasPlace l.shape (Row c.in-FullKey.row)) (sym c.requires) (c.own_places_stand.ensures c.args.key (Row c.in-FullKey.row) (row c).own)

pub settle-requires-in-FullKey-clause-free : goal.settle-requires-in-FullKey-clause-free
settle-requires-in-FullKey-clause-free c = (row c).free
