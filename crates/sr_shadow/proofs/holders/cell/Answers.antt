use Rattle.sr_shadow.proofs.Places.{cell_found}
use Rattle.sr_shadow.proofs.holders.cell.Goals as goal

pub returns-then-has : goal.returns-then-has
returns-then-has c = cell_found c.args.layout.now c.args.place c.name_of-name.result c.place.result c.name_of-name.ensures (c.has.ensures.0 c.if-has.true) c.place.ensures.value
