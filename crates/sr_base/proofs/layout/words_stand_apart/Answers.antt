-- The laws of the places, at this layout.
use Rattle.sr_base.proofs.WordNames.{names_apart, places_below, each_place_named, stores_stand, stores_apart}
use Rattle.sr_base.proofs.layout.words_stand_apart.Goals as goal

pub returns-clause-apart : goal.returns-clause-apart
returns-clause-apart c = names_apart c.args.layout.now

pub returns-clause-below : goal.returns-clause-below
returns-clause-below c = places_below c.args.layout.now

pub returns-clause-named : goal.returns-clause-named
returns-clause-named c = each_place_named c.args.layout.now

pub returns-clause-stand : goal.returns-clause-stand
returns-clause-stand c = stores_stand c.args.layout.now

pub returns-clause-stores : goal.returns-clause-stores
returns-clause-stores c = stores_apart c.args.layout.now
