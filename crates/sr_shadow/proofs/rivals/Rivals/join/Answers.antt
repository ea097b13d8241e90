use Rattle.std.proofs.Common.{nat_eq, arith}
use Rattle.indexmap.specs.IndexMap.{get}
use Rattle.sr_shadow.proofs.Classes.{tallied_more, tally_put}
use Rattle.sr_shadow.proofs.rivals.Rivals.join.Goals as goal

pub returns-clause-more : goal.returns-clause-more
returns-clause-more c = λ es h.
    tallied_more c.args.layout.now.shape c.args.way c.class-class.result _ _ _ es c.args.entry.now c.class-class.ensures.classed c.class-class.ensures.value
    (tally_put (get nat_eq c.args.self.now.map) _ c.class-class.result _ (λ q. c.in-Ok.ensures.updates.0 q)) (grind (arith, c.tally-tally.ensures)) (grind (arith, c.tally-tally.ensures, c.outside.ensures))
    (grind (arith, c.tally-tally.ensures, c.standing.ensures)) h
