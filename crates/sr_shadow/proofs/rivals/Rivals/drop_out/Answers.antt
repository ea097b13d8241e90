use Rattle.std.proofs.Common.{nat_eq, arith}
use Rattle.indexmap.specs.IndexMap.{get}
use Rattle.sr_shadow.proofs.Classes.{tallied_less, tallied_one}
use Rattle.sr_shadow.proofs.rivals.Rivals.drop_out.Goals as goal

pub returns-clause-less : goal.returns-clause-less
returns-clause-less c = λ front back h.
    let one = tallied_one c.args.layout.now.shape c.args.way (get nat_eq c.args.self.now.map) c.args.entry.now c.requires.has in
    tallied_less c.args.layout.now.shape c.args.way c.class-class.result _ _ _ front back c.args.entry.now c.class-class.ensures.classed c.class-class.ensures.value
    (λ q. c.put.ensures.changed q) (grind (arith, one.0, c.class-class.ensures.value, c.tally-tally.ensures))
    (grind (arith, one.1, c.class-class.ensures.value, c.tally-tally.ensures, c.outside.ensures))
    (grind (arith, one.2, c.class-class.ensures.value, c.tally-tally.ensures, c.standing.ensures)) h
