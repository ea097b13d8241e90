use Rattle.std.proofs.Common.{nat_eq, ap, sym, ◌∙◌, arith}
use Rattle.indexmap.specs.IndexMap.{get}
use Rattle.sr_shadow.specs.Entry.{is_outside, stands_in}
use Rattle.sr_shadow.proofs.Classes.{same_counted, tallied_one, tallied_same, tallied_swapped}
use Rattle.sr_shadow.proofs.rivals.Rivals.swap.Goals as goal

pub returns-clause-swapped : goal.returns-clause-swapped
returns-clause-swapped c = λ front back h.
    let one = tallied_one c.args.layout.now.shape c.args.way (get nat_eq c.args.self.now.map) c.args.old.now c.requires.has in
    tallied_swapped c.args.layout.now.shape c.args.way c.class-class.result _ _ _ front back c.args.old.now c.args.new.now c.class-class.ensures.classed c.class-class.ensures.value
    c.requires.key (λ q. c.put.ensures.changed q) (ap (λ t. t.members) c.tally-tally.ensures)
    (grind (arith, one.1, c.class-class.ensures.value, c.tally-tally.ensures, c.outside-3.ensures, c.outside-4.ensures))
    (grind (arith, one.2, c.class-class.ensures.value, c.tally-tally.ensures, c.standing-2.ensures, c.standing-3.ensures)) h

pub returns-then-standing-clause-swapped : goal.returns-then-standing-clause-swapped
returns-then-standing-clause-swapped c = λ front back h.
    let old = c.args.old.now in
    let new = c.args.new.now in
    tallied_same c.args.layout.now.shape c.args.way _ front back old new c.requires.key
    (same_counted (is_outside old) (is_outside new) (sym c.outside.ensures ∙ c.if-outside.true ∙ c.outside-2.ensures))
    (same_counted (stands_in c.args.way old) (stands_in c.args.way new) (sym c.standing.ensures ∙ c.if-standing.true ∙ c.standing-then-outside.ensures)) h
