use Rattle.std.proofs.Common.{ap, sym, subst, ◌∙◌, is_some, true≢false}
use Rattle.sr_shadow.specs.Roll.{Marked}
use Rattle.sr_shadow.proofs.Slots.{found_at, written}
use Rattle.sr_shadow.proofs.roll.Roll.put.Goals as goal

pub invariant_of-self : goal.invariant_of-self
invariant_of-self c =
    let has = c.requires.has in
    let w = written c.self.inside.slots.entries c.args.number c.in-Some.at c.self.inside.taken c.args.slot has.0 has.1 has.2 c.self.invariant.rising (ap (λ v. v.entries) c.self.view_is ∙ has.3) has.4
    c.requires.number c.in-Some.ensures.index in
    record {
      rising = w.rising;
      marked = subst (λ ss. Marked c.set.new.self ss) (sym w.new_is) (c.set.ensures.marked w.before w.after w.own c.args.number w.at_is (subst (λ ss. Marked c.self.inside.marks ss) w.slots_is c.self.invariant.marked));
    }

pub unreachable-requires : goal.unreachable-requires
unreachable-requires c =
    let has = c.requires.has in
    let f = found_at 0 c.self.inside.taken c.args.number c.self.inside.slots.entries has.0 has.1 has.2 c.self.invariant.rising (ap (λ v. v.entries) c.self.view_is ∙ has.3) has.4 in
    absurd (true≢false (sym (c.in-None.ensures.found ∙ ap is_some f)))

pub returns-clause-entries : goal.returns-clause-entries
returns-clause-entries c = λ front back e is told.
    (written c.self.inside.slots.entries c.args.number c.in-Some.at c.self.inside.taken c.args.slot front back e c.self.invariant.rising (ap (λ v. v.entries) c.self.view_is ∙ is) told
    c.requires.number c.in-Some.ensures.index).entries
