use Rattle.std.proofs.Common.{◌+◌, [], ◌∷◌, ◌++◌, Some, nat_eq, ap, sym, subst, ◌∙◌, arith}
use Rattle.std.proofs.lemmas.List.Elements.{filter_map-append}
use Rattle.indexmap.proofs.CallerLemmas.{insert_entry-new}
use Rattle.sr_shadow.specs.Roll.{RollView, entries_in, Rising, Marked}
use Rattle.sr_shadow.proofs.Slots.{none_above, rising_more}
use Rattle.sr_shadow.proofs.roll.Roll.push.Goals as goal

pub invariant_of-self : goal.invariant_of-self
invariant_of-self c =
    let e = c.in-Ok.ensures.entries ∙ insert_entry-new nat_eq c.self.inside.slots c.self.inside.taken (Some c.args.entry) (none_above 0 _ _ _ c.self.invariant.rising (omega arith)) in
    record {
      rising = subst (λ ss. Rising 0 ss (c.self.inside.taken + 1)) (sym e) (rising_more 0 _ _ c.args.entry (c.requires.number ∙ sym (ap (λ v. v.taken) c.self.view_is)) c.self.invariant.rising);
      marked = subst (λ ss. Marked c.push.new.self ss) (sym e) (c.push.ensures.marked _ c.self.inside.taken c.self.invariant.marked);
    }

pub returns-clause-entries : goal.returns-clause-entries
returns-clause-entries c =
    let e = c.in-Ok.ensures.entries ∙ insert_entry-new nat_eq c.self.inside.slots c.self.inside.taken (Some c.args.entry) (none_above 0 _ _ _ c.self.invariant.rising (omega arith)) in
    ap entries_in e ∙ filter_map-append (λ s. s.1) c.self.inside.slots.entries ((c.self.inside.taken, Some c.args.entry) ∷ []) ∙ ap (λ v. v.entries ++ c.args.entry ∷ []) c.self.view_is

pub returns-clause-room : goal.returns-clause-room
returns-clause-room c =
    let shown = ap (λ (r : RollView). r.room) c.self.view_is in
    omega (arith, c.in-Ok.ensures.spare, c.push.ensures.room)
