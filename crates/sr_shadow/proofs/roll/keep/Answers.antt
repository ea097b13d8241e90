use Rattle.std.proofs.Common.{sym, ap, subst, ◌∙◌, map}
use Rattle.sr_shadow.specs.Entry.{may_retire}
use Rattle.sr_shadow.specs.Roll.{kept, passes, Marked}
use Rattle.sr_shadow.proofs.Slots.{kept_more, kept_same}
use Rattle.sr_shadow.proofs.roll.keep.Goals as goal

pub returns-in_ok-reserve-in-Some-clause-marked : goal.returns-in_ok-reserve-in-Some-clause-marked
returns-in_ok-reserve-in-Some-clause-marked c = λ h.
    let k = kept_more c.args.slots.now.entries c.args.at c.in-Some.entry.now (sym c.in-Some.ensures) in
    subst (λ ss. Marked c.push.new.self ss) (sym k.1) (c.push.ensures.marked (kept c.args.at c.args.slots.now.entries) k.0
    (record { filled = c.reserve.ensures.filled ∙ h.filled; pending = c.reserve.ensures.pending ∙ h.pending; placed = c.reserve.ensures.placed ∙ h.placed; retirable = c.reserve.ensures.retirable ∙ h.retirable ∙ ap (λ n. map (λ s. passes (may_retire n) s.1) (kept c.args.at c.args.slots.now.entries)) (sym c.reserve.ensures.lives) }))

pub returns-in-None-clause-marked : goal.returns-in-None-clause-marked
returns-in-None-clause-marked c = λ h. subst (λ ss. Marked c.args.marks.now ss) (sym (kept_same c.args.slots.now.entries c.args.at (sym c.in-None.ensures))) h
