use Rattle.std.proofs.Common.{◌&&◌, ap, sym, find, ◌∙◌}
use Rattle.std.specs.Prelude.{nat_le}
use Rattle.sr_shadow.specs.Entry.{is_pending}
use Rattle.sr_shadow.proofs.Slots.{from_number}
use Rattle.sr_shadow.proofs.roll.Roll.first_pending.Goals as goal

pub returns-in-Some : goal.returns-in-Some
returns-in-Some c =
    c.entry_at.ensures ∙ sym (c.in-Some.ensures _ c.self.invariant.marked)
    ∙ sym (from_number is_pending c.args.number 0 _ _ _ c.self.invariant.rising (c.slot_from.ensures 0 _ c.self.invariant.rising)) ∙ ap (λ v. find (λ e. nat_le c.args.number e.taken && is_pending e) v.entries) c.self.view_is

pub returns-in-None : goal.returns-in-None
returns-in-None c =
    sym (c.in-None.ensures _ c.self.invariant.marked)
    ∙ sym (from_number is_pending c.args.number 0 _ _ _ c.self.invariant.rising (c.slot_from.ensures 0 _ c.self.invariant.rising)) ∙ ap (λ v. find (λ e. nat_le c.args.number e.taken && is_pending e) v.entries) c.self.view_is
