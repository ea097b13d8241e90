-- What the condition gives.
use Rattle.std.proofs.Common.{◌≡◌, inl, inr, true, false, List, None, refl, sym, ◌∙◌, subst, true≢false}
use Rattle.sr_base.specs.declared.shape.Shape.{Shape}
use Rattle.sr_hash.specs.Uses.{is_place_of}
use Rattle.sr_inv_facts.specs.InJobs.{AimHolds, PutHolds}
use Rattle.sr_inv_facts.specs.InMatching.{IsClearPut}
use Rattle.sr_standing.proofs.Judging.{registered_some}
use Rattle.sr_inv_put.specs.MayPut.{MayEnter, MayPut, MayTake}
use Rattle.sr_machine.specs.declared.held_opener.HeldOpener.{HeldOpener}
use Rattle.sr_machine.specs.declared.put.Aim.{Aim}
use Rattle.sr_machine.specs.declared.put.Put.{Put}
use Rattle.sr_shadow.proofs.Gives.{usable_is_free}
use Rattle.sr_shadow.proofs.Moving.{counted_holder}
use Rattle.sr_shadow.specs.Book.{holder_of}
use Rattle.sr_shadow.specs.Entry.{is_slot}
use Rattle.sr_shadow.specs.Plan.{with_key}
use Rattle.sr_shadow.specs.declared.entry.Entry.{Entry}
use Rattle.sr_machine.specs.declared.put.Aim.TheVariants as aim

module _ (shape : Shape) (es : List Entry) (held : List HeldOpener) (p : Put) where
  entered_own : MayEnter shape es p → is_place_of shape p.key p.place ≡ true
  entered_own (inl g) = g.own
  entered_own (inr (row, at, g)) = subst (λ z. is_place_of shape p.key z ≡ true) (sym at) g.own

  entered_free : MayEnter shape es p → holder_of p.place es ≡ None
  entered_free (inl g) = g.free
  entered_free (inr (row, at, g)) = subst (λ z. holder_of z es ≡ None) (sym at) g.free

  entered_clear : MayEnter shape es p → IsClearPut shape es p
  entered_clear (inl g) = λ slot none. g.clear
  entered_clear (inr (row, at, g)) = λ slot none. absurd (true≢false (sym slot ∙ subst (λ z. is_slot z ≡ false) (sym at) refl))

  own : (a : Aim) → MayTake shape es p a → is_place_of shape p.key p.place ≡ true
  own aim.Pending h = entered_own h
  own (aim.Held o) h = entered_own h
  own (aim.Move from planned) h = h.0

  free : (a : Aim) → MayTake shape es p a → holder_of p.place es ≡ None
  free aim.Pending h = entered_free h
  free (aim.Held o) h = entered_free h
  free (aim.Move from planned) h = sym (counted_holder p.place es planned) ∙ usable_is_free shape (with_key planned es) p.key p.place h.1

  clear : (a : Aim) → AimHolds es held p a → MayTake shape es p a → IsClearPut shape es p
  clear aim.Pending a h = entered_clear h
  clear (aim.Held o) a h = entered_clear h
  clear (aim.Move from planned) ((e, found, at), from_slot, to_slot) h = λ slot none. absurd (true≢false (sym (registered_some p.key es e found) ∙ none))

  pub puts : MayPut shape es held p → PutHolds shape es held p × IsClearPut shape es p
  puts m = (record { own = own p.aim m.place; free = free p.aim m.place; aim = m.aim }, clear p.aim m.aim m.place)
