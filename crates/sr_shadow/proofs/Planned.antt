-- What a plan gives.
use Rattle.std.proofs.Common.{◌≡◌, ℕ, Bool, true, false, cond, List, [], ◌∷◌, find, Option, None, Some, option_map, refl, ◌∙◌, ap, subst}
use Rattle.sr_base.specs.Key.{KeyView}
use Rattle.sr_base.specs.declared.place.Place.{Place}
use Rattle.sr_base.specs.declared.place.Place.TheVariants.{Row}
use Rattle.sr_base.specs.declared.shape.Shape.{Shape}
use Rattle.sr_shadow.specs.Book.{CanSettle, DistinctKeys, PlacedLeave, entry_for}
use Rattle.sr_shadow.specs.Entry.{is_of}
use Rattle.sr_shadow.specs.Plan.{GivesMove, GivesRow, GivesSlot, NobodyLeaves, first_plan, is_free, is_usable, key_rows, key_slots, with_key, with_moved}
use Rattle.sr_shadow.specs.declared.entry.Entry.{Entry}
use Rattle.sr_shadow.specs.declared.plan.Plan.TheVariants as plan
use Rattle.sr_shadow.proofs.Finding.{found_passes, some_is}
use Rattle.sr_shadow.proofs.Gives.{found_own_row, found_own_slot, free_is, usable_is_free, usable_is_slot}
use Rattle.sr_shadow.proofs.Later.{row_first, slot_first}
use Rattle.sr_shadow.proofs.MovedEntry.{goal_free, goal_usable, mover_at, planned_move}
use Rattle.sr_shadow.proofs.PlannedSlot.{planned}

pub slot_given : (shape : Shape) (es : List Entry) (key : KeyView) (place : Place) → first_plan shape es key ≡ plan.Slot place → GivesSlot shape es key place
slot_given shape es key place h =
    let p = planned shape es key place (slot_first shape es key place h) in
    let usable : is_usable shape es key place ≡ true = found_passes (is_usable shape es key) (key_slots shape key) place p.1 in
    record {
      slot = usable_is_slot shape es key place usable;
      own = found_own_slot (is_usable shape es key) shape key place p.1;
      free = usable_is_free shape es key place usable;
      usable = usable;
      clear = p.0;
    }

pub row_given : (shape : Shape) (es : List Entry) (key : KeyView) (row : ℕ) → first_plan shape es key ≡ plan.FullKey row → GivesRow shape es key row
row_given shape es key row h = by (find (λ n. is_free es (Row n)) (key_rows shape key)) refl (row_first shape es key row h)
  where
    same : (a b : ℕ) → plan.FullKey a ≡ plan.FullKey b → a ≡ b
    same a b e = cc e

    by : (o : Option ℕ) → find (λ n. is_free es (Row n)) (key_rows shape key) ≡ o → option_map plan.FullKey o ≡ Some (plan.FullKey row) → GivesRow shape es key row
    by None f h = absurd cc
    by (Some n) f h =
        let found : find (λ n. is_free es (Row n)) (key_rows shape key) ≡ Some row = f ∙ ap Some (same n row (some_is (plan.FullKey n) (plan.FullKey row) h)) in
        record {
          own = found_own_row (λ n. is_free es (Row n)) shape key row found;
          free = free_is es (Row row) (found_passes (λ n. is_free es (Row n)) (key_rows shape key) row found);
        }

pub move_given : (shape : Shape) (es : List Entry) (key other : KeyView) (from to last : Place) → first_plan shape es key ≡ plan.Move other from to last → GivesMove shape es key other from to last
move_given shape es key other from to last h =
    let m = planned_move shape es key other from to last h in
    let usable : is_usable shape (with_key key es) other to ≡ true = goal_usable shape es key other from to last m in
    let room : is_usable shape (with_moved other to es) key last ≡ true = found_passes (is_usable shape (with_moved other to es) key) (key_slots shape key) last m.slot in
    record {
      from_slot = m.from_slot;
      from_own = m.from_own;
      to_slot = usable_is_slot shape (with_key key es) other to usable;
      to_own = m.goal_own;
      to_free = goal_free shape es key other from to last h;
      to_usable = usable;
      last_slot = usable_is_slot shape (with_moved other to es) key last room;
      last_own = found_own_slot (is_usable shape (with_moved other to es) key) shape key last m.slot;
      clear = m.clear;
    }

-- where nobody is about to leave a place, the entry that is found isn't
found_stays : (p : Entry → Bool) (es : List Entry) (e : Entry) → find p es ≡ Some e → NobodyLeaves es → e.also ≡ None
found_stays p [] e h stay = absurd cc
found_stays p (x ∷ xs) e h stay = by (p x) (λ f. found_stays p xs e f stay.1) h
  where
    by : (b : Bool) → (find p xs ≡ Some e → e.also ≡ None) → cond b (Some x) (find p xs) ≡ Some e → e.also ≡ None
    by true more h = subst (λ (y : Entry). y.also ≡ None) (some_is x e h) stay.0
    by false more h = more h

pub mover_settles : (shape : Shape) (es : List Entry) (key other : KeyView) (from to last : Place) → first_plan shape es key ≡ plan.Move other from to last → DistinctKeys es → NobodyLeaves es → CanSettle other es
mover_settles shape es key other from to last h distinct stay =
    let m = mover_at shape es key other from to last h distinct in
    (m.0, m.1, found_stays (is_of other) es m.0 m.1 stay)

-- an entry that is found without a Live place is about to leave none
found_leaves : (p : Entry → Bool) (es : List Entry) (e : Entry) → find p es ≡ Some e → PlacedLeave es → e.place ≡ None → e.also ≡ None
found_leaves p [] e h leave at = absurd cc
found_leaves p (x ∷ xs) e h leave at = by (p x) (λ f. found_leaves p xs e f leave.1 at) h
  where
    by : (b : Bool) → (find p xs ≡ Some e → e.also ≡ None) → cond b (Some x) (find p xs) ≡ Some e → e.also ≡ None
    by true more h = subst (λ (y : Entry). y.place ≡ None → y.also ≡ None) (some_is x e h) leave.0 at
    by false more h = more h

pub pending_settles : (es : List Entry) (key : KeyView) (e : Entry) → PlacedLeave es → entry_for key es ≡ Some e → e.place ≡ None → CanSettle key es
pending_settles es key e leave found at = (e, found, found_leaves (is_of key) es e found leave at)
