-- What the controller begins stands as it must: a plan's place is free, and its key has no Live place or is the one that moves.
use Rattle.std.proofs.Common.{◌≡◌, ℕ, zero, suc, ◌<◌, Bool, true, false, cond, List, [], ◌∷◌, length, is_none, IfSome, slice_index_or, Some, None, Option, sym, refl, ap, ◌∙◌, subst, true≢false, arith}
use Rattle.std.proofs.lemmas.Option.{same_Some}
use Rattle.sr_base.proofs.Sameness.{same_key-self, same_key-true, same_place-true}
use Rattle.sr_base.specs.Key.{KeyView, same_key}
use Rattle.sr_base.specs.declared.place.Place.{Place}
use Rattle.sr_base.specs.declared.place.Place.TheVariants.{Row}
use Rattle.sr_base.specs.declared.shape.Shape.{Shape}
use Rattle.sr_base.specs.declared.vip_word.Phase.TheVariants.{Steady, Holding}
use Rattle.sr_inv_facts.proofs.Lists.{all_then}
use Rattle.sr_inv_facts.specs.Doing.{OnLive, OnPut}
use Rattle.sr_inv_facts.specs.InJobs.{StandsAt, leaving}
use Rattle.sr_machine.specs.Begins.{Begins}
use Rattle.sr_machine.specs.Begins as begin
use Rattle.sr_machine.specs.Config.{Config}
use Rattle.sr_machine.specs.Starting.{Start, put_of, update_to}
use Rattle.sr_machine.specs.declared.controller_view.ControllerView.{ControllerView}
use Rattle.sr_machine.specs.declared.draw.Draw.TheVariants as draw
use Rattle.sr_machine.specs.declared.job.Job.{Job}
use Rattle.sr_machine.specs.declared.job.Job.TheVariants as job
use Rattle.sr_machine.specs.declared.put.Aim.{Aim}
use Rattle.sr_machine.specs.declared.put.Aim.TheVariants as aim
use Rattle.sr_machine.specs.declared.put.Put.{Put}
use Rattle.sr_machine.specs.declared.store.Store.TheVariants as store
use Rattle.sr_machine.specs.declared.wait.Wait.TheVariants as wait
use Rattle.sr_shadow.proofs.Finding.{found_passes}
use Rattle.sr_shadow.proofs.Holding.{found_own}
use Rattle.sr_shadow.proofs.MovedEntry.{planned_move}
use Rattle.sr_shadow.proofs.Planned.{move_given, row_given, slot_given}
use Rattle.sr_shadow.specs.Book.{CanSweep, DistinctKeys, entry_for, is_registered}
use Rattle.sr_shadow.specs.Entry.{is_at}
use Rattle.sr_shadow.specs.Plan.{first_plan}
use Rattle.sr_shadow.specs.declared.entry.Entry.{Entry}
use Rattle.sr_shadow.specs.declared.plan.Plan.{Plan}
use Rattle.sr_shadow.specs.declared.plan.Plan.TheVariants as plan
use Rattle.sr_standing.proofs.Judging.{registered_some}
use Rattle.sr_standing.specs.Standing.{AimStands, OnHit, PutStands, Standing}

-- an entry of the book is its key's
pub contained_own : (es : List Entry) (e : Entry) (n : ℕ) → DistinctKeys es → n < length es → slice_index_or es n e ≡ e
    → entry_for e.key es ≡ Some e
contained_own [] e n d h q = absurd (omega arith)
contained_own (f ∷ es) e zero d h q = subst (λ z. entry_for z.key (f ∷ es) ≡ Some z) q (ap (λ b. cond b (Some f) (entry_for f.key es)) (same_key-self f.key))
contained_own (f ∷ es) e (suc n) d h q = at (same_key e.key f.key) refl (contained_own es e n d.1 (omega arith) q)
  where
    at : (b : Bool) → same_key e.key f.key ≡ b → entry_for e.key es ≡ Some e → entry_for e.key (f ∷ es) ≡ Some e
    at true t r =
        let same : e.key ≡ f.key = same_key-true e.key f.key t in
        absurd (true≢false (sym (registered_some e.key es e r) ∙ (ap (λ z. is_registered z es) same ∙ d.0)))
    at false t r = ap (λ b. cond b (Some f) (entry_for e.key es)) t ∙ r

at_is : (place : Place) (o : Option Place) → is_at place o ≡ true → o ≡ Some place
at_is place None e = cc
at_is place (Some q) e = ap Some (sym (same_place-true place q e))

-- the entry of a planned move stands at the slot that it is to leave
pub move_stands : (shape : Shape) (es : List Entry) → DistinctKeys es → (key other : KeyView) (from to last : Place)
    → first_plan shape es key ≡ plan.Move other from to last → StandsAt other from es
move_stands shape es d key other from to last e =
    let m = planned_move shape es key other from to last e in
    (m.entry, subst (λ z. entry_for z es ≡ Some m.entry) m.own (found_own (λ f. is_at from f.place) es m.entry d m.found), at_is from m.entry.place (found_passes (λ f. is_at from f.place) es m.entry m.found))

module _ (shape : Shape) (es : List Entry) (d : DistinctKeys es) (key : KeyView) (what : Aim) (own : AimStands es key what) where
  put_by : (pl : Plan) (p : Put) → first_plan shape es key ≡ pl → put_of key what pl ≡ Some p → PutStands es p
  put_by (plan.Slot place) p e q =
      subst (PutStands es) (same_Some (record { key = key; place = place; aim = what }) p q) (record { free = (slot_given shape es key place e).free; aim = own })
  put_by (plan.Move other from to last) p e q =
      subst (PutStands es) (same_Some (record { key = other; place = to; aim = aim.Move from key }) p q) (record { free = (move_given shape es key other from to last e).to_free; aim = move_stands shape es d key other from to last e })
  put_by (plan.FullKey row) p e q =
      subst (PutStands es) (same_Some (record { key = key; place = Row row; aim = what }) p q) (record { free = (row_given shape es key row e).free; aim = own })
  put_by plan.NoRoom p e q = cc

  -- the put of a plan stands as it must
  planned_stands : (p : Put) → put_of key what (first_plan shape es key) ≡ Some p → PutStands es p
  planned_stands p q = put_by (first_plan shape es key) p refl q

-- ---- a step that leaves the book alone

pub stands_on : (es : List Entry) (j m : Job) → Standing es j → ((key : KeyView) → leaving m key ≡ leaving j key) → OnPut m (PutStands es)
    → OnLive m (λ p. StandsAt p.key p.place es) → OnHit m (λ key. CanSweep key es) → Standing es m
stands_on es j m h leave put live hit = record {
  also = all_then (λ e. e.also ≡ leaving j e.key) (λ e. e.also ≡ leaving m e.key) (λ e a. a ∙ sym (leave e.key)) es h.also;
  put = put;
  live = live;
  hit = hit;
}

-- ---- the beginnings

unplaced : (o : Option Place) → is_none o ≡ true → o ≡ None
unplaced None t = refl
unplaced (Some place) t = cc

module _ (k : Config) (c : ControllerView) (d : DistinctKeys c.book.entries) (h : Standing c.book.entries job.Free) where
  begins_as : (m : Job) → ((key : KeyView) → leaving m key ≡ None) → OnPut m (PutStands c.book.entries)
      → OnLive m (λ p. StandsAt p.key p.place c.book.entries) → OnHit m (λ key. CanSweep key c.book.entries) → Standing c.book.entries m
  begins_as m leave put live hit = stands_on c.book.entries job.Free m h leave put live hit

  pub start_stands : (s : Start) → Begins k c s → Standing c.book.entries s.job
  start_stands s (begin.refuses g rest r e) = begins_as (job.Draw (draw.Refused g.position)) (λ z. refl) tt tt tt
  start_stands s (begin.takes_down o rest e t) = begins_as (job.Draw (draw.TakenDown o.server)) (λ z. refl) tt tt tt
  start_stands s (begin.holds u e p w) = begins_as (job.Draw (draw.Comes u Holding)) (λ z. refl) tt tt tt
  start_stands s (begin.finishes u e p w) = begins_as (job.Store (store.Vip u Steady)) (λ z. refl) tt tt tt
  start_stands s (begin.changes g rest n u e t f) = begins_as (job.Store (store.Member (update_to c g n) 0)) (λ z. refl) tt tt tt
  start_stands s (begin.answers o rest e r f) =
      begins_as (job.Draw (draw.Answer (record { held = o; version = Some e.version }))) (λ z. refl) tt tt tt
  start_stands s (begin.places_held o rest p r f g) =
      begins_as (job.Draw (draw.Reserved p)) (λ z. refl)
      (planned_stands k.layout.shape c.book.entries d o.key (aim.Held o) (subst (λ z. IfSome z (λ e. e.place ≡ None)) (sym f) tt) p g) tt tt
  start_stands s (begin.has_no_place o rest r f g) =
      begins_as (job.Draw (draw.Answer (record { held = o; version = None }))) (λ z. refl) tt tt tt
  start_stands s (begin.places e p r f g) =
      let own : entry_for e.key c.book.entries ≡ Some e = contained_own c.book.entries e r.0 d r.1 r.2 in
      begins_as (job.Draw (draw.Reserved p)) (λ z. refl)
      (planned_stands k.layout.shape c.book.entries d e.key aim.Pending (subst (λ z. IfSome z (λ e. e.place ≡ None)) (sym own) (unplaced e.place f)) p g) tt tt
  start_stands s (begin.retires e place r f) = begins_as (job.Draw (draw.Retired e.key place e.version)) (λ z. refl) tt tt tt
  start_stands s (begin.sweeps ms r f) = begins_as (job.Draw (draw.From ms)) (λ z. refl) tt tt tt
  start_stands s (begin.releases vip n r) = begins_as (job.Draw (draw.Grace (wait.Release vip n))) (λ z. refl) tt tt tt
  start_stands s (begin.looks r) = begins_as (job.Look 0) (λ z. refl) tt tt tt
