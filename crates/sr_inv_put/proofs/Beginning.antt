-- What is begun by the first plan may begin.
use Rattle.std.proofs.Common.{◌≡◌, inl, inr, true, List, is_none, IfSome, None, Some, Option, refl, sym, subst}
use Rattle.std.proofs.lemmas.Option.{same_Some}
use Rattle.sr_base.specs.Key.{KeyView}
use Rattle.sr_base.specs.declared.place.Place.{Place}
use Rattle.sr_base.specs.declared.place.Place.TheVariants.{Row}
use Rattle.sr_base.specs.declared.shape.Shape.{Shape}
use Rattle.sr_inv_facts.proofs.Beginning.{begun_by}
use Rattle.sr_inv_facts.specs.InJobs.{AimHolds}
use Rattle.sr_inv_facts.specs.Invariant.{Invariant}
use Rattle.sr_inv_jobs.proofs.JobBegins.{planned_holds}
use Rattle.sr_standing.proofs.StandingBegins.{contained_own}
use Rattle.sr_inv_put.specs.MayPut.{BeginsMayPut, MayEnter, MayPut, MayTake, OnBegun}
use Rattle.sr_machine.specs.Begins.{Begins}
use Rattle.sr_machine.specs.Core.{Core}
use Rattle.sr_machine.specs.Starting.{Start, put_of}
use Rattle.sr_machine.specs.declared.held_opener.HeldOpener.{HeldOpener}
use Rattle.sr_machine.specs.declared.put.Aim.{Aim}
use Rattle.sr_machine.specs.declared.put.Put.{Put}
use Rattle.sr_shadow.proofs.Planned.{move_given, row_given, slot_given}
use Rattle.sr_shadow.specs.Book.{DistinctKeys, entry_for}
use Rattle.sr_shadow.specs.Plan.{first_plan}
use Rattle.sr_shadow.specs.declared.entry.Entry.{Entry}
use Rattle.sr_shadow.specs.declared.plan.Plan.{Plan}
use Rattle.sr_machine.specs.Begins as begin
use Rattle.sr_machine.specs.declared.put.Aim.TheVariants as aim
use Rattle.sr_shadow.specs.declared.plan.Plan.TheVariants as plan

module _ (shape : Shape) (es : List Entry) (key : KeyView) (what : Aim) (into : (p : Put) → MayEnter shape es p → MayTake shape es p what) where
  may_take : (pl : Plan) (p : Put) → first_plan shape es key ≡ pl → put_of key what pl ≡ Some p → MayTake shape es p p.aim
  may_take (plan.Slot place) p e q =
      subst (λ z. MayTake shape es z z.aim) (same_Some (record { key = key; place = place; aim = what }) p q) (into (record { key = key; place = place; aim = what }) (inl (slot_given shape es key place e)))
  may_take (plan.Move other from to last) p e q =
      let g = move_given shape es key other from to last e in
      subst (λ z. MayTake shape es z z.aim) (same_Some (record { key = other; place = to; aim = aim.Move from key }) p q) (g.to_own, g.to_usable)
  may_take (plan.FullKey row) p e q =
      subst (λ z. MayTake shape es z z.aim) (same_Some (record { key = key; place = Row row; aim = what }) p q) (into (record { key = key; place = Row row; aim = what }) (inr (row, refl, row_given shape es key row e)))
  may_take plan.NoRoom p e q = cc

module _ (shape : Shape) (es : List Entry) (held : List HeldOpener) (d : DistinctKeys es) where
  may_put : (key : KeyView) (what : Aim) → ((place : Place) → AimHolds es held (record { key = key; place = place; aim = what }) what)
      → ((p : Put) → MayEnter shape es p → MayTake shape es p what) → (p : Put) → put_of key what (first_plan shape es key) ≡ Some p → MayPut shape es held p
  may_put key what own into p q = record {
    aim = (planned_holds shape es held d key what own p q).aim;
    place = may_take shape es key what into (first_plan shape es key) p refl q;
  }

pub begins : (s : Core) → Invariant s → BeginsMayPut s
begins s i free =
    begun_by s.config s.controller (λ c. OnBegun c.job (MayPut shape es held)) (subst (λ j. OnBegun j (MayPut shape es held)) (sym free) tt) (λ q t g. starts t g)
  where
    shape : Shape
    shape = s.config.layout.shape

    es : List Entry
    es = s.controller.book.entries

    held : List HeldOpener
    held = s.controller.held

    none_is : (o : Option Place) → is_none o ≡ true → o ≡ None
    none_is None h = refl
    none_is (Some place) h = cc

    starts : (t : Start) → Begins s.config s.controller t → OnBegun t.job (MayPut shape es held)
    starts t (begin.places_held o rest p r f g) =
        may_put shape es held i.shape.book.distinct o.key (aim.Held o) (λ place. ((rest, r), refl, subst (λ z. IfSome z (λ e. e.place ≡ None)) (sym f) tt)) (λ p h. h) p g
    starts t (begin.places e p r f g) =
        let own : entry_for e.key es ≡ Some e = contained_own es e r.0 i.shape.book.distinct r.1 r.2 in
        may_put shape es held i.shape.book.distinct e.key aim.Pending (λ place. (e, own, none_is e.place f)) (λ p h. h) p g
    starts t g = tt
