-- What the controller begins stands as it must: a plan's place is free, and one of its key.
use Rattle.std.proofs.Common.{◌≡◌, ℕ, true, cond, List, [], ◌∷◌, is_some, is_none, IfSome, Some, None, Option, option_map, find, sym, refl, ap, subst}
use Rattle.std.proofs.lemmas.Option.{same_Some}
use Rattle.std.specs.List.{AllByRecursion}
use Rattle.sr_base.specs.Key.{KeyView}
use Rattle.sr_base.specs.declared.place.Place.{Place}
use Rattle.sr_base.specs.declared.place.Place.TheVariants.{Row}
use Rattle.sr_base.specs.declared.shape.Shape.{Shape}
use Rattle.sr_base.specs.declared.vip_word.Phase.TheVariants.{Steady, Holding}
use Rattle.sr_inv_facts.specs.InJobs.{AimHolds, AnswerNames, IsGroupHeld, JobHolds, JobsHold, PutHolds, job_taking, leaving, seen}
use Rattle.sr_inv_jobs.proofs.JobGoes.{goes_on}
use Rattle.sr_standing.proofs.StandingBegins.{contained_own, move_stands}
use Rattle.sr_law.specs.declared.line.Line.{Line}
use Rattle.sr_machine.specs.Begins.{Begins}
use Rattle.sr_machine.specs.Config.{Config}
use Rattle.sr_machine.specs.Starting.{Start, put_of, update_to}
use Rattle.sr_machine.specs.declared.controller_view.ControllerView.{ControllerView}
use Rattle.sr_machine.specs.declared.held_opener.HeldOpener.{HeldOpener}
use Rattle.sr_machine.specs.declared.job.Job.{Job}
use Rattle.sr_machine.specs.declared.put.Aim.{Aim}
use Rattle.sr_machine.specs.declared.put.Put.{Put}
use Rattle.sr_shadow.proofs.Finding.{found_passes}
use Rattle.sr_shadow.proofs.Holding.{found_own}
use Rattle.sr_shadow.proofs.Later.{no_room_none}
use Rattle.sr_shadow.proofs.Planned.{move_given, row_given, slot_given}
use Rattle.sr_shadow.specs.Book.{DistinctKeys, entry_for, holder_of}
use Rattle.sr_shadow.specs.Entry.{may_retire}
use Rattle.sr_shadow.specs.Plan.{is_free, first_plan, key_rows}
use Rattle.sr_shadow.specs.declared.entry.Entry.{Entry}
use Rattle.sr_shadow.specs.declared.plan.Plan.{Plan}
use Rattle.sr_machine.specs.Begins as begin
use Rattle.sr_machine.specs.declared.draw.Draw.TheVariants as draw
use Rattle.sr_machine.specs.declared.store.Store.TheVariants as store
use Rattle.sr_machine.specs.declared.wait.Wait.TheVariants as wait
use Rattle.sr_machine.specs.declared.put.Aim.TheVariants as aim
use Rattle.sr_machine.specs.declared.job.Job.TheVariants as job
use Rattle.sr_shadow.specs.declared.plan.Plan.TheVariants as plan

module _ (shape : Shape) (es : List Entry) (held : List HeldOpener) (d : DistinctKeys es) (key : KeyView) (what : Aim) (own : (place : Place) → AimHolds es held (record { key = key; place = place; aim = what }) what) where
  put_by : (pl : Plan) (p : Put) → first_plan shape es key ≡ pl → put_of key what pl ≡ Some p → PutHolds shape es held p
  put_by (plan.Slot place) p e q =
      let g = slot_given shape es key place e in
      subst (PutHolds shape es held) (same_Some (record { key = key; place = place; aim = what }) p q) (record { own = g.own; free = g.free; aim = own place })
  put_by (plan.Move other from to last) p e q =
      let g = move_given shape es key other from to last e in
      subst (PutHolds shape es held) (same_Some (record { key = other; place = to; aim = aim.Move from key }) p q) (record { own = g.to_own; free = g.to_free; aim = (move_stands shape es d key other from to last e, g.from_slot, g.to_slot) })
  put_by (plan.FullKey row) p e q =
      let g = row_given shape es key row e in
      subst (PutHolds shape es held) (same_Some (record { key = key; place = Row row; aim = what }) p q) (record { own = g.own; free = g.free; aim = own (Row row) })
  put_by plan.NoRoom p e q = cc

  -- the put of a plan stands as it must
  pub planned_holds : (p : Put) → put_of key what (first_plan shape es key) ≡ Some p → PutHolds shape es held p
  planned_holds p q = put_by (first_plan shape es key) p refl q

-- ---- no place is left

none_plan : (key : KeyView) (what : Aim) (pl : Plan) → put_of key what pl ≡ None → pl ≡ plan.NoRoom
none_plan key what (plan.Slot place) e = cc
none_plan key what (plan.Move other from to last) e = cc
none_plan key what (plan.FullKey row) e = cc
none_plan key what plan.NoRoom e = refl

rows_held : (es : List Entry) (rows : List ℕ) → option_map plan.FullKey (find (λ row. is_free es (Row row)) rows) ≡ None
    → AllByRecursion (λ row. is_some (holder_of (Row row) es) ≡ true) rows
rows_held es [] e = tt
rows_held es (row ∷ rows) e = at (holder_of (Row row) es) refl e (rows_held es rows)
  where
    at : (o : Option KeyView) → holder_of (Row row) es ≡ o
        → option_map plan.FullKey (cond (is_none o) (Some row) (find (λ row. is_free es (Row row)) rows)) ≡ None
        → (option_map plan.FullKey (find (λ row. is_free es (Row row)) rows) ≡ None → AllByRecursion (λ row. is_some (holder_of (Row row) es) ≡ true) rows)
        → AllByRecursion (λ row. is_some (holder_of (Row row) es) ≡ true) (row ∷ rows)
    at None q f more = cc
    at (Some key) q f more = (ap is_some q, more f)

pub group_held : (shape : Shape) (es : List Entry) (key : KeyView) (what : Aim) → put_of key what (first_plan shape es key) ≡ None
    → IsGroupHeld shape es key
group_held shape es key what e =
    rows_held es (key_rows shape key) (no_room_none shape es key (none_plan key what (first_plan shape es key) e)).2

-- ---- the beginnings

module _ (k : Config) (c : ControllerView) (lines : List Line) (d : DistinctKeys c.book.entries) (h : JobsHold k (seen c) job.Free lines) where
  pub begins_as : (m : Job) → ((key : KeyView) → leaving m key ≡ None) → JobHolds k (seen c) lines m → ((q : Place) → job_taking m q ≡ None)
      → JobsHold k (seen c) m lines
  begins_as m leave stands none = goes_on k (seen c) lines job.Free m h leave stands none

  pub start_holds : (s : Start) → Begins k c s → JobsHold k (seen c) s.job lines
  start_holds s (begin.refuses g rest r e) = begins_as (job.Draw (draw.Refused g.position)) (λ z. refl) (tt, tt) (λ q. refl)
  start_holds s (begin.takes_down o rest e t) = begins_as (job.Draw (draw.TakenDown o.server)) (λ z. refl) (tt, tt) (λ q. refl)
  start_holds s (begin.holds u e p w) = begins_as (job.Draw (draw.Comes u Holding)) (λ z. refl) (tt, tt) (λ q. refl)
  start_holds s (begin.finishes u e p w) = begins_as (job.Store (store.Vip u Steady)) (λ z. refl) (tt, tt) (λ q. refl)
  start_holds s (begin.changes g rest n u e t f) = begins_as (job.Store (store.Member (update_to c g n) 0)) (λ z. refl) (tt, tt) (λ q. refl)
  start_holds s (begin.answers o rest e r f) =
      begins_as (job.Draw (draw.Answer (record { held = o; version = Some e.version }))) (λ z. refl)
      (record {
        first = (rest, r);
        names = subst (λ z. AnswerNames k (seen c) (record { held = o; version = Some e.version }) z (Some e.version)) (sym f) refl;
      }) (λ q. refl)
  start_holds s (begin.places_held o rest p r f g) =
      begins_as (job.Draw (draw.Reserved p)) (λ z. refl)
      (planned_holds k.layout.shape c.book.entries c.held d o.key (aim.Held o) (λ place. ((rest, r), refl, subst (λ z. IfSome z (λ e. e.place ≡ None)) (sym f) tt)) p g, tt) (λ q. refl)
  start_holds s (begin.has_no_place o rest r f g) =
      begins_as (job.Draw (draw.Answer (record { held = o; version = None }))) (λ z. refl)
      (record {
        first = (rest, r);
        names = subst (λ z. AnswerNames k (seen c) (record { held = o; version = None }) z None) (sym f) (group_held k.layout.shape c.book.entries o.key (aim.Held o) g);
      }) (λ q. refl)
  start_holds s (begin.places e p r f g) =
      let own : entry_for e.key c.book.entries ≡ Some e = contained_own c.book.entries e r.0 d r.1 r.2 in
      begins_as (job.Draw (draw.Reserved p)) (λ z. refl)
      (planned_holds k.layout.shape c.book.entries c.held d e.key aim.Pending (λ place. (e, own, none_is e.place f)) p g, tt) (λ q. refl)
    where
      none_is : (o : Option Place) → is_none o ≡ true → o ≡ None
      none_is None t = refl
      none_is (Some place) t = cc
  start_holds s (begin.retires e place r f) =
      begins_as (job.Draw (draw.Retired e.key place e.version)) (λ z. refl)
      (record {
        entry = e;
        found = found_own (may_retire k.layout.shape.lives) c.book.entries e d r;
        stands = f;
        with_version = refl;
        over = found_passes (may_retire k.layout.shape.lives) c.book.entries e r;
      }) (λ q. refl)
  start_holds s (begin.sweeps ms r f) = begins_as (job.Draw (draw.From ms)) (λ z. refl) (tt, tt) (λ q. refl)
  start_holds s (begin.releases vip n r) = begins_as (job.Draw (draw.Grace (wait.Release vip n))) (λ z. refl) (tt, tt) (λ q. refl)
  start_holds s (begin.looks r) = begins_as (job.Look 0) (λ z. refl) (tt, tt) (λ q. refl)
