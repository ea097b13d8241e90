-- Each line that is printed takes a place that nobody has, or places or clears one that its key has.
use Rattle.std.proofs.Common.{◌≡◌, nat_lt, ◌&&◌, not, Bool, true, false, List, [], ◌∷◌, length, is_none, Some, None, Option, option_map, if◌then◌else◌, refl, ap, ◌∙◌, subst}
use Rattle.std.proofs.lemmas.Option.{same_Some}
use Rattle.std.specs.Option.{option_or}
use Rattle.sr_base.proofs.Sameness.{same_key-self, same_place-self}
use Rattle.sr_base.specs.Key.{KeyView}
use Rattle.sr_base.specs.Place.{same_place}
use Rattle.sr_base.specs.declared.place.Place.{Place}
use Rattle.sr_inv_facts.specs.InCauses.{AllMeet, setup_of}
use Rattle.sr_inv_facts.specs.InJobs.{JobHolds, book_taking, is_given_up, job_taking, seen, taking_at}
use Rattle.sr_inv_facts.specs.Invariant.{Invariant}
use Rattle.sr_law.specs.Order.{meets_order}
use Rattle.sr_law.specs.Ranges.{if_below, in_range, vip_of}
use Rattle.sr_law.specs.Retire.{EndingPacket}
use Rattle.sr_law.specs.Setup.{SetupView}
use Rattle.sr_law.specs.Taken.{may_clear, may_place, now_placed, taken, taken_after}
use Rattle.sr_law.specs.declared.line.Line.{Line}
use Rattle.sr_law.specs.declared.taking.Taking.{Taking}
use Rattle.sr_machine.specs.Core.{Core, printed}
use Rattle.sr_machine.specs.declared.job.Job.{Job}
use Rattle.sr_machine.specs.declared.put.Put.{Put}
use Rattle.sr_machine.specs.declared.why.Why.{Why}
use Rattle.sr_machine.specs.declared.draw.Draw.TheVariants as draw
use Rattle.sr_machine.specs.declared.job.Job.TheVariants as job
use Rattle.sr_law.specs.declared.line.Line.TheVariants as line

module _ (s : Core) (i : Invariant s) where
  pub holds_at : (j : Job) → s.controller.job ≡ j → JobHolds s.config (seen s.controller) (printed s) j
  holds_at j e = subst (JobHolds s.config (seen s.controller) (printed s)) e i.jobs.holds.stands

  -- who has a place by the lines
  pub taken_at : (j : Job) → s.controller.job ≡ j → (place : Place)
      → taken (printed s) place ≡ option_or (job_taking j place) (book_taking s.controller.book.entries place)
  taken_at j e place =
      subst (λ m. taken (printed s) place ≡ option_or (job_taking m place) (book_taking s.controller.book.entries place)) e (i.jobs.holds.places place)

  -- a place that is about to be reserved is nobody's
  pub reserved_free : (p : Put) → s.controller.job ≡ job.Draw (draw.Reserved p) → is_none (taken (printed s) p.place) ≡ true
  reserved_free p e =
      let free = (holds_at (job.Draw (draw.Reserved p)) e).0.free in
      ap is_none (taken_at (job.Draw (draw.Reserved p)) e p.place ∙ ap (option_map (λ key. record { key = key; placed = true })) free)

  own_taking : (at : Place) (key : KeyView) (live : Bool) (rest : Option Taking)
      → option_or (taking_at at key live at) rest ≡ Some (record { key = key; placed = live })
  own_taking at key live rest =
      ap (λ b. option_or (if b then Some (record { key = key; placed = live }) else None) rest) (same_place-self at)

  -- one that is about to be placed is its key's
  pub placed_own : (p : Put) → s.controller.job ≡ job.Draw (draw.Placed p) → may_place p.key (taken (printed s) p.place) ≡ true
  placed_own p e =
      let is = taken_at (job.Draw (draw.Placed p)) e p.place ∙ own_taking p.place p.key false (book_taking s.controller.book.entries p.place) in
      ap (may_place p.key) is ∙ ap (λ b. b && true) (same_key-self p.key)

  cleared_taking : (key : KeyView) (place : Place) (w : Why) → s.controller.job ≡ job.Draw (draw.Cleared key place w)
      → taken (printed s) place ≡ Some (record { key = key; placed = not (is_given_up w) })
  cleared_taking key place w e =
      taken_at (job.Draw (draw.Cleared key place w)) e place
      ∙ own_taking place key (not (is_given_up w)) (book_taking s.controller.book.entries place)

  -- so is one that is about to be cleared
  pub cleared_own : (key : KeyView) (place : Place) (w : Why) → s.controller.job ≡ job.Draw (draw.Cleared key place w)
      → may_clear key (taken (printed s) place) ≡ true
  cleared_own key place w e = ap (may_clear key) (cleared_taking key place w e) ∙ same_key-self key

-- ---- who has a place is in range

parts : (a b : Bool) → (a && b) ≡ true → (a ≡ true) × (b ≡ true)
parts true b e = (refl, e)
parts false b e = cc

ordered_range : (setup : SetupView) (before : List Line) (l : Line) → meets_order setup before l ≡ true
    → if_below (length setup.pools) (vip_of l) ≡ true
unfolding in_range meets_order
ordered_range setup before l h =
    (parts _ _ (parts _ _ (parts _ _ (parts _ _ (parts _ _ (parts _ _ h).0).0).1).0).0).0

-- a key that has a place by lines that are in order is of a virtual address that there is
pub taken_vip : (setup : SetupView) (endings : List EndingPacket) (lines : List Line) → AllMeet setup endings lines → (place : Place) (t : Taking)
    → taken lines place ≡ Some t → nat_lt t.key.vip (length setup.pools) ≡ true
taken_vip setup endings [] a place t e = cc
taken_vip setup endings (l ∷ before) a place t e =
    at (λ w. taken_vip setup endings before a.1 place w) l (ordered_range setup before l a.0.order) e
  where
    now : ((w : Taking) → taken before place ≡ Some w → nat_lt w.key.vip (length setup.pools) ≡ true) → (o : Option Taking) → taken before place ≡ o → option_map now_placed o ≡ Some t
        → nat_lt t.key.vip (length setup.pools) ≡ true
    now older None q g = cc
    now older (Some was) q g =
        subst (λ w. nat_lt w.key.vip (length setup.pools) ≡ true) (same_Some (now_placed was) t g) (older was q)

    reserved : ((w : Taking) → taken before place ≡ Some w → nat_lt w.key.vip (length setup.pools) ≡ true) → (b : Bool) (key : KeyView) → nat_lt key.vip (length setup.pools) ≡ true
        → (if b then Some (record { key = key; placed = false }) else taken before place) ≡ Some t
        → nat_lt t.key.vip (length setup.pools) ≡ true
    reserved older true key r g =
        subst (λ w. nat_lt w.key.vip (length setup.pools) ≡ true) (same_Some (record { key = key; placed = false }) t g) r
    reserved older false key r g = older t g

    placed : ((w : Taking) → taken before place ≡ Some w → nat_lt w.key.vip (length setup.pools) ≡ true) → (b : Bool) → (if b then option_map now_placed (taken before place) else taken before place) ≡ Some t
        → nat_lt t.key.vip (length setup.pools) ≡ true
    placed older true g = now older (taken before place) refl g
    placed older false g = older t g

    cleared : ((w : Taking) → taken before place ≡ Some w → nat_lt w.key.vip (length setup.pools) ≡ true) → (b : Bool) → (if b then None else taken before place) ≡ Some t → nat_lt t.key.vip (length setup.pools) ≡ true
    cleared older true g = cc
    cleared older false g = older t g

    at : ((w : Taking) → taken before place ≡ Some w → nat_lt w.key.vip (length setup.pools) ≡ true) → (m : Line) → if_below (length setup.pools) (vip_of m) ≡ true → taken_after m place (taken before place) ≡ Some t
        → nat_lt t.key.vip (length setup.pools) ≡ true
    at older (line.Reserved out key where_to) r g = reserved older (same_place where_to place) key r g
    at older (line.Placed out key where_to) r g = placed older (same_place where_to place) g
    at older (line.Cleared out key where_to) r g = cleared older (same_place where_to place) g
    at older m r g = older t g

-- so is one whose place is about to be cleared
pub cleared_vip : (s : Core) (i : Invariant s) → (key : KeyView) (place : Place) (w : Why) → s.controller.job ≡ job.Draw (draw.Cleared key place w)
    → nat_lt key.vip (length s.config.pools) ≡ true
cleared_vip s i key place w e =
    taken_vip (setup_of s.config) _ (printed s) i.causes.causes.clauses place (record { key = key; placed = not (is_given_up w) })
    (cleared_taking s i key place w e)
