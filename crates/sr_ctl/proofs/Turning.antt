-- A turn, step by step: none of the steps so far has ended it.
use Rattle.std.proofs.Common.{◌≡◌, ◌∙◌, ℕ, zero, suc, ◌^◌, ◌<◌, ◌&&◌, ◌++◌, nat_lt, Bool, true, false, List, [], ◌∷◌, take, IsSome, Option, Some, None, refl, sym, ap, subst, if◌then◌else◌}
use Rattle.std.proofs.lemmas.Bool.{lt-ltb}
use Rattle.sr_acts.proofs.Begun.{begun_set}
use Rattle.sr_acts.specs.Starts.{is_free}
use Rattle.sr_core.proofs.MoreSteps.{before_more, shows_more}
use Rattle.sr_core.specs.Making.{ShowsSteps, made_before}
use Rattle.sr_ctl.proofs.Laws.{start_set, step_goes_on}
use Rattle.sr_ctl.specs.Steps.{AreSteps, steps_made, view_after_all}
use Rattle.sr_ctl.specs.Turned.{StepMade}
use Rattle.sr_machine.specs.Config.{Config}
use Rattle.sr_machine.specs.Controller.{begun_op, controller_after, controller_op}
use Rattle.sr_machine.specs.Deciding.{in_bounds, words_taken}
use Rattle.sr_machine.specs.Jobs.{job_op}
use Rattle.sr_machine.specs.Starting.{begun}
use Rattle.sr_machine.specs.Turning.{ends_with, turn_at, turn_by, turn_from}
use Rattle.sr_machine.specs.declared.controller_view.ControllerView.{ControllerView}
use Rattle.sr_machine.specs.declared.job.Job.{Job}
use Rattle.sr_machine.specs.declared.job.Job.TheVariants as job
use Rattle.sr_machine.specs.declared.name.Name.{Name}
use Rattle.sr_machine.specs.declared.op.Op.{Op}
use Rattle.sr_machine.specs.declared.turn.Turn.{Turn}
use Rattle.sr_machine.specs.declared.view.View.{View}
use Rattle.sr_machine.specs.declared.view.View.TheVariants.{OfController}

-- what the step of a controller ends
abbrev pub end_of : Config → ControllerView → ℕ → Option Turn
end_of k c x = turn_at k (begun k c) (begun k c).job x

module _ (k : Config) where
  -- a step that ends nothing leaves a job that is set
  pub begun_same : (c : ControllerView) (x : ℕ) → end_of k c x ≡ None → begun k (controller_after k c x) ≡ controller_after k c x
  begun_same c x e =
      begun_set k (controller_after k c x) (controller_after k c x).job refl
      (step_goes_on k (begun k c) x (begun k c).job (start_set k c c.job).set e).set

  -- these steps end nothing
  abbrev pub NotOver : ControllerView → List ℕ → Type 0
  NotOver c [] = Unit {0}
  NotOver c (x ∷ xs) = (end_of k c x ≡ None) × NotOver (controller_after k c x) xs

  pub step_not_over : (c : ControllerView) (x : ℕ) (ys : List ℕ) → end_of k c x ≡ None
      → turn_by k c (x ∷ ys) ≡ turn_by k (controller_after k c x) ys
  step_not_over c x ys e =
      ap (λ o. ends_with (controller_after k c x) o ys (turn_from k (controller_after k c x) ys)) e
      ∙ ap (λ d. turn_from k d ys) (sym (begun_same c x e))

  turn_goes : (c : ControllerView) (xs ys : List ℕ) → NotOver c xs → turn_by k c (xs ++ ys) ≡ turn_by k (view_after_all k c xs) ys
  turn_goes c [] ys h = refl
  turn_goes c (x ∷ xs) ys h = step_not_over c x (xs ++ ys) h.0 ∙ turn_goes (controller_after k c x) xs ys h.1

  pub none_taken : (c : ControllerView) (xs : List ℕ) (n : ℕ) → NotOver c xs → turn_by k c (take n xs) ≡ None
  none_taken c [] zero h = refl
  none_taken c [] (suc n) h = refl
  none_taken c (x ∷ xs) zero h = refl
  none_taken c (x ∷ xs) (suc n) h = step_not_over c x (take n xs) h.0 ∙ none_taken (controller_after k c x) xs n h.1

  not_over_more : (c : ControllerView) (xs : List ℕ) (x : ℕ) → NotOver c xs → end_of k (view_after_all k c xs) x ≡ None
      → NotOver c (xs ++ x ∷ [])
  not_over_more c [] x h e = (e, tt)
  not_over_more c (y ∷ xs) x h e = (h.0, not_over_more (controller_after k c y) xs x h.1 e)

  -- ---- what was made

  view_more : (c : ControllerView) (xs ys : List ℕ) → view_after_all k c (xs ++ ys) ≡ view_after_all k (view_after_all k c xs) ys
  view_more c [] ys = refl
  view_more c (x ∷ xs) ys = view_more (controller_after k c x) xs ys

  pub steps_more : (c : ControllerView) (xs ys : List ℕ)
      → steps_made k c (xs ++ ys) ≡ steps_made k c xs ++ steps_made k (view_after_all k c xs) ys
  steps_more c [] ys = refl
  steps_more c (x ∷ xs) ys =
      ap (made_before (controller_op k c) x) (steps_more (controller_after k c x) xs ys)
      ∙ before_more (controller_op k c) x (steps_made k (controller_after k c x) xs)
      (steps_made k (view_after_all k (controller_after k c x) xs) ys)

  each_more : (c : ControllerView) (xs ys : List ℕ) → AreSteps k c xs → AreSteps k (view_after_all k c xs) ys → AreSteps k c (xs ++ ys)
  each_more c [] ys a b = b
  each_more c (x ∷ xs) ys a b = (a.0, each_more (controller_after k c x) xs ys a.1 b)

-- Steps of a turn were made on a board.
pub record OnTurn (k : Config) (fitted : Config → View → Type 0) (shown : (Name → ℕ) → Type 0) (c : ControllerView)
    (answers : List ℕ) (fits_now : Config → View → Type 0) (shows_now : (Name → ℕ) → Type 0) (d : ControllerView) : Type 0 where
  pub each : AreSteps k c answers
  pub view : view_after_all k c answers ≡ d
  pub fits : fitted k (OfController c) → fits_now k (OfController d)
  pub words : ShowsSteps shown (steps_made k c answers) shows_now

module _ (k : Config) (fits mid after : Config → View → Type 0) (shows shows_mid shows_after : (Name → ℕ) → Type 0)
    (c : ControllerView) (xs : List ℕ) (x : ℕ) (d e : ControllerView) (end : Option Turn) where
  pub on_turn_more : OnTurn k fits shows c xs mid shows_mid d → StepMade k mid shows_mid d x end after shows_after e
      → OnTurn k fits shows c (xs ++ x ∷ []) after shows_after e
  on_turn_more p q = record {
    each = each_more k c xs (x ∷ []) p.each (subst (λ v. AreSteps k v (x ∷ [])) (sym p.view) (q.there, tt));
    view = view_more k c xs (x ∷ []) ∙ ap (λ v. controller_after k v x) p.view ∙ q.view;
    fits = λ f. q.fits (p.fits f);
    words =
        subst (λ steps. ShowsSteps shows steps shows_after) (sym (steps_more k c xs (x ∷ [])))
        (shows_more shows shows_mid shows_after (steps_made k c xs) (steps_made k (view_after_all k c xs) (x ∷ [])) p.words
        (subst (λ v. ShowsSteps shows_mid (steps_made k v (x ∷ [])) shows_after) (sym p.view) q.words));
  }

  pub over_more : NotOver k c xs → view_after_all k c xs ≡ d → end_of k d x ≡ None → NotOver k c (xs ++ x ∷ [])
  over_more h v q = not_over_more k c xs x h (ap (λ w. end_of k w x) v ∙ q)

  pub turn_ends : (t : Turn) → NotOver k c xs → view_after_all k c xs ≡ d → end_of k d x ≡ Some t → controller_after k d x ≡ e
      → turn_by k c (xs ++ x ∷ []) ≡ Some (t, e)
  turn_ends t h v q r =
      turn_goes k c xs (x ∷ []) h ∙ ap (λ w. turn_by k w (x ∷ [])) v
      ∙ ap (λ o. ends_with (controller_after k d x) o [] None) q ∙ ap (λ w. Some (t, w)) r

-- ---- a turn that isn't over has a next step

no_free_step : (k : Config) (c : ControllerView) (j : Job) → is_free j ≡ false → job_op k c j ≡ None → ⊥
no_free_step k c job.Free h e = cc
no_free_step k c (job.Draw d) h e = cc
no_free_step k c (job.Store s) h e = cc
no_free_step k c (job.Pass g pipe w) h e = cc
no_free_step k c (job.Drain pipe n w) h e = cc
no_free_step k c (job.Look pipe) h e = cc
no_free_step k c (job.Hit from ms key place n) h e = cc

pub has_step : (k : Config) (c : ControllerView) (o : Option Op) → in_bounds c ≡ true → o ≡ controller_op k c → o ≡ None → ⊥
has_step k c o bounds e n =
    no_free_step k (begun k c) (begun k c).job (start_set k c c.job).set
    (ap (λ b. if b then begun_op k (begun k c) else None) (sym bounds) ∙ sym e ∙ n)

pub op_is : (k : Config) (c : ControllerView) → IsSome (controller_op k c) → controller_op k c ≡ begun_op k (begun k c)
op_is k c h = at (in_bounds c) h
  where
    at : (b : Bool) → IsSome (if b then begun_op k (begun k c) else None) → (if b then begun_op k (begun k c) else None) ≡ begun_op k (begun k c)
    at true g = refl
    at false g = cc

pub bounded : (c : ControllerView) → c.drawn < 2 ^ 56 → words_taken c.rings < 2 ^ 56 → in_bounds c ≡ true
bounded c h i = ap (λ b. b && nat_lt (words_taken c.rings) (2 ^ 56)) (lt-ltb c.drawn (2 ^ 56) h)
    ∙ lt-ltb (words_taken c.rings) (2 ^ 56) i
