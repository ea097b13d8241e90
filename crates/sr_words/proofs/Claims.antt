-- How often an actor stands among the seats.
use Rattle.std.proofs.Common.{◌≡◌, ◌≢◌, ◌∙◌, ℕ, Some, zero, suc, ◌+◌, ◌≤◌, Bool, true, false, List, [], ◌∷◌, ◌++◌, set, refl, sym, ap, zero-add, arith, if◌then◌else◌}
use Rattle.std.proofs.lemmas.Bool.Decides.{nat_tests}
use Rattle.sr_machine.specs.Core.{Core, view_at}
use Rattle.sr_machine.specs.declared.actor.Actor.{Actor}
use Rattle.sr_machine.specs.declared.actor.Actor.TheVariants.{Pipe, Controller}
use Rattle.sr_machine.specs.declared.view.View.{View}
use Rattle.sr_words.specs.Seats.{AllShown, actor_of, claimed, same_actor, times_in}
use Rattle.sr_words.specs.declared.seated.Seated.{Seated}
use lib.ListN.{get_elem?}
use mathlib.Core.Option.{some, some-injective, some-ne-none}

pub same_actor-self : (a : Actor) → same_actor a a ≡ true
same_actor-self (Pipe p) = grind (arith, nat_tests)
same_actor-self Controller = refl

module _ (a : Actor) where
  one_or_more : (b : Bool) (n : ℕ) → n ≤ (if b then 1 else 0) + n
  one_or_more true n = omega arith
  one_or_more false n = omega arith

  pub times_both : (xs ys : List View) → times_in a (xs ++ ys) ≡ times_in a xs + times_in a ys
  times_both [] ys = sym (zero-add (times_in a ys))
  times_both (x ∷ xs) ys =
      let m : ℕ = if same_actor a (actor_of x) then 1 else 0 in
      let h : times_in a (xs ++ ys) ≡ times_in a xs + times_in a ys = times_both xs ys in
      ap (λ n. m + n) h ∙ add_three m (times_in a xs) (times_in a ys)
    where
      add_three : (m n k : ℕ) → m + (n + k) ≡ (m + n) + k
      add_three m n k = omega arith

  -- a seat's own are among all
  claimed_at : (seats : List Seated) (i : ℕ) (v : Seated) → get_elem? seats i ≡ some v → times_in a v.actors ≤ claimed a seats
  claimed_at [] i v e = absurd (some-ne-none v (sym e))
  claimed_at (u ∷ seats) zero v e =
      let same : u ≡ v = some-injective u v e in
      let t : times_in a u.actors ≡ times_in a v.actors = ap (λ (w : Seated). times_in a w.actors) same in omega arith
  claimed_at (u ∷ seats) (suc i) v e =
      let h : times_in a v.actors ≤ claimed a seats = claimed_at seats i v e in omega arith

  -- and so are those of two seats together
  pub claims_both : (seats : List Seated) (i j : ℕ) (v w : Seated) → j ≢ i → get_elem? seats i ≡ some v → get_elem? seats j ≡ some w
      → times_in a v.actors + times_in a w.actors ≤ claimed a seats
  claims_both [] i j v w n e f = absurd (some-ne-none v (sym e))
  claims_both (u ∷ seats) zero zero v w n e f = absurd (n refl)
  claims_both (u ∷ seats) zero (suc j) v w n e f =
      let t : times_in a u.actors ≡ times_in a v.actors = ap (λ (x : Seated). times_in a x.actors) (some-injective u v e) in
      let h : times_in a w.actors ≤ claimed a seats = claimed_at seats j w f in omega arith
  claims_both (u ∷ seats) (suc i) zero v w n e f =
      let t : times_in a u.actors ≡ times_in a w.actors = ap (λ (x : Seated). times_in a x.actors) (some-injective u w f) in
      let h : times_in a v.actors ≤ claimed a seats = claimed_at seats i v e in omega arith
  claims_both (u ∷ seats) (suc i) (suc j) v w n e f =
      let h : times_in a v.actors + times_in a w.actors ≤ claimed a seats = claims_both seats i j v w (λ s. n (ap suc s)) e f in
      omega arith

  -- another view of a seat
  pub claimed_set : (seats : List Seated) (i : ℕ) (v w : Seated) → get_elem? seats i ≡ some v
      → claimed a (set seats i w) + times_in a v.actors ≡ claimed a seats + times_in a w.actors
  claimed_set [] i v w e = absurd (some-ne-none v (sym e))
  claimed_set (u ∷ seats) zero v w e =
      let t : times_in a u.actors ≡ times_in a v.actors = ap (λ (x : Seated). times_in a x.actors) (some-injective u v e) in omega arith
  claimed_set (u ∷ seats) (suc i) v w e =
      let h : claimed a (set seats i w) + times_in a v.actors ≡ claimed a seats + times_in a w.actors = claimed_set seats i v w e in
      omega arith

  pub claimed_more : (seats : List Seated) (v : Seated) → claimed a (seats ++ v ∷ []) ≡ claimed a seats + times_in a v.actors
  claimed_more [] v = omega arith
  claimed_more (u ∷ seats) v =
      let h : claimed a (seats ++ v ∷ []) ≡ claimed a seats + times_in a v.actors = claimed_more seats v in omega arith

-- ---- what is shown

module _ (s : Core) where
  pub shown_both : (xs ys : List View) → AllShown s xs → AllShown s ys → AllShown s (xs ++ ys)
  shown_both [] ys h g = g
  shown_both (x ∷ xs) ys h g = (h.0, shown_both xs ys h.1 g)

-- views of other actors are shown as before
pub shown_others : (s t : Core) (a : Actor) (xs : List View) → ((b : Actor) → same_actor a b ≡ false → view_at t b ≡ view_at s b)
    → times_in a xs ≡ 0 → AllShown s xs → AllShown t xs
shown_others s t a [] others none h = tt
shown_others s t a (x ∷ xs) others none h =
    by (same_actor a (actor_of x)) refl none (λ n. shown_others s t a xs others n h.1)
  where
    by : (b : Bool) → same_actor a (actor_of x) ≡ b → (if b then 1 else 0) + times_in a xs ≡ 0 → (times_in a xs ≡ 0 → AllShown t xs)
        → (view_at t (actor_of x) ≡ Some x) × AllShown t xs
    by true e n rest = absurd (omega arith)
    by false e n rest = (others (actor_of x) e ∙ h.0, rest (omega arith))
