-- A run by picks ends in one way alone.
use Rattle.std.proofs.Common.{◌≡◌, ◌∙◌, ℕ, zero, suc, ◌+◌, ◌-◌, ◌%◌, ◌<◌, ◌≤◌, ◌&&◌, Bool, true, false, not, if◌then◌else◌, List, [], ◌∷◌, Option, None, Some, refl, sym, ap, subst, arith, inl, inr, find, option_and_then}
use Rattle.std.specs.List.{list_all, range_with_len}
use Rattle.std.proofs.Math.Nat.{mod-lt}
use Rattle.std.proofs.lemmas.Bool.{cases_lt}
use Rattle.std.proofs.lemmas.List.Folds.{list_all-append}
use Rattle.sr_gen.specs.Generator.{drawn, next_state}
use Rattle.sr_machine.specs.Config.{Config}
use Rattle.sr_machine.specs.Core.{Core}
use Rattle.sr_machine.specs.Settling.{Settles, follows, on_or, refused, settled_in}
use Rattle.sr_machine.specs.Turning.{turned}
use Rattle.sr_machine.specs.declared.settled.Settled.{Settled}
use Rattle.sr_machine.specs.declared.turn.Turn.{Turn}
use Rattle.sr_picks.proofs.Picked.{both, range_parts}
use Rattle.sr_picks.specs.Play.{Play, PlaysTo, has_ended, is_over, order_from, pick, pick_by, picked, pipes_of, played}
use Rattle.sr_picks.specs.Run.{Rounds, RunsByPicks, round_begun}
use Rattle.sr_rounds.specs.declared.round.Round.{Round}
use Rattle.sr_rounds.specs.declared.timed.Timed.{Timed}

-- ---- nobody is picked once all have ended

module _ {A : Type 0} (test : A → Bool) where
  passed_by : (y : A) (ys : List A) (b : Bool) → (list_all test ys ≡ true → find (λ x. not (test x)) ys ≡ None)
      → (b && list_all test ys) ≡ true → (if not b then Some y else find (λ x. not (test x)) ys) ≡ None
  passed_by y ys true next e = next e
  passed_by y ys false next e = absurd (cc e)

  -- where all pass none is found that fails
  all_pass : (xs : List A) → list_all test xs ≡ true → find (λ x. not (test x)) xs ≡ None
  all_pass [] e = refl
  all_pass (y ∷ ys) e = passed_by y ys (test y) (all_pass ys) e

-- all actors are all of an order
all_in_order : (test : ℕ → Bool) (pipes i : ℕ) → i ≤ pipes → list_all test (range_with_len 0 (pipes + 1)) ≡ true
    → list_all test (order_from pipes i) ≡ true
all_in_order test pipes i h e =
    let parts : i + (pipes + 1 - i) ≡ pipes + 1 = omega (arith, h) in
    let none : 0 + i ≡ i = omega arith in
    let split =
    sym (list_all-append test (range_with_len 0 i) (range_with_len (0 + i) (pipes + 1 - i)))
    ∙ sym (ap (list_all test) (range_parts 0 i (pipes + 1 - i)))
    ∙ ap (λ n. list_all test (range_with_len 0 n)) parts ∙ e in
    let here = ap (λ b. list_all test (range_with_len 0 i) && list_all test (range_with_len b (pipes + 1 - i))) (sym none) ∙ split in
    list_all-append test (range_with_len i (pipes + 1 - i)) (range_with_len 0 i)
    ∙ both (list_all test (range_with_len 0 i)) (list_all test (range_with_len i (pipes + 1 - i))) here

over_picks_none : (p : Play) (x : ℕ) → is_over p ≡ true → picked p x ≡ None
over_picks_none p x over =
    let some : 0 < pipes_of p + 1 = omega arith in
    let below : drawn x % (pipes_of p + 1) ≤ pipes_of p = omega (arith, mod-lt (drawn x) some) in
    all_pass (has_ended p) (order_from (pipes_of p) (drawn x % (pipes_of p + 1)))
    (all_in_order (has_ended p) (pipes_of p) (drawn x % (pipes_of p + 1)) below over)

over_stays : (p : Play) → is_over p ≡ true → pick p ≡ p
over_stays p over = ap (pick_by p (next_state p.generator)) (over_picks_none p (next_state p.generator) over)

over_played : (n : ℕ) (p : Play) → is_over p ≡ true → played n p ≡ p
over_played zero p over = refl
over_played (suc n) p over = ap (played n) (over_stays p over) ∙ over_played n p over

played_both : (m n : ℕ) (p : Play) → played (m + n) p ≡ played n (played m p)
played_both zero n p = let none : zero + n ≡ n = omega arith in ap (λ k. played k p) none
played_both (suc m) n p = let more : suc m + n ≡ suc (m + n) = omega arith in ap (λ k. played k p) more ∙ played_both m n (pick p)

-- more picks lead to the same end
ends_later : (m n : ℕ) (p q r : Play) → m ≤ n → played m p ≡ q → is_over q ≡ true → played n p ≡ r → q ≡ r
ends_later m n p q r le first over second =
    let parts : m + (n - m) ≡ n = omega (arith, le) in
    sym (over_played (n - m) q over) ∙ sym (ap (played (n - m)) first) ∙ sym (played_both m (n - m) p) ∙ ap (λ k. played k p) parts ∙ second

plays_once : (p q r : Play) → PlaysTo p q → PlaysTo p r → q ≡ r
plays_once p q r (m, first, over) (n, second, ended) = elim (cases_lt m n) [
  | inl less ↦ ends_later m n p q r (omega (arith, less)) first over second
  | inr most ↦ sym (ends_later n m p r q most second ended first)
]

-- ---- rounds

rounds_once : (packets : List Timed) (rounds : List Round) (x : ℕ) (s : Core) (y z : ℕ) (t u : Core)
    → Rounds packets rounds x s y t → Rounds packets rounds x s z u → (y ≡ z) × (t ≡ u)
rounds_once packets [] x s y z t u (e, f) (g, h) = (e ∙ sym g, f ∙ sym h)
rounds_once packets (r ∷ rest) x s y z t u (p, plays, more) (q, others, next) =
    let same : q ≡ p = plays_once (round_begun packets r x s) q p others plays in
    rounds_once packets rest p.generator p.state y z t u more
    (subst (λ (o : Play). Rounds packets rest o.generator o.state z u) same next)

-- ---- the turns after the last round

more_by : (n m : ℕ) (s : Core) (o : Option Core) (v : Settled × Core)
    → ((w : Core) → settled_in n w ≡ Some v → settled_in (n + m) w ≡ Some v)
    → on_or s (settled_in n) o ≡ Some v → on_or s (settled_in (n + m)) o ≡ Some v
more_by n m s None v more e = e
more_by n m s (Some w) v more e = more w e

more_after : (n m : ℕ) (o : Option (Turn × Core)) (v : Settled × Core)
    → ((w : Core) → settled_in n w ≡ Some v → settled_in (n + m) w ≡ Some v)
    → option_and_then (λ p. on_or p.1 (settled_in n) (refused p.1 (follows p.0))) o ≡ Some v
    → option_and_then (λ p. on_or p.1 (settled_in (n + m)) (refused p.1 (follows p.0))) o ≡ Some v
more_after n m None v more e = absurd (cc e)
more_after n m (Some p) v more e = more_by n m p.1 (refused p.1 (follows p.0)) v more e

settled_more : (n m : ℕ) (s : Core) (v : Settled × Core) → settled_in n s ≡ Some v → settled_in (n + m) s ≡ Some v
settled_more zero m s v e = absurd (cc e)
settled_more (suc n) m s v e =
    let more : suc (n + m) ≡ suc n + m = omega arith in
    subst (λ k. settled_in k s ≡ Some v) more (more_after n m (turned s) v (λ w. settled_more n m w v) e)

first_or : {A B : Type 0} → A → Option (A × B) → A
first_or a None = a
first_or a (Some p) = p.0

last_or : {A B : Type 0} → B → Option (A × B) → B
last_or b None = b
last_or b (Some p) = p.1

settles_once : (s : Core) (r z : Settled) (t u : Core) → Settles s r t → Settles s z u → (r ≡ z) × (t ≡ u)
unfolding first_or last_or
settles_once s r z t u (m, e) (n, f) =
    let parts : n + m ≡ m + n = omega arith in
    let same : Some (r, t) ≡ Some (z, u) =
    sym (settled_more m n s (r, t) e) ∙ subst (λ k. settled_in k s ≡ Some (z, u)) parts (settled_more n m s (z, u) f) in
    (ap (first_or r) same, ap (last_or t) same)

-- ---- the whole run

pub runs_once : (k : Config) (seed : ℕ) (packets : List Timed) (r z : Settled) (t u : Core)
    → RunsByPicks k seed packets r t → RunsByPicks k seed packets z u → (r ≡ z) × (t ≡ u)
runs_once k seed packets r z t u first second =
    let same : second.state ≡ first.state = (rounds_once packets _ seed _ second.generator first.generator second.state first.state second.rounds first.rounds).1 in
    settles_once first.state r z t u first.settles (subst (λ s. Settles s z u) same second.settles)
