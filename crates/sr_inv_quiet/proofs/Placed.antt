-- Which entry a sweep comes to next, in the order of taking.
use Rattle.sr_base.specs.Key.{KeyView}
use Rattle.sr_base.specs.declared.place.Place.{Place}
use Rattle.sr_inv_facts.proofs.Books.{field_kept, taken_mapped}
use Rattle.sr_inv_facts.specs.InSweeps.{is_past, running_from}
use Rattle.sr_inv_facts.specs.Readings.{In}
use Rattle.sr_machine.specs.Draws.{hit_job, sweep_job, sweeping}
use Rattle.sr_machine.specs.declared.job.Job.{Job}
use Rattle.sr_shadow.proofs.Finding.{found_passes}
use Rattle.sr_shadow.specs.Book.{TakenFrom, placed_from, with_changed}
use Rattle.sr_shadow.specs.Entry.{is_of, is_placed, swept}
use Rattle.sr_shadow.specs.declared.entry.Entry.{Entry}
use Rattle.std.proofs.Common.{Bool, List, None, Option, Some, [], ap, arith, cond, false, if◌then◌else◌, inl, inr, is_some, map, nat_le, nat_lt, refl, subst, sym, true, true≢false, ℕ, ◌&&◌, ◌+◌, ◌<◌, ◌∙◌, ◌∷◌, ◌≡◌, ◌≢◌, ◌≤◌, ◌⊎◌}
use Rattle.std.proofs.lemmas.Bool.{and_parts, cases_lt}
use Rattle.std.proofs.lemmas.Bool.Decides.{nat_tests}
use Rattle.std.proofs.lemmas.Option.{same_Some}

-- entries of a rising book are no older than its first
taken_least : (low high : ℕ) (es : List Entry) (e : Entry) → TakenFrom low es high → In e es → low ≤ e.taken
taken_least low high [] e t m = absurd m
taken_least low high (x ∷ es) e t (inl q) = subst (λ z. low ≤ z.taken) (sym q) t.0
taken_least low high (x ∷ es) e t (inr m) =
    let more : x.taken + 1 ≤ e.taken = taken_least (x.taken + 1) high es e t.1 m in omega (arith, t.0)

-- entries of one number are one
pub same_taken : (low high : ℕ) (es : List Entry) (e f : Entry) → TakenFrom low es high → In e es → In f es → e.taken ≡ f.taken → e ≡ f
same_taken low high [] e f t m n q = absurd m
same_taken low high (x ∷ es) e f t (inl a) (inl b) q = a ∙ sym b
same_taken low high (x ∷ es) e f t (inl a) (inr b) q =
    let more : x.taken + 1 ≤ f.taken = taken_least (x.taken + 1) high es f t.1 b in
    let own : e.taken ≡ x.taken = ap (λ z. z.taken) a in
    absurd (omega arith)
same_taken low high (x ∷ es) e f t (inr a) (inl b) q =
    let more : x.taken + 1 ≤ e.taken = taken_least (x.taken + 1) high es e t.1 a in
    let own : f.taken ≡ x.taken = ap (λ z. z.taken) b in
    absurd (omega arith)
same_taken low high (x ∷ es) e f t (inr a) (inr b) q = same_taken (x.taken + 1) high es e f t.1 a b q

-- the next placed entry is the first of those that are placed
pub first_placed : (number low high : ℕ) (es : List Entry) (first e : Entry) → TakenFrom low es high → placed_from number es ≡ Some first → In e es
    → number ≤ e.taken → is_placed e ≡ true → first.taken ≤ e.taken
first_placed number low high [] first e t q m a p = absurd m
first_placed number low high (x ∷ es) first e t q m a p =
    at (nat_le number x.taken) (is_placed x) refl refl q m (λ q m. first_placed number (x.taken + 1) high es first e t.1 q m a p)
  where
    at : (b d : Bool) → nat_le number x.taken ≡ b → is_placed x ≡ d → cond (b && d) (Some x) (placed_from number es) ≡ Some first → (e ≡ x) ⊎ In e es
        → (placed_from number es ≡ Some first → In e es → first.taken ≤ e.taken) → first.taken ≤ e.taken
    at true true f g h (inl o) more =
        let is : x ≡ first = same_Some x first h in
        let same : e.taken ≡ first.taken = ap (λ z. z.taken) (o ∙ is) in
        omega arith
    at true true f g h (inr o) more =
        let is : x ≡ first = same_Some x first h in
        let same : x.taken ≡ first.taken = ap (λ z. z.taken) is in
        let least : x.taken + 1 ≤ e.taken = taken_least (x.taken + 1) high es e t.1 o in
        omega arith
    at true false f g h (inl o) more = absurd (true≢false (sym p ∙ (ap is_placed o ∙ g)))
    at true false f g h (inr o) more = more h o
    at false d f g h (inl o) more =
        let same : e.taken ≡ x.taken = ap (λ z. z.taken) o in
        let low : x.taken < number = grind (arith, nat_tests) in
        absurd (omega arith)
    at false d f g h (inr o) more = more h o

-- where there is none, none is placed
pub none_placed : (number : ℕ) (es : List Entry) (e : Entry) → placed_from number es ≡ None → In e es → is_placed e ≡ true → e.taken < number
none_placed number [] e q m p = absurd m
none_placed number (x ∷ es) e q m p = at (nat_le number x.taken) (is_placed x) refl refl q m (λ q m. none_placed number es e q m p)
  where
    at : (b d : Bool) → nat_le number x.taken ≡ b → is_placed x ≡ d → cond (b && d) (Some x) (placed_from number es) ≡ None → (e ≡ x) ⊎ In e es
        → (placed_from number es ≡ None → In e es → e.taken < number) → e.taken < number
    at true true f g h o more = cc
    at true false f g h (inl o) more = absurd (true≢false (sym p ∙ (ap is_placed o ∙ g)))
    at true false f g h (inr o) more = more h o
    at false d f g h (inl o) more =
        let same : e.taken ≡ x.taken = ap (λ z. z.taken) o in
        let low : x.taken < number = grind (arith, nat_tests) in
        omega arith
    at false d f g h (inr o) more = more h o

-- the next entry is of that number or a later one
pub next_least : (number : ℕ) (es : List Entry) (first : Entry) → placed_from number es ≡ Some first → number ≤ first.taken
next_least number es first q =
    at (nat_le number first.taken) (is_placed first) refl (found_passes (λ e. nat_le number e.taken && is_placed e) es first q)
  where
    at : (b d : Bool) → nat_le number first.taken ≡ b → (b && d) ≡ true → number ≤ first.taken
    at true d f g = grind (arith, nat_tests)
    at false d f g = cc

-- an entry that is changed or stays is in the book after it
pub in_map : {X : Type 0} (g : X → X) (xs : List X) (x : X) → In x xs → In (g x) (map g xs)
in_map g [] x m = absurd m
in_map g (y ∷ xs) x (inl q) = inl (ap g q)
in_map g (y ∷ xs) x (inr m) = inr (in_map g xs x m)

-- what a swept book is
pub swept_rising : (hit : Bool) (key : KeyView) (es : List Entry) (high : ℕ) → TakenFrom 0 es high → TakenFrom 0 (with_changed (swept hit) key es) high
swept_rising hit key es high t =
    taken_mapped (λ e. if is_of key e then swept hit e else e) (field_kept (λ e. e.key) (swept hit) (λ e. refl) key)
    (field_kept (λ e. e.taken) (swept hit) (λ e. refl) key) 0 high es t

-- which entries a sweep is past, once it goes on from this number
pub past_on : (number high from ms : ℕ) (fs : List Entry) (m : Job) → TakenFrom 0 fs high → m ≡ sweeping fs from ms (number + 1)
    → (e : Entry) → In e fs → is_placed e ≡ true → e.taken ≢ number → is_past m e.taken ≡ nat_lt e.taken number
past_on number high from ms fs m t q e i p apart = at (placed_from (number + 1) fs) refl
  where
    two : (first : Entry) → placed_from (number + 1) fs ≡ Some first → (o : Option Place) → first.place ≡ o
        → is_past (hit_job from ms first o) e.taken ≡ nat_lt e.taken number
    two first f None n = absurd (true≢false (sym placed ∙ ap is_some n))
      where
        placed : is_placed first ≡ true
        placed = (and_parts (nat_le (number + 1) first.taken) (is_placed first) (found_passes (λ e. nat_le (number + 1) e.taken && is_placed e) fs first f)).1
    two first f (Some place) n = by (cases_lt e.taken number)
      where
        least : number + 1 ≤ first.taken
        least = next_least (number + 1) fs first f

        by : (e.taken < number) ⊎ (number ≤ e.taken) → nat_lt e.taken first.taken ≡ nat_lt e.taken number
        by (inl low) =
            let a : nat_lt e.taken first.taken ≡ true = grind (arith, nat_tests, least) in
            let b : nat_lt e.taken number ≡ true = grind (arith, nat_tests) in
            a ∙ sym b
        by (inr high_up) =
            let more : first.taken ≤ e.taken = first_placed (number + 1) 0 high fs first e t f i (omega arith) p in
            let a : nat_lt e.taken first.taken ≡ false = grind (arith, nat_tests) in
            let b : nat_lt e.taken number ≡ false = grind (arith, nat_tests) in
            a ∙ sym b

    at : (o : Option Entry) → placed_from (number + 1) fs ≡ o → is_past m e.taken ≡ nat_lt e.taken number
    at None f =
        let low : e.taken < number + 1 = none_placed (number + 1) fs e f i p in
        let less : e.taken < number = omega arith in
        let b : nat_lt e.taken number ≡ true = grind (arith, nat_tests) in
        ap (λ z. is_past z e.taken) (q ∙ ap (sweep_job from ms) f) ∙ sym b
    at (Some first) f = ap (λ z. is_past z e.taken) (q ∙ ap (sweep_job from ms) f) ∙ two first f first.place refl

-- and it is past the entry that it went by
pub past_own : (number from ms : ℕ) (fs : List Entry) (m : Job) → m ≡ sweeping fs from ms (number + 1) → is_past m number ≡ true
past_own number from ms fs m q = at (placed_from (number + 1) fs) refl
  where
    two : (first : Entry) → number + 1 ≤ first.taken → (o : Option Place) → is_past (hit_job from ms first o) number ≡ true
    two first h None = refl
    two first h (Some place) = grind (arith, nat_tests, h)

    at : (o : Option Entry) → placed_from (number + 1) fs ≡ o → is_past m number ≡ true
    at None f = ap (λ z. is_past z number) (q ∙ ap (sweep_job from ms) f)
    at (Some first) f =
        ap (λ z. is_past z number) (q ∙ ap (sweep_job from ms) f) ∙ two first (next_least (number + 1) fs first f) first.place

-- the sweep goes on as the one that it is
pub running_on : (from ms number : ℕ) (fs : List Entry) → running_from (sweeping fs from ms number) ≡ Some from
running_on from ms number fs = at (placed_from number fs)
  where
    two : (first : Entry) (o : Option Place) → running_from (hit_job from ms first o) ≡ Some from
    two first None = refl
    two first (Some place) = refl

    at : (o : Option Entry) → running_from (sweep_job from ms o) ≡ Some from
    at None = refl
    at (Some first) = two first first.place

-- no placed entry is behind where a sweep begins
pub past_first : (high from ms : ℕ) (es : List Entry) → TakenFrom 0 es high → (e : Entry) → In e es → is_placed e ≡ true
    → is_past (sweeping es from ms 0) e.taken ≡ false
past_first high from ms es t e i p = at (placed_from 0 es) refl
  where
    two : (first : Entry) → placed_from 0 es ≡ Some first → (o : Option Place) → first.place ≡ o → is_past (hit_job from ms first o) e.taken ≡ false
    two first f None n = absurd (true≢false (sym placed ∙ ap is_some n))
      where
        placed : is_placed first ≡ true
        placed = (and_parts (nat_le 0 first.taken) (is_placed first) (found_passes (λ e. nat_le 0 e.taken && is_placed e) es first f)).1
    two first f (Some place) n =
        let more : first.taken ≤ e.taken = first_placed 0 0 high es first e t f i (omega arith) p in grind (arith, nat_tests)

    at : (o : Option Entry) → placed_from 0 es ≡ o → is_past (sweep_job from ms o) e.taken ≡ false
    at None f = absurd (omega (arith, none_placed 0 es e f i p))
    at (Some first) f = two first f first.place refl
