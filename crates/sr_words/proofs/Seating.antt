-- To split a seat and to join two keeps the rule, and a look changes nothing.
use Rattle.std.proofs.Common.{◌≡◌, ◌≢◌, ◌∙◌, ℕ, ◌+◌, ◌≤◌, List, [], ◌∷◌, ◌++◌, Option, Some, None, set, slice_index, refl, sym, ap, subst, ⊎_elim, arith}
use Rattle.std.proofs.lemmas.List.{set-get_or}
use Rattle.atomic_table.proofs.Lists.{at_set, at_snoc, set_again}
use Rattle.atomic_table.specs.Table.{Allows, Joins, Me, Splits, State, keeps}
use Rattle.sr_machine.specs.Config.{Config}
use Rattle.sr_machine.specs.Core.{Core}
use Rattle.sr_machine.specs.declared.actor.Actor.{Actor}
use Rattle.sr_machine.specs.declared.view.View.{View}
use Rattle.sr_words.proofs.Claims.{claimed_more, claimed_set, shown_both, times_both}
use Rattle.sr_words.proofs.Follows.{Follows, follows_self, follows_told}
use Rattle.sr_words.proofs.Stepping.{shown_seat}
use Rattle.sr_words.specs.Hearing.{IsGood}
use Rattle.sr_words.specs.Rule.{Ruled}
use Rattle.sr_words.specs.Seats.{AllShown, IsSure, actor_of, claimed, only_second, seated, times_in, together, without_second}
use Rattle.sr_words.specs.Steps.{Looks}
use Rattle.sr_words.specs.declared.heard.Heard.{Heard}
use Rattle.sr_words.specs.declared.seated.Seated.{Seated}
use lib.ListN.{get_elem?}
use mathlib.Core.Option.{some}

-- other seats over the same words and state
reseated : (k : Config) (t : State (Unit {0}) Seated) (r : Ruled k t) (seats : List Seated)
    → ((id : ℕ) (v : Seated) → get_elem? seats id ≡ some v → AllShown r.state v.actors)
    → ((a : Actor) → claimed a seats ≡ claimed a t.views)
    → ((id : ℕ) (v : Seated) → get_elem? seats id ≡ some v → IsSure (record { words = t.words; homes = t.homes; views = seats }) id v.words)
    → Ruled k (record { words = t.words; homes = t.homes; views = seats })
reseated k t r seats shown same sure = record {
  fitted = r.fitted;
  state = r.state;
  reached = r.reached;
  wide = r.wide;
  words = r.words;
  shown = shown;
  apart = λ a. subst (λ (n : ℕ). n ≤ 1) (sym (same a)) (r.apart a);
  sure = sure;
}

-- ---- splitting

times_split : (a : Actor) (xs : List View) → times_in a (without_second xs) + times_in a (only_second xs) ≡ times_in a xs
times_split a [] = refl
times_split a (x ∷ []) = omega arith
times_split a (x ∷ y ∷ rest) = omega arith

shown_split : (s : Core) (xs : List View) → AllShown s xs → AllShown s (without_second xs) × AllShown s (only_second xs)
shown_split s [] h = (tt, tt)
shown_split s (x ∷ []) h = (h, tt)
shown_split s (x ∷ y ∷ rest) h = ((h.0, h.1.1), (h.1.0, tt))

abbrev split_table : State (Unit {0}) Seated → ℕ → Seated → State (Unit {0}) Seated
split_table t id v = record {
  words = t.words;
  homes = t.homes;
  views = set t.views id (seated (without_second v.actors)) ++ seated (only_second v.actors) ∷ [];
}

-- a seat that knows the words is split from no other one, which has no actor
split_sure : (t : State (Unit {0}) Seated) (id : ℕ) (v : Seated) → get_elem? t.views id ≡ some v → (j : ℕ) (o : Option (List ℕ)) → j ≢ id
    → IsSure t j o → IsSure (split_table t id v) j o
split_sure t id v at j None n h = tt
split_sure t id v at j (Some list) n h =
    let none : v.actors ≡ [] = h.1 id v (λ e. n (sym e)) at in
    let left : Seated = seated (without_second v.actors) in
    let right : Seated = seated (only_second v.actors) in (
      h.0,
      λ i w m e. ⊎_elim
          (λ f. ⊎_elim (λ p. ap (λ (u : Seated). u.actors) (sym p.1) ∙ ap without_second none) (λ p. h.1 i w m p.1) (at_set t.views id i left w f))
          (λ f. ap (λ (u : Seated). u.actors) (sym f) ∙ ap only_second none)
          (at_snoc (set t.views id left) right w i e),
    )

pub splits : (k : Config) (id : ℕ) (v : Seated)
    → Splits (Ruled k) id v (seated (without_second v.actors)) (seated (only_second v.actors))
splits k id v t r at =
    let left : Seated = seated (without_second v.actors) in
    let right : Seated = seated (only_second v.actors) in
    let both = shown_split r.state v.actors (r.shown id v at) in
    reseated k t r (set t.views id left ++ right ∷ [])
    (λ j w e. ⊎_elim
    (λ f. ⊎_elim (λ p. subst (λ (u : Seated). AllShown r.state u.actors) p.1 both.0) (λ p. r.shown j w p.1)
    (at_set t.views id j left w f))
    (λ f. subst (λ (u : Seated). AllShown r.state u.actors) f both.1)
    (at_snoc (set t.views id left) right w j e))
    (λ a.
    let more = claimed_more a (set t.views id left) right in
    let less = claimed_set a t.views id v left at in
    let split : times_in a (without_second v.actors) + times_in a (only_second v.actors) ≡ times_in a v.actors = times_split a v.actors in
    omega arith)
    (λ j w e. ⊎_elim
    (λ f. ⊎_elim (λ p. subst (λ (u : Seated). IsSure (split_table t id v) j u.words) p.1 tt)
    (λ p. split_sure t id v at j w.words p.0 (r.sure j w p.1))
    (at_set t.views id j left w f))
    (λ f. subst (λ (u : Seated). IsSure (split_table t id v) j u.words) f tt)
    (at_snoc (set t.views id left) right w j e))

-- ---- joining

abbrev joined_table : State (Unit {0}) Seated → ℕ → ℕ → Seated → Seated → State (Unit {0}) Seated
joined_table t id other v w = record { words = t.words; homes = t.homes; views = set (set t.views id (together v w)) other (seated []) }

-- two seats are joined that have no actor, where another one knows the words
joined_sure : (t : State (Unit {0}) Seated) (id other : ℕ) (v w : Seated) → get_elem? t.views id ≡ some v → ¬ (other ≡ id)
    → get_elem? (set t.views id (together v w)) other ≡ some w → (j : ℕ) (o : Option (List ℕ)) → j ≢ id → j ≢ other
    → IsSure t j o → IsSure (joined_table t id other v w) j o
joined_sure t id other v w at apart there j None n m h = tt
joined_sure t id other v w at apart there j (Some list) n m h =
    let both : Seated = together v w in
    let own : v.actors ≡ [] = h.1 id v (λ e. n (sym e)) at in
    let others : w.actors ≡ [] =
    ⊎_elim (λ p. absurd (apart p.0)) (λ p. h.1 other w (λ e. m (sym e)) p.1) (at_set t.views id other both w there) in
    let none : v.actors ++ w.actors ≡ [] = ap (λ xs. xs ++ w.actors) own ∙ others in (
      h.0,
      λ i u d e. ⊎_elim (λ p. ap (λ (x : Seated). x.actors) (sym p.1))
          (λ p. ⊎_elim (λ q. ap (λ (x : Seated). x.actors) (sym q.1) ∙ none) (λ q. h.1 i u d q.1) (at_set t.views id i both u p.1))
          (at_set (set t.views id both) other i (seated []) u e),
    )

pub joins : (k : Config) (id other : ℕ) (v w : Seated)
    → Joins (Ruled k) id v other w (together v w) (seated [])
joins k id other v w t r at apart there =
    let both : Seated = together v w in
    let own : AllShown r.state v.actors = r.shown id v at in
    let others : AllShown r.state w.actors =
    ⊎_elim (λ p. absurd (apart p.0)) (λ p. r.shown other w p.1) (at_set t.views id other both w there) in
    let all : AllShown r.state both.actors = shown_both r.state v.actors w.actors own others in
    reseated k t r (set (set t.views id both) other (seated []))
    (λ j u e. ⊎_elim (λ p. subst (λ (x : Seated). AllShown r.state x.actors) p.1 tt)
    (λ p. ⊎_elim (λ q. subst (λ (x : Seated). AllShown r.state x.actors) q.1 all) (λ q. r.shown j u q.1)
    (at_set t.views id j both u p.1))
    (at_set (set t.views id both) other j (seated []) u e))
    (λ a.
    let one = claimed_set a t.views id v both at in
    let two = claimed_set a (set t.views id both) other w (seated []) there in
    let sum : times_in a (v.actors ++ w.actors) ≡ times_in a v.actors + times_in a w.actors = times_both a v.actors w.actors in
    omega arith)
    (λ j u e. ⊎_elim (λ p. subst (λ (x : Seated). IsSure (joined_table t id other v w) j x.words) p.1 tt)
    (λ p. ⊎_elim (λ q. subst (λ (x : Seated). IsSure (joined_table t id other v w) j x.words) q.1 tt)
    (λ q. joined_sure t id other v w at apart there j u.words q.0 p.0 (r.sure j u q.1))
    (at_set t.views id j both u p.1))
    (at_set (set t.views id both) other j (seated []) u e))

-- ---- looking

pub looks : (k : Config) (h : Heard) (slots id word : ℕ) (v : Seated) → IsGood h
    → Allows (Ruled k) slots id (v, []) word (λ n. n) (λ n me. Looks k h v me.0 × (me.1 ≡ []))
looks k h slots id word v good t r wide at below =
    let words : set t.words word (slice_index t.words word) ≡ t.words = set-get_or t.words word 0 in
    let views : set t.views id v ≡ t.views = set_again t.views id v at in (
      v,
      keeps,
      tt,
      subst (λ (l : List ℕ). Ruled k (record { words = l; homes = t.homes; views = set t.views id v })) (sym words)
          (subst (λ (l : List Seated). Ruled k (record { words = t.words; homes = t.homes; views = l })) (sym views) r),
      (
        (
          refl,
          λ x y rest is heard.
              let shown : AllShown r.state (x ∷ rest) = subst (AllShown r.state) is (r.shown id v at) in
              let f : Follows k r.state (actor_of x) y r.state.words =
              follows_told k r.state h (actor_of x) x y r.state.words good (follows_self k r.state x r.reached shown.0) heard in
              record {
                fitted = r.fitted;
                state = f.state;
                reached = f.reached;
                shown = shown_seat k t r id v x rest at is y r.state.words f;
              },
        ),
        refl,
      ),
    )

-- in a caller's terms
pub look_may : (made_for conf : Config) (h heard : Heard) (slots id word : ℕ) (me : Me (Unit {0}) Seated) → IsGood h → made_for ≡ conf
    → h ≡ heard → me.1 ≡ []
    → Allows (Ruled made_for) slots id me word (λ n. n) (λ n w. Looks conf heard me.0 w.0 × (w.1 ≡ me.1))
look_may made_for conf h heard slots id word me good c t free =
    let whole : (me.0, []) ≡ me = ap (λ (r : List (ℕ × Unit {0})). (me.0, r)) (sym free) in
    subst (λ (k : Config). Allows (Ruled made_for) slots id me word (λ n. n) (λ n w. Looks k heard me.0 w.0 × (w.1 ≡ me.1))) c
    (subst (λ (j : Heard). Allows (Ruled made_for) slots id me word (λ n. n) (λ n w. Looks made_for j me.0 w.0 × (w.1 ≡ me.1))) t
    (subst (λ (m : Me (Unit {0}) Seated). Allows (Ruled made_for) slots id m word (λ n. n) (λ n w. Looks made_for h m.0 w.0 × (w.1 ≡ m.1))) whole
    (looks made_for h slots id word me.0 good)))
