-- A seat of all actors comes to know the words: no other seat has an actor, so nobody else changes them.
use Rattle.std.proofs.Common.{◌≡◌, ◌≢◌, ◌∙◌, ℕ, zero, suc, ◌+◌, ◌≤◌, ◌<◌, ◌==◌, Bool, true, List, [], ◌∷◌, length, map, set, slice_get, slice_index, Option, Some, None, refl, sym, ap, subst, ⊎_elim, zero-add, arith, if◌then◌else◌}
use Rattle.std.proofs.lemmas.Bool.Decides.{nat_tests}
use Rattle.std.proofs.lemmas.List.{set-get_or}
use Rattle.std.proofs.lemmas.Option.{slice_get_within}
use Rattle.std.specs.List.{range_with_len}
use Rattle.atomic_table.proofs.Lists.{at_set}
use Rattle.atomic_table.specs.Table.{Allows, Me, State, keeps}
use Rattle.sr_inv.specs.Reached.{EveryStateMeets}
use Rattle.sr_machine.specs.Config.{Config}
use Rattle.sr_machine.specs.Core.{view_at}
use Rattle.sr_machine.specs.declared.actor.Actor.{Actor}
use Rattle.sr_machine.specs.declared.actor.Actor.TheVariants.{Pipe, Controller}
use Rattle.sr_machine.specs.declared.name.Name.{Name}
use Rattle.sr_core.specs.PlainWords.{ShowsWords}
use Rattle.sr_machine.specs.declared.pipe_view.PipeView.{PipeView}
use Rattle.sr_machine.specs.declared.view.View.{View}
use Rattle.sr_machine.specs.declared.view.View.TheVariants.{OfPipe, OfController}
use Rattle.sr_words.proofs.Claims.{claimed_set, claims_both, same_actor-self}
use Rattle.sr_words.proofs.Follows.{Follows, follows_self, follows_told, pipe_here, reached_config_of}
use Rattle.sr_words.proofs.Stepping.{shown_seat}
use Rattle.sr_words.specs.Boarding.{AreAtRest}
use Rattle.sr_words.specs.Hearing.{IsGood, told}
use Rattle.sr_words.specs.Rule.{Ruled}
use Rattle.sr_words.specs.Seats.{AllShown, IsSure, actor_of, claimed, same_actor, times_in}
use Rattle.sr_words.specs.Steps.{IsKnown, Learns}
use Rattle.sr_words.specs.declared.heard.Heard.{Heard}
use Rattle.sr_words.specs.declared.seated.Seated.{Seated}
use lib.ListN.{get_elem?}
use mathlib.Core.Option.{some}

-- each pipe is among those that have these numbers
numbers_claim : (vs : List PipeView) (a n p : ℕ) → map (λ v. v.number) vs ≡ range_with_len a n → p < n
    → 1 ≤ times_in (Pipe (a + p)) (map OfPipe vs)
numbers_claim [] a zero p e b = absurd (omega arith)
numbers_claim [] a (suc n) p e b = cc
numbers_claim (v ∷ vs) a zero p e b = absurd (omega arith)
numbers_claim (v ∷ vs) a (suc n) zero e b =
    let number : v.number ≡ a = cc in
    let same : (a + 0 == v.number) ≡ true = grind (arith, nat_tests) in
    let one : times_in (Pipe (a + 0)) (map OfPipe (v ∷ vs)) ≡ 1 + times_in (Pipe (a + 0)) (map OfPipe vs) =
    ap (λ (t : Bool). (if t then 1 else 0) + times_in (Pipe (a + 0)) (map OfPipe vs)) same in
    omega arith
numbers_claim (v ∷ vs) a (suc n) (suc p) e b =
    let rest : map (λ v. v.number) vs ≡ range_with_len (a + 1) n = cc in
    let place : (a + 1) + p ≡ a + suc p = omega arith in
    let h : 1 ≤ times_in (Pipe (a + suc p)) (map OfPipe vs) =
    subst (λ (m : ℕ). 1 ≤ times_in (Pipe m) (map OfPipe vs)) place (numbers_claim vs (a + 1) n p rest (omega arith)) in
    omega arith

module _ (k : Config) (every : EveryStateMeets) (t : State (Unit {0}) Seated) (r : Ruled k t) (id : ℕ) (v : Seated)
    (at : get_elem? t.views id ≡ some v) (rest : AreAtRest k.layout v.actors) where
  -- each actor of the state is among the seat's
  claim : (y : View) → view_at r.state (actor_of y) ≡ Some y → 1 ≤ times_in (actor_of y) v.actors
  claim (OfController c) h =
      let are : times_in Controller v.actors ≡ 1 + times_in Controller (map OfPipe rest.pipes) = ap (times_in Controller) rest.are in
      omega arith
  claim (OfPipe w) h =
      let meets = every k r.fitted r.reached.events r.state r.reached.packets r.reached.leads in
      let config = reached_config_of k r.state r.reached in
      let count : length r.state.pipes ≡ k.layout.shape.pipes =
      meets.shape.pipes.count ∙ ap (λ (c : Config). c.layout.shape.pipes) config in
      let within : w.number < length r.state.pipes = slice_get_within r.state.pipes w.number w (pipe_here (slice_get r.state.pipes w.number) w h) in
      let one : 1 ≤ times_in (Pipe (0 + w.number)) (map OfPipe rest.pipes) =
      numbers_claim rest.pipes 0 k.layout.shape.pipes w.number rest.numbers (omega arith) in
      let here : 1 ≤ times_in (Pipe w.number) (map OfPipe rest.pipes) =
      subst (λ (m : ℕ). 1 ≤ times_in (Pipe m) (map OfPipe rest.pipes)) (zero-add w.number) one in
      let are : times_in (Pipe w.number) v.actors ≡ 0 + times_in (Pipe w.number) (map OfPipe rest.pipes) = ap (times_in (Pipe w.number)) rest.are in
      omega arith

  -- so no other seat has one
  no_other : (j : ℕ) (w : Seated) → j ≢ id → get_elem? t.views j ≡ some w → w.actors ≡ []
  no_other j w n e = by w.actors refl
    where
      by : (xs : List View) → w.actors ≡ xs → w.actors ≡ []
      by [] is = is
      by (y ∷ ys) is =
          let shown : AllShown r.state (y ∷ ys) = subst (AllShown r.state) is (r.shown j w e) in
          let one = claim y shown.0 in
          let own : times_in (actor_of y) w.actors ≡ 1 + times_in (actor_of y) ys =
          ap (times_in (actor_of y)) is
          ∙ ap (λ (b : Bool). (if b then 1 else 0) + times_in (actor_of y) ys) (same_actor-self (actor_of y)) in
          let both = claims_both (actor_of y) t.views id j v w n at e in
          let most = r.apart (actor_of y) in
          absurd (omega arith)

  -- the seat then
  abbrev knowing : Seated
  knowing = record { actors = v.actors; words = Some t.words }

  abbrev then_table : State (Unit {0}) Seated
  then_table = record { words = t.words; homes = t.homes; views = set t.views id knowing }

  -- no seat knew the words of which this one is another
  others_unsure : (j : ℕ) (o : Option (List ℕ)) → j ≢ id → IsSure t j o → IsSure then_table j o
  others_unsure j None n h = tt
  others_unsure j (Some list) n h =
      let none : v.actors ≡ [] = h.1 id v (λ e. n (sym e)) at in
      let some_view : v.actors ≡ OfController rest.controller ∷ map OfPipe rest.pipes = rest.are in absurd (cc)

  sure_then : (j : ℕ) (w : Seated) → get_elem? (set t.views id knowing) j ≡ some w → IsSure then_table j w.words
  sure_then j w e =
      ⊎_elim
      (λ p. subst (λ (u : Seated). IsSure then_table j u.words) p.1
      (refl, λ i u d g. ⊎_elim (λ q. absurd (d (q.0 ∙ sym p.0))) (λ q. no_other i u q.0 q.1) (at_set t.views id i knowing u g)))
      (λ p. others_unsure j w.words p.0 (r.sure j w p.1))
      (at_set t.views id j knowing w e)

  pub ruled_then : Ruled k then_table
  ruled_then = record {
    fitted = r.fitted;
    state = r.state;
    reached = r.reached;
    wide = r.wide;
    words = r.words;
    shown = λ j w e. ⊎_elim (λ p. subst (λ (u : Seated). AllShown r.state u.actors) p.1 (r.shown id v at)) (λ p. r.shown j w p.1)
        (at_set t.views id j knowing w e);
    apart = λ a. let c = claimed_set a t.views id v knowing at in let most = r.apart a in omega arith;
    sure = sure_then;
  }

pub learns : (k : Config) (every : EveryStateMeets) (h : Heard) (slots id word : ℕ) (v : Seated) → IsGood h → AreAtRest k.layout v.actors
    → Allows (Ruled k) slots id (v, []) word (λ n. n) (λ n me. Learns k h v me.0 × (me.1 ≡ []))
learns k every h slots id word v good rest t r wide at below =
    let words : set t.words word (slice_index t.words word) ≡ t.words = set-get_or t.words word 0 in
    let seat : Seated = record { actors = v.actors; words = Some t.words } in (
      seat,
      keeps,
      tt,
      subst (λ (l : List ℕ). Ruled k (record { words = l; homes = t.homes; views = set t.views id seat })) (sym words)
          (ruled_then k every t r id v at rest),
      (
        (
          refl,
          λ x y rest is heard.
              let shown : AllShown r.state (x ∷ rest) = subst (AllShown r.state) is (r.shown id v at) in
              let f : Follows k r.state (actor_of x) y r.state.words =
              follows_told k r.state h (actor_of x) x y r.state.words good (follows_self k r.state x r.reached shown.0) heard in
              record {
                shown = record {
                  fitted = r.fitted;
                  state = f.state;
                  reached = f.reached;
                  shown = shown_seat k t r id v x rest at is y r.state.words f;
                };
                words = subst (λ (ws : Name → ℕ). ShowsWords k.layout t.words ws) (sym f.words) r.words;
              },
        ),
        refl,
      ),
    )

-- in a caller's terms
pub learn_may : (made_for conf : Config) (h heard : Heard) (slots id word : ℕ) (me : Me (Unit {0}) Seated) → EveryStateMeets → IsGood h
    → made_for ≡ conf → h ≡ heard → me.1 ≡ [] → AreAtRest made_for.layout me.0.actors
    → Allows (Ruled made_for) slots id me word (λ n. n) (λ n w. Learns conf heard me.0 w.0 × (w.1 ≡ me.1))
learn_may made_for conf h heard slots id word me every good c t free rest =
    let whole : (me.0, []) ≡ me = ap (λ (r : List (ℕ × Unit {0})). (me.0, r)) (sym free) in
    subst (λ (k : Config). Allows (Ruled made_for) slots id me word (λ n. n) (λ n w. Learns k heard me.0 w.0 × (w.1 ≡ me.1))) c
    (subst (λ (j : Heard). Allows (Ruled made_for) slots id me word (λ n. n) (λ n w. Learns made_for j me.0 w.0 × (w.1 ≡ me.1))) t
    (subst (λ (m : Me (Unit {0}) Seated). Allows (Ruled made_for) slots id m word (λ n. n) (λ n w. Learns made_for h m.0 w.0 × (w.1 ≡ m.1))) whole
    (learns made_for every h slots id word me.0 good rest)))

module _ (made_for conf : Config) (h heard : Heard) (v w : Seated) where
  pub learned_back : made_for ≡ conf → h ≡ heard → Learns conf heard v w → Learns made_for h v w
  learned_back c t m = subst (λ (k : Config). Learns k h v w) (sym c) (subst (λ (j : Heard). Learns conf j v w) (sym t) m)

-- what the boards at rest know, said of the views that the boards fitted before
pub known_then : (made_for : Config) (h : Heard) (joined known : Seated) (views : List View) (k : Config) (y : View)
    → Learns made_for h joined known
    → ((k ≡ made_for) × (x : View) × (rest : List View) × (joined.actors ≡ x ∷ rest) × (told h k x ≡ Some y))
    → ((x : View) (rest : List View) → joined.actors ≡ x ∷ rest → rest ≡ views)
    → IsKnown k (y ∷ views) known.words
known_then made_for h joined known views k y learned (same, x, rest, is, heard) others =
    subst (λ (c : Config). IsKnown c (y ∷ views) known.words) (sym same)
    (subst (λ (vs : List View). IsKnown made_for (y ∷ vs) known.words) (others x rest is)
    (learned.1 x y rest is (subst (λ (c : Config). told h c x ≡ Some y) same heard)))
