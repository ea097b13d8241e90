-- A seat's step keeps the rule, and is one that the machine makes.
use Rattle.std.proofs.Common.{◌≡◌, ◌≢◌, ◌∙◌, ℕ, ◌+◌, ◌≤◌, ◌%◌, ◌^◌, Bool, List, [], ◌∷◌, length, set, Option, Some, None, bit_or, slice_index, refl, sym, ap, subst, ⊎_elim, arith, if◌then◌else◌}
use Rattle.std.proofs.lemmas.List.{length-set}
use Rattle.std.proofs.lemmas.Option.{same_Some}
use Rattle.atomic_table.proofs.Lists.{at_set}
use Rattle.atomic_table.specs.Table.{Allows, Me, State, keeps}
use Rattle.sr_base.specs.Layout.{LayoutView}
use Rattle.sr_base.specs.WordName.{HasWord, StoresApart, StoresStand, place_of, with_word, word_at, words_of}
use Rattle.sr_core.proofs.Showing.{shows_store}
use Rattle.sr_core.specs.PlainWords.{ShowsWords}
use Rattle.sr_machine.proofs.Words.{named_there, rewritten_same}
use Rattle.sr_base.specs.declared.word_name.WordName.{WordName}
use Rattle.sr_machine.specs.Boards.{FitsAfter, IsNext, ShowsAfter}
use Rattle.sr_machine.specs.Config.{Config}
use Rattle.sr_machine.specs.Core.{view_after, view_at, view_op}
use Rattle.sr_machine.specs.Names.{name_for, rewritten, word_name}
use Rattle.sr_machine.specs.Ops.{op_answer, op_change, op_name, op_words}
use Rattle.sr_machine.specs.declared.actor.Actor.{Actor}
use Rattle.sr_machine.specs.declared.name.Name.{Name}
use Rattle.sr_machine.specs.declared.op.Op.{Op}
use Rattle.sr_machine.specs.declared.op.Op.TheVariants.{Adds, Loads, Ors, Stores, Swaps}
use Rattle.sr_machine.specs.declared.view.View.{View}
use Rattle.sr_words.proofs.Claims.{claimed_set, claims_both, same_actor-self, shown_others}
use Rattle.sr_words.proofs.Follows.{Follows, after_actor, follows_self, follows_step, follows_told}
use Rattle.sr_words.specs.Besides.{all_but_first}
use Rattle.sr_words.specs.Hearing.{IsGood, told}
use Rattle.sr_words.specs.Rule.{Ruled}
use Rattle.sr_words.specs.Seats.{AllShown, IsSure, ShowsKnown, actor_of, claimed, same_actor, seated, still_known, times_in}
use Rattle.sr_words.specs.Steps.{FitsSeat, IsStepFrom, Looks, Makes}
use Rattle.sr_words.specs.declared.heard.Heard.{Heard}
use Rattle.sr_words.specs.declared.heard.Heard.TheVariants.{Nothing}
use Rattle.sr_words.specs.declared.seated.Seated.{Seated}
use lib.ListN.{get_elem?}
use mathlib.Core.Option.{some}

-- ---- the words

module _ (l : LayoutView) (list : List ℕ) (words : Name → ℕ) (stand : StoresStand l) (apart : StoresApart l)
    (wide : words_of l ≤ length list) (shows : ShowsWords l list words) where
  stored : (a : Name) (x : ℕ) → HasWord l (word_name a) → ShowsWords l (with_word l list (word_name a) x) (rewritten words a x)
  stored = shows_store l list words stand apart wide shows

  -- the words of the table after a step are those of the machine
  shows_op : (o : Op) → HasWord l (word_name (op_name o))
      → ShowsWords l (with_word l list (word_name (op_name o)) (op_change o (word_at l list (word_name (op_name o))))) (op_words words o)
  shows_op (Loads a) h = λ b has.
      stored a (word_at l list (word_name a)) h b has
      ∙ ap (λ x. rewritten words a x b) (shows a h) ∙ rewritten_same words a b
  shows_op (Stores a x) h = stored a x h
  shows_op (Swaps a x) h = stored a x h
  shows_op (Adds a n) h =
      subst (λ (m : ℕ). ShowsWords l (with_word l list (word_name a) ((word_at l list (word_name a) + n) % 2 ^ 64))
      (rewritten words a ((m + n) % 2 ^ 64))) (shows a h) (stored a ((word_at l list (word_name a) + n) % 2 ^ 64) h)
  shows_op (Ors a n) h =
      subst (λ (m : ℕ). ShowsWords l (with_word l list (word_name a) (bit_or (word_at l list (word_name a)) n))
      (rewritten words a (bit_or m n))) (shows a h) (stored a (bit_or (word_at l list (word_name a)) n) h)

-- ---- the seats

-- the actor of a seat's first view stands nowhere else
module _ (k : Config) (t : State (Unit {0}) Seated) (r : Ruled k t) (id : ℕ) (v : Seated) (x : View) (rest : List View)
    (at : get_elem? t.views id ≡ some v) (is : v.actors ≡ x ∷ rest) where
  first_claim : times_in (actor_of x) v.actors ≡ 1 + times_in (actor_of x) rest
  first_claim =
      ap (times_in (actor_of x)) is
      ∙ ap (λ (b : Bool). (if b then 1 else 0) + times_in (actor_of x) rest) (same_actor-self (actor_of x))

  own_claim : times_in (actor_of x) rest ≡ 0
  own_claim =
      let c = claimed_set (actor_of x) t.views id v (seated []) at in
      let one = first_claim in
      let most = r.apart (actor_of x) in omega arith

  other_claim : (j : ℕ) (w : Seated) → j ≢ id → get_elem? t.views j ≡ some w → times_in (actor_of x) w.actors ≡ 0
  other_claim j w n e =
      let both = claims_both (actor_of x) t.views id j v w n at e in
      let one = first_claim in
      let most = r.apart (actor_of x) in omega arith

  -- the views after a step of the seat
  module _ (z : View) (words : Name → ℕ) (f : Follows k r.state (actor_of x) z words) where
    -- the seat then, once the table's words are these
    abbrev then_seat : List ℕ → Seated
    then_seat list = record { actors = z ∷ rest; words = still_known v.words list }

    shown_rest : AllShown f.state rest
    shown_rest =
        shown_others r.state f.state (actor_of x) rest f.others own_claim
        (subst (AllShown r.state) is (r.shown id v at)).1

    pub shown_seat : AllShown f.state (z ∷ rest)
    shown_seat = (subst (λ (a : Actor). view_at f.state a ≡ Some z) (sym f.actor) f.here, shown_rest)

    shown_after : (list : List ℕ) (j : ℕ) (w : Seated) → get_elem? (set t.views id (then_seat list)) j ≡ some w → AllShown f.state w.actors
    shown_after list j w e =
        ⊎_elim (λ p. subst (λ (u : Seated). AllShown f.state u.actors) p.1 shown_seat)
        (λ p. shown_others r.state f.state (actor_of x) w.actors f.others (other_claim j w p.0 p.1) (r.shown j w p.1))
        (at_set t.views id j (then_seat list) w e)

    apart_after : (list : List ℕ) (a : Actor) → claimed a (set t.views id (then_seat list)) ≤ 1
    apart_after list a =
        let c = claimed_set a t.views id v (then_seat list) at in
        let most = r.apart a in
        let same : times_in a v.actors ≡ times_in a (z ∷ rest) =
        ap (times_in a) is ∙ ap (λ (b : Actor). (if same_actor a b then 1 else 0) + times_in a rest) (sym f.actor) in
        omega arith

    -- the table then
    abbrev then_table : List ℕ → State (Unit {0}) Seated
    then_table list = record { words = list; homes = t.homes; views = set t.views id (then_seat list) }

    own_sure : (list : List ℕ) (o : Option (List ℕ)) → IsSure t id o → IsSure (then_table list) id (still_known o list)
    own_sure list None h = tt
    own_sure list (Some old) h =
        (refl, λ j w n e. ⊎_elim (λ p. absurd (n p.0)) (λ p. h.1 j w p.0 p.1) (at_set t.views id j (then_seat list) w e))

    -- no other seat knows the words, since this one has an actor
    no_other_sure : (list : List ℕ) (j : ℕ) (o : Option (List ℕ)) → j ≢ id → IsSure t j o → IsSure (then_table list) j o
    no_other_sure list j None n h = tt
    no_other_sure list j (Some old) n h =
        let none : v.actors ≡ [] = h.1 id v (λ e. n (sym e)) at in
        let some_view : v.actors ≡ x ∷ rest = is in absurd (cc)

    sure_after : (list : List ℕ) (j : ℕ) (w : Seated) → get_elem? (set t.views id (then_seat list)) j ≡ some w
        → IsSure (then_table list) j w.words
    sure_after list j w e =
        ⊎_elim
        (λ p. subst (λ (u : Seated). IsSure (then_table list) j u.words) p.1
        (subst (λ (i : ℕ). IsSure (then_table list) i (still_known v.words list)) (sym p.0) (own_sure list v.words (r.sure id v at))))
        (λ p. no_other_sure list j w.words p.0 (r.sure j w p.1))
        (at_set t.views id j (then_seat list) w e)

    ruled_after : (list : List ℕ) → words_of k.layout ≤ length list → ShowsWords k.layout list words → Ruled k (then_table list)
    ruled_after list wide shows = record {
      fitted = r.fitted;
      state = f.state;
      reached = f.reached;
      wide = wide;
      words = subst (λ (w : Name → ℕ). ShowsWords k.layout list w) (sym f.words) shows;
      shown = shown_after list;
      apart = apart_after list;
      sure = sure_after list;
    }

-- ---- a step

module _ (k : Config) (h : Heard) (slots id : ℕ) (v : Seated) (x y : View) (rest : List View) (o : Op) (stand : StoresStand k.layout)
    (apart : StoresApart k.layout) (good : IsGood h) (is : v.actors ≡ x ∷ rest) (heard : told h k x ≡ Some y)
    (next : view_op k y ≡ Some o) (named : HasWord k.layout (word_name (op_name o))) where
  abbrev place : ℕ
  place = place_of k.layout (word_name (op_name o))

  -- the seat after the step, which answered this, once the table's words are these
  abbrev pub stepped_seat : ℕ → List ℕ → Seated
  stepped_seat n list = record { actors = view_after k y n ∷ rest; words = still_known v.words list }

  -- what the step tells
  pub makes_of : (n : ℕ) (list : List ℕ) → IsStepFrom k (y ∷ rest) o n
      → ShowsAfter (ShowsKnown k.layout v.words) o n (ShowsKnown k.layout (still_known v.words list))
      → Makes k h v n (stepped_seat n list)
  makes_of n list step told_words x2 y2 rest2 o2 is2 heard2 next2 =
      let xs : x ∷ rest ≡ x2 ∷ rest2 = sym is ∙ is2 in
      let first : x ≡ x2 = cc in
      let others : rest ≡ rest2 = cc in
      let ys : y ≡ y2 = same_Some y y2 (sym heard ∙ ap (told h k) first ∙ heard2) in
      let os : o ≡ o2 = same_Some o o2 (sym next ∙ ap (view_op k) ys ∙ next2) in (
        ap (λ (u : View). view_after k u n ∷ rest) ys ∙ ap (λ (l : List View). view_after k y2 n ∷ l) others,
        subst (λ (p : Op). IsStepFrom k (y2 ∷ rest2) p n) os
            (subst (λ (l : List View). IsStepFrom k (y2 ∷ l) o n) others
            (subst (λ (u : View). IsStepFrom k (u ∷ rest) o n) ys step)),
        subst (λ (p : Op). ShowsAfter (ShowsKnown k.layout v.words) p n (ShowsKnown k.layout (still_known v.words list))) os told_words,
      )

  -- where the seat knows the words, it knows them after the step too
  known_after : (n : ℕ) (known : Option (List ℕ)) (list : List ℕ) → words_of k.layout ≤ length list
      → ((words : List ℕ) → known ≡ Some words → words ≡ list)
      → n ≡ op_answer o (slice_index list place)
      → ShowsAfter (ShowsKnown k.layout known) o n
      (ShowsKnown k.layout (still_known known (set list place (op_change o (slice_index list place)))))
  known_after n None list wide same answered words shows = absurd shows
  known_after n (Some old) list wide same answered words shows =
      let here : ShowsWords k.layout list words = subst (λ (ws : List ℕ). ShowsWords k.layout ws words) (same old refl) shows in
      (answered ∙ ap (op_answer o) (here (op_name o) named), shows_op k.layout list words stand apart wide here o named)

  -- what a seat knows of the words is so
  sure_words : (t : State (Unit {0}) Seated) (known : Option (List ℕ)) → IsSure t id known → (words : List ℕ) → known ≡ Some words
      → words ≡ t.words
  sure_words t None s words e = cc
  sure_words t (Some old) s words e = sym (same_Some old words e) ∙ s.0

  pub step_allowed : Allows (Ruled k) slots id (v, []) place (op_change o)
      (λ n me. Makes k h v (op_answer o n) me.0 × (me.1 ≡ []))
  step_allowed t r wide at below =
      let shown : AllShown r.state (x ∷ rest) = subst (AllShown r.state) is (r.shown id v at) in
      let f : Follows k r.state (actor_of x) y r.state.words =
      follows_told k r.state h (actor_of x) x y r.state.words good (follows_self k r.state x r.reached shown.0) heard in
      let found : slice_index t.words place ≡ r.state.words (op_name o) = r.words (op_name o) named in
      let n : ℕ = op_answer o (r.state.words (op_name o)) in
      let answered : n ≡ op_answer o (slice_index t.words place) = ap (op_answer o) (sym found) in
      let z : View = view_after k y n in
      let g : Follows k r.state (actor_of x) z (op_words r.state.words o) =
      follows_step k r.state (actor_of x) y r.state.words f o next (after_actor k y n ∙ f.actor) in
      let step : IsStepFrom k (y ∷ rest) o n = record {
        fitted = r.fitted;
        state = f.state;
        reached = f.reached;
        shown = shown_seat k t r id v x rest at is y r.state.words f;
        answers = ap (λ (w : Name → ℕ). op_answer o (w (op_name o))) (sym f.words);
      } in
      let list : List ℕ = set t.words place (op_change o (slice_index t.words place)) in (
        record { actors = z ∷ rest; words = still_known v.words list },
        keeps,
        tt,
        ruled_after k t r id v x rest at is z (op_words r.state.words o) g
            list
            (subst (λ (m : ℕ). words_of k.layout ≤ m) (sym (length-set t.words place (op_change o (slice_index t.words place)))) r.wide)
            (shows_op k.layout t.words r.state.words stand apart r.wide r.words o named),
        (
          subst (λ (m : ℕ). Makes k h v m (record { actors = z ∷ rest; words = still_known v.words list })) answered
              (makes_of n list step (known_after n v.words t.words r.wide (sure_words t v.words (r.sure id v at)) answered)),
          refl,
        ),
      )

-- ---- in a caller's terms

module _ (made_for conf : Config) (h heard : Heard) (v w : Seated) where
  pub made_back : (n : ℕ) → made_for ≡ conf → h ≡ heard → Makes conf heard v n w → Makes made_for h v n w
  made_back n c t m =
      subst (λ (k : Config). Makes k h v n w) (sym c) (subst (λ (j : Heard). Makes conf j v n w) (sym t) m)

  pub looked_back : made_for ≡ conf → h ≡ heard → Looks conf heard v w → Looks made_for h v w
  looked_back c t m = subst (λ (k : Config). Looks k h v w) (sym c) (subst (λ (j : Heard). Looks conf j v w) (sym t) m)

module _ (made_for conf : Config) (h heard : Heard) (slots id : ℕ) (me : Me (Unit {0}) Seated) (l : LayoutView) (o : Op) (stand : StoresStand l)
    (apart : StoresApart l) (good : IsGood h) (layout : l ≡ made_for.layout) (c : made_for ≡ conf) (t : h ≡ heard) (free : me.1 ≡ [])
    (next : IsNext (FitsSeat made_for me.0 h) o) where
  pub step_may : (at : WordName) (place : ℕ) → op_name o ≡ name_for at → HasWord l at → place ≡ place_of l at
      → Allows (Ruled made_for) slots id me place (op_change o) (λ n w. Makes conf heard me.0 (op_answer o n) w.0 × (w.1 ≡ me.1))
  step_may at place is has placed =
      let f = next.2 in
      let word : word_name (op_name o) ≡ at = ap word_name is ∙ named_there at in
      let told_it : told h made_for f.1 ≡ Some next.1 = subst (λ (k : Config). told h k f.1 ≡ Some next.1) f.0 f.4 in
      let op : view_op made_for next.1 ≡ Some o = subst (λ (k : Config). view_op k next.1 ≡ Some o) f.0 next.3 in
      let there : HasWord made_for.layout (word_name (op_name o)) =
      subst (λ (m : LayoutView). HasWord m (word_name (op_name o))) layout (subst (HasWord l) (sym word) has) in
      let where_it_is : place_of made_for.layout (word_name (op_name o)) ≡ place =
      ap (λ (m : LayoutView). place_of m (word_name (op_name o))) (sym layout) ∙ ap (place_of l) word ∙ sym placed in
      let whole : (me.0, []) ≡ me = ap (λ (r : List (ℕ × Unit {0})). (me.0, r)) (sym free) in
      subst (λ (k : Config). Allows (Ruled made_for) slots id me place (op_change o)
      (λ n w. Makes k heard me.0 (op_answer o n) w.0 × (w.1 ≡ me.1))) c
      (subst (λ (j : Heard). Allows (Ruled made_for) slots id me place (op_change o)
      (λ n w. Makes made_for j me.0 (op_answer o n) w.0 × (w.1 ≡ me.1))) t
      (subst (λ (m : Me (Unit {0}) Seated). Allows (Ruled made_for) slots id m place (op_change o)
      (λ n w. Makes made_for h m.0 (op_answer o n) w.0 × (w.1 ≡ m.1))) whole
      (subst (λ (p : ℕ). Allows (Ruled made_for) slots id (me.0, []) p (op_change o)
      (λ n w. Makes made_for h me.0 (op_answer o n) w.0 × (w.1 ≡ []))) where_it_is
      (step_allowed made_for h slots id me.0 f.1 next.1 f.2 o (subst StoresStand layout stand) (subst StoresApart layout apart) good f.3 told_it op there))))

-- ---- what a board fits then, and which words it shows

module _ (made_for made_then : Config) (h : Heard) (old new : Seated) (o : Op) (n : ℕ) (now : Heard) (same : made_then ≡ made_for) (nothing : now ≡ Nothing)
    (made : Makes made_for h old n new) where
  pub fits_after : FitsAfter (FitsSeat made_for old h) o n (FitsSeat made_then new now)
  fits_after k v f next =
      let m = made f.1 v f.2 o f.3 (subst (λ (c : Config). told h c f.1 ≡ Some v) f.0 f.4)
      (subst (λ (c : Config). view_op c v ≡ Some o) f.0 next) in
      (f.0 ∙ sym same, view_after k v n, f.2, m.0 ∙ ap (λ (c : Config). view_after c v n ∷ f.2) (sym f.0), ap (λ (j : Heard). told j k (view_after k v n)) nothing)

  pub joined_after : IsNext (FitsSeat made_for old h) o → all_but_first new.actors ≡ all_but_first old.actors
  joined_after (k, v, f, next) =
      let m = made f.1 v f.2 o f.3 (subst (λ (c : Config). told h c f.1 ≡ Some v) f.0 f.4)
      (subst (λ (c : Config). view_op c v ≡ Some o) f.0 next) in
      ap all_but_first m.0 ∙ sym (ap all_but_first f.3)

  pub shows_then : (l now : LayoutView) → l ≡ made_for.layout → now ≡ l → IsNext (FitsSeat made_for old h) o
      → ShowsAfter (ShowsKnown l old.words) o n (ShowsKnown now new.words)
  shows_then l now layout kept (k, v, f, next) =
      let m = made f.1 v f.2 o f.3 (subst (λ (c : Config). told h c f.1 ≡ Some v) f.0 f.4)
      (subst (λ (c : Config). view_op c v ≡ Some o) f.0 next) in
      subst (λ (a : LayoutView). ShowsAfter (ShowsKnown l old.words) o n (ShowsKnown a new.words)) (sym kept)
      (subst (λ (a : LayoutView). ShowsAfter (ShowsKnown a old.words) o n (ShowsKnown a new.words)) (sym layout) m.2)
