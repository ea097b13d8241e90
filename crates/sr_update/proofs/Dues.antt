-- Which change is due first, and the list without it.
use Rattle.std.proofs.Common.{◌≡◌, ℕ, ◌+◌, ◌^◌, ◌<◌, ◌≤◌, Bool, true, false, cond, List, [], ◌∷◌, ◌++◌, length, drop, get_or, Option, Some, None, IsSome, refl, sym, ap, subst, ◌∙◌, length-drop, length-set, length-take, take, set, inl, inr, eqb, replicate, append-nil, append_assoc, arith}
use Rattle.std.specs.List.{find, AllByRecursion}
use Rattle.std.proofs.lemmas.Bool.Decides.{nat_tests, eqb_tells}
use Rattle.std.proofs.lemmas.List.{drop_all, drop_more, take_more, drop-drop, length-replicate, get_or-replicate, get_or_default, get_or-set_same, get_or-set_other}
use Rattle.std.proofs.lemmas.List.Sums.{count_by-le-length, sum_by-append}
use Rattle.sr_base.specs.declared.change.Change.{Change}
use Rattle.sr_base.specs.declared.change.What.{What}
use Rattle.sr_base.specs.declared.change.What.TheVariants.{Give, TakeDown}
use Rattle.sr_base.specs.Fitting.{IsInTime}
use Rattle.sr_update.specs.declared.give_change.GiveChange.{GiveChange}
use Rattle.sr_update.specs.Updates.{is_due, without_first, IsInOrder, UpdatesView, first_due, with_first_gone, gives_to, next_pool, give_of, gives_after, Pooled}

-- what holds of all holds of the one that is found
found_after : {X : Type 0} (P : X → Type 0) (test : X → Bool) (y x : X) (ys : List X) (b : Bool) → test y ≡ b → P y
    → (find test ys ≡ Some x → P x) → cond b (Some y) (find test ys) ≡ Some x → P x
found_after P test y x ys true is p rest h = subst P (cc) p
found_after P test y x ys false is p rest h = rest h

pub all_find : {X : Type 0} (P : X → Type 0) (test : X → Bool) (xs : List X) (x : X) → AllByRecursion P xs → find test xs ≡ Some x → P x
all_find P test [] x all h = absurd (cc)
all_find P test (y ∷ ys) x all h = found_after P test y x ys (test y) refl all.0 (all_find P test ys x all.1) h

-- ---- none is due

pub none_without_clock : (gives : List GiveChange) → find (is_due None) gives ≡ None
none_without_clock [] = refl
none_without_clock (give ∷ gives) = none_without_clock gives

pub none_later : (ms from : ℕ) (gives : List GiveChange) → IsInOrder from gives → ms < from → find (is_due (Some ms)) gives ≡ None
none_later ms from [] order late = refl
none_later ms from (give ∷ gives) order late =
    let off : is_due (Some ms) give ≡ false = grind (arith, nat_tests, order.0) in
    rw off (none_later ms give.at_ms gives order.1 (omega (arith, order.0)))

-- ---- the first of a list in order

pub order_from : (low high : ℕ) (gives : List GiveChange) → low ≤ high → IsInOrder high gives → IsInOrder low gives
order_from low high [] h order = tt
order_from low high (give ∷ gives) h order = (omega (arith, order.0), order.1)

pub order_rest : (from : ℕ) (gives : List GiveChange) → IsInOrder from gives → IsInOrder from (drop 1 gives)
order_rest from [] order = tt
order_rest from (give ∷ gives) order = order_from from give.at_ms gives order.0 order.1

-- a choice that is made is not none
not_none : {A : Type 0} {X : Type 0} (o : Option X) → o ≡ None → IsSome o → A
not_none None h some = absurd (cc)
not_none (Some x) h some = absurd (cc)

first_after : (clock : Option ℕ) (give : GiveChange) (gives : List GiveChange) (b : Bool) → is_due clock give ≡ b → IsInOrder give.at_ms gives
    → IsSome (cond b (Some give) (find (is_due clock) gives)) → cond b gives (give ∷ without_first (is_due clock) gives) ≡ gives
first_after clock give gives true is order some = refl
first_after None give gives false is order some = not_none _ (none_without_clock gives) some
first_after (Some ms) give gives false is order some =
    not_none _ (none_later ms give.at_ms gives order (grind (arith, nat_tests, is))) some

-- where one is due the first of the list is
pub first_gone : (clock : Option ℕ) (from : ℕ) (gives : List GiveChange) → IsInOrder from gives → IsSome (find (is_due clock) gives) → without_first (is_due clock) gives ≡ drop 1 gives
first_gone clock from [] order some = refl
first_gone clock from (give ∷ gives) order some = first_after clock give gives (is_due clock give) refl order.1 some

-- one is due of a list that isn't empty
pub some_left : (clock : Option ℕ) (gives : List GiveChange) → IsSome (find (is_due clock) gives) → 1 ≤ length gives
some_left clock [] some = absurd (cc)
some_left clock (give ∷ gives) some = omega arith

-- ---- the first of those that are left

pub none_left : (items : List GiveChange) (next : ℕ) (clock : Option ℕ) → length items ≤ next → None ≡ find (is_due clock) (drop next items)
none_left items next clock past = sym (ap (find (is_due clock)) (drop_all next items past))

pub none_off : (gives : List GiveChange) (clock : Option ℕ) → clock ≡ None → None ≡ find (is_due clock) gives
none_off gives clock off = sym (subst (λ (c : Option ℕ). find (is_due c) gives ≡ None) (sym off) (none_without_clock gives))

none_due_of : (clock : Option ℕ) (from ms : ℕ) (give : GiveChange) (gives : List GiveChange) → clock ≡ Some ms → IsInOrder from (give ∷ gives) → ms < give.at_ms
    → find (is_due clock) (give ∷ gives) ≡ None
none_due_of clock from ms give gives on order late =
    subst (λ (c : Option ℕ). find (is_due c) (give ∷ gives) ≡ None) (sym on) (none_later ms (ms + 1) (give ∷ gives) (omega arith, order.1) (omega arith))

pub none_due : (items : List GiveChange) (next ms : ℕ) (clock : Option ℕ) (give : GiveChange) → next < length items → give ≡ get_or items next give → IsInOrder 0 (drop next items)
    → clock ≡ Some ms → ms < give.at_ms → None ≡ find (is_due clock) (drop next items)
none_due items next ms clock give within is order on late =
    let e : drop next items ≡ give ∷ drop (next + 1) items = drop_more items next give within ∙ ap (λ (g : GiveChange). g ∷ drop (next + 1) items) (sym is) in
    sym (subst (λ (gs : List GiveChange). find (is_due clock) gs ≡ None) (sym e)
    (none_due_of clock 0 ms give (drop (next + 1) items) on (subst (IsInOrder 0) e order) late))

-- ---- one goes

pub pass_kept : (items : List GiveChange) (next : ℕ) (clock : Option ℕ) → IsInOrder 0 (drop next items) → IsSome (find (is_due clock) (drop next items))
    → (next + 1 ≤ length items) × IsInOrder 0 (drop (next + 1) items)
pass_kept items next clock order some =
    (omega (arith, some_left clock (drop next items) some, length-drop next items), subst (IsInOrder 0) (drop-drop 1 next items) (order_rest 0 (drop next items) order))

pub pass_view : (items : List GiveChange) (next : ℕ) (clock : Option ℕ) (old new now : UpdatesView) → old ≡ record { gives = drop next items; clock = clock }
    → new ≡ record { gives = drop (next + 1) items; clock = clock } → old ≡ now → IsInOrder 0 (drop next items) → IsSome (first_due now) → new ≡ with_first_gone now
pass_view items next clock old new now was is same order some =
    let made : List GiveChange → UpdatesView = λ gs. record { gives = gs; clock = clock } in
    let due : IsSome (find (is_due clock) (drop next items)) = subst (λ (u : UpdatesView). IsSome (first_due u)) (sym same ∙ was) some in
    is ∙ ap made (sym (drop-drop 1 next items) ∙ sym (first_gone clock 0 (drop next items) order due)) ∙ ap with_first_gone (sym was ∙ same)

-- ---- what changes give

gives_on : (before : List Change) (change : Change) (from : ℕ) (rest : List GiveChange) (what : What) → from ≤ change.at_ms → IsInOrder change.at_ms rest
    → IsInOrder from (give_of before change.at_ms what ++ rest)
gives_on before change from rest (Give vip pool) h order = (h, order)
gives_on before change from rest (TakeDown server) h order = order_from from change.at_ms rest h order

-- they are in order as the changes are
pub gives_in_order : (before changes : List Change) (from : ℕ) → IsInTime from changes → IsInOrder from (gives_after before changes)
gives_in_order before [] from order = tt
gives_in_order before (change ∷ changes) from order =
    gives_on before change from (gives_after (before ++ change ∷ []) changes) change.what order.0 (gives_in_order (before ++ change ∷ []) changes change.at_ms order.1)

-- one change more
pub gives_more : (before changes : List Change) (change : Change)
    → gives_after before (changes ++ change ∷ []) ≡ gives_after before changes ++ give_of (before ++ changes) change.at_ms change.what
gives_more before [] change = append-nil _ ∙ ap (λ (bs : List Change). give_of bs change.at_ms change.what) (sym (append-nil before))
gives_more before (first ∷ changes) change =
    ap (λ gs. give_of before first.at_ms first.what ++ gs) (gives_more (before ++ first ∷ []) changes change)
    ∙ sym (append_assoc (give_of before first.at_ms first.what) (gives_after (before ++ first ∷ []) changes) (give_of ((before ++ first ∷ []) ++ changes) change.at_ms change.what))
    ∙ ap (λ (bs : List Change). (give_of before first.at_ms first.what ++ gives_after (before ++ first ∷ []) changes) ++ give_of bs change.at_ms change.what)
    (append_assoc before (first ∷ []) changes)

-- ---- the next pool of each virtual address

pub pooled_few : (pools : List ℕ) (vip position n : ℕ) → vip < 256 → n ≡ get_or pools vip n → (before : List Change) × Pooled pools before × (length before ≡ position) → position < 2 ^ 32
    → n < 2 ^ 33
pooled_few pools vip position n within is h few =
    omega (arith, is, get_or_default pools vip n 0 (omega (arith, h.1.size)), h.1.next vip within, count_by-le-length (λ (change : Change). gives_to vip change.what) h.0, h.2)

pub pooled_start : (pools : List ℕ) (two : ℕ) → two ≡ 2 → pools ≡ replicate 256 two → Pooled pools []
pooled_start pools two is all =
    record { size = ap length all ∙ length-replicate 256 two; next = λ vip h. ap (λ xs. get_or xs vip 0) all ∙ get_or-replicate 256 vip two 0 h ∙ is }

noted_yes : (v vip n old_vip old_v new_v : ℕ) (b : Bool) → n ≡ old_vip → old_vip ≡ old_v → new_v ≡ old_v + cond b 1 0 → b ≡ true → n + 1 ≡ new_v
noted_yes v vip n old_vip old_v new_v true a b c d = omega arith
noted_yes v vip n old_vip old_v new_v false a b c d = absurd (cc)

noted_no : (old_v new_v : ℕ) (b : Bool) → new_v ≡ old_v + cond b 1 0 → b ≡ false → old_v ≡ new_v
noted_no old_v new_v true c d = absurd (cc)
noted_no old_v new_v false c d = omega arith

noted_next : (pools : List ℕ) (before : List Change) (change : Change) (vip n : ℕ) (pool : List ℕ) (v : ℕ) → change.what ≡ Give vip pool → vip < 256
    → n ≡ next_pool vip before → Pooled pools before → v < 256 → get_or (set pools vip (n + 1)) v 0 ≡ next_pool v (before ++ change ∷ [])
noted_next pools before change vip n pool v what within number p h =
    let counted : next_pool v (before ++ change ∷ []) ≡ next_pool v before + cond (gives_to v change.what) 1 0 =
    omega (arith, sum_by-append (λ (c : Change). cond (gives_to v c.what) 1 0) before (change ∷ [])) in
    let test : gives_to v change.what ≡ eqb vip v = ap (gives_to v) what in
    elim (eqb_tells vip v) [
      | inl e ↦ subst (λ (k : ℕ). get_or (set pools vip (n + 1)) k 0 ≡ next_pool v (before ++ change ∷ [])) e.1
          (get_or-set_same pools vip (n + 1) 0 (omega (arith, p.size)) ∙ noted_yes v vip n (next_pool vip before) (next_pool v before) (next_pool v (before ++ change ∷ [])) (gives_to v change.what)
          number (ap (λ k. next_pool k before) e.1) counted (test ∙ e.0))
      | inr e ↦ get_or-set_other pools vip v (n + 1) 0 (λ same. e.1 (sym same)) ∙ p.next v h
          ∙ noted_no (next_pool v before) (next_pool v (before ++ change ∷ [])) (gives_to v change.what) counted (test ∙ e.0)
    ]

-- a change that gives
pub noted : (pools : List ℕ) (gives : List GiveChange) (before : List Change) (change : Change) (vip n position : ℕ) (pool : List ℕ) → change.what ≡ Give vip pool → vip < 256
    → n ≡ get_or pools vip n → Pooled pools before → length before ≡ position
    → (gives ++ record { at_ms = change.at_ms; position = position; vip = vip; pool = n } ∷ [] ≡ gives ++ give_of before change.at_ms change.what)
    × Pooled (set pools vip (n + 1)) (before ++ change ∷ [])
noted pools gives before change vip n position pool what within is p size =
    let number : n ≡ next_pool vip before = is ∙ get_or_default pools vip n 0 (omega (arith, p.size)) ∙ p.next vip within in
    let made : ℕ → ℕ → List GiveChange = λ at k. gives ++ record { at_ms = change.at_ms; position = at; vip = vip; pool = k } ∷ [] in (
      ap (λ at. made at n) (sym size) ∙ ap (made (length before)) number ∙ ap (λ w. gives ++ give_of before change.at_ms w) (sym what),
      record {
        size = length-set pools vip (n + 1) ∙ p.size;
        next = λ v h. noted_next pools before change vip n pool v what within number p h;
      },
    )

-- a change more
pub gives_step : (changes : List Change) (i : ℕ) (change : Change) (pools new_pools : List ℕ) (gives new_gives : List GiveChange) → i < length changes
    → change ≡ get_or changes i change → gives ≡ gives_after [] (take i changes) → Pooled pools (take i changes)
    → ((before : List Change) → Pooled pools before → length before ≡ i → (new_gives ≡ gives ++ give_of before change.at_ms change.what) × Pooled new_pools (before ++ change ∷ []))
    → (new_gives ≡ gives_after [] (take (i + 1) changes)) × Pooled new_pools (take (i + 1) changes)
gives_step changes i change pools new_pools gives new_gives within is given pooled step =
    let more : take (i + 1) changes ≡ take i changes ++ change ∷ [] =
    take_more changes i change within ∙ ap (λ (c : Change). take i changes ++ c ∷ []) (sym is) in
    let now = step (take i changes) pooled (omega (arith, length-take i changes)) in (
      now.0 ∙ ap (λ (gs : List GiveChange). gs ++ give_of (take i changes) change.at_ms change.what) given ∙ sym (gives_more [] (take i changes) change)
          ∙ ap (gives_after []) (sym more),
      subst (Pooled new_pools) (sym more) now.1,
    )
