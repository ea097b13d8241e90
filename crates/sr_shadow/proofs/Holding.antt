-- Who holds a place, and whose Live place it is.
use Rattle.std.proofs.Common.{◌≡◌, ◌≤◌, Bool, true, false, cond, ◌&&◌, ◌||◌, List, [], ◌∷◌, find, sum_by, Option, None, Some, option_map, is_some, refl, sym, ◌∙◌, ap, subst, true≢false, arith}
use Rattle.std.specs.Prelude.{IfSome}
use Rattle.std.proofs.lemmas.Bool.Decides.{nat_tests}
use Rattle.std.proofs.lemmas.List.Sums.{sum_by-cons}
use Rattle.std.specs.List.{list_any}
use Rattle.sr_base.specs.Key.{KeyView, same_key}
use Rattle.sr_base.specs.declared.place.Place.{Place}
use Rattle.sr_shadow.specs.Book.{entry_for, holder_of, is_registered, DistinctKeys, HeldOnce}
use Rattle.sr_shadow.specs.Entry.{holds, is_at, is_of, is_placed, times_held}
use Rattle.sr_shadow.specs.Plan.{entry_at, IsUnplaced}
use Rattle.sr_shadow.specs.declared.entry.Entry.{Entry}
use Rattle.sr_shadow.specs.Moves.{if_at, NonePlaced}
use Rattle.sr_base.proofs.Sameness.{same_key-true, same_key-self}
use Rattle.sr_shadow.proofs.Finding.{found_passes}
use Rattle.sr_shadow.proofs.Splits.{some_same}

-- what is found and passes another test makes that test true of some entry
pub found_any : (p q : Entry → Bool) (es : List Entry) (e : Entry) → find p es ≡ Some e → q e ≡ true → list_any q es ≡ true
found_any p q [] e h t = absurd cc
found_any p q (x ∷ xs) e h t = by (p x) (λ f. found_any p q xs e f t) h
  where
    either : (a b : Bool) → b ≡ true → (a || b) ≡ true
    either true b e = refl
    either false b e = e

    by : (b : Bool) → (find p xs ≡ Some e → list_any q xs ≡ true) → cond b (Some x) (find p xs) ≡ Some e → (q x || list_any q xs) ≡ true
    by true more h = ap (λ b. b || list_any q xs) (subst (λ y. q y ≡ true) (sym (some_same x e h)) t)
    by false more h = either (q x) (list_any q xs) (more h)

-- the entry that is found is its key's
pub found_own : (p : Entry → Bool) (es : List Entry) (e : Entry) → DistinctKeys es → find p es ≡ Some e → entry_for e.key es ≡ Some e
found_own p [] e d h = absurd cc
found_own p (x ∷ xs) e d h = by (p x) (found_own p xs e d.1) h
  where
    other : (b : Bool) → is_of e.key x ≡ b → find p xs ≡ Some e → entry_for e.key xs ≡ Some e → cond b (Some x) (entry_for e.key xs) ≡ Some e
    other true same h more =
        let key : e.key ≡ x.key = same_key-true e.key x.key same in
        let twice : is_registered x.key xs ≡ true = found_any p (is_of x.key) xs e h (subst (λ k. same_key k e.key ≡ true) key (same_key-self e.key)) in
        absurd (true≢false (sym twice ∙ d.0))
    other false apart h more = more

    by : (b : Bool) → (find p xs ≡ Some e → entry_for e.key xs ≡ Some e) → cond b (Some x) (find p xs) ≡ Some e → cond (is_of e.key x) (Some x) (entry_for e.key xs) ≡ Some e
    by true more h =
        let same : x ≡ e = some_same x e h in
        let own : is_of e.key x ≡ true = subst (λ y. same_key y.key x.key ≡ true) same (same_key-self x.key) in
        ap (λ b. cond b (Some x) (entry_for e.key xs)) own ∙ h
    by false more h = other (is_of e.key x) refl h (more h)

-- a place that is held no time is nobody's Live place, and nobody holds it
none_at : (place : Place) (es : List Entry) → sum_by (times_held place) es ≡ 0 → entry_at place es ≡ None
none_at place [] h = refl
none_at place (e ∷ es) h = grind (arith, nat_tests, none_at place es, sum_by-cons (times_held place) e es)

pub none_holds : (place : Place) (es : List Entry) → sum_by (times_held place) es ≡ 0 → list_any (holds place) es ≡ false
none_holds place [] h = refl
none_holds place (e ∷ es) h = grind (arith, nat_tests, none_holds place es, sum_by-cons (times_held place) e es)

-- the first that holds a place, where it is its Live place, is the first whose Live place it is
live_at : (place : Place) (es : List Entry) (e : Entry) → find (holds place) es ≡ Some e → is_at place e.place ≡ true → entry_at place es ≡ Some e
live_at place [] e h t = absurd cc
live_at place (x ∷ xs) e h t = by (is_at place x.place) (is_at place x.also) refl refl (λ f. live_at place xs e f t) h
  where
    by : (a b : Bool) → is_at place x.place ≡ a → is_at place x.also ≡ b → (find (holds place) xs ≡ Some e → entry_at place xs ≡ Some e) → cond (a || b) (Some x) (find (holds place) xs) ≡ Some e → cond (is_at place x.place) (Some x) (entry_at place xs) ≡ Some e
    by true b s r more h = ap (λ c. cond c (Some x) (entry_at place xs)) s ∙ h
    by false true s r more h = absurd (true≢false (sym t ∙ subst (λ y. is_at place y.place ≡ false) (some_same x e h) s))
    by false false s r more h = ap (λ c. cond c (Some x) (entry_at place xs)) s ∙ more h

-- where it isn't, it is nobody's
not_live_at : (place : Place) (es : List Entry) (e : Entry) → sum_by (times_held place) es ≤ 1 → find (holds place) es ≡ Some e → is_at place e.place ≡ false → entry_at place es ≡ None
not_live_at place [] e once h t = refl
not_live_at place (x ∷ xs) e once h t = by (is_at place x.place) (is_at place x.also) refl refl (λ few f. not_live_at place xs e few f t) h
  where
    by : (a b : Bool) → is_at place x.place ≡ a → is_at place x.also ≡ b → (sum_by (times_held place) xs ≤ 1 → find (holds place) xs ≡ Some e → entry_at place xs ≡ None) → cond (a || b) (Some x) (find (holds place) xs) ≡ Some e → cond (is_at place x.place) (Some x) (entry_at place xs) ≡ None
    by true b s r more h = absurd (true≢false (sym (subst (λ y. is_at place y.place ≡ true) (some_same x e h) s) ∙ t))
    by false true s r more h =
        let rest : sum_by (times_held place) xs ≡ 0 = grind (arith, nat_tests, sum_by-cons (times_held place) x xs) in
        ap (λ c. cond c (Some x) (entry_at place xs)) s ∙ none_at place xs rest
    by false false s r more h =
        let rest : sum_by (times_held place) xs ≤ 1 = grind (arith, nat_tests, sum_by-cons (times_held place) x xs) in
        ap (λ c. cond c (Some x) (entry_at place xs)) s ∙ more rest h

-- a place that nobody holds is nobody's Live place
pub none_held : (place : Place) (es : List Entry) → holder_of place es ≡ None → entry_at place es ≡ None
none_held place [] h = refl
none_held place (x ∷ xs) h = by (is_at place x.place) (is_at place x.also) refl refl (none_held place xs) h
  where
    by : (a b : Bool) → is_at place x.place ≡ a → is_at place x.also ≡ b → (holder_of place xs ≡ None → entry_at place xs ≡ None) → option_map (λ e. e.key) (cond (a || b) (Some x) (find (holds place) xs)) ≡ None
        → cond (is_at place x.place) (Some x) (entry_at place xs) ≡ None
    by true b s r more h = absurd cc
    by false true s r more h = absurd cc
    by false false s r more h = ap (λ c. cond c (Some x) (entry_at place xs)) s ∙ more h

-- the holder's entry, if the place is its Live place
pub held_at : (place : Place) (key : KeyView) (es : List Entry) → DistinctKeys es → HeldOnce es → holder_of place es ≡ Some key → entry_at place es ≡ if_at place (entry_for key es)
held_at place key es distinct once holder = by_found (find (holds place) es) refl holder
  where
    some_key : (a b : KeyView) → Some a ≡ Some b → a ≡ b
    some_key a b p = grind arith

    by_live : (x : Entry) (b : Bool) → is_at place x.place ≡ b → find (holds place) es ≡ Some x → entry_at place es ≡ cond b (Some x) None
    by_live x true t here = live_at place es x here t
    by_live x false t here = not_live_at place es x (once place) here t

    by_found : (f : Option Entry) → find (holds place) es ≡ f → option_map (λ x. x.key) f ≡ Some key → entry_at place es ≡ if_at place (entry_for key es)
    by_found None f h = absurd cc
    by_found (Some x) f h =
        let k : x.key ≡ key = some_key x.key key h in
        let own : entry_for key es ≡ Some x = subst (λ y. entry_for y es ≡ Some x) k (found_own (holds place) es x distinct f) in
        by_live x (is_at place x.place) refl f ∙ ap (if_at place) (sym own)

-- a key's entry is its own
pub own_found : (key : KeyView) (es : List Entry) (e : Entry) → entry_for key es ≡ Some e → entry_for e.key es ≡ Some e
own_found key es e h = subst (λ k. entry_for k es ≡ Some e) (same_key-true key e.key (found_passes (is_of key) es e h)) h

-- and so is the one that is kept
pub kept_own : (place : Place) (key : KeyView) (es : List Entry) (e : Entry) → if_at place (entry_for key es) ≡ Some e → entry_for e.key es ≡ Some e
kept_own place key es e h = by (entry_for key es) refl h
  where
    keep : (b : Bool) (x : Entry) → cond b (Some x) None ≡ Some e → x ≡ e
    keep true x h = some_same x e h
    keep false x h = absurd cc

    by : (o : Option Entry) → entry_for key es ≡ o → if_at place o ≡ Some e → entry_for e.key es ≡ Some e
    by None o h = absurd cc
    by (Some x) o h = own_found key es e (o ∙ ap Some (keep (is_at place x.place) x h))

-- an entry of a key that isn't registered is placed nowhere
none_there : (key : KeyView) (es : List Entry) → is_registered key es ≡ false → NonePlaced key es
none_there key [] h = refl
none_there key (x ∷ xs) h = by (is_of key x) refl h (none_there key xs)
  where
    by : (b : Bool) → is_of key x ≡ b → (b || is_registered key xs) ≡ false → (is_registered key xs ≡ false → NonePlaced key xs) → ((is_of key x && is_placed x) || list_any (λ e. is_of key e && is_placed e) xs) ≡ false
    by true t h more = absurd cc
    by false t h more = ap (λ b. (b && is_placed x) || list_any (λ e. is_of key e && is_placed e) xs) t ∙ more h

-- where the key's entry has no Live place, no entry of the key has one
pub none_placed : (key : KeyView) (es : List Entry) → DistinctKeys es → IsUnplaced key es → NonePlaced key es
none_placed key [] d h = refl
none_placed key (x ∷ xs) d h = by (is_of key x) refl h (none_placed key xs d.1)
  where
    bare : (p : Option Place) → p ≡ None → is_some p ≡ false
    bare p e = ap is_some e

    by : (b : Bool) → is_of key x ≡ b → IfSome (cond b (Some x) (entry_for key xs)) (λ e. e.place ≡ None) → (IsUnplaced key xs → NonePlaced key xs)
        → ((is_of key x && is_placed x) || list_any (λ e. is_of key e && is_placed e) xs) ≡ false
    by true t h more =
        let k : key ≡ x.key = same_key-true key x.key t in
        ap (λ b. (is_of key x && b) || list_any (λ e. is_of key e && is_placed e) xs) (bare x.place h)
        ∙ (ap (λ b. (b && false) || list_any (λ e. is_of key e && is_placed e) xs) t ∙ none_there key xs (subst (λ y. is_registered y xs ≡ false) (sym k) d.0))
    by false t h more = ap (λ b. (b && is_placed x) || list_any (λ e. is_of key e && is_placed e) xs) t ∙ more h
