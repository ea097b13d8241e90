-- Around the entry of a key the list of entries is a front, that entry and a back, with no other entry of the key.
use Rattle.std.proofs.Common.{◌≡◌, ◌+◌, Bool, true, false, cond, ◌||◌, not, List, [], ◌∷◌, ◌++◌, find, count_by, None, Some, refl, sym, ◌∙◌, ap, subst, true≢false, is_some, if◌then◌else◌, arith}
use Rattle.std.proofs.lemmas.List.{map-append}
use Rattle.std.proofs.lemmas.List.Elements.{filter-append}
use Rattle.std.proofs.lemmas.List.Sums.{sum_by-append, sum_by-cons}
use Rattle.sr_base.specs.Key.{KeyView}
use Rattle.sr_shadow.specs.Book.{entry_for, is_registered, with_changed, without_key, DistinctKeys}
use Rattle.sr_shadow.specs.Entry.{is_of}
use Rattle.sr_shadow.specs.declared.entry.Entry.{Entry}
use Rattle.sr_base.proofs.Sameness.{same_key-true, same_key-self}

-- one entry where both are the one that was found
pub some_same : (a b : Entry) → Some a ≡ Some b → a ≡ b
some_same a b p = grind arith

-- the entry of a key, with those before and after it
pub record Split (key : KeyView) (es : List Entry) (e : Entry) : Type 0 where
  pub front : List Entry
  pub back : List Entry
  pub is : es ≡ front ++ e ∷ back
  pub own : e.key ≡ key
  pub before : is_registered key front ≡ false
  pub after : is_registered key back ≡ false

-- a registered key splits the list
pub split : (key : KeyView) (es : List Entry) (e : Entry) → DistinctKeys es → entry_for key es ≡ Some e → Split key es e
split key [] e d h = absurd (true≢false (sym (ap is_some h)))
split key (x ∷ xs) e d h = by (is_of key x) refl (split key xs e d.1)
  where
    by : (b : Bool) → is_of key x ≡ b → (entry_for key xs ≡ Some e → Split key xs e) → Split key (x ∷ xs) e
    by true t more =
        let k : key ≡ x.key = same_key-true key x.key t in
        let it : x ≡ e = some_same x e (sym (ap (λ c. cond c (Some x) (find (is_of key) xs)) t) ∙ h) in
        record { front = []; back = xs; is = ap (λ y. y ∷ xs) it; own = ap (λ y. y.key) (sym it) ∙ sym k; before = refl; after = subst (λ y. is_registered y xs ≡ false) (sym k) d.0 }
    by false t more =
        let rest = more (sym (ap (λ c. cond c (Some x) (find (is_of key) xs)) t) ∙ h) in
        record { front = x ∷ rest.front; back = rest.back; is = ap (λ ys. x ∷ ys) rest.is; own = rest.own; before = ap (λ c. c || is_registered key rest.front) t ∙ rest.before; after = rest.after }

-- where no entry is the key's, changing it changes nothing, and neither does taking it out
pub changed_none : (change : Entry → Entry) (key : KeyView) (es : List Entry) → is_registered key es ≡ false → with_changed change key es ≡ es
changed_none change key [] h = refl
changed_none change key (x ∷ xs) h = grind (arith, changed_none change key xs)

pub without_none : (key : KeyView) (es : List Entry) → is_registered key es ≡ false → without_key key es ≡ es
without_none key [] h = refl
without_none key (x ∷ xs) h = grind (arith, without_none key xs)

pub entry_for_none : (key : KeyView) (es : List Entry) → is_registered key es ≡ false → entry_for key es ≡ None
entry_for_none key [] h = refl
entry_for_none key (x ∷ xs) h = grind (arith, entry_for_none key xs)

pub registered_none : (key : KeyView) (es : List Entry) → entry_for key es ≡ None → is_registered key es ≡ false
registered_none key [] h = refl
registered_none key (x ∷ xs) h = grind (arith, registered_none key xs)

-- what changing and taking out leave of a split list
pub changed_split : (change : Entry → Entry) (key : KeyView) (front back : List Entry) (e : Entry) → e.key ≡ key
    → is_registered key front ≡ false → is_registered key back ≡ false → with_changed change key (front ++ e ∷ back) ≡ front ++ change e ∷ back
changed_split change key front back e own before after =
    grind (arith, map-append (λ x. if is_of key x then change x else x) front (e ∷ back), changed_none change key front before, changed_none change key back after, same_key-self key)

pub without_split : (key : KeyView) (front back : List Entry) (e : Entry) → e.key ≡ key
    → is_registered key front ≡ false → is_registered key back ≡ false → without_key key (front ++ e ∷ back) ≡ front ++ back
without_split key front back e own before after =
    grind (arith, filter-append (λ x. not (is_of key x)) front (e ∷ back), without_none key front before, without_none key back after, same_key-self key)

-- how many pass a test
pub count_split : (test : Entry → Bool) (front back : List Entry) (e : Entry)
    → count_by test (front ++ e ∷ back) ≡ count_by test front + (cond (test e) 1 0 + count_by test back)
count_split test front back e = sum_by-append (λ x. cond (test x) 1 0) front (e ∷ back) ∙ ap (λ n. count_by test front + n) (sum_by-cons (λ x. cond (test x) 1 0) e back)

pub count_joined : (test : Entry → Bool) (front back : List Entry) → count_by test (front ++ back) ≡ count_by test front + count_by test back
count_joined test front back = sum_by-append (λ x. cond (test x) 1 0) front back
