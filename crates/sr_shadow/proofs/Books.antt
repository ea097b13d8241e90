-- What holds of every book is kept: with an entry more, with one in the place of another, with one less.
use Rattle.std.proofs.Common.{◌≡◌, ℕ, ◌+◌, ◌≤◌, false, cond, List, [], ◌∷◌, ◌++◌, length, Option, None, Some, is_some, option_map, refl, sym, ◌∙◌, ap, subst, true≢false, arith}
use Rattle.std.proofs.lemmas.Bool.Decides.{nat_tests}
use Rattle.std.proofs.lemmas.List.Folds.{list_any-append}
use Rattle.std.proofs.lemmas.List.Sums.{sum_by-cons}
use Rattle.sr_base.specs.Key.{KeyView, IsKey, same_key}
use Rattle.sr_shadow.specs.Book.{entry_for, is_registered, count_of, AreKeys, DistinctKeys, PlacedLeave, TakenFrom}
use Rattle.sr_shadow.specs.Entry.{is_of, has_version}
use Rattle.sr_shadow.specs.declared.entry.Entry.{Entry}
use Rattle.sr_base.proofs.Sameness.{same_key-sym}

-- whether a key is registered
registered_swap : (key : KeyView) (front back : List Entry) (e f : Entry) → f.key ≡ e.key → is_registered key (front ++ f ∷ back) ≡ is_registered key (front ++ e ∷ back)
registered_swap key front back e f own =
    grind (arith, own, list_any-append (is_of key) front (e ∷ back), list_any-append (is_of key) front (f ∷ back))

registered_less : (key : KeyView) (front back : List Entry) (e : Entry) → is_registered key (front ++ e ∷ back) ≡ false → is_registered key (front ++ back) ≡ false
registered_less key front back e h = grind (arith, h, list_any-append (is_of key) front (e ∷ back), list_any-append (is_of key) front back)

registered_more : (key : KeyView) (es : List Entry) (e : Entry) → is_registered key es ≡ false → same_key key e.key ≡ false → is_registered key (es ++ e ∷ []) ≡ false
registered_more key es e h apart = grind (arith, h, apart, list_any-append (is_of key) es (e ∷ []))

-- distinct keys
pub distinct_more : (es : List Entry) (e : Entry) → is_registered e.key es ≡ false → DistinctKeys es → DistinctKeys (es ++ e ∷ [])
distinct_more [] e none d = (refl, tt)
distinct_more (x ∷ es) e none d =
    let apart : same_key x.key e.key ≡ false = same_key-sym x.key e.key ∙ grind (arith, none) in
    (registered_more x.key es e d.0 apart, distinct_more es e (grind (arith, none)) d.1)

pub distinct_swap : (front back : List Entry) (e f : Entry) → f.key ≡ e.key → DistinctKeys (front ++ e ∷ back) → DistinctKeys (front ++ f ∷ back)
distinct_swap [] back e f own d = (ap (λ k. is_registered k back) own ∙ d.0, d.1)
distinct_swap (x ∷ front) back e f own d = (registered_swap x.key front back e f own ∙ d.0, distinct_swap front back e f own d.1)

pub distinct_less : (front back : List Entry) (e : Entry) → DistinctKeys (front ++ e ∷ back) → DistinctKeys (front ++ back)
distinct_less [] back e d = d.1
distinct_less (x ∷ front) back e d = (registered_less x.key front back e d.0, distinct_less front back e d.1)

-- keys in range
pub keys_more : (es : List Entry) (e : Entry) → IsKey e.key → AreKeys es → AreKeys (es ++ e ∷ [])
keys_more [] e own h = (own, tt)
keys_more (x ∷ es) e own h = (h.0, keys_more es e own h.1)

pub keys_swap : (front back : List Entry) (e f : Entry) → f.key ≡ e.key → AreKeys (front ++ e ∷ back) → AreKeys (front ++ f ∷ back)
keys_swap [] back e f own h = (subst IsKey (sym own) h.0, h.1)
keys_swap (x ∷ front) back e f own h = (h.0, keys_swap front back e f own h.1)

pub keys_less : (front back : List Entry) (e : Entry) → AreKeys (front ++ e ∷ back) → AreKeys (front ++ back)
keys_less [] back e h = h.1
keys_less (x ∷ front) back e h = (h.0, keys_less front back e h.1)

-- only a key with a Live place is about to leave one
pub leave_more : (es : List Entry) (e : Entry) → (e.place ≡ None → e.also ≡ None) → PlacedLeave es → PlacedLeave (es ++ e ∷ [])
leave_more [] e own h = (own, tt)
leave_more (x ∷ es) e own h = (h.0, leave_more es e own h.1)

pub leave_swap : (front back : List Entry) (e f : Entry) → ((e.place ≡ None → e.also ≡ None) → f.place ≡ None → f.also ≡ None) → PlacedLeave (front ++ e ∷ back) → PlacedLeave (front ++ f ∷ back)
leave_swap [] back e f own h = (own h.0, h.1)
leave_swap (x ∷ front) back e f own h = (h.0, leave_swap front back e f own h.1)

pub leave_less : (front back : List Entry) (e : Entry) → PlacedLeave (front ++ e ∷ back) → PlacedLeave (front ++ back)
leave_less [] back e h = h.1
leave_less (x ∷ front) back e h = (h.0, leave_less front back e h.1)

-- rising numbers
pub taken_more : (low high : ℕ) (es : List Entry) (e : Entry) → e.taken ≡ high → TakenFrom low es high → TakenFrom low (es ++ e ∷ []) (high + 1)
taken_more low high [] e told h = (omega (arith, told, h), omega (arith, told))
taken_more low high (x ∷ es) e told h = (h.0, taken_more (x.taken + 1) high es e told h.1)

pub taken_swap : (low high : ℕ) (front back : List Entry) (e f : Entry) → f.taken ≡ e.taken → TakenFrom low (front ++ e ∷ back) high → TakenFrom low (front ++ f ∷ back) high
taken_swap low high [] back e f told h = (omega (arith, told, h.0), subst (λ n. TakenFrom (n + 1) back high) (sym told) h.1)
taken_swap low high (x ∷ front) back e f told h = (h.0, taken_swap (x.taken + 1) high front back e f told h.1)

taken_lower : (low less high : ℕ) (es : List Entry) → less ≤ low → TakenFrom low es high → TakenFrom less es high
taken_lower low less high [] le h = omega (arith, le, h)
taken_lower low less high (e ∷ es) le h = (omega (arith, le, h.0), h.1)

pub taken_less : (low high : ℕ) (front back : List Entry) (e : Entry) → TakenFrom low (front ++ e ∷ back) high → TakenFrom low (front ++ back) high
taken_less low high [] back e h = taken_lower (e.taken + 1) low high back (omega (arith, h.0)) h.1
taken_less low high (x ∷ front) back e h = (h.0, taken_less (x.taken + 1) high front back e h.1)

-- there are no more entries than were taken
pub few_taken : (low high : ℕ) (es : List Entry) → TakenFrom low es high → length es + low ≤ high
few_taken low high [] h = omega (arith, h)
few_taken low high (e ∷ es) h = omega (arith, h.0, few_taken (e.taken + 1) high es h.1)

-- no key has a virtual address past the sixteen
pub count_past : (vip version : ℕ) (es : List Entry) → 16 ≤ vip → AreKeys es → count_of vip version es ≡ 0
count_past vip version [] most h = refl
count_past vip version (e ∷ es) most h = grind (arith, nat_tests, h.0.vip, count_past vip version es most h.1, sum_by-cons (λ x. cond (has_version vip version x) 1 0) e es)

-- a key whose number is found has an entry of that number
pub found_number : (r : Option Entry) (n : ℕ) → option_map (λ e. e.taken) r ≡ Some n → (e : Entry) × (r ≡ Some e) × (e.taken ≡ n)
found_number None n h = absurd (true≢false (sym (ap is_some h)))
found_number (Some e) n h = (e, refl, grind (arith, h))

pub no_number : (r : Option Entry) → option_map (λ e. e.taken) r ≡ None → r ≡ None
no_number None h = refl
no_number (Some e) h = absurd (true≢false (ap is_some h))

pub registered_found : (key : KeyView) (es : List Entry) → is_registered key es ≡ is_some (entry_for key es)
registered_found key [] = refl
registered_found key (e ∷ es) = grind (arith, registered_found key es)
