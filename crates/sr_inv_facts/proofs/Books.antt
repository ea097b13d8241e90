-- What holds of the entries of a book, as it changes.
use Rattle.std.proofs.Common.{◌≡◌, ℕ, ◌+◌, ◌≤◌, Bool, true, false, cond, ◌||◌, List, [], ◌∷◌, map, if◌then◌else◌, Some, filter, sym, refl, ap, ◌∙◌, subst, arith}
use Rattle.std.specs.List.{AllByRecursion}
use Rattle.sr_base.proofs.Sameness.{same_key-true}
use Rattle.sr_base.specs.Key.{KeyView, same_key}
use Rattle.sr_inv_facts.proofs.Lists.{all_mapped}
use Rattle.sr_shadow.proofs.Finding.{found_passes}
use Rattle.sr_shadow.specs.Book.{DistinctKeys, TakenFrom, entry_for, is_registered, with_changed}
use Rattle.sr_shadow.specs.Entry.{is_of}
use Rattle.sr_shadow.specs.declared.entry.Entry.{Entry}

-- what a change of an entry leaves, the entry keeps where it is changed and where it isn't
pub field_kept : {Y : Type 0} (get : Entry → Y) (change : Entry → Entry) → ((e : Entry) → get (change e) ≡ get e) → (key : KeyView) (e : Entry)
    → get (if is_of key e then change e else e) ≡ get e
field_kept get change same key e = at (is_of key e)
  where
    at : (b : Bool) → get (if b then change e else e) ≡ get e
    at true = same e
    at false = refl

-- a fact of each entry, where a change of the key's entry keeps it
pub changed_all : (P Q : Entry → Type 0) (change : Entry → Entry) (key : KeyView)
    → ((e : Entry) → is_of key e ≡ true → P e → Q (change e)) → ((e : Entry) → is_of key e ≡ false → P e → Q e) → (es : List Entry)
    → AllByRecursion P es → AllByRecursion Q (with_changed change key es)
changed_all P Q change key own other es a = all_mapped P Q (λ e. if is_of key e then change e else e) turn es a
  where
    at : (e : Entry) (b : Bool) → is_of key e ≡ b → P e → Q (if b then change e else e)
    at e true q p = own e q p
    at e false q p = other e q p

    turn : (e : Entry) → P e → Q (if is_of key e then change e else e)
    turn e p = at e (is_of key e) refl p

module _ (f : Entry → Entry) (keys : (e : Entry) → (f e).key ≡ e.key) (numbers : (e : Entry) → (f e).taken ≡ e.taken) where
  registered_mapped : (key : KeyView) (es : List Entry) → is_registered key (map f es) ≡ is_registered key es
  registered_mapped key [] = refl
  registered_mapped key (e ∷ es) = cc (ap (same_key key) (keys e), registered_mapped key es)

  pub distinct_mapped : (es : List Entry) → DistinctKeys es → DistinctKeys (map f es)
  distinct_mapped [] d = tt
  distinct_mapped (e ∷ es) d =
      (ap (λ k. is_registered k (map f es)) (keys e) ∙ (registered_mapped e.key es ∙ d.0), distinct_mapped es d.1)

  pub taken_mapped : (low high : ℕ) (es : List Entry) → TakenFrom low es high → TakenFrom low (map f es) high
  taken_mapped low high [] t = t
  taken_mapped low high (e ∷ es) t =
      (subst (λ n. low ≤ n) (sym (numbers e)) t.0, subst (λ n. TakenFrom (n + 1) (map f es) high) (sym (numbers e)) (taken_mapped (e.taken + 1) high es t.1))

-- entries whose numbers rise from one rise from a lower one
pub taken_lower : (low next high : ℕ) (es : List Entry) → low ≤ next → TakenFrom next es high → TakenFrom low es high
taken_lower low next high [] h t = omega arith
taken_lower low next high (e ∷ es) h t = (omega (arith, t.0), t.1)

module _ (test : Entry → Bool) where
  filtered_registered : (key : KeyView) (es : List Entry) → is_registered key es ≡ false → is_registered key (filter test es) ≡ false
  filtered_registered key [] h = refl
  filtered_registered key (e ∷ es) h =
      at (test e) (is_of key e) refl h (filtered_registered key es)
    where
      at : (b a : Bool) → is_of key e ≡ a → (a || is_registered key es) ≡ false
          → (is_registered key es ≡ false → is_registered key (filter test es) ≡ false)
          → is_registered key (cond b (e ∷ filter test es) (filter test es)) ≡ false
      at true false q h more = ap (λ o. o || is_registered key (filter test es)) q ∙ more h
      at false false q h more = more h
      at b true q h more = cc

  pub distinct_filtered : (es : List Entry) → DistinctKeys es → DistinctKeys (filter test es)
  distinct_filtered [] d = tt
  distinct_filtered (e ∷ es) d = at (test e) (distinct_filtered es d.1)
    where
      at : (b : Bool) → DistinctKeys (filter test es) → DistinctKeys (cond b (e ∷ filter test es) (filter test es))
      at true rest = (filtered_registered e.key es d.0, rest)
      at false rest = rest

  pub taken_filtered : (low high : ℕ) (es : List Entry) → TakenFrom low es high → TakenFrom low (filter test es) high
  taken_filtered low high [] t = t
  taken_filtered low high (e ∷ es) t = at (test e) (taken_filtered (e.taken + 1) high es t.1)
    where
      at : (b : Bool) → TakenFrom (e.taken + 1) (filter test es) high
          → TakenFrom low (cond b (e ∷ filter test es) (filter test es)) high
      at true rest = (t.0, rest)
      at false rest = taken_lower low (e.taken + 1) high (filter test es) (omega (arith, t.0)) rest

-- a key's entry is found for that key
pub found_key : (key : KeyView) (es : List Entry) (e : Entry) → entry_for key es ≡ Some e → key ≡ e.key
found_key key es e q = same_key-true key e.key (found_passes (is_of key) es e q)
