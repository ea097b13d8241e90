-- Steps of the map from keys to numbers.
use Rattle.std.proofs.Common.{◌≡◌, ℕ, Bool, true, false, cond, List, [], ◌∷◌, ◌++◌, Option, None, Some, refl, sym, ◌∙◌, ap, subst, eqb, option_map, arith}
use Rattle.std.proofs.lemmas.Bool.Decides.{nat_tests}
use Rattle.std.proofs.lemmas.List.Folds.{find-append}
use Rattle.std.specs.Option.{option_or}
use Rattle.sr_base.specs.Key.{KeyView, IsKey, packed, same_key}
use Rattle.sr_shadow.specs.Book.{entry_for, is_registered}
use Rattle.sr_shadow.specs.Entry.{is_of}
use Rattle.sr_shadow.specs.KeyNumbers.{Numbered}
use Rattle.sr_shadow.specs.declared.entry.Entry.{Entry}
use Rattle.sr_base.proofs.Sameness.{same_key-true, same_key-self, same_key-sym}
use Rattle.sr_shadow.proofs.Splits.{entry_for_none}

-- keys are one where their packed numbers are
pub same_packed : (a b : KeyView) → IsKey a → IsKey b → eqb (packed a) (packed b) ≡ same_key a b
same_packed a b ha hb = grind (arith, nat_tests, ha.ip, ha.port, hb.ip, hb.port)

-- one more
pub numbered_more : (old new : ℕ → Option ℕ) (own : KeyView) (code number : ℕ) (es : List Entry) (e : Entry) → code ≡ packed own → IsKey own → e.key ≡ own → e.taken ≡ number → is_registered own es ≡ false
    → ((q : ℕ) → new q ≡ cond (eqb code q) (Some number) (old q)) → Numbered old es → Numbered new (es ++ e ∷ [])
numbered_more old new own code number es e coded ranges same told none step h key is =
    step (packed key) ∙ ap (λ n. cond (eqb n (packed key)) (Some number) (old (packed key))) coded ∙ by (same_key own key) refl
  where
    found : (r : Option Entry) → option_or r None ≡ r
    found None = refl
    found (Some x) = refl

    by : (b : Bool) → same_key own key ≡ b → cond (eqb (packed own) (packed key)) (Some number) (old (packed key)) ≡ option_map (λ x. x.taken) (entry_for key (es ++ e ∷ []))
    by true t =
        let k : own ≡ key = same_key-true own key t in
        let gone : entry_for key es ≡ None = subst (λ y. entry_for y es ≡ None) k (entry_for_none own es none) in
        let mine : is_of key e ≡ true = subst (λ y. same_key key y ≡ true) (sym (same ∙ k)) (same_key-self key) in
        grind (arith, same_packed own key ranges is, t, find-append (is_of key) es (e ∷ []), gone, mine, told)
    by false t =
        let other : is_of key e ≡ false = subst (λ y. same_key key y ≡ false) (sym same) (same_key-sym key own ∙ t) in
        grind (arith, same_packed own key ranges is, t, find-append (is_of key) es (e ∷ []), other, h key is, found (entry_for key es))

-- one less
pub numbered_less : (old new : ℕ → Option ℕ) (own : KeyView) (code : ℕ) (front back : List Entry) (e : Entry) → code ≡ packed own → IsKey own → e.key ≡ own → is_registered own front ≡ false → is_registered own back ≡ false
    → ((q : ℕ) → new q ≡ cond (eqb code q) None (old q)) → Numbered old (front ++ e ∷ back) → Numbered new (front ++ back)
numbered_less old new own code front back e coded ranges same before after step h key is =
    step (packed key) ∙ ap (λ n. cond (eqb n (packed key)) None (old (packed key))) coded ∙ by (same_key own key) refl
  where
    by : (b : Bool) → same_key own key ≡ b → cond (eqb (packed own) (packed key)) None (old (packed key)) ≡ option_map (λ x. x.taken) (entry_for key (front ++ back))
    by true t =
        let k : own ≡ key = same_key-true own key t in
        let gone_before : entry_for key front ≡ None = subst (λ y. entry_for y front ≡ None) k (entry_for_none own front before) in
        let gone_after : entry_for key back ≡ None = subst (λ y. entry_for y back ≡ None) k (entry_for_none own back after) in
        grind (arith, same_packed own key ranges is, t, find-append (is_of key) front back, gone_before, gone_after)
    by false t =
        let other : is_of key e ≡ false = subst (λ y. same_key key y ≡ false) (sym same) (same_key-sym key own ∙ t) in
        grind (arith, same_packed own key ranges is, t, find-append (is_of key) front back, find-append (is_of key) front (e ∷ back), other, h key is)

-- an entry in the place of another of the same key and number leaves the map
pub numbered_same : (numbers : ℕ → Option ℕ) (front back : List Entry) (e f : Entry) → f.key ≡ e.key → f.taken ≡ e.taken → Numbered numbers (front ++ e ∷ back) → Numbered numbers (front ++ f ∷ back)
numbered_same numbers front back e f same told h key is = h key is ∙ by (entry_for key front) refl
  where
    mine : is_of key f ≡ is_of key e
    mine = ap (same_key key) same

    by : (r : Option Entry) → entry_for key front ≡ r → option_map (λ x. x.taken) (entry_for key (front ++ e ∷ back)) ≡ option_map (λ x. x.taken) (entry_for key (front ++ f ∷ back))
    by None r = grind (arith, find-append (is_of key) front (f ∷ back), find-append (is_of key) front (e ∷ back), mine, told, r)
    by (Some x) r = grind (arith, find-append (is_of key) front (f ∷ back), find-append (is_of key) front (e ∷ back), mine, told, r)
