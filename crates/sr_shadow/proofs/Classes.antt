-- Steps of the tallies of clashing keys.
use Rattle.std.proofs.Common.{◌≡◌, ℕ, ◌+◌, ◌*◌, ◌<◌, ◌≤◌, ◌^◌, ◌%◌, Bool, true, false, cond, ◌&&◌, List, [], ◌∷◌, ◌++◌, count_by, Option, None, Some, refl, sym, ◌∙◌, ap, subst, eqb, ltb, unwrap_or, arith}
use Rattle.std.proofs.lemmas.Bool.Decides.{nat_tests}
use Rattle.std.proofs.lemmas.List.Folds.{list_any-append}
use Rattle.std.proofs.lemmas.List.Sums.{count_by-le-length, sum_by-cons}
use Rattle.std.proofs.lemmas.Nat.{mod_below, pow_pos}
use Rattle.std.proofs.Math.Nat.{pow-le-pow_right}
use Rattle.std.specs.List.{list_any}
use Rattle.sr_base.specs.Key.{KeyView, same_key}
use Rattle.sr_base.specs.declared.shape.Shape.{Shape}
use Rattle.sr_hash.specs.Clash.{clashes}
use Rattle.sr_hash.specs.Keyed.{hash_of}
use Rattle.sr_hash.specs.Uses.{bucket_of, digest_of}
use Rattle.sr_shadow.specs.Entry.{is_of, is_outside, stands_in}
use Rattle.sr_shadow.specs.Rivals.{class_of, is_member, is_outsider, no_tally, own_outside, tally_of, FewTallied, HasTallied, Tallied, IsClassed}
use Rattle.sr_shadow.specs.declared.entry.Entry.{Entry}
use Rattle.sr_shadow.specs.declared.tally.Tally.{Tally}
use Rattle.sr_base.proofs.Sameness.{same_key-self}
use Rattle.sr_shadow.proofs.Splits.{Split, split, count_split, count_joined, registered_none}
use Rattle.sr_shadow.specs.Book.{entry_for, is_registered, is_rival, is_clashing, is_stander, standing_of, DistinctKeys}

-- numbers of three parts are one where the parts are
three_parts : (v b d w c e : ℕ) → b < 65536 → c < 65536 → d < 65536 → e < 65536
    → eqb ((v * 65536 + b) * 65536 + d) ((w * 65536 + c) * 65536 + e) ≡ ((eqb v w) && (eqb b c && eqb d e))
three_parts v b d w c e hb hc hd he = grind (arith, nat_tests)

bucket_below : (x buckets : ℕ) → 1 ≤ buckets → buckets ≤ 65536 → x % buckets < 65536
bucket_below x buckets low high = omega (arith, mod_below x buckets low)

digest_below : (x bits : ℕ) → bits ≤ 16 → x % 2 ^ bits < 65536
digest_below x bits most = omega (arith, mod_below x (2 ^ bits) (pow_pos bits), pow-le-pow_right {n = 2} (omega arith) {i = bits} {j = 16} most)

-- a class has the keys that clash
pub same_class : (shape : Shape) (way : ℕ) (a b : KeyView) → IsClassed shape → eqb (class_of shape way a) (class_of shape way b) ≡ clashes shape way a b
same_class shape way a b s =
    three_parts a.vip (bucket_of way a shape.buckets) (digest_of way a shape.digest_bits) b.vip (bucket_of way b shape.buckets) (digest_of way b shape.digest_bits)
    (bucket_below (hash_of way a) shape.buckets s.0 s.1) (bucket_below (hash_of way b) shape.buckets s.0 s.1)
    (digest_below (hash_of (way + 2) a) shape.digest_bits s.2) (digest_below (hash_of (way + 2) b) shape.digest_bits s.2)

-- a class whose numbers change by as much as the entries do
pub tallied_change : (shape : Shape) (way : ℕ) (own : KeyView) (class : ℕ) (old new : ℕ → Option Tally) (r : Tally) (before after : List Entry) (a b x y u v : ℕ)
    → IsClassed shape → class ≡ class_of shape way own
    → ((q : ℕ) → tally_of new q ≡ cond (eqb class q) r (tally_of old q))
    → r.members + a ≡ (tally_of old class).members + b → r.outside + x ≡ (tally_of old class).outside + y → r.standing + u ≡ (tally_of old class).standing + v
    → ((key : KeyView) → count_by (is_member shape way key) after + cond (clashes shape way key own) a 0 ≡ count_by (is_member shape way key) before + cond (clashes shape way key own) b 0)
    → ((key : KeyView) → count_by (is_outsider shape way key) after + cond (clashes shape way key own) x 0 ≡ count_by (is_outsider shape way key) before + cond (clashes shape way key own) y 0)
    → ((key : KeyView) → standing_of shape way key after + cond (clashes shape way key own) u 0 ≡ standing_of shape way key before + cond (clashes shape way key own) v 0)
    → Tallied shape way old before → Tallied shape way new after
tallied_change shape way own class old new r before after a b x y u v fine is step some others rest members outsiders standers h = record { members = one; outside = other; standing = last }
  where
    one : (key : KeyView) → (tally_of new (class_of shape way key)).members ≡ count_by (is_member shape way key) after
    one key = ap (λ t. t.members) (step (class_of shape way key)) ∙ by (clashes shape way key own) refl
      where
        by : (c : Bool) → clashes shape way key own ≡ c → (cond (eqb class (class_of shape way key)) r (tally_of old (class_of shape way key))).members ≡ count_by (is_member shape way key) after
        by true t = grind (arith, nat_tests, same_class shape way key own fine, t, is, some, members key, h.members key)
        by false t = grind (arith, nat_tests, same_class shape way key own fine, t, is, members key, h.members key)

    other : (key : KeyView) → (tally_of new (class_of shape way key)).outside ≡ count_by (is_outsider shape way key) after
    other key = ap (λ t. t.outside) (step (class_of shape way key)) ∙ by (clashes shape way key own) refl
      where
        by : (c : Bool) → clashes shape way key own ≡ c → (cond (eqb class (class_of shape way key)) r (tally_of old (class_of shape way key))).outside ≡ count_by (is_outsider shape way key) after
        by true t = grind (arith, nat_tests, same_class shape way key own fine, t, is, others, outsiders key, h.outside key)
        by false t = grind (arith, nat_tests, same_class shape way key own fine, t, is, outsiders key, h.outside key)

    last : (key : KeyView) → (tally_of new (class_of shape way key)).standing ≡ standing_of shape way key after
    last key = ap (λ t. t.standing) (step (class_of shape way key)) ∙ by (clashes shape way key own) refl
      where
        by : (c : Bool) → clashes shape way key own ≡ c → (cond (eqb class (class_of shape way key)) r (tally_of old (class_of shape way key))).standing ≡ standing_of shape way key after
        by true t = grind (arith, nat_tests, same_class shape way key own fine, t, is, rest, standers key, h.standing key)
        by false t = grind (arith, nat_tests, same_class shape way key own fine, t, is, standers key, h.standing key)

-- some pass a test where at least one is counted
pub any_counted : {X : Type 0} (test : X → Bool) (xs : List X) → list_any test xs ≡ ltb 0 (count_by test xs)
any_counted test [] = refl
any_counted test (x ∷ xs) = grind (arith, nat_tests, any_counted test xs, sum_by-cons (λ x. cond (test x) 1 0) x xs)

-- among entries of other keys the rivals are the outsiders
others_rival : (shape : Shape) (way : ℕ) (key : KeyView) (es : List Entry) → is_registered key es ≡ false → is_clashing shape way key es ≡ list_any (is_outsider shape way key) es
others_rival shape way key [] h = refl
others_rival shape way key (e ∷ es) h = grind (arith, others_rival shape way key es)

-- a key clashes with itself
pub clashes_self : (shape : Shape) (way : ℕ) (key : KeyView) → clashes shape way key key ≡ true
clashes_self shape way key = grind (arith, nat_tests)

-- around the key's own entry, which counts itself
clashing_split : (shape : Shape) (way : ℕ) (key : KeyView) (front back : List Entry) (e : Entry) → e.key ≡ key → is_registered key front ≡ false → is_registered key back ≡ false
    → is_clashing shape way key (front ++ e ∷ back) ≡ ltb (cond (is_outside e) 1 0) (count_by (is_outsider shape way key) (front ++ e ∷ back))
clashing_split shape way key front back e own before after =
    let mine : is_of key e ≡ true = subst (λ y. same_key key y ≡ true) (sym own) (same_key-self key) in
    let self : clashes shape way key e.key ≡ true = subst (λ y. clashes shape way key y ≡ true) (sym own) (clashes_self shape way key) in
    grind (
      arith,
      nat_tests,
      mine,
      self,
      list_any-append (is_rival shape way key) front (e ∷ back),
      count_split (is_outsider shape way key) front back e,
      others_rival shape way key front before,
      any_counted (is_outsider shape way key) front,
      others_rival shape way key back after,
      any_counted (is_outsider shape way key) back,
    )

-- a key has a rival where there are more outsiders in its class than itself
pub clashing_counted : (shape : Shape) (way : ℕ) (key : KeyView) (es : List Entry) → DistinctKeys es
    → is_clashing shape way key es ≡ ltb (own_outside (entry_for key es)) (count_by (is_outsider shape way key) es)
clashing_counted shape way key es d = by (entry_for key es) refl
  where
    by : (r : Option Entry) → entry_for key es ≡ r → is_clashing shape way key es ≡ ltb (own_outside r) (count_by (is_outsider shape way key) es)
    by None r = others_rival shape way key es (registered_none key es r) ∙ any_counted (is_outsider shape way key) es
    by (Some e) r =
        let s : Split key es e = split key es e d r in
        subst (λ ys. is_clashing shape way key ys ≡ ltb (own_outside (Some e)) (count_by (is_outsider shape way key) ys)) (sym s.is) (clashing_split shape way key s.front s.back e s.own s.before s.after)

-- one entry more
pub tallied_more : (shape : Shape) (way : ℕ) (class : ℕ) (old new : ℕ → Option Tally) (r : Tally) (es : List Entry) (e : Entry)
    → IsClassed shape → class ≡ class_of shape way e.key → ((q : ℕ) → tally_of new q ≡ cond (eqb class q) r (tally_of old q))
    → r.members ≡ (tally_of old class).members + 1 → r.outside ≡ (tally_of old class).outside + cond (is_outside e) 1 0
    → r.standing ≡ (tally_of old class).standing + cond (stands_in way e) 1 0
    → Tallied shape way old es → Tallied shape way new (es ++ e ∷ [])
tallied_more shape way class old new r es e fine is step some others rest h =
    tallied_change shape way e.key class old new r es (es ++ e ∷ []) 0 1 0 (cond (is_outside e) 1 0) 0 (cond (stands_in way e) 1 0) fine is step (omega (arith, some)) (omega (arith, others)) (omega (arith, rest))
    (λ key. grind (arith, nat_tests, count_split (is_member shape way key) es [] e)) (λ key. grind (arith, nat_tests, count_split (is_outsider shape way key) es [] e))
    (λ key. grind (arith, nat_tests, count_split (is_stander shape way key) es [] e)) h

-- one less
pub tallied_less : (shape : Shape) (way : ℕ) (class : ℕ) (old new : ℕ → Option Tally) (r : Tally) (front back : List Entry) (e : Entry)
    → IsClassed shape → class ≡ class_of shape way e.key → ((q : ℕ) → tally_of new q ≡ cond (eqb class q) r (tally_of old q))
    → r.members + 1 ≡ (tally_of old class).members → r.outside + cond (is_outside e) 1 0 ≡ (tally_of old class).outside
    → r.standing + cond (stands_in way e) 1 0 ≡ (tally_of old class).standing
    → Tallied shape way old (front ++ e ∷ back) → Tallied shape way new (front ++ back)
tallied_less shape way class old new r front back e fine is step some others rest h =
    tallied_change shape way e.key class old new r (front ++ e ∷ back) (front ++ back) 1 0 (cond (is_outside e) 1 0) 0 (cond (stands_in way e) 1 0) 0 fine is step (omega (arith, some)) (omega (arith, others)) (omega (arith, rest))
    (λ key. grind (arith, nat_tests, count_split (is_member shape way key) front back e, count_joined (is_member shape way key) front back))
    (λ key. grind (arith, nat_tests, count_split (is_outsider shape way key) front back e, count_joined (is_outsider shape way key) front back))
    (λ key. grind (arith, nat_tests, count_split (is_stander shape way key) front back e, count_joined (is_stander shape way key) front back)) h

-- one in the place of another of the same key
pub tallied_swapped : (shape : Shape) (way : ℕ) (class : ℕ) (old new : ℕ → Option Tally) (r : Tally) (front back : List Entry) (e f : Entry)
    → IsClassed shape → class ≡ class_of shape way e.key → f.key ≡ e.key → ((q : ℕ) → tally_of new q ≡ cond (eqb class q) r (tally_of old q))
    → r.members ≡ (tally_of old class).members → r.outside + cond (is_outside e) 1 0 ≡ (tally_of old class).outside + cond (is_outside f) 1 0
    → r.standing + cond (stands_in way e) 1 0 ≡ (tally_of old class).standing + cond (stands_in way f) 1 0
    → Tallied shape way old (front ++ e ∷ back) → Tallied shape way new (front ++ f ∷ back)
tallied_swapped shape way class old new r front back e f fine is same step some others rest h =
    tallied_change shape way e.key class old new r (front ++ e ∷ back) (front ++ f ∷ back) 0 0 (cond (is_outside e) 1 0) (cond (is_outside f) 1 0) (cond (stands_in way e) 1 0) (cond (stands_in way f) 1 0) fine is step (omega (arith, some)) others rest
    (λ key. grind (arith, nat_tests, same, count_split (is_member shape way key) front back e, count_split (is_member shape way key) front back f))
    (λ key. grind (arith, nat_tests, same, count_split (is_outsider shape way key) front back e, count_split (is_outsider shape way key) front back f))
    (λ key. grind (arith, nat_tests, same, count_split (is_stander shape way key) front back e, count_split (is_stander shape way key) front back f)) h

-- what an entry adds to its class
pub tallied_one : (shape : Shape) (way : ℕ) (tallies : ℕ → Option Tally) (e : Entry) → HasTallied shape way tallies e
    → (1 ≤ (tally_of tallies (class_of shape way e.key)).members) × (cond (is_outside e) 1 0 ≤ (tally_of tallies (class_of shape way e.key)).outside)
    × (cond (stands_in way e) 1 0 ≤ (tally_of tallies (class_of shape way e.key)).standing)
tallied_one shape way tallies e h = (
  grind (arith, nat_tests, h.2.members e.key, count_split (is_member shape way e.key) h.0 h.1 e, clashes_self shape way e.key),
  grind (arith, nat_tests, h.2.outside e.key, count_split (is_outsider shape way e.key) h.0 h.1 e, clashes_self shape way e.key),
  grind (arith, nat_tests, h.2.standing e.key, count_split (is_stander shape way e.key) h.0 h.1 e, clashes_self shape way e.key),
)

-- and the numbers are far from their end
pub tallied_few : (shape : Shape) (way : ℕ) (tallies : ℕ → Option Tally) (key : KeyView) → FewTallied shape way tallies
    → ((tally_of tallies (class_of shape way key)).members < 2 ^ 63) × ((tally_of tallies (class_of shape way key)).outside < 2 ^ 63) × ((tally_of tallies (class_of shape way key)).standing < 2 ^ 63)
tallied_few shape way tallies key h = (
  omega (arith, h.1.members key, count_by-le-length (is_member shape way key) h.0, h.2),
  omega (arith, h.1.outside key, count_by-le-length (is_outsider shape way key) h.0, h.2),
  omega (arith, h.1.standing key, count_by-le-length (is_stander shape way key) h.0, h.2),
)

-- a tally that is put is found
pub tally_put : (old new : ℕ → Option Tally) (class : ℕ) (r : Tally) → ((q : ℕ) → new q ≡ cond (eqb class q) (Some r) (old q))
    → (q : ℕ) → tally_of new q ≡ cond (eqb class q) r (tally_of old q)
tally_put old new class r step q = ap (λ x. unwrap_or x no_tally) (step q) ∙ by (eqb class q)
  where
    by : (b : Bool) → unwrap_or (cond b (Some r) (old q)) no_tally ≡ cond b r (tally_of old q)
    by true = refl
    by false = refl

-- tallies know of an entry its key, whether it is outside the full-key table, and whether it stands in a slot of their way
pub tallied_same : (shape : Shape) (way : ℕ) (tallies : ℕ → Option Tally) (front back : List Entry) (e f : Entry) → f.key ≡ e.key → is_outside f ≡ is_outside e → stands_in way f ≡ stands_in way e
    → Tallied shape way tallies (front ++ e ∷ back) → Tallied shape way tallies (front ++ f ∷ back)
tallied_same shape way tallies front back e f own out stands h = record {
  members = λ key. h.members key ∙ same (is_member shape way key) (ap (clashes shape way key) own);
  outside = λ key. h.outside key ∙ same (is_outsider shape way key) (rw (out, own) refl);
  standing = λ key. h.standing key ∙ same (is_stander shape way key) (rw (stands, own) refl);
}
  where
    same : (test : Entry → Bool) → test f ≡ test e → count_by test (front ++ e ∷ back) ≡ count_by test (front ++ f ∷ back)
    same test eq = count_split test front back e ∙ ap (λ b. count_by test front + (cond b 1 0 + count_by test back)) (sym eq) ∙ sym (count_split test front back f)

-- two tests that are counted alike
pub same_counted : (a b : Bool) → cond {A = ℕ} a 1 0 ≡ cond b 1 0 → b ≡ a
same_counted true true p = refl
same_counted false false p = refl
same_counted true false p = absurd (omega (arith, p))
same_counted false true p = absurd (omega (arith, p))
