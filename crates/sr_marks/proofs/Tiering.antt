-- Tiers of marks: the next set mark is found by the tier above, and a mark that is put stays in step with it.
use Rattle.std.proofs.Common.{◌≡◌, ℕ, zero, suc, ◌+◌, ◌-◌, ◌*◌, ◌/◌, ◌<◌, ◌≤◌, ◌≢◌, Bool, true, false, List, [], ◌∷◌, ◌++◌, length, get_or, take, set, nat_lt, not, Option, Some, None, ap, sym, refl, ◌∙◌, subst, subst₂, replicate, inl, inr, arith, length-set}
use mathlib.Core.Bool.{beq}
use Rattle.std.proofs.lemmas.Bool.{cases_eq, cases_lt}
use Rattle.std.proofs.lemmas.List.{get_or-take, get_or-set_same, get_or-set_other, get_or_past, take_all, length-take, length_push, get_or_push, get_or_append_left, get_or_read, length-replicate}
use Rattle.sr_marks.specs.Marks.{count_set, next_set}
use Rattle.sr_marks.specs.Words.{some_in, up_to_word_end, lowest_of, IsSummary, AreSummed}
use Rattle.sr_marks.proofs.SetMarks.{next_set-is, next_set-none, next_set-found, next_set-missing}
use Rattle.sr_marks.proofs.Wording.{word-set_other, some_in-none, some_in-past, some_in-within, some_in-found}

-- what is found up to a word's end is found
pub next-front : (from n at : ℕ) (ms : List Bool) → next_set from (take n ms) ≡ Some at → next_set from ms ≡ Some at
next-front from n at ms found =
    let is = next_set-is from (take n ms) at found in
    let short = length-take n ms in
    let inside : at < n = omega (arith, is.1) in
    next_set-found from ms at is.0 (sym (get_or-take n ms at false inside) ∙ is.2) (λ k above below. sym (get_or-take n ms k false (omega arith)) ∙ is.3 k above below)

-- past the end there is none
pub next-past : (from : ℕ) (ms : List Bool) → length ms ≤ from → next_set from ms ≡ None
next-past from ms past = next_set-missing from ms (λ k above. get_or_past ms k false (omega arith))

-- in marks of one word there is none beside those up to the word's end
pub next-one_word : (from : ℕ) (ms : List Bool) → length ms ≤ 64 → next_set from (up_to_word_end from ms) ≡ None → next_set from ms ≡ None
next-one_word from ms one none = sym (ap (next_set from) (take_all (64 * (from / 64 + 1)) ms (omega arith))) ∙ none

-- nor is there one where the tier above has none behind that word
pub next-none : (from : ℕ) (below above : List Bool) → IsSummary above below → next_set from (up_to_word_end from below) ≡ None → next_set (from / 64 + 1) above ≡ None → next_set from below ≡ None
next-none from below above summary here later = next_set-missing from below (λ k from_on. elim (cases_lt k (64 * (from / 64 + 1))) [
  | inl inside ↦ sym (get_or-take (64 * (from / 64 + 1)) below k false inside) ∙ next_set-none from (up_to_word_end from below) here k from_on
  | inr behind ↦ some_in-none below k (sym (summary.each (k / 64)) ∙ next_set-none (from / 64 + 1) above later (k / 64) (omega arith))
])

-- a word that the tier above names begins in the marks
pub next-word_within : (from word : ℕ) (below above : List Bool) → IsSummary above below → next_set from above ≡ Some word → 64 * word < length below
next-word_within from word below above summary found =
    let is = next_set-is from above word found in
    some_in-within below word (sym (summary.each word) ∙ is.2)

-- and has the next set mark
next-word_some : (from word : ℕ) (below above : List Bool) (found : Option ℕ) → IsSummary above below → next_set from (up_to_word_end from below) ≡ None → next_set (from / 64 + 1) above ≡ Some word → next_set (64 * word) (up_to_word_end (64 * word) below) ≡ found → next_set from below ≡ found
next-word_some from word below above None summary here later found =
    let is = next_set-is (from / 64 + 1) above word later in
    absurd (some_in-found below word (sym (summary.each word) ∙ is.2) (λ k inside.
    sym (get_or-take (64 * (64 * word / 64 + 1)) below (64 * word + k) false (omega arith)) ∙ next_set-none (64 * word) (up_to_word_end (64 * word) below) found (64 * word + k) (omega arith)))
next-word_some from word below above (Some at) summary here later found =
    let is = next_set-is (from / 64 + 1) above word later in
    let whole = next_set-is (64 * word) below at (next-front (64 * word) (64 * (64 * word / 64 + 1)) at below found) in
    next_set-found from below at (omega (arith, is.0, whole.0)) whole.2 (λ k from_on before. elim (cases_lt k (64 * (from / 64 + 1))) [
      | inl inside ↦ sym (get_or-take (64 * (from / 64 + 1)) below k false inside) ∙ next_set-none from (up_to_word_end from below) here k from_on
      | inr behind ↦ elim (cases_lt k (64 * word)) [
        | inl early ↦ some_in-none below k (sym (summary.each (k / 64)) ∙ is.3 (k / 64) (omega arith) (omega arith))
        | inr late ↦ whole.3 k late before
      ]
    ])

pub next-word : (from word : ℕ) (below above : List Bool) → IsSummary above below → next_set from (up_to_word_end from below) ≡ None → next_set (from / 64 + 1) above ≡ Some word → next_set (64 * word) (up_to_word_end (64 * word) below) ≡ next_set from below
next-word from word below above summary here later = sym (next-word_some from word below above (next_set (64 * word) (up_to_word_end (64 * word) below)) summary here later refl)

-- ---- a mark that is put

-- where the word's answer is the one that the tier above has, nothing is to be done there
pub summary-same : (below above : List Bool) (at : ℕ) (mark : Bool) → IsSummary above below → get_or above (at / 64) false ≡ some_in (at / 64) (set below at mark) → IsSummary above (set below at mark)
summary-same below above at mark summary same =
    let long = length-set below at mark in
    let fits = summary.fits in
    record {
      each = λ word. elim (cases_eq word (at / 64)) [
        | inl here ↦ subst (λ (w : ℕ). get_or above w false ≡ some_in w (set below at mark)) (sym here) same
        | inr other ↦ summary.each word ∙ ap (λ zs. nat_lt 0 (count_set zs)) (sym (word-set_other below at word mark other))
      ];
      fits = omega arith;
    }

-- and else it is written there
pub summary-put : (below above : List Bool) (at : ℕ) (mark : Bool) → IsSummary above below → at < length below → IsSummary (set above (at / 64) (some_in (at / 64) (set below at mark))) (set below at mark)
summary-put below above at mark summary within =
    let some = some_in (at / 64) (set below at mark) in
    let long = length-set below at mark in
    let same_long = length-set above (at / 64) some in
    let fits = summary.fits in
    record {
      each = λ word. elim (cases_eq word (at / 64)) [
        | inl here ↦ subst (λ (w : ℕ). get_or (set above (at / 64) some) w false ≡ some_in w (set below at mark)) (sym here) (get_or-set_same above (at / 64) some false (omega arith))
        | inr other ↦ get_or-set_other above (at / 64) word some false other ∙ (summary.each word ∙ ap (λ zs. nat_lt 0 (count_set zs)) (sym (word-set_other below at word mark other)))
      ];
      fits = omega arith;
    }

-- A mark is put in tier i; the tiers above are then brought in step.
put-other : (i j at : ℕ) (tiers next : List (List Bool)) (mark : Bool) → next ≡ set tiers i (set (get_or tiers i []) at mark) → j ≢ i → get_or next j [] ≡ get_or tiers j []
put-other i j at tiers next mark put other = ap (λ ts. get_or ts j []) put ∙ get_or-set_other tiers i j _ [] other

put-here : (i at : ℕ) (tiers next : List (List Bool)) (mark : Bool) → next ≡ set tiers i (set (get_or tiers i []) at mark) → i < length tiers → get_or next i [] ≡ set (get_or tiers i []) at mark
put-here i at tiers next mark put within = ap (λ ts. get_or ts i []) put ∙ get_or-set_same tiers i _ [] within

put-long : (i at : ℕ) (tiers next : List (List Bool)) (mark : Bool) → next ≡ set tiers i (set (get_or tiers i []) at mark) → length next ≡ length tiers
put-long i at tiers next mark put = ap length put ∙ length-set tiers i _

-- the tiers behind are in step still
pub put-behind : (i at : ℕ) (tiers next : List (List Bool)) (mark : Bool) → AreSummed i tiers → next ≡ set tiers i (set (get_or tiers i []) at mark) → i + 1 < length tiers → AreSummed (i + 1) next
put-behind i at tiers next mark summed put more =
    let long = put-long i at tiers next mark put in
    let last : length next - 1 ≡ length tiers - 1 = omega arith in
    let far : length tiers - 1 ≢ i = omega arith in
    let top : get_or next (length next - 1) [] ≡ get_or tiers (length tiers - 1) [] = ap (λ k. get_or next k []) last ∙ put-other i (length tiers - 1) at tiers next mark put far in
    record {
      each = λ j from below.
          let here : j ≢ i = omega arith in
          let above : j + 1 ≢ i = omega arith in
          subst₂ (λ (x : List Bool) (y : List Bool). IsSummary x y) (sym (put-other i (j + 1) at tiers next mark put above)) (sym (put-other i j at tiers next mark put here)) (summed.each j (omega arith) (omega arith));
      one = subst (λ (ms : List Bool). length ms ≤ 64) (sym top) summed.one;
    }

-- the word above is written, and those above it
pub put-written : (i at : ℕ) (tiers next last : List (List Bool)) (mark : Bool) → AreSummed i tiers → at < length (get_or tiers i []) → next ≡ set tiers i (set (get_or tiers i []) at mark) → i + 1 < length tiers → AreSummed (i + 1) last → get_or last (i + 1) [] ≡ set (get_or next (i + 1) []) (at / 64) (some_in (at / 64) (get_or next i [])) → get_or last i [] ≡ get_or next i [] → AreSummed i last
put-written i at tiers next last mark summed within put more behind written same =
    let above : i + 1 ≢ i = omega arith in
    let here : get_or next i [] ≡ set (get_or tiers i []) at mark = put-here i at tiers next mark put (omega arith) in
    let over : get_or next (i + 1) [] ≡ get_or tiers (i + 1) [] = put-other i (i + 1) at tiers next mark put above in
    let low : get_or last i [] ≡ set (get_or tiers i []) at mark = same ∙ here in
    let high : get_or last (i + 1) [] ≡ set (get_or tiers (i + 1) []) (at / 64) (some_in (at / 64) (set (get_or tiers i []) at mark)) =
    written ∙ (ap (λ ms. set ms (at / 64) (some_in (at / 64) (get_or next i []))) over ∙ ap (λ ms. set (get_or tiers (i + 1) []) (at / 64) (some_in (at / 64) ms)) here) in
    let own : IsSummary (get_or last (i + 1) []) (get_or last i []) =
    subst₂ (λ (x : List Bool) (y : List Bool). IsSummary x y) (sym high) (sym low) (summary-put (get_or tiers i []) (get_or tiers (i + 1) []) at mark (summed.each i (omega arith) more) within) in
    record {
      each = λ j from below. elim (cases_eq j i) [
        | inl first ↦ subst (λ (k : ℕ). IsSummary (get_or last (k + 1) []) (get_or last k [])) (sym first) own
        | inr later ↦ behind.each j (omega arith) below
      ];
      one = behind.one;
    }

-- or nothing is to be done there
pub put-still : (i at : ℕ) (tiers next : List (List Bool)) (mark : Bool) → AreSummed i tiers → next ≡ set tiers i (set (get_or tiers i []) at mark) → i + 1 < length tiers → get_or (get_or next (i + 1) []) (at / 64) false ≡ some_in (at / 64) (get_or next i []) → AreSummed i next
put-still i at tiers next mark summed put more same =
    let above : i + 1 ≢ i = omega arith in
    let here : get_or next i [] ≡ set (get_or tiers i []) at mark = put-here i at tiers next mark put (omega arith) in
    let over : get_or next (i + 1) [] ≡ get_or tiers (i + 1) [] = put-other i (i + 1) at tiers next mark put above in
    let behind = put-behind i at tiers next mark summed put more in
    let answer : get_or (get_or tiers (i + 1) []) (at / 64) false ≡ some_in (at / 64) (set (get_or tiers i []) at mark) =
    ap (λ ms. get_or ms (at / 64) false) (sym over) ∙ (same ∙ ap (λ ms. some_in (at / 64) ms) here) in
    let own : IsSummary (get_or next (i + 1) []) (get_or next i []) =
    subst₂ (λ (x : List Bool) (y : List Bool). IsSummary x y) (sym over) (sym here) (summary-same (get_or tiers i []) (get_or tiers (i + 1) []) at mark (summed.each i (omega arith) more) answer) in
    record {
      each = λ j from below. elim (cases_eq j i) [
        | inl first ↦ subst (λ (k : ℕ). IsSummary (get_or next (k + 1) []) (get_or next k [])) (sym first) own
        | inr later ↦ behind.each j (omega arith) below
      ];
      one = behind.one;
    }

-- nor is there a tier above the last
pub put-last : (i at : ℕ) (tiers next : List (List Bool)) (mark : Bool) → AreSummed i tiers → next ≡ set tiers i (set (get_or tiers i []) at mark) → i < length tiers → length tiers ≤ i + 1 → AreSummed i next
put-last i at tiers next mark summed put within last =
    let long = put-long i at tiers next mark put in
    let here : get_or next i [] ≡ set (get_or tiers i []) at mark = put-here i at tiers next mark put within in
    let size = ap length here ∙ length-set (get_or tiers i []) at mark in
    let top : length tiers - 1 ≡ i = omega arith in
    let top_next : length next - 1 ≡ i = omega arith in
    let one : length (get_or tiers i []) ≤ 64 = subst (λ (k : ℕ). length (get_or tiers k []) ≤ 64) top summed.one in
    record {
      each = λ j from below. absurd (omega arith);
      one = subst (λ (k : ℕ). length (get_or next k []) ≤ 64) (sym top_next) (omega arith);
    }

-- ---- tiers that are made

-- The tier above while it is made: so many words are looked at.
pub record Summing (above below : List Bool) (size words : ℕ) : Type 0 where
  pub done : (word : ℕ) → word < words → get_or above word false ≡ some_in word below
  pub left : (word : ℕ) → words ≤ word → get_or above word false ≡ false
  pub sized : length above ≡ size

pub unset_at : (n k : ℕ) → get_or (replicate n false) k false ≡ false
unset_at zero k = refl
unset_at (suc n) zero = refl
unset_at (suc n) (suc k) = unset_at n k

pub summing_none : (above below : List Bool) (size : ℕ) → above ≡ replicate size false → Summing above below size 0
summing_none above below size made = record {
  done = λ word early. absurd (omega arith);
  left = λ word late. ap (λ ms. get_or ms word false) made ∙ unset_at size word;
  sized = ap length made ∙ length-replicate size false;
}

pub summing_more : (above more below : List Bool) (size words : ℕ) (some : Bool) → Summing above below size words → words < size → some ≡ some_in words below → more ≡ set above words some → Summing more below size (words + 1)
summing_more above more below size words some summing fits answer put =
    let sized = summing.sized in
    record {
      done = λ word early. elim (cases_eq word words) [
        | inl here ↦ subst (λ (w : ℕ). get_or more w false ≡ some_in w below) (sym here) (ap (λ ms. get_or ms words false) put ∙ (get_or-set_same above words some false (omega arith) ∙ answer))
        | inr other ↦ ap (λ ms. get_or ms word false) put ∙ (get_or-set_other above words word some false other ∙ summing.done word (omega arith))
      ];
      left = λ word late. let other : word ≢ words = omega arith in ap (λ ms. get_or ms word false) put ∙ (get_or-set_other above words word some false other ∙ summing.left word (omega arith));
      sized = ap length put ∙ (length-set above words some ∙ sized);
    }

pub summing_all : (above below : List Bool) (size words : ℕ) → Summing above below size words → length below ≤ 64 * words → words ≤ size → IsSummary above below
summing_all above below size words summing all fits =
    let sized = summing.sized in
    record {
      each = λ word. elim (cases_lt word words) [
        | inl early ↦ summing.done word early
        | inr late ↦ summing.left word late ∙ sym (some_in-past below word (omega arith))
      ];
      fits = omega arith;
    }

-- Tiers while they are made, and the one that comes next.
pub record Growing (tiers : List (List Bool)) (tier lowest : List Bool) : Type 0 where
  pub first : lowest_of (tiers ++ tier ∷ []) ≡ lowest
  pub each : (i : ℕ) → i < length tiers → IsSummary (get_or (tiers ++ tier ∷ []) (i + 1) []) (get_or (tiers ++ tier ∷ []) i [])

pub growing_none : (tiers : List (List Bool)) (lowest : List Bool) → tiers ≡ [] → Growing tiers lowest lowest
growing_none tiers lowest none = subst (λ (ts : List (List Bool)). Growing ts lowest lowest) (sym none) (record { first = refl; each = λ i below. absurd (omega arith) })

pub growing_more : (tiers more : List (List Bool)) (tier above lowest : List Bool) → Growing tiers tier lowest → more ≡ tiers ++ tier ∷ [] → IsSummary above tier → Growing more above lowest
growing_more tiers more tier above lowest growing pushed summary =
    let long : length more ≡ length tiers + 1 = ap length pushed ∙ length_push tiers tier in
    let low : (i : ℕ) → i < length more → get_or (more ++ above ∷ []) i [] ≡ get_or (tiers ++ tier ∷ []) i [] = λ i below. get_or_append_left more (above ∷ []) [] i below ∙ ap (λ ts. get_or ts i []) pushed in
    record {
      first = low 0 (omega arith) ∙ growing.first;
      each = λ i below. elim (cases_lt i (length tiers)) [
        | inl inside ↦ subst₂ (λ (x : List Bool) (y : List Bool). IsSummary x y) (sym (low (i + 1) (omega arith))) (sym (low i (omega arith))) (growing.each i inside)
        | inr last ↦
            let here : length tiers ≡ i = omega arith in
            let next : length more ≡ i + 1 = omega arith in
            subst₂ (λ (x : List Bool) (y : List Bool). IsSummary x y) (sym (get_or_push more above [] (i + 1) next)) (sym (low i (omega arith) ∙ get_or_push tiers tier [] i here)) summary
      ];
    }

pub growing_all : (tiers all : List (List Bool)) (tier lowest : List Bool) → Growing tiers tier lowest → all ≡ tiers ++ tier ∷ [] → length tier ≤ 64 → AreSummed 0 all
growing_all tiers all tier lowest growing pushed one =
    let long : length (tiers ++ tier ∷ []) ≡ length tiers + 1 = length_push tiers tier in
    let last : length tiers ≡ length (tiers ++ tier ∷ []) - 1 = omega arith in
    subst (λ (ts : List (List Bool)). AreSummed 0 ts) (sym pushed) (record {
      each = λ i from below. growing.each i (omega arith);
      one = subst (λ (ms : List Bool). length ms ≤ 64) (sym (get_or_push tiers tier [] (length (tiers ++ tier ∷ []) - 1) last)) one;
    })

pub growing_is : (tiers all : List (List Bool)) (tier lowest : List Bool) → Growing tiers tier lowest → all ≡ tiers ++ tier ∷ [] → lowest_of all ≡ lowest
growing_is tiers all tier lowest growing pushed = ap lowest_of pushed ∙ growing.first

-- a tier that is read from its place, as the code reads it
pub tier-read : (tiers : List (List Bool)) (i : ℕ) (tier : List Bool) → i < length tiers → tier ≡ get_or tiers i tier → tier ≡ get_or tiers i []
tier-read tiers i tier within read = get_or_read tiers i tier within read []

-- where there is a mark, there is a tier
pub some_tier : (tiers : List (List Bool)) (at : ℕ) → at < length (lowest_of tiers) → 0 < length tiers
some_tier [] at within = absurd (omega arith)
some_tier (tier ∷ rest) at within = omega arith

-- what isn't found, and answers that agree
pub none_of : (found : Option ℕ) → ((at : ℕ) → found ≡ Some at → ⊥) → found ≡ None
none_of None not = refl
none_of (Some at) not = absurd (not at refl)

pub alike : (x y : Bool) → not (beq x y) ≡ false → x ≡ y
alike true true same = refl
alike true false same = cc
alike false true same = cc
alike false false same = refl
