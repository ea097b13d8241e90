-- Lists of marks by their words.
use Rattle.std.proofs.Common.{◌≡◌, ℕ, zero, suc, ◌+◌, ◌-◌, ◌*◌, ◌/◌, ◌%◌, ◌<◌, ◌≤◌, ◌≢◌, Bool, true, false, List, [], ◌∷◌, length, get_or, take, drop, set, nat_lt, Option, option_map, Some, None, ap, sym, refl, ◌∙◌, subst, inl, inr, arith}
use Rattle.std.proofs.lemmas.Bool.{cases_lt, ltb-true, ltb-false, lt-ltb}
use Rattle.std.proofs.lemmas.List.{length-take, get_or-take, get_or-drop, take-set-le, drop-set-lt, drop-set-add, drop_all, take-take, get_or_past, drop-take}
use Rattle.sr_marks.specs.Marks.{count_set, rank_of, nth_set, next_set}
use Rattle.sr_marks.specs.Words.{word_of, some_in, up_to_word_end}
use Rattle.sr_marks.proofs.SetMarks.{nth_set-is, nth_set-rank}

pub get_or-word : (ms : List Bool) (word k : ℕ) → k < 64 → get_or (word_of word ms) k false ≡ get_or ms (64 * word + k) false
get_or-word ms word k below = get_or-take 64 (drop (64 * word) ms) k false below ∙ get_or-drop (64 * word) ms k false

-- a mark is one of its word
pub get_or-in_word : (ms : List Bool) (at : ℕ) → get_or (word_of (at / 64) ms) (at % 64) false ≡ get_or ms at false
get_or-in_word ms at =
    let here : 64 * (at / 64) + at % 64 ≡ at = omega arith in
    get_or-word ms (at / 64) (at % 64) (omega arith) ∙ ap (λ k. get_or ms k false) here

pub set-take : {X : Type 0} (n i : ℕ) (xs : List X) (x : X) → take n (set xs i x) ≡ set (take n xs) i x
set-take zero i [] x = refl
set-take zero zero (y ∷ ys) x = refl
set-take zero (suc i) (y ∷ ys) x = refl
set-take (suc n) i [] x = refl
set-take (suc n) zero (y ∷ ys) x = refl
set-take (suc n) (suc i) (y ∷ ys) x = ap (λ rest. y ∷ rest) (set-take n i ys x)

-- an element that is written, in its word and in another
pub word-set_same : {X : Type 0} (xs : List X) (at : ℕ) (x : X) → take 64 (drop (64 * (at / 64)) (set xs at x)) ≡ set (take 64 (drop (64 * (at / 64)) xs)) (at % 64) x
word-set_same xs at x =
    let here : at ≡ 64 * (at / 64) + at % 64 = omega arith in
    ap (λ k. take 64 (drop (64 * (at / 64)) (set xs k x))) here ∙ (ap (take 64) (drop-set-add (64 * (at / 64)) xs (at % 64) x) ∙ set-take 64 (at % 64) (drop (64 * (at / 64)) xs) x)

pub word-set_other : {X : Type 0} (xs : List X) (at word : ℕ) (x : X) → word ≢ at / 64 → take 64 (drop (64 * word) (set xs at x)) ≡ take 64 (drop (64 * word) xs)
word-set_other xs at word x other = elim (cases_lt at (64 * word)) [
  | inl before ↦ ap (take 64) (drop-set-lt (64 * word) xs at x before)
  | inr after ↦
      let past : 64 * word + 64 ≤ at = omega arith in
      let here : at ≡ 64 * word + (at - 64 * word) = omega arith in
      ap (λ k. take 64 (drop (64 * word) (set xs k x))) here ∙ (ap (take 64) (drop-set-add (64 * word) xs (at - 64 * word) x) ∙ take-set-le 64 (drop (64 * word) xs) (at - 64 * word) x (omega arith))
]

pub rank-split : (n k : ℕ) (ms : List Bool) → rank_of (n + k) ms ≡ rank_of n ms + count_set (take k (drop n ms))
unfolding count_set
rank-split zero k ms = let on : 0 + k ≡ k = omega arith in rw on (omega arith)
rank-split (suc n) zero [] = let on : suc n + 0 ≡ suc n = omega arith in rw on refl
rank-split (suc n) (suc k) [] = let on : suc n + suc k ≡ suc (n + suc k) = omega arith in rw on refl
rank-split (suc n) k (true ∷ ms) = let on : suc n + k ≡ suc (n + k) = omega arith in let e = rank-split n k ms in rw on (omega arith)
rank-split (suc n) k (false ∷ ms) = let on : suc n + k ≡ suc (n + k) = omega arith in rw on (rank-split n k ms)

-- ranks, a word on and in a word
pub rank-word : (ms : List Bool) (word : ℕ) → rank_of (64 * (word + 1)) ms ≡ rank_of (64 * word) ms + count_set (word_of word ms)
rank-word ms word = let on : 64 * (word + 1) ≡ 64 * word + 64 = omega arith in ap (λ k. rank_of k ms) on ∙ rank-split (64 * word) 64 ms

pub rank-within : (ms : List Bool) (word k : ℕ) → k ≤ 64 → rank_of (64 * word + k) ms ≡ rank_of (64 * word) ms + count_set (take k (word_of word ms))
rank-within ms word k inside = rank-split (64 * word) k ms ∙ ap (λ zs. rank_of (64 * word) ms + count_set zs) (sym (take-take k 64 (drop (64 * word) ms) inside))

pub rank-in_word : (ms : List Bool) (at : ℕ) → rank_of at ms ≡ rank_of (64 * (at / 64)) ms + count_set (take (at % 64) (word_of (at / 64) ms))
rank-in_word ms at =
    let here : at ≡ 64 * (at / 64) + at % 64 = omega arith in
    ap (λ k. rank_of k ms) here ∙ rank-within ms (at / 64) (at % 64) (omega arith)

-- the n-th set mark of a word is one of the list
pub nth-in_word : (ms : List Bool) (word n k : ℕ) → nth_set n (word_of word ms) ≡ Some k → nth_set (rank_of (64 * word) ms + n) ms ≡ Some (64 * word + k)
nth-in_word ms word n k found =
    let is = nth_set-is n (word_of word ms) k found in
    let short = length-take 64 (drop (64 * word) ms) in
    let inside : k < 64 = omega (arith, is.0) in
    let marked : get_or ms (64 * word + k) false ≡ true = sym (get_or-word ms word k inside) ∙ is.1 in
    let rank : rank_of (64 * word + k) ms ≡ rank_of (64 * word) ms + n = rank-within ms word k (omega arith) ∙ ap (λ z. rank_of (64 * word) ms + z) is.2 in
    subst (λ z. nth_set z ms ≡ Some (64 * word + k)) rank (nth_set-rank ms (64 * word + k) marked)

none_set : (ms : List Bool) → count_set ms ≡ 0 → (k : ℕ) → get_or ms k false ≡ false
unfolding count_set
none_set [] none k = refl
none_set (true ∷ ms) none k = absurd (omega arith)
none_set (false ∷ ms) none zero = refl
none_set (false ∷ ms) none (suc k) = none_set ms none k

pub count-unset : (ms : List Bool) → ((k : ℕ) → get_or ms k false ≡ false) → count_set ms ≡ 0
unfolding count_set
count-unset [] unset = refl
count-unset (true ∷ ms) unset = let first = unset 0 in cc
count-unset (false ∷ ms) unset = count-unset ms (λ k. unset (suc k))

some_set : (ms : List Bool) (k : ℕ) → get_or ms k false ≡ true → 0 < count_set ms
unfolding count_set
some_set [] k marked = cc
some_set (true ∷ ms) k marked = omega arith
some_set (false ∷ ms) zero marked = cc
some_set (false ∷ ms) (suc k) marked = some_set ms k marked

lt-true : (n : ℕ) → nat_lt 0 n ≡ true → 0 < n
lt-true n h = ltb-true 0 n h

lt-false : (n : ℕ) → nat_lt 0 n ≡ false → n ≡ 0
lt-false n h = let none = ltb-false 0 n h in omega arith

pos-lt : (n : ℕ) → 0 < n → nat_lt 0 n ≡ true
pos-lt n h = lt-ltb 0 n h

-- what it means that some mark of a word is set, or none
pub some_in-at : (ms : List Bool) (at : ℕ) → get_or ms at false ≡ true → some_in (at / 64) ms ≡ true
some_in-at ms at marked = pos-lt (count_set (word_of (at / 64) ms)) (some_set (word_of (at / 64) ms) (at % 64) (get_or-in_word ms at ∙ marked))

pub some_in-none : (ms : List Bool) (at : ℕ) → some_in (at / 64) ms ≡ false → get_or ms at false ≡ false
some_in-none ms at none = sym (get_or-in_word ms at) ∙ none_set (word_of (at / 64) ms) (lt-false _ none) (at % 64)

pub some_in-past : (ms : List Bool) (word : ℕ) → length ms ≤ 64 * word → some_in word ms ≡ false
unfolding count_set
some_in-past ms word past = ap (λ zs. nat_lt 0 (count_set (take 64 zs))) (drop_all (64 * word) ms past)

-- a word with a set mark begins in the list
pub some_in-within : (ms : List Bool) (word : ℕ) → some_in word ms ≡ true → 64 * word < length ms
some_in-within ms word some = elim (cases_lt (64 * word) (length ms)) [
  | inl within ↦ within
  | inr past ↦ let none = some_in-past ms word (omega arith) in cc
]

-- where none of a word's marks is set, it has none
pub some_in-found : (ms : List Bool) (word : ℕ) → some_in word ms ≡ true → ((k : ℕ) → k < 64 → get_or ms (64 * word + k) false ≡ false) → ⊥
some_in-found ms word some unset =
    let none : count_set (word_of word ms) ≡ 0 = count-unset (word_of word ms) (λ k. elim (cases_lt k 64) [
      | inl inside ↦ get_or-word ms word k inside ∙ unset k inside
      | inr past ↦ let short = length-take 64 (drop (64 * word) ms) in get_or_past (word_of word ms) k false (omega arith)
    ]) in
    let more = lt-true _ some in
    omega arith

next-on : (n k : ℕ) (ms : List Bool) (found : Option ℕ) → next_set k (drop n ms) ≡ found → next_set (n + k) ms ≡ option_map (λ j. n + j) found
unfolding next_set
next-on zero k ms None is = let on : 0 + k ≡ k = omega arith in rw on is
next-on zero k ms (Some j) is = let on : 0 + k ≡ k = omega arith in let same : 0 + j ≡ j = omega arith in rw (on, same) is
next-on (suc n) k [] None is = refl
next-on (suc n) k [] (Some j) is = cc
next-on (suc n) k (m ∷ ms) None is = let on : suc n + k ≡ suc (n + k) = omega arith in rw on (ap (option_map (λ j. suc j)) (next-on n k ms None is))
next-on (suc n) k (m ∷ ms) (Some j) is =
    let on : suc n + k ≡ suc (n + k) = omega arith in
    let same : suc n + j ≡ suc (n + j) = omega arith in
    rw (on, same) (ap (option_map (λ j. suc j)) (next-on n k ms (Some j) is))

word-end : (ms : List Bool) (from : ℕ) → drop (64 * (from / 64)) (up_to_word_end from ms) ≡ word_of (from / 64) ms
word-end ms from =
    let on : 64 * (from / 64 + 1) ≡ 64 * (from / 64) + 64 = omega arith in
    ap (λ k. drop (64 * (from / 64)) (take k ms)) on ∙ drop-take (64 * (from / 64)) 64 ms

-- the next set mark up to a word's end is one of the word
pub next-in_word-some : (ms : List Bool) (from bit : ℕ) → next_set (from % 64) (word_of (from / 64) ms) ≡ Some bit → next_set from (up_to_word_end from ms) ≡ Some (from / 64 * 64 + bit)
next-in_word-some ms from bit found =
    let here : from ≡ 64 * (from / 64) + from % 64 = omega arith in
    let same : 64 * (from / 64) + bit ≡ from / 64 * 64 + bit = omega arith in
    ap (λ k. next_set k (up_to_word_end from ms)) here ∙ (next-on (64 * (from / 64)) (from % 64) (up_to_word_end from ms) (Some bit) (ap (next_set (from % 64)) (word-end ms from) ∙ found) ∙ ap (λ k. Some k) same)

pub next-in_word-none : (ms : List Bool) (from : ℕ) → next_set (from % 64) (word_of (from / 64) ms) ≡ None → next_set from (up_to_word_end from ms) ≡ None
next-in_word-none ms from none =
    let here : from ≡ 64 * (from / 64) + from % 64 = omega arith in
    ap (λ k. next_set k (up_to_word_end from ms)) here ∙ next-on (64 * (from / 64)) (from % 64) (up_to_word_end from ms) None (ap (next_set (from % 64)) (word-end ms from) ∙ none)
