-- The bits of numbers as marks.
use Rattle.std.proofs.Common.{◌≡◌, ℕ, zero, suc, ◌+◌, ◌-◌, ◌*◌, ◌/◌, ◌%◌, ◌^◌, ◌<◌, ◌≤◌, Bool, true, false, List, [], ◌∷◌, ◌++◌, length, get_or, take, drop, set, replicate, nat_eq, nat_lt, not, count_ones, bit_and, bit_or, ◌≢◌, w64, Some, None, ap, sym, refl, ◌∙◌, inl, inr, arith}
use Rattle.std.proofs.lemmas.Bool.{cases_eq, cases_lt, eq-eqb, ne_eqb, le-ltb, lt-ltb}
use Rattle.std.proofs.lemmas.List.{length-append, take_at, drop_at, drop-drop, append_assoc, set-append_left, set-append_right, ext_get_or, replicate-append-replicate, length-set, get_or-set_same, get_or-set_other, get_or_past, get_or_read, take_all}
use Rattle.std.proofs.lemmas.Nat.{ones_le_self, zero_from_ones, shr-shr, pow_pos, one_shl, and_mask}
use Rattle.std.proofs.lemmas.Nat.Bits.{bit_at_lowest, bit_at-suc, bit_at-zero, bit_at_above, bit_at_cat_low, bit_at_set_same, bit_at_set_other, bit_at_clear_same, bit_at_clear_other, bit_at-trailing_zeros}
use Rattle.std.proofs.Math.Nat.{div-le_self, mod-lt}
use Rattle.std.proofs.Math.Pow.{pow_mono}
use Rattle.std.specs.Int.{bit_at, bit_not, trailing_zeros}
use Rattle.std.specs.Int.Count.{ones_step}
use Rattle.sr_marks.specs.Counts.{weight}
use Rattle.sr_marks.specs.Marks.{count_set, next_set}
use Rattle.sr_marks.specs.Words.{bits_of, bits_in, word_of}
use Rattle.sr_marks.proofs.SetMarks.{next_set-found, next_set-missing}

pub length-bits_of : (n word : ℕ) → length (bits_of n word) ≡ n
unfolding bits_of
length-bits_of zero word = refl
length-bits_of (suc n) word = let e = length-bits_of n (word / 2) in omega arith

-- a bit is its digit
pub get_or-bits_of : (n word k : ℕ) → k < n → get_or (bits_of n word) k false ≡ nat_eq (bit_at word k) 1
unfolding bits_of
get_or-bits_of zero word k below = absurd (omega arith)
get_or-bits_of (suc n) word zero below = ap (λ b. nat_eq b 1) (sym (bit_at_lowest word))
get_or-bits_of (suc n) word (suc k) below = get_or-bits_of n (word / 2) k (omega arith) ∙ ap (λ b. nat_eq b 1) (sym (bit_at-suc word k))

count-first : (mark : Bool) (rest : List Bool) → count_set (mark ∷ rest) ≡ weight mark + count_set rest
unfolding count_set
count-first true rest = omega arith
count-first false rest = omega arith

weight-digit : (n : ℕ) → weight (nat_eq (n % 2) 1) ≡ n % 2
weight-digit n = elim (cases_eq (n % 2) 1) [
  | inl one ↦ rw one refl
  | inr other ↦ let none : n % 2 ≡ 0 = omega arith in rw none refl
]

-- as many are set as there are ones
pub count-bits_of : (n word : ℕ) → word < 2 ^ n → count_set (bits_of n word) ≡ count_ones word
unfolding bits_of count_set
count-bits_of zero word below =
    let none : word ≡ 0 = omega arith in
    let few = ones_le_self word in
    omega arith
count-bits_of (suc n) word below =
    let half = count-bits_of n (word / 2) (omega arith) in
    let first = count-first (nat_eq (word % 2) 1) (bits_of n (word / 2)) in
    let digit = weight-digit word in
    let step = ones_step word in
    omega arith

pub take-bits_of : (k n word : ℕ) → k ≤ n → take k (bits_of n word) ≡ bits_of k word
unfolding bits_of
take-bits_of zero n word fits = refl
take-bits_of (suc k) zero word fits = absurd (omega arith)
take-bits_of (suc k) (suc n) word fits = ap (λ bits. nat_eq (word % 2) 1 ∷ bits) (take-bits_of k n (word / 2) (omega arith))

-- what is left by the digits above keeps the bits below
pub bits_of-low : (k word : ℕ) → bits_of k (word % 2 ^ k) ≡ bits_of k word
bits_of-low k word =
    let long = length-bits_of k (word % 2 ^ k) in
    let long_either = length-bits_of k word in
    ext_get_or false (bits_of k (word % 2 ^ k)) (bits_of k word) (omega arith) (λ i below.
    let inside : i < k = omega arith in
    let whole : word / 2 ^ k * 2 ^ k + word % 2 ^ k ≡ word = omega arith in
    let digit : bit_at (word % 2 ^ k) i ≡ bit_at word i = sym (bit_at_cat_low (word / 2 ^ k) k (word % 2 ^ k) i inside) ∙ ap (λ x. bit_at x i) whole in
    get_or-bits_of k (word % 2 ^ k) i inside ∙ (ap (λ b. nat_eq b 1) digit ∙ sym (get_or-bits_of k word i inside)))

pub length-bits_in : (words : List ℕ) → length (bits_in words) ≡ 64 * length words
unfolding bits_in
length-bits_in [] = refl
length-bits_in (word ∷ words) =
    let rest = length-bits_in words in
    let first = length-bits_of 64 word in
    let both = length-append (bits_of 64 word) (bits_in words) in
    omega arith

-- the marks of a word are its bits
pub word-bits_in : (words : List ℕ) (at : ℕ) → at < length words → word_of at (bits_in words) ≡ bits_of 64 (get_or words at 0)
unfolding bits_in
word-bits_in [] at below = absurd (omega arith)
word-bits_in (word ∷ words) zero below = take_at (bits_of 64 word) (bits_in words) 64 (length-bits_of 64 word)
word-bits_in (word ∷ words) (suc at) below =
    let on : 64 * suc at ≡ 64 + 64 * at = omega arith in
    let apart : drop (64 + 64 * at) (bits_of 64 word ++ bits_in words) ≡ drop (64 * at) (drop 64 (bits_of 64 word ++ bits_in words)) = sym (drop-drop (64 * at) 64 (bits_of 64 word ++ bits_in words)) in
    let rest : drop 64 (bits_of 64 word ++ bits_in words) ≡ bits_in words = drop_at (bits_of 64 word) (bits_in words) 64 (length-bits_of 64 word) in
    ap (λ k. take 64 (drop k (bits_of 64 word ++ bits_in words))) on ∙ (ap (take 64) apart ∙ (ap (λ ms. take 64 (drop (64 * at) ms)) rest ∙ word-bits_in words at (omega arith)))

-- a bit set or taken away
pub bits_in-set : (words : List ℕ) (at bit new : ℕ) (mark : Bool) → at < length words → bit < 64 → bits_of 64 new ≡ set (bits_of 64 (get_or words at 0)) bit mark → bits_in (set words at new) ≡ set (bits_in words) (64 * at + bit) mark
unfolding bits_in
bits_in-set [] at bit new mark below inside written = absurd (omega arith)
bits_in-set (word ∷ words) zero bit new mark below inside written =
    let here : bit ≡ 64 * 0 + bit = omega arith in
    ap (λ bits. bits ++ bits_in words) written ∙ (sym (set-append_left (bits_of 64 word) (bits_in words) bit mark (omega (arith, length-bits_of 64 word))) ∙ ap (λ k. set (bits_of 64 word ++ bits_in words) k mark) here)
bits_in-set (word ∷ words) (suc at) bit new mark below inside written =
    let on : 64 * suc at + bit - 64 ≡ 64 * at + bit = omega arith in
    ap (λ bits. bits_of 64 word ++ bits) (bits_in-set words at bit new mark (omega arith) inside written) ∙ (ap (λ k. bits_of 64 word ++ set (bits_in words) k mark) (sym on) ∙ sym (set-append_right (bits_of 64 word) (bits_in words) 64 (64 * suc at + bit) mark (length-bits_of 64 word) (omega arith)))

pub bits_in-append : (words more : List ℕ) → bits_in (words ++ more) ≡ bits_in words ++ bits_in more
unfolding bits_in
bits_in-append [] more = refl
bits_in-append (word ∷ words) more = ap (λ bits. bits_of 64 word ++ bits) (bits_in-append words more) ∙ sym (append_assoc (bits_of 64 word) (bits_in words) (bits_in more))

bits_of-zero : (n : ℕ) → bits_of n 0 ≡ replicate n false
unfolding bits_of
bits_of-zero zero = refl
bits_of-zero (suc n) = ap (λ bits. false ∷ bits) (bits_of-zero n)

-- words without a mark
pub bits_in-zeros : (n : ℕ) → bits_in (replicate n 0) ≡ replicate (64 * n) false
unfolding bits_in
bits_in-zeros zero = refl
bits_in-zeros (suc n) =
    let on : 64 + 64 * n ≡ 64 * suc n = omega arith in
    ap (λ bits. bits_of 64 0 ++ bits) (bits_in-zeros n) ∙ (ap (λ bits. bits ++ replicate (64 * n) false) (bits_of-zero 64) ∙ (replicate-append-replicate 64 (64 * n) false ∙ ap (λ k. replicate k false) on))

-- a bit changed
pub bits_of-written : (old new k : ℕ) (mark : Bool) → k < 64 → nat_eq (bit_at new k) 1 ≡ mark → ((i : ℕ) → i < 64 → i ≢ k → bit_at new i ≡ bit_at old i) → bits_of 64 new ≡ set (bits_of 64 old) k mark
bits_of-written old new k mark below here others =
    let long = length-bits_of 64 new in
    let long_either = length-bits_of 64 old in
    let same_long = length-set (bits_of 64 old) k mark in
    ext_get_or false (bits_of 64 new) (set (bits_of 64 old) k mark) (omega arith) (λ i inside.
    let within : i < 64 = omega arith in
    get_or-bits_of 64 new i within ∙ elim (cases_eq i k) [
      | inl same ↦ rw same (here ∙ sym (get_or-set_same (bits_of 64 old) k mark false (omega arith)))
      | inr other ↦ ap (λ b. nat_eq b 1) (others i within other) ∙ (sym (get_or-bits_of 64 old i within) ∙ sym (get_or-set_other (bits_of 64 old) k i mark false other))
    ])

-- a mark set, and one taken away
pub bits_of-set : (word k : ℕ) → k < 64 → bits_of 64 (bit_or word (1 * 2 ^ k % 2 ^ 64)) ≡ set (bits_of 64 word) k true
bits_of-set word k below = bits_of-written word (bit_or word (1 * 2 ^ k % 2 ^ 64)) k true below (ap (λ b. nat_eq b 1) (bit_at_set_same w64 word k below)) (λ i inside other. bit_at_set_other w64 word k below i other)

pub bits_of-unset : (word k : ℕ) → k < 64 → bits_of 64 (bit_and word (bit_not w64 (1 * 2 ^ k % 2 ^ 64))) ≡ set (bits_of 64 word) k false
bits_of-unset word k below = bits_of-written word (bit_and word (bit_not w64 (1 * 2 ^ k % 2 ^ 64))) k false below (ap (λ b. nat_eq b 1) (bit_at_clear_same w64 word k below)) (λ i inside other. bit_at_clear_other w64 word k below i inside other)

-- how many of the bits below one are set
pub count-below : (word k : ℕ) → k < 64 → count_set (bits_of 64 (word % 2 ^ k)) ≡ count_set (take k (bits_of 64 word))
count-below word k below =
    let less : word % 2 ^ k < 2 ^ k = mod-lt word (pow_pos k) in
    let inside : k ≤ 64 = omega arith in
    let more : 2 ^ k ≤ 2 ^ 64 = pow_mono inside in
    let whole = count-bits_of 64 (word % 2 ^ k) (omega arith) in
    let part = count-bits_of k (word % 2 ^ k) less in
    let same = ap count_set (bits_of-low k word ∙ sym (take-bits_of k 64 word (omega arith))) in
    omega arith

-- so the digits below one, as they are cut off
pub count-masked : (word k masked : ℕ) → k < 64 → masked ≡ bit_and word (1 * 2 ^ k % 2 ^ 64 - 1) → count_set (bits_of 64 masked) ≡ count_set (take k (bits_of 64 word))
count-masked word k masked below is =
    let mask : 1 * 2 ^ k % 2 ^ 64 ≡ 2 ^ k = one_shl k 64 below in
    ap (λ w. count_set (bits_of 64 w)) (is ∙ (ap (λ m. bit_and word (m - 1)) mask ∙ and_mask word k)) ∙ count-below word k below

-- a word is 0 where none of its bits is set
pub some-bits_of : (word : ℕ) → word < 2 ^ 64 → not (nat_eq word 0) ≡ nat_lt 0 (count_set (bits_of 64 word))
some-bits_of word fits =
    let whole = count-bits_of 64 word fits in
    elim (cases_eq word 0) [
      | inl none ↦
          let few = ones_le_self word in
          ap not (eq-eqb word 0 none) ∙ sym (le-ltb 0 (count_set (bits_of 64 word)) (omega arith))
      | inr some ↦ elim (cases_eq (count_ones word) 0) [
        | inl unset ↦ absurd (some (zero_from_ones word unset))
        | inr set ↦ ap not (ne_eqb word 0 some) ∙ sym (lt-ltb 0 (count_set (bits_of 64 word)) (omega arith))
      ]
    ]

shifted : (word from i : ℕ) → bit_at (word / 2 ^ from) i ≡ bit_at word (from + i)
shifted word from i = ap (λ x. x % 2) (shr-shr word from i)

-- no bit is set from one on where none is left
pub next_bit-none : (word from : ℕ) → word / 2 ^ from ≡ 0 → next_set from (bits_of 64 word) ≡ None
next_bit-none word from none = next_set-missing from (bits_of 64 word) (λ k above. elim (cases_lt k 64) [
  | inl inside ↦
      let on : from + (k - from) ≡ k = omega arith in
      let digit : bit_at word k ≡ 0 = ap (bit_at word) (sym on) ∙ (sym (shifted word from (k - from)) ∙ (ap (λ x. bit_at x (k - from)) none ∙ bit_at-zero (k - from))) in
      get_or-bits_of 64 word k inside ∙ ap (λ b. nat_eq b 1) digit
  | inr past ↦ get_or_past (bits_of 64 word) k false (omega (arith, length-bits_of 64 word))
])

-- the lowest that is left is the next
pub next_bit-is : (word from : ℕ) → word < 2 ^ 64 → (word / 2 ^ from ≡ 0 → ⊥) → (from + trailing_zeros w64 (word / 2 ^ from) < 64) × (next_set from (bits_of 64 word) ≡ Some (from + trailing_zeros w64 (word / 2 ^ from)))
next_bit-is word from fits some =
    let left = word / 2 ^ from in
    let zeros = trailing_zeros w64 left in
    let lowest = bit_at-trailing_zeros w64 left (omega arith) (omega (arith, div-le_self word (2 ^ from))) in
    let one : bit_at word (from + zeros) ≡ 1 = sym (shifted word from zeros) ∙ lowest.1 in
    let inside : from + zeros < 64 = elim (cases_lt (from + zeros) 64) [
      | inl within ↦ within
      | inr past ↦ let none = bit_at_above word 64 (from + zeros) fits past in absurd (omega arith)
    ] in (
      inside,
      next_set-found from (bits_of 64 word) (from + zeros) (omega arith) (get_or-bits_of 64 word (from + zeros) inside ∙ ap (λ b. nat_eq b 1) one) (λ k above below.
          let on : from + (k - from) ≡ k = omega arith in
          let digit : bit_at word k ≡ 0 = ap (bit_at word) (sym on) ∙ (sym (shifted word from (k - from)) ∙ lowest.2 (k - from) (omega arith)) in
          get_or-bits_of 64 word k (omega arith) ∙ ap (λ b. nat_eq b 1) digit),
    )

-- ---- words that are known by their marks

pub word-within : (words : List ℕ) (marks : List Bool) (at : ℕ) → bits_in words ≡ marks → at < length marks → at / 64 < length words
word-within words marks at is below = let long = ap length is in omega (arith, length-bits_in words)

pub word-read : (words : List ℕ) (marks : List Bool) (at word : ℕ) → bits_in words ≡ marks → at < length words → word ≡ get_or words at word → word_of at marks ≡ bits_of 64 word
word-read words marks at word is below read = ap (word_of at) (sym is) ∙ (word-bits_in words at below ∙ ap (bits_of 64) (sym (get_or_read words at word below read 0)))

pub bits_in-put : (words : List ℕ) (marks : List Bool) (at old new : ℕ) (mark : Bool) → bits_in words ≡ marks → at < length marks → old ≡ get_or words (at / 64) old → bits_of 64 new ≡ set (bits_of 64 old) (at % 64) mark → bits_in (set words (at / 64) new) ≡ set marks at mark
bits_in-put words marks at old new mark is below read written =
    let inside = word-within words marks at is below in
    let here : 64 * (at / 64) + at % 64 ≡ at = omega arith in
    let before : old ≡ get_or words (at / 64) 0 = get_or_read words (at / 64) old inside read 0 in
    bits_in-set words (at / 64) (at % 64) new mark inside (omega arith) (written ∙ ap (λ w. set (bits_of 64 w) (at % 64) mark) before) ∙ (ap (λ k. set (bits_in words) k mark) here ∙ ap (λ ms. set ms at mark) is)

-- more words, without a mark
pub bits_in-grown : (words more : List ℕ) (marks : List Bool) (n many : ℕ) → bits_in words ≡ marks → length marks ≤ 64 * n → many ≡ length words → more ≡ take n words ++ replicate (n - many) 0 → bits_in more ≡ marks ++ replicate (64 * n - length marks) false
bits_in-grown words more marks n many is fits long grown =
    let size = ap length is in
    let whole : take n words ≡ words = take_all n words (omega (arith, length-bits_in words)) in
    let rest : 64 * (n - many) ≡ 64 * n - length marks = omega (arith, length-bits_in words) in
    ap bits_in (grown ∙ ap (λ ws. ws ++ replicate (n - many) 0) whole) ∙ (bits_in-append words (replicate (n - many) 0) ∙ (ap (λ bits. bits_in words ++ bits) (bits_in-zeros (n - many)) ∙ (ap (λ bits. bits ++ replicate (64 * (n - many)) false) is ∙ ap (λ k. marks ++ replicate k false) rest)))

pub bits_in-none : bits_in [] ≡ []
unfolding bits_in
bits_in-none = refl
