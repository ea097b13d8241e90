-- The transit filter as a place of it is set.
use Rattle.std.proofs.Common.{◌≡◌, ℕ, ◌-◌, ◌*◌, ◌/◌, ◌%◌, ◌^◌, ◌<◌, ◌≤◌, max, pow_mono, pow-add, Bool, true, false, ◌≢◌, ◌⊎◌, List, [], ◌∷◌, bit_or, if◌then◌else◌, ◌==◌, sym, refl, ap, ◌∙◌, inl, inr, arith}
use Rattle.std.specs.Int.{bit_at, IsPowerOfTwo}
use Rattle.std.specs.List.{list_all}
use Rattle.std.proofs.lemmas.Bool.{and_parts, cases_eq, cases_lt}
use Rattle.std.proofs.lemmas.Bool.Decides.{nat_tests}
use Rattle.std.proofs.lemmas.Nat.Bits.{bit_at_or, bit_at-lt, bit_at-zero, bit_at-pow_same, bit_at-pow_other}
use Rattle.sr_base.specs.Key.{KeyView}
use Rattle.sr_base.specs.Layout.{LayoutView}
use Rattle.sr_inv_facts.specs.Readings.{is_marked, is_set_in}
use Rattle.sr_machine.specs.Reads.{filter_bit, filter_word, has_bit}
use Rattle.sr_machine.specs.Stages.{key_bits}

-- the words of the filter once a place is set
abbrev pub with_place : (ℕ → ℕ) → ℕ → ℕ → ℕ
with_place bits place index =
    if filter_word place == index then bit_or (bits (filter_word place)) (filter_bit place) else bits index

-- ---- a place that was set stays so

-- the places that are set are set here too
abbrev pub SetsMore : (ℕ → ℕ) → (ℕ → ℕ) → Type 0
SetsMore bits after = (place : ℕ) → is_set_in bits place ≡ true → is_set_in after place ≡ true

bit_tells : (place x : ℕ) → bit_at x (place % 64) ≡ 1 → has_bit place x ≡ true
unfolding has_bit
bit_tells place x e = grind (arith, nat_tests)

bit_told : (place x : ℕ) → has_bit place x ≡ true → bit_at x (place % 64) ≡ 1
unfolding has_bit
bit_told place x e = grind (arith, nat_tests)

-- an empty word has none set
pub zero_unset : (place : ℕ) → has_bit place 0 ≡ true → ⊥
zero_unset place e = omega (arith, bit_told place 0 e, bit_at-zero (place % 64))

-- the word of a place of the filter is one of its words
pub word_within : (place bits : ℕ) → place < bits → IsPowerOfTwo bits → filter_word place < max 1 (bits / 64)
word_within place bits b (k, e) = at (cases_lt k 6)
  where
    at : (k < 6) ⊎ (6 ≤ k) → place / 64 < max 1 (bits / 64)
    at (inl h) = let few : 2 ^ k ≤ 2 ^ 5 = pow_mono {i = k} {j = 5} (omega arith) in omega (arith, b, e, few)
    at (inr h) =
        let split : 2 ^ k ≡ 2 ^ (k - 6) * 2 ^ 6 = ap (λ n. 2 ^ n) (omega arith) ∙ pow-add 2 (k - 6) 6 in
        let many : bits ≡ 2 ^ (k - 6) * 64 = e ∙ split in
        omega (arith, b, many)

or_more : (place x y : ℕ) → has_bit place x ≡ true → has_bit place (bit_or x y) ≡ true
or_more place x y e =
    bit_tells place (bit_or x y) (omega (arith, bit_at_or x y (place % 64), bit_told place x e, bit_at-lt y (place % 64)))

or_here : (place x : ℕ) → has_bit place (bit_or x (filter_bit place)) ≡ true
or_here place x =
    bit_tells place (bit_or x (filter_bit place))
    (omega (arith, bit_at_or x (filter_bit place) (place % 64), bit_at-pow_same (place % 64), bit_at-lt x (place % 64)))

-- what is set now was set, or stands at the same bit
or_only : (other place x : ℕ) → has_bit other (bit_or x (filter_bit place)) ≡ true
    → (has_bit other x ≡ true) ⊎ (other % 64 ≡ place % 64)
or_only other place x e = at (cases_eq (other % 64) (place % 64))
  where
    at : (other % 64 ≡ place % 64) ⊎ (other % 64 ≢ place % 64) → (has_bit other x ≡ true) ⊎ (other % 64 ≡ place % 64)
    at (inl same) = inr same
    at (inr apart) =
        inl (bit_tells other x
        (omega (arith, bit_at_or x (filter_bit place) (other % 64), bit_told other (bit_or x (filter_bit place)) e, bit_at-pow_other (place % 64) (other % 64) apart)))

module _ (bits : ℕ → ℕ) (place : ℕ) where
  pub set_more : SetsMore bits (with_place bits place)
  set_more other e = at (filter_word place == filter_word other) refl
    where
      at : (b : Bool) → (filter_word place == filter_word other) ≡ b
          → has_bit other (if b then bit_or (bits (filter_word place)) (filter_bit place) else bits (filter_word other)) ≡ true
      at true q =
          let same : filter_word place ≡ filter_word other = grind (arith, nat_tests) in
          or_more other (bits (filter_word place)) (filter_bit place) (ap (λ w. has_bit other (bits w)) same ∙ e)
      at false q = e

  pub set_here : is_set_in (with_place bits place) place ≡ true
  set_here = at (filter_word place == filter_word place) (grind (arith, nat_tests))
    where
      at : (b : Bool) → b ≡ true
          → has_bit place (if b then bit_or (bits (filter_word place)) (filter_bit place) else bits (filter_word place)) ≡ true
      at true q = or_here place (bits (filter_word place))
      at false q = cc

  -- no other place is set by it
  pub set_only : (other : ℕ) → is_set_in (with_place bits place) other ≡ true → (is_set_in bits other ≡ true) ⊎ (other ≡ place)
  set_only other e = at (filter_word place == filter_word other) refl e
    where
      at : (b : Bool) → (filter_word place == filter_word other) ≡ b
          → has_bit other (if b then bit_or (bits (filter_word place)) (filter_bit place) else bits (filter_word other)) ≡ true
          → (is_set_in bits other ≡ true) ⊎ (other ≡ place)
      at true q h =
          let same : filter_word place ≡ filter_word other = grind (arith, nat_tests) in by same (or_only other place (bits (filter_word place)) h)
        where
          by : filter_word place ≡ filter_word other → (has_bit other (bits (filter_word place)) ≡ true) ⊎ (other % 64 ≡ place % 64)
              → (is_set_in bits other ≡ true) ⊎ (other ≡ place)
          by same (inl g) = inl (ap (λ w. has_bit other (bits w)) (sym same) ∙ g)
          by same (inr g) = inr (omega (arith, same, g))
      at false q h = inl h

-- ---- the places of a key

module _ (bits after : ℕ → ℕ) (more : SetsMore bits after) where
  pub all_set_more : (places : List ℕ) → list_all (is_set_in bits) places ≡ true → list_all (is_set_in after) places ≡ true
  all_set_more [] h = refl
  all_set_more (place ∷ rest) h =
      let parts = and_parts (is_set_in bits place) (list_all (is_set_in bits) rest) h in
      cc (more place parts.0, all_set_more rest parts.1)

  pub marked_more : (l : LayoutView) (key : KeyView) → is_marked l bits key ≡ true → is_marked l after key ≡ true
  marked_more l key h = all_set_more (key_bits l key) h
