-- Numbers at the front of bytes: what `decimal` prints is read, and what is read is what it prints.
use Rattle.std.proofs.Common.{◌≡◌, ℕ, ◌+◌, ◌-◌, ◌*◌, ◌^◌, ◌<◌, ◌≤◌, ◌==◌, Bool, true, false, List, [], ◌∷◌, ◌++◌, length, get_or, Option, Some, None, refl, sym, ap, ◌∙◌, cond, leb, ◌⊎◌, inl, inr, arith, rules}
use Rattle.std.specs.Fmt.{decimal}
use Rattle.std.proofs.lemmas.Bool.Decides.{nat_tests}
use Rattle.std.proofs.lemmas.Bool.{cases_Bool, le-leb, leb-true, eqb-true}
use Rattle.std.proofs.lemmas.Fmt.{decimal_digit, decimal-digits_value, digits_decimal, digits_value-decimal, decimal_nonempty, first_decimal}
use Rattle.std.proofs.Math.Nat.{eq-zero-or-pos}
use Rattle.std.proofs.lemmas.Str.Parse.{IsNumeralModel, numerals_by_fold}
use Rattle.sr_decimal.specs.Front.{is_digit, value_from, digits_on, number_front}

-- which way a test went
chosen : {A : Type 0} (b : Bool) (x y z : A) → cond b x y ≡ z → ((b ≡ true) × (x ≡ z)) ⊎ ((b ≡ false) × (y ≡ z))
chosen true x y z e = inl (refl, e)
chosen false x y z e = inr (refl, e)

abbrev Digits : List ℕ → Type 0
Digits [] = Unit {0}
Digits (c ∷ cs) = (48 ≤ c) × (c ≤ 57) × Digits cs

own : IsNumeralModel Digits (value_from 0)
own = numerals_by_fold _ (search rules) value_from (search rules)

-- a number only grows with its digits
pub value_grows : (n : ℕ) (ds : List ℕ) → n ≤ value_from n ds
value_grows n [] = omega arith
value_grows n (c ∷ cs) = omega (arith, value_grows (10 * n + (c - 48)) cs)

digit_in : (c : ℕ) → is_digit c ≡ true → (48 ≤ c) × (c ≤ 57)
digit_in c e = grind (arith, nat_tests)

digit_is : (c : ℕ) → 48 ≤ c → c ≤ 57 → is_digit c ≡ true
digit_is c low high = grind (arith, nat_tests)

digits_on_there : (most n : ℕ) (ds : List ℕ) (e : ℕ) (rest : List ℕ) → Digits ds → is_digit e ≡ false → value_from n ds ≤ most → digits_on most n (ds ++ e ∷ rest) ≡ Some (value_from n ds, e ∷ rest)
digits_on_there most n [] e rest d stop h = rw stop refl
digits_on_there most n (c ∷ cs) e rest d stop h =
    let grows = value_grows (10 * n + (c - 48)) cs in
    let on = digits_on_there most (10 * n + (c - 48)) cs e rest d.2 stop h in
    let is = digit_is c d.0 d.1 in
    let fits : leb (10 * n + (c - 48)) most ≡ true = le-leb _ _ (omega arith) in
    rw (is, fits) on

-- what digits were read, and what they come to
record Spelled (most n : ℕ) (bytes : List ℕ) (x : ℕ × List ℕ) : Type 0 where
  pub ds : List ℕ
  pub digits : Digits ds
  pub at : bytes ≡ ds ++ x.1
  pub value : x.0 ≡ value_from n ds
  pub within : x.0 ≤ most

digits_on_takes : (most n : ℕ) (bytes : List ℕ) (x : ℕ × List ℕ) → n ≤ most → digits_on most n bytes ≡ Some x → Spelled most n bytes x
digits_on_takes most n [] x h e = record { ds = []; digits = tt; at = cc; value = cc; within = let v : x.0 ≡ n = cc in omega arith }
digits_on_takes most n (byte ∷ bytes) x h e =
    elim (chosen (is_digit byte) _ _ _ e) [
      | inl digit ↦ elim (chosen (leb (10 * n + (byte - 48)) most) (digits_on most (10 * n + (byte - 48)) bytes) None (Some x) digit.1) [
        | inl fits ↦
            let on = digits_on_takes most (10 * n + (byte - 48)) bytes x (leb-true _ _ fits.0) fits.1 in
            let d = digit_in byte digit.0 in
            record { ds = byte ∷ on.ds; digits = (d.0, d.1, on.digits); at = ap (λ (l : List ℕ). byte ∷ l) on.at; value = on.value; within = on.within }
        | inr past ↦ absurd (let z = past.1 in cc)
      ]
      | inr other ↦ let z = other.1 in record { ds = []; digits = tt; at = cc; value = cc; within = let v : x.0 ≡ n = cc in omega arith }
    ]

-- digits that don't begin with a zero
number_on : (most c : ℕ) (cs : List ℕ) (e : ℕ) (rest : List ℕ) → Digits (c ∷ cs) → (c == 48) ≡ false → value_from (c - 48) cs ≤ most → is_digit e ≡ false → number_front most (c ∷ (cs ++ e ∷ rest)) ≡ Some (value_from (c - 48) cs, e ∷ rest)
unfolding number_front
number_on most c cs e rest d other h stop =
    let is = digit_is c d.0 d.1 in
    let grows = value_grows (c - 48) cs in
    let fits : leb (c - 48) most ≡ true = le-leb _ _ (omega arith) in
    rw (other, is, fits) (digits_on_there most (c - 48) cs e rest d.2 stop h)

from_none : (c : ℕ) (cs : List ℕ) → value_from 0 (c ∷ cs) ≡ value_from (c - 48) cs
from_none c cs = let P : 10 * 0 + (c - 48) ≡ c - 48 = omega arith in ap (λ v. value_from v cs) P

number_zero : (most : ℕ) (e : ℕ) (rest : List ℕ) → number_front most (48 ∷ (e ∷ rest)) ≡ Some (0, e ∷ rest)
unfolding number_front
number_zero most e rest = refl

number_of_digits : (most : ℕ) (ds : List ℕ) (e : ℕ) (rest : List ℕ) → Digits ds → 0 < length ds → (get_or ds 0 0 ≡ 48 → length ds ≡ 1) → value_from 0 ds ≤ most → is_digit e ≡ false → number_front most (ds ++ e ∷ rest) ≡ Some (value_from 0 ds, e ∷ rest)
number_of_digits most [] e rest d some lead h stop = absurd (omega arith)
number_of_digits most (c ∷ []) e rest d some lead h stop =
    elim (cases_Bool (c == 48)) [
      | inl is ↦ let f : c ≡ 48 = eqb-true _ _ is in
          ap (λ k. number_front most (k ∷ (e ∷ rest))) f ∙ number_zero most e rest ∙ ap (λ v. Some (v, e ∷ rest)) (let z : 0 ≡ 10 * 0 + (c - 48) = omega arith in z)
      | inr other ↦ number_on most c [] e rest d other (omega (arith, from_none c [])) stop ∙ ap (λ v. Some (v, e ∷ rest)) (sym (from_none c []))
    ]
number_of_digits most (c ∷ x ∷ cs) e rest d some lead h stop =
    elim (cases_Bool (c == 48)) [
      | inl is ↦ let f : c ≡ 48 = eqb-true _ _ is in let l = lead f in absurd (omega arith)
      | inr other ↦ number_on most c (x ∷ cs) e rest d other (omega (arith, from_none c (x ∷ cs))) stop ∙ ap (λ v. Some (v, e ∷ rest)) (sym (from_none c (x ∷ cs)))
    ]

-- what is printed is read, before anything but a digit
pub number_there : (most n e : ℕ) (rest : List ℕ) → n ≤ most → most < 2 ^ 64 → is_digit e ≡ false → number_front most (decimal n ++ e ∷ rest) ≡ Some (n, e ∷ rest)
number_there most n e rest h small stop =
    let within : n < 2 ^ 64 = omega arith in
    let value = digits_value-decimal own n within in
    let lead : get_or (decimal n) 0 0 ≡ 48 → length (decimal n) ≡ 1 = λ f. elim (eq-zero-or-pos n) [
      | inl z ↦ ap (λ m. length (decimal m)) z ∙ ap length (decimal_digit 0 (omega arith))
      | inr p ↦ let first = first_decimal n p within in absurd (omega arith)
    ] in
    number_of_digits most (decimal n) e rest (digits_decimal own n within) (decimal_nonempty n within) lead (omega arith) stop
    ∙ ap (λ (m : ℕ). Some (m, e ∷ rest)) value

zero_takes : (most byte : ℕ) (bytes : List ℕ) (x : ℕ × List ℕ) → byte ≡ 48 → ◌≡◌ {A = Option (ℕ × List ℕ)} (Some (0, bytes)) (Some x) → (byte ∷ bytes ≡ decimal x.0 ++ x.1) × (x.0 ≤ most)
zero_takes most byte bytes x is e =
    let n : 0 ≡ x.0 = cc in
    let r : bytes ≡ x.1 = cc in
    let d = decimal_digit 0 (omega arith) in
    (ap (λ (k : ℕ). k ∷ bytes) is ∙ ap (λ (ys : List ℕ). 48 ∷ ys) r ∙ ap (λ (ys : List ℕ). ys ++ x.1) (sym d) ∙ ap (λ (m : ℕ). decimal m ++ x.1) n, omega arith)

digits_take : (most byte : ℕ) (bytes : List ℕ) (x : ℕ × List ℕ) → most < 2 ^ 64 → (48 ≤ byte) × (byte ≤ 57) → (byte == 48) ≡ false → Spelled most (byte - 48) bytes x → (byte ∷ bytes ≡ decimal x.0 ++ x.1) × (x.0 ≤ most)
digits_take most byte bytes x small d other s =
    let v = from_none byte s.ds in
    let lead : get_or (byte ∷ s.ds) 0 0 ≡ 48 → length (byte ∷ s.ds) ≡ 1 = λ f. absurd (grind (arith, nat_tests)) in
    let same = s.value in
    let fits = s.within in
    let t = decimal-digits_value own (byte ∷ s.ds) (d.0, d.1, s.digits) (omega arith) lead (omega arith) in
    (ap (λ (ys : List ℕ). byte ∷ ys) s.at ∙ ap (λ (ys : List ℕ). ys ++ x.1) (sym t ∙ ap decimal (v ∙ sym s.value)), s.within)

-- what is read is what is printed
pub number_takes : (most : ℕ) (bytes : List ℕ) (x : ℕ × List ℕ) → most < 2 ^ 64 → number_front most bytes ≡ Some x → (bytes ≡ decimal x.0 ++ x.1) × (x.0 ≤ most)
unfolding number_front
number_takes most [] x small e = absurd (cc)
number_takes most (byte ∷ bytes) x small e =
    elim (chosen (byte == 48) _ _ _ e) [
      | inl first ↦ zero_takes most byte bytes x (eqb-true _ _ first.0) first.1
      | inr other ↦ elim (chosen (is_digit byte) (cond (leb (byte - 48) most) (digits_on most (byte - 48) bytes) None) None (Some x) other.1) [
        | inl digit ↦ elim (chosen (leb (byte - 48) most) (digits_on most (byte - 48) bytes) None (Some x) digit.1) [
          | inl fits ↦ digits_take most byte bytes x small (digit_in byte digit.0) other.0 (digits_on_takes most (byte - 48) bytes x (leb-true _ _ fits.0) fits.1)
          | inr past ↦ absurd (let z = past.1 in cc)
        ]
        | inr none ↦ absurd (let z = none.1 in cc)
      ]
    ]
