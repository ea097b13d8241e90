-- Numbers and the byte behind them: what is printed is read, and what is read is what is printed.
use Rattle.std.proofs.Common.{◌≡◌, ℕ, ◌^◌, ◌<◌, ◌≤◌, false, List, [], ◌∷◌, ◌++◌, Option, Some, None, refl, ap, ◌∙◌, arith}
use Rattle.std.specs.Option.{option_and_then}
use Rattle.std.specs.Fmt.{decimal}
use Rattle.sr_decimal.specs.Front.{is_digit, number_front}
use Rattle.sr_decimal.proofs.Decimals.{number_there, number_takes}
use Rattle.sr_text.specs.Fronts.{field_front, after_word}
use Rattle.sr_text.proofs.Words.{after_word_there, after_word_takes}

pub field_there : (most e n : ℕ) (rest : List ℕ) → n ≤ most → most < 2 ^ 64 → is_digit e ≡ false → field_front most e (decimal n ++ e ∷ rest) ≡ Some (n, rest)
unfolding field_front
field_there most e n rest h small stop = rw (number_there most n e rest h small stop) (rw (after_word_there (e ∷ []) rest) refl)

pub bind_some : {A B P : Type 0} (o : Option A) (f : A → Option B) (y : B) → option_and_then f o ≡ Some y → ((x : A) → o ≡ Some x → f x ≡ Some y → P) → P
bind_some None f y e k = absurd (cc)
bind_some (Some x) f y e k = k x refl e

pub field_takes : (most e : ℕ) (bytes : List ℕ) (x : ℕ × List ℕ) → most < 2 ^ 64 → field_front most e bytes ≡ Some x → (bytes ≡ decimal x.0 ++ e ∷ x.1) × (x.0 ≤ most)
unfolding field_front
field_takes most e bytes x small h =
    bind_some (number_front most bytes) _ x h (λ a p q.
    bind_some (after_word (e ∷ []) a.1) _ x q (λ b r s.
    let n = number_takes most bytes a small p in
    let w = after_word_takes (e ∷ []) a.1 b r in
    let v : a.0 ≡ x.0 = cc in
    let t : b ≡ x.1 = cc in
    (n.0 ∙ ap (λ (ys : List ℕ). decimal a.0 ++ ys) (w ∙ ap (λ (ys : List ℕ). e ∷ ys) t) ∙ ap (λ (m : ℕ). decimal m ++ e ∷ x.1) v, let z = n.1 in omega arith)))

-- a field was read, and what comes after it was, too
pub field_then : {B P : Type 0} (most e : ℕ) (bytes : List ℕ) (f : ℕ × List ℕ → Option B) (y : B) → most < 2 ^ 64 → option_and_then f (field_front most e bytes) ≡ Some y
    → ((n : ℕ) (rest : List ℕ) → bytes ≡ decimal n ++ e ∷ rest → n ≤ most → f (n, rest) ≡ Some y → P) → P
field_then most e bytes f y small h k =
    bind_some (field_front most e bytes) f y h (λ a p q.
    let t = field_takes most e bytes a small p in
    k a.0 a.1 t.0 t.1 q)
