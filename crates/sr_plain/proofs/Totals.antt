-- Sums of what the numbers below one give.
use Rattle.std.proofs.Common.{◌≡◌, ◌≢◌, ◌∙◌, ℕ, zero, suc, ◌+◌, ◌<◌, ◌==◌, Bool, true, false, refl, sym, ap, arith}
use Rattle.std.proofs.lemmas.Bool.Decides.{nat_tests}
use Rattle.sr_plain.specs.Resting.{total}

pub total_same : (n : ℕ) (f g : ℕ → ℕ) → ((i : ℕ) → i < n → f i ≡ g i) → total n f ≡ total n g
total_same zero f g h = refl
total_same (suc n) f g h =
    let before : total n f ≡ total n g = total_same n f g (λ i b. h i (omega (arith, b))) in
    let here : f n ≡ g n = h n (omega arith) in
    omega (arith, before, here)

-- one more number, of which only the last or one before it gives less
less_at : (n i d : ℕ) (f g : ℕ → ℕ) → i < suc n → f i ≡ g i + d → ((j : ℕ) → j < suc n → j ≢ i → f j ≡ g j)
    → (i < n → total n f ≡ total n g + d) → (t : Bool) → (n == i) ≡ t → total n f + f n ≡ total n g + g n + d
less_at n i d f g b e h go true s =
    let same : n ≡ i = grind (arith, nat_tests) in
    let before : total n f ≡ total n g = total_same n f g (λ j c. h j (omega (arith, c)) (omega (arith, c, same))) in
    let here : f n ≡ g n + d = ap f same ∙ e ∙ ap (λ m. g m + d) (sym same) in
    omega (arith, before, here)
less_at n i d f g b e h go false s =
    let other : n ≢ i = grind (arith, nat_tests) in
    let before : total n f ≡ total n g + d = go (omega (arith, b, other)) in
    let here : f n ≡ g n = h n (omega arith) other in
    omega (arith, before, here)

-- one of them gives so much less
pub total_less : (n i d : ℕ) (f g : ℕ → ℕ) → i < n → f i ≡ g i + d → ((j : ℕ) → j < n → j ≢ i → f j ≡ g j)
    → total n f ≡ total n g + d
total_less zero i d f g b e h = absurd (omega (arith, b))
total_less (suc n) i d f g b e h =
    less_at n i d f g b e h (λ c. total_less n i d f g c e (λ j q k. h j (omega (arith, q)) k)) (n == i) refl
