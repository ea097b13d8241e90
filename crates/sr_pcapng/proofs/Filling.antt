-- Bytes that are looked at, copied and passed over through a window.
use Rattle.std.proofs.Common.{◌≡◌, inl, inr, ℕ, ◌+◌, ◌≤◌, List, [], ◌∷◌, ◌++◌, append-nil, length, take, drop, Option, Some, Ok, refl, sym, ap, subst, ◌∙◌, arith}
use Rattle.std.proofs.lemmas.List.{length-drop, length-append, drop-drop, length-take}
use Rattle.sr_io.proofs.Reading.{pending_front, pending_pass}
use Rattle.sr_io.specs.Window.{WindowView, IsFilled, Pending, passed_over}
use Rattle.sr_pcapng.specs.Reading.{Fills, Passes}

no_bytes : (xs : List ℕ) → length xs ≡ 0 → xs ≡ []
no_bytes [] none = refl
no_bytes (x ∷ xs) none = absurd (omega (arith, none))

-- bytes that were passed over, where none is left
pub skips_part : (at n size : ℕ) (xs : List ℕ) (now : List ℕ → Type 0) → at ≤ size → length (drop at xs) ≡ 0 → now (drop n (drop at xs)) → now (drop size xs)
skips_part at n size xs now fits none rest =
    subst now (no_bytes _ (omega (arith, length-drop n (drop at xs))) ∙ sym (no_bytes (drop size xs) (omega (arith, length-drop at xs, length-drop size xs)))) rest

-- bytes that were passed over
pub skips_more : (at n : ℕ) (xs : List ℕ) (now : List ℕ → Type 0) → now (drop n (drop at xs)) → now (drop (at + n) xs)
skips_more at n xs now rest = subst now (drop-drop n at xs) rest

-- ---- through a window

pass_over : (w : WindowView) (told : Option (List ℕ)) (xs : List ℕ) (n : ℕ) → n ≤ length w.unread → Pending w told xs → Pending (passed_over n w) told (drop n xs)
pass_over w told xs n within p = let q = pending_pass w told xs n within p in record { rest = q.rest; told = q.told; whole = q.whole; none = q.none }

nothing : (w : WindowView) (told : Option (List ℕ)) (xs : List ℕ) → IsFilled w 1 → Pending w told xs → length w.unread ≡ 0 → length xs ≡ 0
nothing w told xs (inl enough) p none = absurd (omega arith)
nothing w told xs (inr over) p none = omega (arith, ap length p.whole, length-append w.unread p.rest, ap length (p.none over))

-- The next bytes of a window that has so many, or all that come: they are the next that are to be read, and once they are used the bytes after them are.
pub looked : (w : WindowView) (told : Option (List ℕ)) (xs : List ℕ) (size : ℕ) → IsFilled w size → Pending w told xs
    → (take size w.unread ≡ take size xs) × Pending (passed_over size w) told (drop size xs)
looked w told xs size (inl enough) p = (sym (pending_front w told xs size enough p), pass_over w told xs size enough p)
looked w told xs size (inr over) p =
    let none : p.rest ≡ [] = p.none over in
    let all : xs ≡ w.unread = p.whole ∙ ap (λ (ys : List ℕ). w.unread ++ ys) none ∙ append-nil w.unread in (
      ap (take size) (sym all),
      record {
        rest = p.rest;
        told = p.told;
        whole = ap (drop size) all ∙ sym (append-nil (drop size w.unread)) ∙ ap (λ (ys : List ℕ). drop size w.unread ++ ys) (sym none);
        none = p.none;
      },
    )

-- the next bytes of a window, copied to the front of a buffer and used
pub filled : (w : WindowView) (told : Option (List ℕ)) (xs into : List ℕ) (size n : ℕ) → IsFilled w size → Pending w told xs → n ≡ length (take size w.unread)
    → take n into ≡ take size w.unread → Fills (Ok n) size xs into (Pending (passed_over size w) told)
filled w told xs into size n there p count same =
    let l = looked w told xs size there p in
    (count ∙ ap length l.0 ∙ length-take size xs, same ∙ l.0, l.1)

-- some bytes of a window, passed over
pub passes : (w : WindowView) (told : Option (List ℕ)) (xs : List ℕ) (n : ℕ) → IsFilled w 1 → Pending w told xs → n ≤ length w.unread → (n ≡ 0 → length w.unread ≡ 0)
    → Passes (Ok n) xs (Pending (passed_over n w) told)
passes w told xs n filled p within some = (pass_over w told xs n within p, λ none. nothing w told xs filled p (some none))

-- no byte is left where none is to be read
pub none_left : (w : WindowView) (told : Option (List ℕ)) (xs : List ℕ) → Pending w told xs → length xs ≡ 0 → told ≡ Some []
none_left w told xs p none = p.told ∙ ap (λ (ys : List ℕ). Some ys) (no_bytes p.rest (omega (arith, ap length p.whole, length-append w.unread p.rest)))
