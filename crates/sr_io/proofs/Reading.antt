-- What is still to be read through a window, for every caller.
use Rattle.std.proofs.Common.{◌≡◌, ◌⊎◌, inl, inr, ℕ, ◌<◌, ◌≤◌, Bool, true, List, [], ◌++◌, length, take, drop, Option, Some, refl, ap, subst, sym, ◌∙◌, append-nil, arith}
use Rattle.std.proofs.lemmas.List.{length-append, take-append-le, drop-append-le}
use Rattle.sr_io.specs.Window.{WindowView, Pending, IsFilled, new_window, passed}

-- all that the source has left, where nothing was read
pub pending_new : (room : ℕ) (left : Option (List ℕ)) (xs : List ℕ) → left ≡ Some xs → Pending (new_window room) left xs
pending_new room left xs told = record { rest = xs; told = told; whole = refl; none = λ e. absurd (cc) }

-- no fewer than the window has
pub pending_long : (w : WindowView) (left : Option (List ℕ)) (xs : List ℕ) → Pending w left xs → length w.unread ≤ length xs
pending_long w left xs p = omega (arith, ap length p.whole, length-append w.unread p.rest)

-- its first bytes are those of the window
pub pending_front : (w : WindowView) (left : Option (List ℕ)) (xs : List ℕ) (n : ℕ) → n ≤ length w.unread → Pending w left xs → take n xs ≡ take n w.unread
pending_front w left xs n within p = ap (take n) p.whole ∙ take-append-le n w.unread p.rest within

-- the bytes after those that are used
pub pending_pass : (w : WindowView) (left : Option (List ℕ)) (xs : List ℕ) (n : ℕ) → n ≤ length w.unread → Pending w left xs → Pending (passed n w) left (drop n xs)
pending_pass w left xs n within p = record { rest = p.rest; told = p.told; whole = ap (drop n) p.whole ∙ drop-append-le n w.unread p.rest within; none = p.none }

-- Where a window has fewer bytes than were wanted they are all that there is.
pub pending_all : (w : WindowView) (left : Option (List ℕ)) (xs : List ℕ) (least : ℕ) → IsFilled w least → length w.unread < least → Pending w left xs → (xs ≡ w.unread) × (left ≡ Some [])
pending_all w left xs least (inl enough) few p = absurd (omega arith)
pending_all w left xs least (inr over) few p =
    let none = p.none over in
    (p.whole ∙ ap (λ (ys : List ℕ). w.unread ++ ys) none ∙ append-nil w.unread, p.told ∙ ap (λ (ys : List ℕ). Some ys) none)
