-- The first lines of a printed list, with the newest first, and one line more.
use Rattle.std.proofs.Common.{◌≡◌, ℕ, ◌+◌, ◌-◌, ◌<◌, List, [], ◌∷◌, ◌++◌, length, get_or, take, drop, reverse, ap, ◌∙◌, sym}
use Rattle.std.proofs.Math.Seq.{take-append_seam}
use Rattle.std.proofs.lemmas.List.{reverse-append, length-reverse, length-drop, take_more, take-append-drop}

-- one line more comes to the front
pub newest_more : {X : Type 0} (xs : List X) (i : ℕ) (d : X) → i < length xs → reverse (take (i + 1) xs) ≡ get_or xs i d ∷ reverse (take i xs)
newest_more xs i d h = ap reverse (take_more xs i d h) ∙ reverse-append (take i xs) (get_or xs i d ∷ [])

-- without the first n
pub without_first : {X : Type 0} (xs : List X) (n : ℕ) → take (length (reverse xs) - n) (reverse xs) ≡ reverse (drop n xs)
without_first xs n =
    let later = reverse (drop n xs) in
    let earlier = reverse (take n xs) in
    let parts : reverse xs ≡ later ++ earlier = ap reverse (sym (take-append-drop n xs)) ∙ reverse-append (take n xs) (drop n xs) in
    let size : length (reverse xs) - n ≡ length later =
    ap (λ k. k - n) (length-reverse xs) ∙ sym (length-reverse (drop n xs) ∙ length-drop n xs) in
    ap (λ k. take k (reverse xs)) size ∙ ap (take (length later)) parts ∙ take-append_seam later earlier
