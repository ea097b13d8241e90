-- What holds of lists of marks, for callers.
use Rattle.std.proofs.Common.{◌≡◌, ℕ, zero, suc, ◌+◌, ◌<◌, ◌≤◌, Bool, true, false, List, [], ◌∷◌, ◌++◌, length, get_or, set, Option, Some, None, IfSome, ap, refl, arith, add-one}
use Rattle.std.proofs.lemmas.List.{take_all, take-set-le}
use Rattle.std.specs.Prelude.{option_map}
use Rattle.sr_marks.specs.Counts.{weight}
use Rattle.sr_marks.specs.Marks.{count_set, rank_of, nth_set, next_set}

-- one place on, in a longer list
one_on : (found : Option ℕ) (at : ℕ) → option_map (λ k. suc k) found ≡ Some (suc at) → found ≡ Some at
one_on None at e = cc
one_on (Some k) at e = cc

not_first : (found : Option ℕ) → option_map (λ k. suc k) found ≡ Some zero → ⊥
not_first None e = cc
not_first (Some k) e = cc

none_on : (found : Option ℕ) → option_map (λ k. suc k) found ≡ None → found ≡ None
none_on None e = refl
none_on (Some k) e = cc

-- no more are set than there are
pub count_set-le : (ms : List Bool) → count_set ms ≤ length ms
unfolding count_set
count_set-le [] = omega arith
count_set-le (true ∷ rest) = let e = count_set-le rest in omega arith
count_set-le (false ∷ rest) = let e = count_set-le rest in omega arith

-- one mark more
pub count_set-push : (ms : List Bool) (mark : Bool) → count_set (ms ++ mark ∷ []) ≡ count_set ms + weight mark
unfolding count_set
count_set-push [] true = refl
count_set-push [] false = refl
count_set-push (true ∷ rest) mark = let e = count_set-push rest mark in omega arith
count_set-push (false ∷ rest) mark = count_set-push rest mark

-- a mark set or taken away
pub count_set-set : (ms : List Bool) (at : ℕ) (mark : Bool) → at < length ms → count_set (set ms at mark) + weight (get_or ms at false) ≡ count_set ms + weight mark
unfolding count_set
count_set-set [] at mark below = absurd (omega arith)
count_set-set (true ∷ rest) zero true below = refl
count_set-set (true ∷ rest) zero false below = omega arith
count_set-set (false ∷ rest) zero true below = omega arith
count_set-set (false ∷ rest) zero false below = refl
count_set-set (true ∷ rest) (suc at) mark below = let e = count_set-set rest at mark (omega arith) in omega arith
count_set-set (false ∷ rest) (suc at) mark below = count_set-set rest at mark (omega arith)

-- the n-th set mark: there is none from the count on, and there is one below it
pub nth_set-none : (n : ℕ) (ms : List Bool) → count_set ms ≤ n → nth_set n ms ≡ None
unfolding nth_set count_set
nth_set-none n [] h = refl
nth_set-none n (false ∷ rest) h = ap (option_map (λ k. suc k)) (nth_set-none n rest h)
nth_set-none zero (true ∷ rest) h = absurd (omega arith)
nth_set-none (suc n) (true ∷ rest) h = ap (option_map (λ k. suc k)) (nth_set-none n rest (omega arith))

pub nth_set-some : (n : ℕ) (ms : List Bool) → n < count_set ms → (at : ℕ) × (nth_set n ms ≡ Some at)
unfolding nth_set count_set
nth_set-some n [] h = absurd (omega arith)
nth_set-some n (false ∷ rest) h = let r = nth_set-some n rest h in (suc r.0, ap (option_map (λ k. suc k)) r.1)
nth_set-some zero (true ∷ rest) h = (0, refl)
nth_set-some (suc n) (true ∷ rest) h = let r = nth_set-some n rest (omega arith) in (suc r.0, ap (option_map (λ k. suc k)) r.1)

-- it is in the list, it is set, and n are set before it
pub nth_set-is : (n : ℕ) (ms : List Bool) (at : ℕ) → nth_set n ms ≡ Some at → (at < length ms) × (get_or ms at false ≡ true) × (rank_of at ms ≡ n)
unfolding nth_set count_set
nth_set-is n [] at e = cc
nth_set-is n (false ∷ rest) zero e = absurd (not_first _ e)
nth_set-is n (false ∷ rest) (suc at) e = let r = nth_set-is n rest at (one_on _ at e) in (omega arith, r.1, r.2)
nth_set-is zero (true ∷ rest) zero e = (omega arith, refl, refl)
nth_set-is zero (true ∷ rest) (suc at) e = cc
nth_set-is (suc n) (true ∷ rest) zero e = absurd (not_first _ e)
nth_set-is (suc n) (true ∷ rest) (suc at) e = let r = nth_set-is n rest at (one_on _ at e) in (omega arith, r.1, ap (λ k. suc k) r.2)

-- a set mark is the one of its rank
pub nth_set-rank : (ms : List Bool) (at : ℕ) → get_or ms at false ≡ true → nth_set (rank_of at ms) ms ≡ Some at
unfolding nth_set count_set
nth_set-rank [] at e = cc
nth_set-rank (true ∷ rest) zero e = refl
nth_set-rank (false ∷ rest) zero e = cc
nth_set-rank (true ∷ rest) (suc at) e = ap (option_map (λ k. suc k)) (nth_set-rank rest at e)
nth_set-rank (false ∷ rest) (suc at) e = ap (option_map (λ k. suc k)) (nth_set-rank rest at e)

-- the next set mark is the one of the rank of where the look begins
pub next_set-is_nth : (from : ℕ) (ms : List Bool) → next_set from ms ≡ nth_set (rank_of from ms) ms
unfolding next_set nth_set count_set
next_set-is_nth from [] = refl
next_set-is_nth zero (true ∷ rest) = refl
next_set-is_nth zero (false ∷ rest) = ap (option_map (λ k. suc k)) (next_set-is_nth zero rest)
next_set-is_nth (suc from) (true ∷ rest) = ap (option_map (λ k. suc k)) (next_set-is_nth from rest)
next_set-is_nth (suc from) (false ∷ rest) = ap (option_map (λ k. suc k)) (next_set-is_nth from rest)

-- none is set between two places of a longer list
none_between : (from : ℕ) (mark : Bool) (rest : List Bool) (at : ℕ) → (from ≤ 0 → mark ≡ false) → ((k : ℕ) → from ≤ suc k → k < at → get_or rest k false ≡ false) → (k : ℕ) → from ≤ k → k < suc at → get_or (mark ∷ rest) k false ≡ false
none_between from mark rest at first later zero above below = first above
none_between from mark rest at first later (suc k) above below = later k above (omega arith)

-- it is set, and none is between
pub next_set-is : (from : ℕ) (ms : List Bool) (at : ℕ) → next_set from ms ≡ Some at → (from ≤ at) × (at < length ms) × (get_or ms at false ≡ true) × ((k : ℕ) → from ≤ k → k < at → get_or ms k false ≡ false)
unfolding next_set
next_set-is from [] at e = cc
next_set-is zero (true ∷ rest) zero e = (omega arith, omega arith, refl, λ k above below. absurd (omega arith))
next_set-is zero (true ∷ rest) (suc at) e = cc
next_set-is zero (false ∷ rest) zero e = absurd (not_first _ e)
next_set-is zero (false ∷ rest) (suc at) e =
    let r = next_set-is zero rest at (one_on _ at e) in
    (omega arith, omega arith, r.2, none_between zero false rest at (λ above. refl) (λ k above. r.3 k (omega arith)))
next_set-is (suc from) (mark ∷ rest) zero e = absurd (not_first _ e)
next_set-is (suc from) (mark ∷ rest) (suc at) e =
    let r = next_set-is from rest at (one_on _ at e) in
    (omega arith, omega arith, r.2, none_between (suc from) mark rest at (λ above. absurd (omega arith)) (λ k above. r.3 k (omega arith)))

-- where there is no next one, none is set from there on
pub next_set-none : (from : ℕ) (ms : List Bool) → next_set from ms ≡ None → (k : ℕ) → from ≤ k → get_or ms k false ≡ false
unfolding next_set
next_set-none from [] e k above = refl
next_set-none zero (true ∷ rest) e k above = cc
next_set-none zero (false ∷ rest) e zero above = refl
next_set-none zero (false ∷ rest) e (suc k) above = next_set-none zero rest (none_on _ e) k (omega arith)
next_set-none (suc from) (mark ∷ rest) e zero above = absurd (omega arith)
next_set-none (suc from) (mark ∷ rest) e (suc k) above = next_set-none from rest (none_on _ e) k (omega arith)

-- and the other way round
pub next_set-missing : (from : ℕ) (ms : List Bool) → ((k : ℕ) → from ≤ k → get_or ms k false ≡ false) → next_set from ms ≡ None
unfolding next_set
next_set-missing from [] unset = refl
next_set-missing zero (true ∷ rest) unset = let first : true ≡ false = unset 0 (omega arith) in cc
next_set-missing zero (false ∷ rest) unset = ap (option_map (λ k. suc k)) (next_set-missing zero rest (λ k above. unset (suc k) (omega arith)))
next_set-missing (suc from) (mark ∷ rest) unset = ap (option_map (λ k. suc k)) (next_set-missing from rest (λ k above. unset (suc k) (omega arith)))

pub next_set-found : (from : ℕ) (ms : List Bool) (at : ℕ) → from ≤ at → get_or ms at false ≡ true → ((k : ℕ) → from ≤ k → k < at → get_or ms k false ≡ false) → next_set from ms ≡ Some at
unfolding next_set
next_set-found from [] at above marked between = cc
next_set-found zero (true ∷ rest) zero above marked between = refl
next_set-found zero (true ∷ rest) (suc at) above marked between = let first : true ≡ false = between 0 (omega arith) (omega arith) in cc
next_set-found zero (false ∷ rest) zero above marked between = cc
next_set-found zero (false ∷ rest) (suc at) above marked between =
    ap (option_map (λ k. suc k)) (next_set-found zero rest at (omega arith) marked (λ k low high. between (suc k) (omega arith) (omega arith)))
next_set-found (suc from) (mark ∷ rest) zero above marked between = absurd (omega arith)
next_set-found (suc from) (mark ∷ rest) (suc at) above marked between =
    ap (option_map (λ k. suc k)) (next_set-found from rest at (omega arith) marked (λ k low high. between (suc k) (omega arith) (omega arith)))

-- ranks: none is set before the first position
pub rank_zero : (ms : List Bool) → rank_of 0 ms ≡ 0
unfolding count_set
rank_zero ms = refl

-- one position on, and no more than are set
rank_suc : (ms : List Bool) (at : ℕ) → rank_of (suc at) ms ≡ rank_of at ms + weight (get_or ms at false)
unfolding count_set
rank_suc [] zero = refl
rank_suc [] (suc at) = refl
rank_suc (true ∷ rest) zero = refl
rank_suc (false ∷ rest) zero = refl
rank_suc (true ∷ rest) (suc at) = let e = rank_suc rest at in omega arith
rank_suc (false ∷ rest) (suc at) = rank_suc rest at

pub rank_more : (ms : List Bool) (at : ℕ) → rank_of (at + 1) ms ≡ rank_of at ms + weight (get_or ms at false)
rank_more ms at = rw add-one (rank_suc ms at)

pub rank-le : (ms : List Bool) (at : ℕ) → rank_of at ms ≤ count_set ms
unfolding count_set
rank-le ms zero = omega arith
rank-le [] (suc at) = omega arith
rank-le (true ∷ rest) (suc at) = let e = rank-le rest at in omega arith
rank-le (false ∷ rest) (suc at) = rank-le rest at

-- from the end on, all are before
pub rank_all : (ms : List Bool) (at : ℕ) → length ms ≤ at → rank_of at ms ≡ count_set ms
rank_all ms at past = ap count_set (take_all at ms past)

-- a mark doesn't change the ranks up to it
pub rank-set : (ms : List Bool) (at k : ℕ) (mark : Bool) → k ≤ at → rank_of k (set ms at mark) ≡ rank_of k ms
rank-set ms at k mark early = ap count_set (take-set-le k ms at mark early)

-- a next one is in the list
next_set-inside : (from : ℕ) (ms : List Bool) (found : Option ℕ) → next_set from ms ≡ found → IfSome found (λ at. at < length ms)
next_set-inside from ms None is = tt
next_set-inside from ms (Some at) is = (next_set-is from ms at is).1

pub next_set-within : (from : ℕ) (ms : List Bool) → IfSome (next_set from ms) (λ at. at < length ms)
next_set-within from ms = next_set-inside from ms (next_set from ms) refl
