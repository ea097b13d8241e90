-- Sums of groups of 64: what they keep, entry by entry.
use Rattle.std.proofs.Common.{◌≡◌, ℕ, zero, suc, ◌+◌, ◌-◌, ◌*◌, ◌/◌, ◌%◌, ◌<◌, ◌≤◌, List, [], ◌∷◌, ◌++◌, length, get_or, take, drop, set, min, inl, inr, ap, sym, refl, ◌∙◌, subst, arith, add-one, length-set}
use Rattle.std.proofs.lemmas.Bool.{cases_eq, cases_lt}
use Rattle.std.proofs.lemmas.List.{take_more, take_all, drop_all, drop-drop, get_or_past, get_or-take, get_or-drop, get_or-set_same, get_or-set_other, length-take, length-drop, ext_get_or}
use Rattle.sr_marks.specs.Counts.{total, total_before, group_of, sums_of, groups}
use Rattle.sr_marks.proofs.Wording.{word-set_same, word-set_other}

before-none : (at : ℕ) → total_before at [] ≡ 0
before-none zero = refl
before-none (suc at) = refl

before_suc : (xs : List ℕ) (at : ℕ) → total_before (suc at) xs ≡ total_before at xs + get_or xs at 0
before_suc [] at = let none = before-none at in omega arith
before_suc (x ∷ rest) zero = omega arith
before_suc (x ∷ rest) (suc at) = let e = before_suc rest at in omega arith

-- one more entry before
pub before_more : (xs : List ℕ) (at : ℕ) → total_before (at + 1) xs ≡ total_before at xs + get_or xs at 0
before_more xs at = rw add-one (before_suc xs at)

-- what comes before an entry and the entry are no more than the sum
pub entry-le : (xs : List ℕ) (at : ℕ) → total_before at xs + get_or xs at 0 ≤ total xs
entry-le [] at = let none = before-none at in omega arith
entry-le (x ∷ rest) zero = omega arith
entry-le (x ∷ rest) (suc at) = let e = entry-le rest at in omega arith

-- the sum before a position, in two parts
before-split : (n k : ℕ) (xs : List ℕ) → total_before (n + k) xs ≡ total_before n xs + total_before k (drop n xs)
before-split zero k xs = let on : 0 + k ≡ k = omega arith in rw on (omega arith)
before-split (suc n) zero [] = let on : suc n + 0 ≡ suc n = omega arith in rw on refl
before-split (suc n) (suc k) [] = let on : suc n + suc k ≡ suc (n + suc k) = omega arith in rw on refl
before-split (suc n) k (x ∷ xs) = let on : suc n + k ≡ suc (n + k) = omega arith in let e = before-split n k xs in rw on (omega arith)

-- from the end on, all are before
pub before-past : (xs : List ℕ) (at : ℕ) → length xs ≤ at → total_before at xs ≡ total xs
before-past xs at past = ap total (take_all at xs past)

pub length-sums : (n : ℕ) (xs : List ℕ) → length (sums_of n xs) ≡ n
unfolding sums_of
length-sums zero xs = refl
length-sums (suc n) xs = let e = length-sums n (drop 64 xs) in omega arith

pub length-groups : (xs : List ℕ) → length (groups xs) ≡ (length xs + 63) / 64
length-groups xs = length-sums ((length xs + 63) / 64) xs

sums-at : (n at : ℕ) (xs : List ℕ) → at < n → get_or (sums_of n xs) at 0 ≡ total (group_of at xs)
unfolding sums_of
sums-at zero at xs below = absurd (omega arith)
sums-at (suc n) zero xs below = refl
sums-at (suc n) (suc at) xs below =
    let on : 64 + 64 * at ≡ 64 * suc at = omega arith in
    sums-at n at (drop 64 xs) (omega arith) ∙ (ap (λ ys. total (take 64 ys)) (drop-drop (64 * at) 64 xs) ∙ ap (λ k. total (take 64 (drop k xs))) on)

-- an entry is the sum of its group
pub get_or-groups : (xs : List ℕ) (at : ℕ) → get_or (groups xs) at 0 ≡ total (group_of at xs)
get_or-groups xs at = elim (cases_lt at ((length xs + 63) / 64)) [
  | inl inside ↦ sums-at ((length xs + 63) / 64) at xs inside
  | inr past ↦ get_or_past (groups xs) at 0 (omega (arith, length-groups xs)) ∙ sym (ap (λ ys. total (take 64 ys)) (drop_all (64 * at) xs (omega arith)))
]

-- a group on
pub before-group : (xs : List ℕ) (at : ℕ) → total_before (64 * at + 64) xs ≡ total_before (64 * at) xs + total (group_of at xs)
before-group xs at = before-split (64 * at) 64 xs

-- the sum before a group
pub before-groups : (xs : List ℕ) (at : ℕ) → total_before at (groups xs) ≡ total_before (64 * at) xs
before-groups xs zero = refl
before-groups xs (suc at) =
    let so_far = before-groups xs at in
    let entry = get_or-groups xs at in
    let group = before-group xs at in
    let step = before_suc (groups xs) at in
    let on : 64 * at + 64 ≡ 64 * suc at = omega arith in
    let whole = ap (λ k. total_before k xs) on in
    omega arith

-- the sum stays
pub total-groups : (xs : List ℕ) → total (groups xs) ≡ total xs
total-groups xs =
    let long = length-groups xs in
    sym (before-past (groups xs) (length (groups xs)) (omega arith)) ∙ (before-groups xs (length (groups xs)) ∙ before-past xs (64 * length (groups xs)) (omega arith))

-- a group's sum is no more than the sum, with what is before it
pub group-le : (xs : List ℕ) (at : ℕ) → total_before (64 * at) xs + total (group_of at xs) ≤ total xs
group-le xs at =
    let before = before-groups xs at in
    let entry = get_or-groups xs at in
    let most = entry-le (groups xs) at in
    let all = total-groups xs in
    omega arith

in_group : (xs : List ℕ) (at : ℕ) → get_or (group_of (at / 64) xs) (at % 64) 0 ≡ get_or xs at 0
in_group xs at =
    let here : 64 * (at / 64) + at % 64 ≡ at = omega arith in
    get_or-take 64 (drop (64 * (at / 64)) xs) (at % 64) 0 (omega arith) ∙ (get_or-drop (64 * (at / 64)) xs (at % 64) 0 ∙ ap (λ k. get_or xs k 0) here)

-- an entry is no more than its group's sum
pub group_count : (xs : List ℕ) (at : ℕ) → get_or xs at 0 ≤ get_or (groups xs) (at / 64) 0
group_count xs at =
    let entry = get_or-groups xs (at / 64) in
    let own = in_group xs at in
    let most = entry-le (group_of (at / 64) xs) (at % 64) in
    omega arith

total-set : (xs : List ℕ) (at v : ℕ) → at < length xs → total (set xs at v) + get_or xs at 0 ≡ total xs + v
total-set [] at v below = absurd (omega arith)
total-set (x ∷ xs) zero v below = omega arith
total-set (x ∷ xs) (suc at) v below = let e = total-set xs at v (omega arith) in omega arith

-- a written entry shows in its group
pub groups-set : (xs : List ℕ) (at v w : ℕ) → at < length xs → w + get_or xs at 0 ≡ get_or (groups xs) (at / 64) 0 + v → groups (set xs at v) ≡ set (groups xs) (at / 64) w
groups-set xs at v w below e =
    let long = length-groups xs in
    let same = length-set xs at v in
    let long_set = length-groups (set xs at v) in
    let long_either = length-set (groups xs) (at / 64) w in
    let count = (length xs + 63) / 64 in
    ext_get_or 0 (groups (set xs at v)) (set (groups xs) (at / 64) w) (omega arith) (λ i inside. elim (cases_eq i (at / 64)) [
      | inl here ↦
          let short = length-take 64 (drop (64 * (at / 64)) xs) in
          let rest = length-drop (64 * (at / 64)) xs in
          let within : at % 64 < length (group_of (at / 64) xs) = omega arith in
          let new = total-set (group_of (at / 64) xs) (at % 64) v within in
          let own = in_group xs at in
          let old = get_or-groups xs (at / 64) in
          let written = get_or-groups (set xs at v) (at / 64) ∙ ap total (word-set_same xs at v) in
          let value : get_or (groups (set xs at v)) (at / 64) 0 ≡ w = omega arith in
          subst (λ (k : ℕ). get_or (groups (set xs at v)) k 0 ≡ get_or (set (groups xs) (at / 64) w) k 0) (sym here) (value ∙ sym (get_or-set_same (groups xs) (at / 64) w 0 (omega arith)))
      | inr other ↦ get_or-groups (set xs at v) i ∙ (ap total (word-set_other xs at i v other) ∙ (sym (get_or-groups xs i) ∙ sym (get_or-set_other (groups xs) (at / 64) i w 0 other)))
    ])

-- the sums of groups, one at a time
pub groups_more : (xs sums more : List ℕ) (at end x : ℕ) → at < (length xs + 63) / 64 → sums ≡ take at (groups xs) → end ≡ 64 * at + min (length xs - 64 * at) 64 → total_before (64 * at) xs + x ≡ total_before end xs → more ≡ sums ++ x ∷ [] → more ≡ take (at + 1) (groups xs)
groups_more xs sums more at end x below so_far last sum pushed =
    let n = length-groups xs in
    let inside : at < length (groups xs) = omega arith in
    let step = take_more (groups xs) at 0 inside in
    let group = before-group xs at in
    let entry = get_or-groups xs at in
    let reached : total_before end xs ≡ total_before (64 * at + 64) xs = elim (cases_lt (length xs) (64 * at + 64)) [
      | inl short ↦ before-past xs end (omega arith) ∙ sym (before-past xs (64 * at + 64) (omega arith))
      | inr whole ↦ let same : end ≡ 64 * at + 64 = omega arith in ap (λ k. total_before k xs) same
    ] in
    let value : x ≡ get_or (groups xs) at 0 = omega arith in
    pushed ∙ (ap (λ ys. ys ++ x ∷ []) so_far ∙ (ap (λ z. take at (groups xs) ++ z ∷ []) value ∙ sym step))

pub groups_all : (xs sums : List ℕ) (at : ℕ) → (length xs + 63) / 64 ≤ at → sums ≡ take at (groups xs) → sums ≡ groups xs
groups_all xs sums at all so_far =
    let n = length-groups xs in
    so_far ∙ take_all at (groups xs) (omega arith)
