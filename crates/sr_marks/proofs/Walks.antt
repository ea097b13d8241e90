-- Walks over the levels: how they are made, and how a sum, a position and a change go from one to the next.
use Rattle.std.proofs.Common.{◌≡◌, ℕ, zero, suc, ◌+◌, ◌-◌, ◌*◌, ◌/◌, ◌%◌, ◌<◌, ◌≤◌, ◌≢◌, List, [], ◌∷◌, ◌++◌, length, get_or, set, inl, inr, ap, sym, refl, ◌∙◌, subst, arith, length-set, get_or-set_same, get_or-set_other}
use Rattle.std.proofs.lemmas.List.{get_or_append_left, get_or_push, length_push, get_or_read}
use Rattle.std.proofs.lemmas.Bool.{cases_lt, cases_eq}
use Rattle.sr_marks.specs.Counts.{total, total_before, groups, level_of, lowest, AreLevels}
use Rattle.sr_marks.proofs.Grouping.{length-groups, get_or-groups, before-groups, group-le, group_count, entry-le, groups-set}
use Rattle.sr_marks.proofs.Levels.{level_more, level_zero, total-level, length-level}

-- The levels so far, and the next one.
pub record Growing (levels : List (List ℕ)) (level xs : List ℕ) : Type 0 where
  pub each : (i : ℕ) → i < length levels → get_or levels i [] ≡ level_of i xs
  pub next : level ≡ level_of (length levels) xs

pub growing_none : (xs : List ℕ) → Growing [] xs xs
growing_none xs = record { each = λ i below. absurd (omega arith); next = sym (level_zero xs) }

-- each of the levels with one more
each_more : (levels : List (List ℕ)) (level xs : List ℕ) → Growing levels level xs → (i : ℕ) → i < length levels + 1 → get_or (levels ++ level ∷ []) i [] ≡ level_of i xs
each_more levels level xs grown i below =
    elim (cases_lt i (length levels)) [
      | inl inside ↦ get_or_append_left levels (level ∷ []) [] i inside ∙ grown.each i inside
      | inr past ↦
          let last : length levels ≡ i = omega arith in
          get_or_push levels level [] i last ∙ (grown.next ∙ ap (λ n. level_of n xs) last)
    ]

pub growing_more : (levels more : List (List ℕ)) (level above xs : List ℕ) → Growing levels level xs → more ≡ levels ++ level ∷ [] → above ≡ groups level → Growing more above xs
growing_more levels more level above xs grown pushed grouped =
    let long : length more ≡ length levels + 1 = ap length pushed ∙ length_push levels level in
    record {
      each = λ i below. rw pushed (each_more levels level xs grown i (omega arith));
      next = grouped ∙ (ap groups grown.next ∙ (sym (level_more (length levels) xs) ∙ ap (λ n. level_of n xs) (sym long)));
    }

-- a level of at most one count is the last
pub growing_all : (levels all : List (List ℕ)) (level xs : List ℕ) → Growing levels level xs → length level ≤ 1 → all ≡ levels ++ level ∷ [] → AreLevels all xs
growing_all levels all level xs grown short pushed =
    let long : length all ≡ length levels + 1 = ap length pushed ∙ length_push levels level in
    let last : level_of (length all) xs ≡ groups level = ap (λ n. level_of n xs) long ∙ (level_more (length levels) xs ∙ ap groups (sym grown.next)) in
    let grouped = length-groups level in
    let sized = ap length last in
    record {
      each = λ i below. rw pushed (each_more levels level xs grown i (omega arith));
      one = omega arith;
    }

pub growing_is : (levels all : List (List ℕ)) (level xs : List ℕ) → Growing levels level xs → all ≡ levels ++ level ∷ [] → lowest all ≡ xs
growing_is levels all level xs grown pushed =
    ap lowest pushed ∙ (each_more levels level xs grown 0 (omega arith) ∙ level_zero xs)

-- A walk up: a sum, and the position whose sum before it is still to be added.
pub record Summing (xs : List ℕ) (start i at sum : ℕ) : Type 0 where
  pub within : at < length (level_of i xs)
  pub so_far : sum + total_before at (level_of i xs) ≡ total_before start xs

pub summing_none : (xs : List ℕ) (at : ℕ) → at < length xs → Summing xs at 0 at 0
summing_none xs at within = record { within = rw level_zero within; so_far = rw level_zero (omega arith) }

-- what is added stays within the sum
pub summing-le : (xs level : List ℕ) (start i at sum x : ℕ) → Summing xs start i at sum → level ≡ level_of i xs → total_before (at - at % 64) level + x ≡ total_before at level → sum + x ≤ total xs
summing-le xs level start i at sum x summed here added =
    let here_before = ap (λ ys. total_before at ys) here in
    let all = entry-le xs start in
    let so_far = summed.so_far in
    omega arith

-- a level on
pub summing_more : (xs level : List ℕ) (start i at sum more x : ℕ) → Summing xs start i at sum → level ≡ level_of i xs → total_before (at - at % 64) level + x ≡ total_before at level → more ≡ sum + x → Summing xs start (i + 1) (at / 64) more
summing_more xs level start i at sum more x summed here added is =
    let begin : 64 * (at / 64) ≡ at - at % 64 = omega arith in
    let before : total_before (at / 64) (groups (level_of i xs)) ≡ total_before (at - at % 64) (level_of i xs) = before-groups (level_of i xs) (at / 64) ∙ ap (λ k. total_before k (level_of i xs)) begin in
    let here_begin = ap (λ ys. total_before (at - at % 64) ys) here in
    let here_before = ap (λ ys. total_before at ys) here in
    let grouped = length-groups (level_of i xs) in
    let within = summed.within in
    let so_far = summed.so_far in
    record { within = rw level_more (omega arith); so_far = rw level_more (omega arith) }

pub summing_all : (levels : List (List ℕ)) (xs : List ℕ) (start i at sum : ℕ) → AreLevels levels xs → length levels ≡ i → Summing xs start i at sum → sum ≡ total_before start xs
summing_all levels xs start i at sum are long summed =
    let short : length (level_of i xs) ≤ 1 = subst (λ (k : ℕ). length (level_of k xs) ≤ 1) long are.one in
    let within = summed.within in
    let first : at ≡ 0 = omega arith in
    let so_far : sum + total_before 0 (level_of i xs) ≡ total_before start xs = subst (λ (k : ℕ). sum + total_before k (level_of i xs) ≡ total_before start xs) first summed.so_far in
    omega arith

-- A walk down: a position, and how much is left beyond the sum before it.
pub record Finding (xs : List ℕ) (n i at rest : ℕ) : Type 0 where
  pub so_far : total_before at (level_of i xs) + rest ≡ n
  pub inside : rest < get_or (level_of i xs) at 0

only : (xs : List ℕ) → length xs ≤ 1 → get_or xs 0 0 ≡ total xs
only [] short = refl
only (x ∷ []) short = omega arith
only (x ∷ y ∷ rest) short = absurd (omega arith)

pub finding_none : (levels : List (List ℕ)) (xs : List ℕ) (n i : ℕ) → AreLevels levels xs → length levels ≡ i → n < total xs → Finding xs n i 0 n
finding_none levels xs n i are long below =
    let short : length (level_of i xs) ≤ 1 = subst (λ (k : ℕ). length (level_of k xs) ≤ 1) long are.one in
    let same = total-level i xs in
    let whole = only (level_of i xs) short in
    record { so_far = omega arith; inside = omega arith }

within_list : (xs : List ℕ) (at rest : ℕ) → rest < get_or xs at 0 → at < length xs
within_list [] at rest inside = absurd (omega arith)
within_list (x ∷ xs) zero rest inside = omega arith
within_list (x ∷ xs) (suc at) rest inside = let e = within_list xs at rest inside in omega arith

pub finding-within : (xs : List ℕ) (n i at rest : ℕ) → Finding xs n i at rest → at < length xs
finding-within xs n i at rest found =
    let inside = within_list (level_of i xs) at rest found.inside in
    let short = length-level i xs in
    omega arith

-- what a group is asked for is in it
pub finding-fits : (xs level : List ℕ) (n i at rest : ℕ) → Finding xs n (i + 1) at rest → level ≡ level_of i xs → total_before (64 * at) level + rest < total level
finding-fits xs level n i at rest found here =
    let inside : rest < get_or (groups (level_of i xs)) at 0 = rw level_more at found.inside in
    let group = get_or-groups (level_of i xs) at in
    let most = group-le (level_of i xs) at in
    let before = ap (λ ys. total_before (64 * at) ys) here in
    let all = ap total here in
    omega arith

-- a level down
pub finding_down : (xs level : List ℕ) (n i at rest found_at left : ℕ) → Finding xs n (i + 1) at rest → level ≡ level_of i xs → total_before found_at level + left ≡ total_before (64 * at) level + rest → left < get_or level found_at 0 → Finding xs n i found_at left
finding_down xs level n i at rest found_at left found here reached below =
    let so_far : total_before at (groups (level_of i xs)) + rest ≡ n = rw level_more at found.so_far in
    let begin = before-groups (level_of i xs) at in
    let before = ap (λ ys. total_before (64 * at) ys) here in
    let before_found = ap (λ ys. total_before found_at ys) here in
    record { so_far = omega arith; inside = rw here at below }

pub finding_all : (xs : List ℕ) (n at rest : ℕ) → Finding xs n 0 at rest → (total_before at xs ≤ n) × (n < total_before at xs + get_or xs at 0)
finding_all xs n at rest found =
    let so_far : total_before at xs + rest ≡ n = rw level_zero at found.so_far in
    let inside : rest < get_or xs at 0 = rw level_zero at found.inside in
    (omega arith, omega arith)

-- A walk up that changes a count: old less and new more at this position. The levels below are those of ys, the others still those of xs.
pub record Changing (old new : ℕ) (xs ys : List ℕ) (many : ℕ) (levels : List (List ℕ)) (i at : ℕ) : Type 0 where
  pub long : length levels ≡ many
  pub done : (j : ℕ) → j < i → j < many → get_or levels j [] ≡ level_of j ys
  pub left : (j : ℕ) → i ≤ j → j < many → get_or levels j [] ≡ level_of j xs
  pub within : at < length (level_of i xs)
  pub some : old ≤ get_or (level_of i xs) at 0
  pub here : (w : ℕ) → w + old ≡ get_or (level_of i xs) at 0 + new → level_of i ys ≡ set (level_of i xs) at w

pub changing_none : (old new : ℕ) (xs ys : List ℕ) (levels : List (List ℕ)) (at v : ℕ) → AreLevels levels xs → at < length xs → old ≤ get_or xs at 0 → v + old ≡ get_or xs at 0 + new → ys ≡ set xs at v → Changing old new xs ys (length levels) levels 0 at
changing_none old new xs ys levels at v are within some count written = record {
  long = refl;
  done = λ j below. absurd (omega arith);
  left = λ j above below. are.each j below;
  within = rw level_zero within;
  some = rw level_zero some;
  here = λ w e.
      let value : w + old ≡ get_or xs at 0 + new = rw level_zero at e in
      let same : v ≡ w = omega arith in
      level_zero ys ∙ (written ∙ (ap (λ k. set xs at k) same ∙ ap (λ zs. set zs at w) (sym (level_zero xs))));
}

-- the count to change is in each level's list
pub changing-within : (old new : ℕ) (xs ys : List ℕ) (many : ℕ) (levels : List (List ℕ)) (i at : ℕ) → Changing old new xs ys many levels i at → i < many → at < length (get_or levels i [])
changing-within old new xs ys many levels i at changed below =
    let within = changed.within in
    let size = ap length (changed.left i (omega arith) below) in
    omega arith

pub changing-some : (old new : ℕ) (xs ys : List ℕ) (many : ℕ) (levels : List (List ℕ)) (i at : ℕ) → Changing old new xs ys many levels i at → i < many → (old ≤ get_or (get_or levels i []) at 0) × (get_or (get_or levels i []) at 0 ≤ total xs)
changing-some old new xs ys many levels i at changed below =
    let some = changed.some in
    let same : get_or (get_or levels i []) at 0 ≡ get_or (level_of i xs) at 0 = ap (λ zs. get_or zs at 0) (changed.left i (omega arith) below) in
    let most = entry-le (level_of i xs) at in
    let whole = total-level i xs in
    (omega arith, omega arith)

pub changing_more : (old new : ℕ) (xs ys : List ℕ) (many : ℕ) (levels next : List (List ℕ)) (i at v : ℕ) → Changing old new xs ys many levels i at → i < many → v + old ≡ get_or (get_or levels i []) at 0 + new → next ≡ set levels i (set (get_or levels i []) at v) → Changing old new xs ys many next (i + 1) (at / 64)
changing_more old new xs ys many levels next i at v changed below count written =
    let level = changed.left i (omega arith) below in
    let same : get_or (get_or levels i []) at 0 ≡ get_or (level_of i xs) at 0 = ap (λ zs. get_or zs at 0) level in
    let own : set (get_or levels i []) at v ≡ level_of i ys = ap (λ zs. set zs at v) level ∙ sym (changed.here v (omega arith)) in
    let grouped = length-groups (level_of i xs) in
    let within = changed.within in
    let some = changed.some in
    let half = group_count (level_of i xs) at in
    let long = changed.long in
    let here : get_or next i [] ≡ level_of i ys = ap (λ zs. get_or zs i []) written ∙ (get_or-set_same levels i _ [] (omega arith) ∙ own) in
    record {
      long = ap length written ∙ (length-set levels i _ ∙ changed.long);
      done = λ j passed inside. elim (cases_eq j i) [
        | inl same_place ↦ subst (λ (k : ℕ). get_or next k [] ≡ level_of k ys) (sym same_place) here
        | inr other ↦ ap (λ zs. get_or zs j []) written ∙ (get_or-set_other levels i j _ [] other ∙ changed.done j (omega arith) inside)
      ];
      left = λ j above inside. let other : j ≢ i = omega arith in ap (λ zs. get_or zs j []) written ∙ (get_or-set_other levels i j _ [] other ∙ changed.left j (omega arith) inside);
      within = rw level_more (omega arith);
      some = rw level_more (omega arith);
      here = λ w e.
          let value : w + old ≡ get_or (groups (level_of i xs)) (at / 64) 0 + new = rw level_more at e in
          level_more i ys ∙ (ap groups (changed.here v (omega arith)) ∙ (groups-set (level_of i xs) at v w within (omega arith) ∙ ap (λ zs. set zs (at / 64) w) (sym (level_more i xs))));
    }

pub changing_all : (old new : ℕ) (xs ys : List ℕ) (many : ℕ) (levels first : List (List ℕ)) (i at : ℕ) → AreLevels first xs → length first ≡ many → Changing old new xs ys many levels i at → many ≡ i → AreLevels levels ys
changing_all old new xs ys many levels first i at are sized changed over =
    let long = changed.long in
    let some = changed.some in
    let short : length (level_of i xs) ≤ 1 = subst (λ (k : ℕ). length (level_of k xs) ≤ 1) (sized ∙ over) are.one in
    let same : length (level_of i ys) ≡ length (level_of i xs) = ap length (changed.here (get_or (level_of i xs) at 0 + new - old) (omega arith)) ∙ length-set _ _ _ in
    record {
      each = λ j inside. changed.done j (omega arith) (omega arith);
      one = subst (λ (k : ℕ). length (level_of k ys) ≤ 1) (sym (long ∙ over)) (omega arith);
    }

-- and the lowest is ys
pub changing_is : (levels : List (List ℕ)) (ys : List ℕ) → AreLevels levels ys → 0 < length levels → lowest levels ≡ ys
changing_is levels ys are some = are.each 0 some ∙ level_zero ys

-- a level that is read from its place, as the code reads it
pub level-read : (levels items : List (List ℕ)) (xs level : List ℕ) (i : ℕ) → AreLevels levels (lowest levels) → lowest levels ≡ xs → items ≡ levels → i < length levels → level ≡ get_or items i level → level ≡ level_of i xs
level-read levels items xs level i are is same below read =
    get_or_read levels i level below (read ∙ ap (λ ls. get_or ls i level) same) [] ∙ (are.each i below ∙ ap (λ zs. level_of i zs) is)

-- the levels of a list that is known by another name
pub levels-under : (levels : List (List ℕ)) (xs : List ℕ) → AreLevels levels (lowest levels) → lowest levels ≡ xs → AreLevels levels xs
levels-under levels xs are is = subst (λ (zs : List ℕ). AreLevels levels zs) is are

-- where the list has a count, there is a level
pub some_level : (levels : List (List ℕ)) (at : ℕ) → at < length (lowest levels) → 0 < length levels
some_level [] at within = absurd (omega arith)
some_level (level ∷ rest) at within = omega arith
