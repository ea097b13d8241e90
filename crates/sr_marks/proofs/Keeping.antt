-- Marks beside the counts of their words.
use Rattle.std.proofs.Common.{◌≡◌, ℕ, zero, suc, ◌+◌, ◌-◌, ◌*◌, ◌/◌, ◌%◌, ◌^◌, ◌<◌, ◌≤◌, ◌≢◌, Bool, true, false, List, [], ◌∷◌, ◌++◌, length, get_or, take, drop, set, replicate, Option, Some, None, ap, sym, refl, ◌∙◌, subst, inl, inr, arith, length-set}
use mathlib.Core.Bool.{beq}
use Rattle.std.proofs.lemmas.Bool.{cases_eq, cases_lt, true≢false}
use Rattle.std.proofs.lemmas.List.{length_push, get_or_push, get_or_append_left, get_or-append_right, get_or-take, get_or-drop, get_or-set_same, get_or-set_other, get_or_past, take_all, take-take, length-take, length-drop, length-append, take-append-le}
use Rattle.sr_marks.specs.Counts.{total, total_before, weight}
use Rattle.sr_marks.specs.Marks.{count_set, rank_of, nth_set, next_set}
use Rattle.sr_marks.specs.Words.{word_of, AreWordCounts, AreKept}
use Rattle.sr_marks.proofs.SetMarks.{count_set-le, count_set-set, next_set-none, next_set-missing, nth_set-is, nth_set-rank, rank_zero, rank-le, rank_all}
use Rattle.sr_marks.proofs.Wording.{get_or-in_word, word-set_same, word-set_other, rank-split, rank-word, count-unset, nth-in_word}
use Rattle.sr_marks.proofs.Grouping.{before_more}
use Rattle.sr_marks.proofs.Tiering.{next-front, unset_at}

-- ---- counts of words while they are made

-- the words so far
pub record Counting (counts : List ℕ) (marks : List Bool) (words : ℕ) : Type 0 where
  pub each : (word : ℕ) → word < words → get_or counts word 0 ≡ count_set (word_of word marks)
  pub long : length counts ≡ words

pub counting_none : (counts : List ℕ) (marks : List Bool) → counts ≡ [] → Counting counts marks 0
counting_none counts marks none = record { each = λ word early. absurd (omega arith); long = ap length none }

pub counting_more : (counts more : List ℕ) (marks : List Bool) (words x : ℕ) → Counting counts marks words → x ≡ count_set (word_of words marks) → more ≡ counts ++ x ∷ [] → Counting more marks (words + 1)
counting_more counts more marks words x counting count pushed =
    let long = counting.long in
    record {
      each = λ word early. elim (cases_lt word words) [
        | inl so_far ↦ ap (λ cs. get_or cs word 0) pushed ∙ (get_or_append_left counts (x ∷ []) 0 word (omega arith) ∙ counting.each word so_far)
        | inr last ↦
            let here : words ≡ word = omega arith in
            let end : length counts ≡ word = omega arith in
            ap (λ cs. get_or cs word 0) pushed ∙ (get_or_push counts x 0 word end ∙ (count ∙ ap (λ w. count_set (word_of w marks)) here))
      ];
      long = ap length pushed ∙ (length_push counts x ∙ ap (λ k. k + 1) long);
    }

pub counting_all : (counts : List ℕ) (marks : List Bool) (words : ℕ) → Counting counts marks words → 64 * words ≡ length marks → AreWordCounts counts marks
counting_all counts marks words counting all =
    let long = counting.long in
    record { each = λ word below. counting.each word (omega arith); long = omega arith }

-- ---- what the counts of words tell

-- the sum before a word is the rank of where it begins
pub word_counts-before : (counts : List ℕ) (marks : List Bool) (word : ℕ) → AreWordCounts counts marks → word ≤ length counts → total_before word counts ≡ rank_of (64 * word) marks
word_counts-before counts marks zero are within = sym (rank_zero marks)
word_counts-before counts marks (suc word) are within =
    let so_far = word_counts-before counts marks word are (omega arith) in
    let count = are.each word (omega arith) in
    let more = before_more counts word in
    let rank = rank-word marks word in
    let on : suc word ≡ word + 1 = omega arith in
    let sum = ap (λ k. total_before k counts) on in
    let begin = ap (λ k. rank_of (64 * k) marks) on in
    omega arith

-- the sum of all is how many are set
pub word_counts-total : (counts : List ℕ) (marks : List Bool) → AreWordCounts counts marks → total counts ≡ count_set marks
word_counts-total counts marks are =
    let long = are.long in
    let whole : take (length counts) counts ≡ counts = take_all (length counts) counts (omega arith) in
    ap total (sym whole) ∙ (word_counts-before counts marks (length counts) are (omega arith) ∙ rank_all marks (64 * length counts) (omega arith))

-- a mark set or taken away changes its word's count
pub word_counts-put : (counts after : List ℕ) (marks next : List Bool) (at v : ℕ) (mark : Bool) → AreWordCounts counts marks → at < length marks → next ≡ set marks at mark → after ≡ set counts (at / 64) v → v + weight (get_or marks at false) ≡ get_or counts (at / 64) 0 + weight mark → AreWordCounts after next
word_counts-put counts after marks next at v mark are within put changed count =
    let long = are.long in
    let same_long = ap length put ∙ length-set marks at mark in
    let counts_long = ap length changed ∙ length-set counts (at / 64) v in
    record {
      each = λ word below. elim (cases_eq word (at / 64)) [
        | inl here ↦
            let old = are.each (at / 64) (omega arith) in
            let short = length-take 64 (drop (64 * (at / 64)) marks) in
            let rest = length-drop (64 * (at / 64)) marks in
            let inside : at % 64 < length (word_of (at / 64) marks) = omega arith in
            let new = count_set-set (word_of (at / 64) marks) (at % 64) mark inside in
            let was = ap weight (get_or-in_word marks at) in
            let value : v ≡ count_set (set (word_of (at / 64) marks) (at % 64) mark) = omega arith in
            subst (λ (w : ℕ). get_or after w 0 ≡ count_set (word_of w next)) (sym here) (ap (λ cs. get_or cs (at / 64) 0) changed ∙ (get_or-set_same counts (at / 64) v 0 (omega arith) ∙ (value ∙ ap count_set (sym (ap (word_of (at / 64)) put ∙ word-set_same marks at mark)))))
        | inr other ↦ ap (λ cs. get_or cs word 0) changed ∙ (get_or-set_other counts (at / 64) word v 0 other ∙ (are.each word (omega arith) ∙ ap count_set (sym (ap (word_of word) put ∙ word-set_other marks at word mark other))))
      ];
      long = omega arith;
    }

-- ---- marks of which no more than the pushed ones are set

front-count : (marks : List Bool) (pushed : ℕ) → ((at : ℕ) → pushed ≤ at → get_or marks at false ≡ false) → count_set marks ≡ rank_of pushed marks
front-count marks pushed unset =
    let behind : count_set (take (length marks) (drop pushed marks)) ≡ 0 = count-unset (take (length marks) (drop pushed marks)) (λ k. elim (cases_lt k (length marks)) [
      | inl inside ↦ get_or-take (length marks) (drop pushed marks) k false inside ∙ (get_or-drop pushed marks k false ∙ unset (pushed + k) (omega arith))
      | inr past ↦ get_or_past (take (length marks) (drop pushed marks)) k false (omega (arith, length-take (length marks) (drop pushed marks)))
    ]) in
    let split = rank-split pushed (length marks) marks in
    let all = rank_all marks (pushed + length marks) (omega arith) in
    omega arith

pub kept-count : (marks : List Bool) (pushed : ℕ) (counts : List ℕ) (n : ℕ) → AreKept marks pushed counts n → n ≡ count_set (take pushed marks)
kept-count marks pushed counts n kept = kept.set_is ∙ front-count marks pushed kept.unset

pub kept-total : (marks : List Bool) (pushed : ℕ) (counts : List ℕ) (n : ℕ) → AreKept marks pushed counts n → (total counts ≡ n) × (total counts ≤ length marks)
kept-total marks pushed counts n kept =
    let sum = word_counts-total counts marks kept.counted in
    let few = count_set-le marks in
    let all = kept.set_is in
    (omega arith, omega arith)

pub kept-rank : (marks : List Bool) (pushed : ℕ) (counts : List ℕ) (n at : ℕ) → AreKept marks pushed counts n → rank_of at marks ≡ rank_of at (take pushed marks)
kept-rank marks pushed counts n at kept = elim (cases_lt at pushed) [
  | inl before ↦ ap count_set (sym (take-take at pushed marks (omega arith)))
  | inr after ↦
      let here : pushed + (at - pushed) ≡ at = omega arith in
      let split = ap (λ k. rank_of k marks) (sym here) ∙ rank-split pushed (at - pushed) marks in
      let few = rank-le marks at in
      let all = front-count marks pushed kept.unset in
      let short = length-take pushed marks in
      let whole : rank_of at (take pushed marks) ≡ rank_of pushed marks = rank_all (take pushed marks) at (omega arith) in
      omega arith
]

-- a set mark is one of the pushed
kept-inside : (marks : List Bool) (pushed : ℕ) (counts : List ℕ) (n at : ℕ) → AreKept marks pushed counts n → get_or marks at false ≡ true → at < pushed
kept-inside marks pushed counts n at kept marked = elim (cases_lt at pushed) [
  | inl before ↦ before
  | inr after ↦ let none = kept.unset at after in absurd (true≢false (sym marked ∙ none))
]

pub kept-nth : (marks : List Bool) (pushed : ℕ) (counts : List ℕ) (n m at : ℕ) → AreKept marks pushed counts n → nth_set m marks ≡ Some at → (nth_set m (take pushed marks) ≡ Some at) × (at < pushed)
kept-nth marks pushed counts n m at kept found =
    let is = nth_set-is m marks at found in
    let inside = kept-inside marks pushed counts n at kept is.1 in
    let rank : rank_of at (take pushed marks) ≡ m = sym (kept-rank marks pushed counts n at kept) ∙ is.2 in
    (subst (λ (k : ℕ). nth_set k (take pushed marks) ≡ Some at) rank (nth_set-rank (take pushed marks) at (get_or-take pushed marks at false inside ∙ is.1)), inside)

-- the n-th set mark, in the word that the counts name
pub kept-nth_in : (marks : List Bool) (pushed : ℕ) (counts : List ℕ) (n m word rest k : ℕ) → AreKept marks pushed counts n → word < length counts → total_before word counts ≤ m → rest ≡ m - total_before word counts → nth_set rest (word_of word marks) ≡ Some k → (nth_set m (take pushed marks) ≡ Some (64 * word + k)) × (64 * word + k < pushed)
kept-nth_in marks pushed counts n m word rest k kept within before left found =
    let sum = word_counts-before counts marks word kept.counted (omega arith) in
    let all : rank_of (64 * word) marks + rest ≡ m = omega arith in
    kept-nth marks pushed counts n m (64 * word + k) kept (subst (λ (z : ℕ). nth_set z marks ≡ Some (64 * word + k)) all (nth-in_word marks word rest k found))

kept-next_some : (marks : List Bool) (pushed from : ℕ) (counts : List ℕ) (n : ℕ) (found : Option ℕ) → AreKept marks pushed counts n → next_set from (take pushed marks) ≡ found → next_set from marks ≡ found
kept-next_some marks pushed from counts n None kept found = next_set-missing from marks (λ k above. elim (cases_lt k pushed) [
  | inl before ↦ sym (get_or-take pushed marks k false before) ∙ next_set-none from (take pushed marks) found k above
  | inr after ↦ kept.unset k after
])
kept-next_some marks pushed from counts n (Some at) kept found = next-front from pushed at marks found

pub kept-next : (marks : List Bool) (pushed from : ℕ) (counts : List ℕ) (n : ℕ) → AreKept marks pushed counts n → next_set from marks ≡ next_set from (take pushed marks)
kept-next marks pushed from counts n kept = kept-next_some marks pushed from counts n (next_set from (take pushed marks)) kept refl

-- ---- marks that change

-- a mark written over another, or behind the last
pub kept_put : (marks next : List Bool) (pushed more : ℕ) (counts after : List ℕ) (n many at v : ℕ) (mark : Bool) → AreKept marks pushed counts n → at < length marks → next ≡ set marks at mark → after ≡ set counts (at / 64) v → v + weight (get_or marks at false) ≡ get_or counts (at / 64) 0 + weight mark → many + weight (get_or marks at false) ≡ n + weight mark → pushed ≤ more → at < more → more ≤ length marks → AreKept next more after many
kept_put marks next pushed more counts after n many at v mark kept within put changed value count grows inside fits =
    let long = ap length put ∙ length-set marks at mark in
    let set_count : count_set next + weight (get_or marks at false) ≡ count_set marks + weight mark = ap (λ ms. count_set ms + weight (get_or marks at false)) put ∙ count_set-set marks at mark within in
    let set_is = kept.set_is in
    let short = kept.short in
    record {
      counted = word_counts-put counts after marks next at v mark kept.counted within put changed value;
      unset = λ k behind. let other : k ≢ at = omega arith in ap (λ ms. get_or ms k false) put ∙ (get_or-set_other marks at k mark false other ∙ kept.unset k (omega arith));
      set_is = omega arith;
      within = omega arith;
      short = omega arith;
    }

-- a mark that is set
pub kept_raised : (marks next : List Bool) (pushed more : ℕ) (counts after : List ℕ) (n at : ℕ) → AreKept marks pushed counts n → at < length marks → get_or marks at false ≡ false → next ≡ set marks at true → after ≡ set counts (at / 64) (get_or counts (at / 64) 0 + 1) → pushed ≤ more → at < more → more ≤ length marks → AreKept next more after (n + 1)
kept_raised marks next pushed more counts after n at kept within old put changed grows inside fits =
    let was = ap weight old in
    kept_put marks next pushed more counts after n (n + 1) at (get_or counts (at / 64) 0 + 1) true kept within put changed (omega arith) (omega arith) grows inside fits

-- there is room for it in the counts
pub kept_room : (marks : List Bool) (pushed : ℕ) (counts : List ℕ) (n at : ℕ) → AreKept marks pushed counts n → at < length marks → get_or marks at false ≡ false → n < length marks
kept_room marks pushed counts n at kept within old =
    let was = ap weight old in
    let more = count_set-set marks at true within in
    let most = count_set-le (set marks at true) in
    let long = length-set marks at true in
    let set_is = kept.set_is in
    omega arith

-- some are set, where one is
pub kept_some : (marks : List Bool) (pushed : ℕ) (counts : List ℕ) (n at : ℕ) → AreKept marks pushed counts n → at < length marks → get_or marks at false ≡ true → (0 < n) × (0 < get_or counts (at / 64) 0)
kept_some marks pushed counts n at kept within old =
    let long = kept.counted.long in
    let was = ap weight old in
    let fewer = count_set-set marks at false within in
    let set_is = kept.set_is in
    let count = kept.counted.each (at / 64) (omega arith) in
    let short = length-take 64 (drop (64 * (at / 64)) marks) in
    let rest = length-drop (64 * (at / 64)) marks in
    let inside : at % 64 < length (word_of (at / 64) marks) = omega arith in
    let here = ap weight (get_or-in_word marks at) in
    let fewer_here = count_set-set (word_of (at / 64) marks) (at % 64) false inside in
    (omega arith, omega arith)

-- a mark that is taken away
pub kept_lowered : (marks next : List Bool) (pushed : ℕ) (counts after : List ℕ) (n at : ℕ) → AreKept marks pushed counts n → at < pushed → get_or marks at false ≡ true → next ≡ set marks at false → after ≡ set counts (at / 64) (get_or counts (at / 64) 0 - 1) → AreKept next pushed after (n - 1)
kept_lowered marks next pushed counts after n at kept within old put changed =
    let was = ap weight old in
    let fits = kept.within in
    let some = kept_some marks pushed counts n at kept (omega arith) old in
    let some_count = some.1 in
    let some_set = some.0 in
    kept_put marks next pushed pushed counts after n (n - 1) at (get_or counts (at / 64) 0 - 1) false kept (omega arith) put changed (omega arith) (omega arith) (omega arith) within fits

-- more room
pub kept_grown : (marks next : List Bool) (pushed : ℕ) (counts after : List ℕ) (n more : ℕ) → AreKept marks pushed counts n → next ≡ marks ++ replicate more false → AreWordCounts after next → length next < 2 ^ 32 → AreKept next pushed after n
kept_grown marks next pushed counts after n more kept grown counted short =
    let long = ap length grown ∙ length-append marks (replicate more false) in
    let within = kept.within in
    let front : rank_of pushed next ≡ rank_of pushed marks = ap (λ ms. rank_of pushed ms) grown ∙ ap count_set (take-append-le pushed marks (replicate more false) within) in
    let unset : (at : ℕ) → pushed ≤ at → get_or next at false ≡ false = λ at behind. elim (cases_lt at (length marks)) [
      | inl before ↦ ap (λ ms. get_or ms at false) grown ∙ (get_or_append_left marks (replicate more false) false at before ∙ kept.unset at behind)
      | inr after ↦ ap (λ ms. get_or ms at false) grown ∙ (get_or-append_right marks (replicate more false) (length marks) at false refl after ∙ unset_at more (at - length marks))
    ] in
    record {
      counted = counted;
      unset = unset;
      set_is = kept.set_is ∙ (front-count marks pushed kept.unset ∙ (sym front ∙ sym (front-count next pushed unset)));
      within = omega arith;
      short = short;
    }

-- no mark yet
pub kept_none : (marks : List Bool) (counts : List ℕ) → marks ≡ [] → counts ≡ [] → AreKept marks 0 counts 0
unfolding count_set
kept_none marks counts none empty =
    let long = ap length none in
    let counts_long = ap length empty in
    record {
      counted = record { each = λ word below. absurd (omega arith); long = omega arith };
      unset = λ at behind. ap (λ ms. get_or ms at false) none;
      set_is = sym (ap count_set none);
      within = omega arith;
      short = omega arith;
    }

-- a mark that is unlike another
pub unlike_set : (old mark : Bool) → beq old mark ≡ false → mark ≡ true → old ≡ false
unlike_set true true unlike is = cc
unlike_set true false unlike is = cc
unlike_set false mark unlike is = refl

pub unlike_unset : (old mark : Bool) → beq old mark ≡ false → mark ≡ false → old ≡ true
unlike_unset true mark unlike is = refl
unlike_unset false true unlike is = cc
unlike_unset false false unlike is = cc

-- the word that a sum reaches is one
pub word-in_counts : (counts : List ℕ) (n word : ℕ) → total_before word counts ≤ n → n < total_before word counts + get_or counts word 0 → word < length counts
word-in_counts counts n word before past = elim (cases_lt word (length counts)) [
  | inl inside ↦ inside
  | inr behind ↦ let none = get_or_past counts word 0 behind in absurd (omega arith)
]
