-- Rows of number states, and the words of bits beside them.
use Rattle.std.proofs.Common.{◌≡◌, ◌≢◌, inl, inr, ℕ, zero, suc, ◌+◌, ◌<◌, ◌≤◌, Bool, true, false, cond, List, [], ◌∷◌, length, take, set, replicate, Option, Some, None, refl, sym, ap, subst, ◌∙◌, add-zero, zero-add, sub-one, count_by, get_or, drop, ◌==◌, length-set, length-take, arith}
use Rattle.std.specs.Option.{MatchOption}
use Rattle.std.specs.List.{slice_get}
use Rattle.std.specs.Int.{bit_at}
use Rattle.std.proofs.lemmas.Bool.{cases_lt}
use Rattle.std.proofs.lemmas.Bool.Decides.{eqb_tells}
use Rattle.std.proofs.Math.Seq.{take-set-lt}
use Rattle.std.proofs.lemmas.List.{take-replicate, length-replicate, get_or_default, drop_more}
use Rattle.std.proofs.lemmas.Option.{slice_get_past}
use Rattle.std.proofs.lemmas.Nat.Bits.{bit_at-zero}
use Rattle.sr_shadow.specs.Book.{count_of}
use Rattle.sr_shadow.specs.declared.entry.Entry.{Entry}
use Rattle.sr_update.specs.declared.number_state.NumberState.{NumberState}
use Rattle.sr_update.specs.declared.number_state.NumberState.TheVariants.{Free, Current, Draining}
use Rattle.sr_update.specs.NumberSet.{NoneIn, IsNextIn, IsWith}
use Rattle.sr_update.specs.Numbers.{first_number, is_free, is_current, is_draining, is_drained, opening_row, current_count, or_after, drained_from}
use Rattle.sr_update.specs.Row.{is_state, Marks, IsRow}

-- an element after a write
pub get_set_same : {X : Type 0} (xs : List X) (n : ℕ) (x : X) → n < length xs → slice_get (set xs n x) n ≡ Some x
get_set_same [] n x h = absurd (omega arith)
get_set_same (y ∷ xs) zero x h = refl
get_set_same (y ∷ xs) (suc n) x h = get_set_same xs n x (omega arith)

pub get_set_other : {X : Type 0} (xs : List X) (n m : ℕ) (x : X) → m ≢ n → slice_get (set xs n x) m ≡ slice_get xs m
get_set_other [] n m x h = refl
get_set_other (y ∷ xs) zero zero x h = absurd (h refl)
get_set_other (y ∷ xs) zero (suc m) x h = refl
get_set_other (y ∷ xs) (suc n) zero x h = refl
get_set_other (y ∷ xs) (suc n) (suc m) x h = get_set_other xs n m x (λ e. h (ap suc e))

-- an element of equal ones
pub get_replicate : {X : Type 0} (n k : ℕ) (x : X) → k < n → slice_get (replicate n x) k ≡ Some x
get_replicate zero k x h = absurd (omega arith)
get_replicate (suc n) zero x h = refl
get_replicate (suc n) (suc k) x h = get_replicate n k x (omega arith)

-- ---- the first number that passes

pub first_found : (test : ℕ → NumberState → Bool) (base : ℕ) (row : List NumberState) (k : ℕ) → is_state (test (base + k)) (slice_get row k) ≡ true
    → ((j : ℕ) → j < k → is_state (test (base + j)) (slice_get row j) ≡ false) → first_number test base row ≡ Some (base + k)
first_found test base [] k here before = absurd (cc)
first_found test base (s ∷ row) zero here before =
    let h : test base s ≡ true = subst (λ (m : ℕ). test m s ≡ true) (add-zero base) here in
    rw (h, add-zero) refl
first_found test base (s ∷ row) (suc k) here before =
    let h : test base s ≡ false = subst (λ (m : ℕ). test m s ≡ false) (add-zero base) (before 0 (omega arith)) in
    let e : (j : ℕ) → base + suc j ≡ base + 1 + j = λ j. omega arith in
    rw h (first_found test (base + 1) row k (subst (λ (m : ℕ). is_state (test m) (slice_get row k) ≡ true) (e k) here)
    (λ j lt. subst (λ (m : ℕ). is_state (test m) (slice_get row j) ≡ false) (e j) (before (suc j) (omega arith))) ∙ ap Some (sym (e k)))

pub first_none : (test : ℕ → NumberState → Bool) (base : ℕ) (row : List NumberState) → ((j : ℕ) → j < length row → is_state (test (base + j)) (slice_get row j) ≡ false)
    → first_number test base row ≡ None
first_none test base [] before = refl
first_none test base (s ∷ row) before =
    let h : test base s ≡ false = subst (λ (m : ℕ). test m s ≡ false) (add-zero base) (before 0 (omega arith)) in
    let e : (j : ℕ) → base + suc j ≡ base + 1 + j = λ j. omega arith in
    rw h (first_none test (base + 1) row (λ j lt. subst (λ (m : ℕ). is_state (test m) (slice_get row j) ≡ false) (e j) (before (suc j) (omega arith))))

-- ---- the words of bits

-- a test as a bit
bit_true : (b : Bool) (bit : ℕ) → bit ≡ cond b 1 0 → bit ≡ 1 → b ≡ true
bit_true true bit is h = refl
bit_true false bit is h = absurd (omega arith)

bit_false : (b : Bool) (bit : ℕ) → bit ≡ cond b 1 0 → bit ≡ 0 → b ≡ false
bit_false true bit is h = absurd (omega arith)
bit_false false bit is h = refl

pub marked : (test : NumberState → Bool) (row : List NumberState) (word n : ℕ) → Marks test row word → n < 64 → bit_at word n ≡ 1 → is_state test (slice_get row n) ≡ true
marked test row word n marks within h = bit_true _ _ (marks n within) h

pub unmarked : (test : NumberState → Bool) (row : List NumberState) (word n : ℕ) → Marks test row word → n < 64 → bit_at word n ≡ 0 → is_state test (slice_get row n) ≡ false
unmarked test row word n marks within h = bit_false _ _ (marks n within) h

-- the lowest bit is the first number that passes
pub marked_first : (test : NumberState → Bool) (row : List NumberState) (word : ℕ) (r : Option ℕ) → length row ≤ 64 → Marks test row word
    → MatchOption r (NoneIn word 0 64) (IsNextIn word 0) → r ≡ first_number (λ n. test) 0 row
marked_first test row word None most marks h =
    sym (first_none (λ n. test) 0 row (λ j lt. unmarked test row word j marks (omega arith) (h j (omega arith) (omega arith))))
marked_first test row word (Some n) most marks h =
    ap Some (sym (zero-add n)) ∙ sym (first_found (λ n. test) 0 row n (marked test row word n marks h.within h.is_in)
    (λ j lt. unmarked test row word j marks (omega (arith, h.within)) (h.first j (omega arith) lt)))

-- another state for a number
pub marks_set : (test : NumberState → Bool) (row : List NumberState) (old n : ℕ) (state : NumberState) (new : ℕ) → n < length row
    → Marks test row old → IsWith old n (test state) new → Marks test (set row n state) new
marks_set test row old n state new within marks h m lt =
    elim (eqb_tells m n) [
      | inl e ↦ subst (λ (k : ℕ). bit_at new k ≡ cond (is_state test (slice_get (set row n state) k)) 1 0) (sym e.1)
          (h.one ∙ ap (λ s. cond (is_state test s) 1 0) (sym (get_set_same row n state within)))
      | inr e ↦ h.others m lt e.1 ∙ marks m lt ∙ ap (λ s. cond (is_state test s) 1 0) (sym (get_set_other row n m state e.1))
    ]

-- a number's state is the first that passes
pub state_found : (test : NumberState → Bool) (row : List NumberState) (n : ℕ) (state : NumberState) → slice_get row n ≡ Some state → test state ≡ true
    → ((j : ℕ) → j < n → is_state test (slice_get row j) ≡ false) → Some n ≡ first_number (λ k. test) 0 row
state_found test row n state at passes before =
    ap Some (sym (zero-add n)) ∙ sym (first_found (λ k. test) 0 row n (ap (is_state test) at ∙ passes) before)

pub state_none : (test : NumberState → Bool) (row : List NumberState) → ((j : ℕ) → j < length row → is_state test (slice_get row j) ≡ false)
    → None ≡ first_number (λ k. test) 0 row
state_none test row before = sym (first_none (λ k. test) 0 row before)

-- a number's state becomes another, in the fields of a row
pub row_put : (states now : List NumberState) (versions n : ℕ) (state : NumberState) (old_free old_draining free draining : ℕ) → length (take versions states) ≡ versions
    → take versions states ≡ now → IsRow (take versions states) old_free old_draining → n < length now
    → IsWith old_free n (is_free state) free → IsWith old_draining n (is_draining state) draining
    → (length (take versions (set states n state)) ≡ versions) × IsRow (take versions (set states n state)) free draining
row_put states now versions n state old_free old_draining free draining size is row within f d =
    let lt : n < length (take versions states) = subst (λ (xs : List NumberState). n < length xs) (sym is) within in
    let below : n < versions = omega (arith, lt, size) in
    let e : take versions (set states n state) ≡ set (take versions states) n state = take-set-lt versions states n state below in (
      ap length e ∙ length-set (take versions states) n state ∙ size,
      subst (λ (xs : List NumberState). IsRow xs free draining) (sym e) (record {
        some = omega (arith, row.some, length-set (take versions states) n state);
        most = omega (arith, row.most, length-set (take versions states) n state);
        free = marks_set is_free (take versions states) old_free n state free lt row.free f;
        draining = marks_set is_draining (take versions states) old_draining n state draining lt row.draining d;
      }),
    )

pub view_put : (states now : List NumberState) (versions n : ℕ) (state : NumberState) → take versions states ≡ now → n < length now
    → take versions (set states n state) ≡ set now n state
view_put states now versions n state is within =
    let lt : n < length (take versions states) = subst (λ (xs : List NumberState). n < length xs) (sym is) within in
    take-set-lt versions states n state (omega (arith, lt, length-take versions states)) ∙ ap (λ xs. set xs n state) is

-- ---- a row of Free numbers

pub free_there : (versions n : ℕ) → n < versions → is_state is_free (slice_get (replicate versions Free) n) ≡ true
free_there versions n h = ap (is_state is_free) (get_replicate versions n Free h)

pub nothing_there : (versions n : ℕ) → versions ≤ n → is_state is_free (slice_get (replicate versions Free) n) ≡ false
nothing_there versions n h = ap (is_state is_free) (slice_get_past (replicate versions Free) n (omega (arith, length-replicate versions Free)))

pub none_draining_there : (versions n : ℕ) → is_state is_draining (slice_get (replicate versions Free) n) ≡ false
none_draining_there zero n = refl
none_draining_there (suc versions) zero = refl
none_draining_there (suc versions) (suc n) = none_draining_there versions n

-- and its words
pub row_opened : (states : List NumberState) (versions word : ℕ) → states ≡ replicate 64 Free → 1 ≤ versions → versions ≤ 64
    → ((n : ℕ) → n < versions → bit_at word n ≡ 1) → ((n : ℕ) → versions ≤ n → bit_at word n ≡ 0)
    → (length (take versions states) ≡ versions) × IsRow (take versions states) word 0
row_opened states versions word is some most within past =
    let e : take versions states ≡ replicate versions Free = ap (take versions) is ∙ take-replicate versions 64 Free most in (
      ap length e ∙ length-replicate versions Free,
      subst (λ (xs : List NumberState). IsRow xs word 0) (sym e) (record {
        some = omega (arith, length-replicate versions Free);
        most = omega (arith, length-replicate versions Free);
        free = λ n lt. elim (cases_lt n versions) [ inl h ↦ within n h ∙ ap (λ b. cond b 1 0) (sym (free_there versions n h)) | inr h ↦ past n h ∙ ap (λ b. cond b 1 0) (sym (nothing_there versions n h)) ];
        draining = λ n lt. bit_at-zero n ∙ ap (λ b. cond b 1 0) (sym (none_draining_there versions n));
      }),
    )

pub view_opened : (states : List NumberState) (versions : ℕ) → states ≡ replicate 64 Free → 1 ≤ versions → versions ≤ 64
    → set (take versions states) 0 Current ≡ opening_row versions
view_opened states zero is some most = absurd (omega arith)
view_opened states (suc k) is some most =
    ap (λ xs. set xs 0 Current) (ap (take (suc k)) is ∙ take-replicate (suc k) 64 Free most) ∙ ap (λ n. Current ∷ replicate n Free) (sym (sub-one (suc k)))

-- where no number passes none is counted
counted_after : (test : NumberState → Bool) (base : ℕ) (s : NumberState) (row : List NumberState) → (first_number (λ n. test) (base + 1) row ≡ None → count_by test row ≡ 0)
    → (b : Bool) → test s ≡ b → cond b (Some base) (first_number (λ n. test) (base + 1) row) ≡ None → count_by test (s ∷ row) ≡ 0
counted_after test base s row rest true is h = absurd (cc)
counted_after test base s row rest false is h = rw is (omega (arith, rest h))

pub first_none_counted : (test : NumberState → Bool) (base : ℕ) (row : List NumberState) → first_number (λ n. test) base row ≡ None → count_by test row ≡ 0
first_none_counted test base [] h = refl
first_none_counted test base (s ∷ row) h = counted_after test base s row (first_none_counted test (base + 1) row) (test s) refl h

-- a row that was read
pub row_read : (rows : List (List NumberState)) (vip : ℕ) (row : List NumberState) → vip < length rows → row ≡ get_or rows vip row → get_or rows vip [] ≡ row
row_read rows vip row within is = get_or_default rows vip [] row within ∙ sym is

-- where one is Current there is a first
pub one_is_found : (rows : List (List NumberState)) (vip : ℕ) (row : List NumberState) → vip < length rows → row ≡ get_or rows vip row
    → current_count vip rows ≡ 1 → first_number (λ n. is_current) 0 row ≡ None → ⊥
one_is_found rows vip row within is one none =
    let e : count_by is_current (get_or rows vip []) ≡ count_by is_current row = ap (count_by is_current) (row_read rows vip row within is) in
    absurd (omega (arith, e, one, first_none_counted is_current 0 row none))

-- ---- Draining numbers that no registered key has

pub drained_off : (vip number : ℕ) (entries : List Entry) (o : Option NumberState) → is_state is_draining o ≡ false → is_state (is_drained vip entries number) o ≡ false
drained_off vip number entries None h = refl
drained_off vip number entries (Some state) h = rw h refl

pub drained_had : (vip number : ℕ) (entries : List Entry) (o : Option NumberState) → (count_of vip number entries == 0) ≡ false → is_state (is_drained vip entries number) o ≡ false
drained_had vip number entries None h = refl
drained_had vip number entries (Some Free) h = refl
drained_had vip number entries (Some Current) h = refl
drained_had vip number entries (Some Draining) h = h

pub drained_on : (vip number : ℕ) (entries : List Entry) (o : Option NumberState) → is_state is_draining o ≡ true → (count_of vip number entries == 0) ≡ true
    → is_state (is_drained vip entries number) o ≡ true
drained_on vip number entries None h unused = absurd (cc)
drained_on vip number entries (Some state) h unused = rw h unused

-- no number below this one is such
abbrev pub NoneDrained : ℕ → List Entry → List NumberState → ℕ → Type 0
NoneDrained vip entries row from = (j : ℕ) → j < from → is_state (is_drained vip entries j) (slice_get row j) ≡ false

pub none_drained_to : (vip : ℕ) (entries : List Entry) (row : List NumberState) (word from to : ℕ) → Marks is_draining row word → to ≤ 64 → NoneDrained vip entries row from
    → NoneIn word from to → NoneDrained vip entries row to
none_drained_to vip entries row word from to marks most before none j lt =
    elim (cases_lt j from) [ inl h ↦ before j h | inr h ↦ drained_off vip j entries (slice_get row j) (unmarked is_draining row word j marks (omega arith) (none j h lt)) ]

pub none_drained_past : (vip : ℕ) (entries : List Entry) (row : List NumberState) (word from n : ℕ) → Marks is_draining row word → NoneDrained vip entries row from
    → IsNextIn word from n → (count_of vip n entries == 0) ≡ false → NoneDrained vip entries row (n + 1)
none_drained_past vip entries row word from n marks before next had j lt =
    elim (cases_lt j n) [
      | inl h ↦ none_drained_to vip entries row word from n marks (omega (arith, next.within)) before next.first j h
      | inr h ↦ let same : n ≡ j = omega arith in
          subst (λ (k : ℕ). is_state (is_drained vip entries k) (slice_get row k) ≡ false) same (drained_had vip n entries (slice_get row n) had)
    ]

pub drained_found : (vip : ℕ) (entries : List Entry) (row : List NumberState) (word from n : ℕ) → Marks is_draining row word → NoneDrained vip entries row from
    → IsNextIn word from n → (count_of vip n entries == 0) ≡ true → Some n ≡ first_number (is_drained vip entries) 0 row
drained_found vip entries row word from n marks before next unused =
    ap Some (sym (zero-add n)) ∙ sym (first_found (is_drained vip entries) 0 row n
    (subst (λ (k : ℕ). is_state (is_drained vip entries k) (slice_get row n) ≡ true) (sym (zero-add n))
    (drained_on vip n entries (slice_get row n) (marked is_draining row word n marks next.within next.is_in) unused))
    (λ j lt. subst (λ (k : ℕ). is_state (is_drained vip entries k) (slice_get row j) ≡ false) (sym (zero-add j))
    (none_drained_to vip entries row word from n marks (omega (arith, next.within)) before next.first j lt)))

pub drained_none : (vip : ℕ) (entries : List Entry) (row : List NumberState) (word from : ℕ) → length row ≤ 64 → Marks is_draining row word → NoneDrained vip entries row from
    → NoneIn word from 64 → None ≡ first_number (is_drained vip entries) 0 row
drained_none vip entries row word from most marks before none =
    sym (first_none (is_drained vip entries) 0 row (λ j lt. subst (λ (k : ℕ). is_state (is_drained vip entries k) (slice_get row j) ≡ false) (sym (zero-add j))
    (none_drained_to vip entries row word from 64 marks (omega arith) before none j (omega arith))))

-- a virtual address more
pub drained_more : (rows : List (List NumberState)) (entries : List Entry) (vip : ℕ) (row : List NumberState) → vip < length rows → row ≡ get_or rows vip row
    → drained_from vip (drop vip rows) entries ≡ or_after vip (first_number (is_drained vip entries) 0 row) (drained_from (vip + 1) (drop (vip + 1) rows) entries)
drained_more rows entries vip row within is =
    ap (λ rs. drained_from vip rs entries) (drop_more rows vip row within ∙ ap (λ r. r ∷ drop (vip + 1) rows) (sym is))
