-- How acts change the states of numbers, and what graces have seen.
use Rattle.std.proofs.Common.{◌≡◌, ◌≢◌, ◌⊎◌, inl, inr, ℕ, zero, suc, ◌+◌, ◌<◌, ◌≤◌, Bool, true, false, cond, ◌&&◌, ◌==◌, List, [], ◌∷◌, ◌++◌, length, set, Option, Some, None, count_by, eqb, refl, sym, ap, subst, ◌∙◌, length-set, arith}
use Rattle.std.specs.List.{slice_get}
use Rattle.std.proofs.lemmas.Bool.{cases_lt}
use Rattle.std.proofs.lemmas.Bool.Decides.{eqb_tells, nat_tests}
use Rattle.std.proofs.lemmas.List.{get_or-set_same, get_or-set_other, get_or_past}
use Rattle.std.proofs.lemmas.List.Sums.{sum_by-append}
use Rattle.std.proofs.lemmas.Option.{slice_get_within}
use Rattle.sr_update.specs.declared.number_state.NumberState.{NumberState}
use Rattle.sr_update.specs.declared.number_state.NumberState.TheVariants.{Free, Current, Draining}
use Rattle.sr_update.specs.Grace.{GraceView, grace_from, is_behind, stepped, after_note}
use Rattle.sr_update.specs.Laws.{after_notes, HasPassed, SeenPassed, NumberAct, Gave, Ended, Released, acted, all_acted, is_on, last_act, state_after}
use Rattle.sr_update.specs.Numbers.{NumberRows, first_number, is_current, row_of, state_of, with_state, current_of, current_count}
use Rattle.sr_update.specs.Row.{is_state}
use Rattle.sr_update.proofs.Rows.{get_set_same, get_set_other}

-- ---- graces

-- a note that isn't behind
passed_by : (tick note : ℕ) → is_behind tick note ≡ false → HasPassed tick note
passed_by tick zero h = inl refl
passed_by tick (suc note) h = inr (grind (arith, nat_tests, h))

-- a pipe between the next one at the beginning and the next one at the end
pub record SeenFrom (g : GraceView) (notes : List ℕ) (pipe : ℕ) : Type 0 where
  pub before : List ℕ
  pub note : ℕ
  pub after : List ℕ
  pub among : notes ≡ before ++ note ∷ after
  pub its : (after_notes g before).next ≡ pipe
  pub passed : HasPassed g.tick note

-- one note more before it
seen_later : (g h : GraceView) (note : ℕ) (notes : List ℕ) (pipe : ℕ) → after_note g note ≡ h → h.tick ≡ g.tick → SeenFrom h notes pipe → SeenFrom g (note ∷ notes) pipe
seen_later g h note notes pipe is tick s = record {
  before = note ∷ s.before;
  note = s.note;
  after = s.after;
  among = ap (λ ns. note ∷ ns) s.among;
  its = subst (λ (k : GraceView). (after_notes k s.before).next ≡ pipe) (sym is) s.its;
  passed = subst (λ (t : ℕ). HasPassed t s.note) tick s.passed;
}

seen_by : (g : GraceView) (note : ℕ) (notes : List ℕ) (pipe : ℕ) (b : Bool) → is_behind g.tick note ≡ b → g.next ≤ pipe
    → pipe < (after_notes (cond b g (stepped g)) notes).next
    → ((h : GraceView) → h.next ≤ pipe → pipe < (after_notes h notes).next → SeenFrom h notes pipe) → SeenFrom g (note ∷ notes) pipe
seen_by g note notes pipe true is low high rest = seen_later g g note notes pipe (ap (λ b. cond b g (stepped g)) is) refl (rest g low high)
seen_by g note notes pipe false is low high rest =
    elim (cases_lt g.next pipe) [
      | inl h ↦ seen_later g (stepped g) note notes pipe (ap (λ b. cond b g (stepped g)) is) refl (rest (stepped g) (omega arith) high)
      | inr h ↦ record { before = []; note = note; after = notes; among = refl; its = omega arith; passed = passed_by g.tick note is }
    ]

pub seen_from : (g : GraceView) (notes : List ℕ) (pipe : ℕ) → g.next ≤ pipe → pipe < (after_notes g notes).next → SeenFrom g notes pipe
seen_from g [] pipe low high = absurd (omega arith)
seen_from g (note ∷ notes) pipe low high =
    seen_by g note notes pipe (is_behind g.tick note) refl low high (λ h a b. seen_from h notes pipe a b)

pub seen_all : (tick pipes : ℕ) (notes : List ℕ) → (after_notes (grace_from tick pipes) notes).next ≡ pipes → (pipe : ℕ) → pipe < pipes → SeenPassed tick pipes notes pipe
seen_all tick pipes notes over pipe within =
    let s = seen_from (grace_from tick pipes) notes pipe (omega arith) (omega (arith, over)) in
    record { before = s.before; note = s.note; after = s.after; among = s.among; its = s.its; passed = s.passed }

pub later_than : (tick note : ℕ) → HasPassed tick note → note ≢ tick → (note ≡ 0) ⊎ (tick < note)
later_than tick note (inl h) other = inl h
later_than tick note (inr h) other = inr (omega arith)

-- ---- one state

none_of_none : {A : Type 0} (number : ℕ) (state : NumberState) → slice_get [] number ≡ Some state → A
none_of_none number state h = absurd (cc)

-- there is such a virtual address
vip_within : (rows : NumberRows) (vip number : ℕ) (state : NumberState) → state_of vip number rows ≡ Some state → vip < length rows
vip_within rows vip number state h =
    elim (cases_lt vip (length rows)) [
      | inl w ↦ w
      | inr past ↦ none_of_none number state (ap (λ row. slice_get row number) (sym (get_or_past rows vip [] past)) ∙ h)
    ]

pub state_same : (rows : NumberRows) (vip number : ℕ) (old state : NumberState) → state_of vip number rows ≡ Some old → state_of vip number (with_state vip number state rows) ≡ Some state
state_same rows vip number old state h =
    ap (λ row. slice_get row number) (get_or-set_same rows vip (set (row_of vip rows) number state) [] (vip_within rows vip number old h))
    ∙ get_set_same (row_of vip rows) number state (slice_get_within (row_of vip rows) number old h)

-- the row of a virtual address after an act on it, which is there
same_row : (rows : NumberRows) (vip v n : ℕ) (state : NumberState) → vip ≡ v → v < length rows → row_of vip (with_state v n state rows) ≡ set (row_of v rows) n state
same_row rows vip v n state same within =
    ap (λ k. row_of k (with_state v n state rows)) same ∙ get_or-set_same rows v (set (row_of v rows) n state) [] within

-- another number keeps its state
pub state_other : (rows : NumberRows) (vip number v n : ℕ) (state : NumberState) → (v ≡ vip → n ≡ number → ⊥)
    → state_of vip number (with_state v n state rows) ≡ state_of vip number rows
state_other rows vip number v n state other =
    elim (eqb_tells vip v) [
      | inr e ↦ ap (λ row. slice_get row number) (get_or-set_other rows v vip (set (row_of v rows) n state) [] e.1)
      | inl e ↦ elim (cases_lt v (length rows)) [
        | inl w ↦ ap (λ row. slice_get row number) (same_row rows vip v n state e.1 w)
            ∙ get_set_other (row_of v rows) n number state (λ same. other (sym e.1) (sym same)) ∙ ap (λ k. state_of k number rows) (sym e.1)
        | inr past ↦ ap (λ row. slice_get row number) (get_or_past (set rows v (set (row_of v rows) n state)) vip [] (omega (arith, e.1, past, length-set rows v (set (row_of v rows) n state)))
            ∙ sym (get_or_past rows vip [] (omega (arith, e.1, past))))
      ]
    ]

-- ---- many acts

-- the number of an act
both_true : (a b : Bool) → (a && b) ≡ true → (a ≡ true) × (b ≡ true)
both_true true b h = (refl, h)
both_true false b h = absurd (cc)

is_same : (a b : ℕ) → eqb a b ≡ true → a ≡ b
is_same a b h = elim (eqb_tells a b) [ inl e ↦ e.1 | inr e ↦ absurd (let f = e.0 in cc) ]

same_is : (a b : ℕ) → a ≡ b → eqb a b ≡ true
same_is a b h = elim (eqb_tells a b) [ inl e ↦ e.0 | inr e ↦ absurd (e.1 h) ]

on_other : (v n vip number : ℕ) → ((v == vip) && (n == number)) ≡ false → v ≡ vip → n ≡ number → ⊥
on_other v n vip number h same same' =
    let both : ((v == vip) && (n == number)) ≡ true = rw (same_is v vip same, same_is n number same') refl in
    cc

-- a state is given to this number
act_here : (rows : NumberRows) (vip number v n : ℕ) (old state : NumberState) → state_of vip number rows ≡ Some old → ((v == vip) && (n == number)) ≡ true
    → state_of vip number (with_state v n state rows) ≡ Some state
act_here rows vip number v n old state h on =
    let both = both_true (v == vip) (n == number) on in
    let same = is_same v vip both.0 in
    let same' = is_same n number both.1 in
    ap (λ k. state_of vip number (with_state k n state rows)) same ∙ ap (λ k. state_of vip number (with_state vip k state rows)) same' ∙ state_same rows vip number old state h

-- an act on another number
act_else : (act : NumberAct) (rows : NumberRows) (vip number : ℕ) → is_on vip number act ≡ false → state_of vip number (acted act rows) ≡ state_of vip number rows
act_else (Gave v n) rows vip number h = state_other rows vip number v n Current (on_other v n vip number h)
act_else (Ended v n) rows vip number h = state_other rows vip number v n Draining (on_other v n vip number h)
act_else (Released v n) rows vip number h = state_other rows vip number v n Free (on_other v n vip number h)

-- an act on this number
act_on : (act : NumberAct) (rows : NumberRows) (vip number : ℕ) (start old : NumberState) → state_of vip number rows ≡ Some old → is_on vip number act ≡ true
    → state_of vip number (acted act rows) ≡ Some (state_after start (Some act))
act_on (Gave v n) rows vip number start old h on = act_here rows vip number v n old Current h on
act_on (Ended v n) rows vip number start old h on = act_here rows vip number v n old Draining h on
act_on (Released v n) rows vip number start old h on = act_here rows vip number v n old Free h on

told_by : (rows : NumberRows) (act : NumberAct) (acts : List NumberAct) (vip number : ℕ) (start : NumberState) (last : Option NumberAct) (b : Bool) → is_on vip number act ≡ b
    → state_of vip number rows ≡ Some (state_after start last)
    → ((next : Option NumberAct) → state_of vip number (acted act rows) ≡ Some (state_after start next)
    → state_of vip number (all_acted acts (acted act rows)) ≡ Some (state_after start (last_act vip number next acts)))
    → state_of vip number (all_acted acts (acted act rows)) ≡ Some (state_after start (last_act vip number (cond (is_on vip number act) (Some act) last) acts))
told_by rows act acts vip number start last true on h rest =
    rest (Some act) (act_on act rows vip number start (state_after start last) h on)
    ∙ ap (λ b. Some (state_after start (last_act vip number (cond b (Some act) last) acts))) (sym on)
told_by rows act acts vip number start last false on h rest =
    rest last (act_else act rows vip number on ∙ h) ∙ ap (λ b. Some (state_after start (last_act vip number (cond b (Some act) last) acts))) (sym on)

pub told_from : (rows : NumberRows) (acts : List NumberAct) (vip number : ℕ) (start : NumberState) (last : Option NumberAct)
    → state_of vip number rows ≡ Some (state_after start last) → state_of vip number (all_acted acts rows) ≡ Some (state_after start (last_act vip number last acts))
told_from rows [] vip number start last h = h
told_from rows (act ∷ acts) vip number start last h = told_by rows act acts vip number start last (is_on vip number act) refl h
    (λ next state. told_from (acted act rows) acts vip number start next state)

-- ---- one update

-- the first that passes passes
first_passes_by : (test : NumberState → Bool) (base : ℕ) (s : NumberState) (row : List NumberState) (k : ℕ) (b : Bool) → test s ≡ b
    → cond b (Some base) (first_number (λ n. test) (base + 1) row) ≡ Some k
    → (first_number (λ n. test) (base + 1) row ≡ Some k → (j : ℕ) × (k ≡ base + 1 + j) × (is_state test (slice_get row j) ≡ true))
    → (j : ℕ) × (k ≡ base + j) × (is_state test (slice_get (s ∷ row) j) ≡ true)
first_passes_by test base s row k true is h rest =
    let e : base ≡ k = cc in (0, omega (arith, e), is)
first_passes_by test base s row k false is h rest =
    let f = rest h in (suc f.0, omega (arith, f.1), f.2)

pub first_passes : (test : NumberState → Bool) (base : ℕ) (row : List NumberState) (k : ℕ) → first_number (λ n. test) base row ≡ Some k
    → (j : ℕ) × (k ≡ base + j) × (is_state test (slice_get row j) ≡ true)
first_passes test base [] k h = absurd (cc)
first_passes test base (s ∷ row) k h = first_passes_by test base s row k (test s) refl h (first_passes test (base + 1) row k)

current_is : (o : Option NumberState) → is_state is_current o ≡ true → o ≡ Some Current
current_is None h = absurd (cc)
current_is (Some Free) h = absurd (cc)
current_is (Some Current) h = refl
current_is (Some Draining) h = absurd (cc)

pub replaced_is : (rows : NumberRows) (vip replaced : ℕ) → current_of vip rows ≡ Some replaced → state_of vip replaced rows ≡ Some Current
replaced_is rows vip replaced h =
    let f = first_passes is_current 0 (row_of vip rows) replaced h in
    let same : f.0 ≡ replaced = omega (arith, f.1) in
    subst (λ (n : ℕ). state_of vip n rows ≡ Some Current) same (current_is (slice_get (row_of vip rows) f.0) f.2)

-- a Free number isn't Current
pub differ : (rows : NumberRows) (vip number replaced : ℕ) → state_of vip number rows ≡ Some Free → state_of vip replaced rows ≡ Some Current → replaced ≢ number
differ rows vip number replaced free current same =
    let e : Some Free ≡ Some Current = sym free ∙ ap (λ n. state_of vip n rows) (sym same) ∙ current in
    cc

pub both_current : (rows : NumberRows) (vip number replaced : ℕ) → state_of vip number rows ≡ Some Free → current_of vip rows ≡ Some replaced
    → (state_of vip number (with_state vip number Current rows) ≡ Some Current) × (state_of vip replaced (with_state vip number Current rows) ≡ Some Current)
both_current rows vip number replaced free first =
    let current = replaced_is rows vip replaced first in (
      state_same rows vip number Free Current free,
      state_other rows vip replaced vip number Current (λ _ same. differ rows vip number replaced free current (sym same)) ∙ current,
    )

pub one_drains : (rows : NumberRows) (vip number replaced : ℕ) → state_of vip number rows ≡ Some Free → current_of vip rows ≡ Some replaced
    → (state_of vip number (with_state vip replaced Draining (with_state vip number Current rows)) ≡ Some Current)
    × (state_of vip replaced (with_state vip replaced Draining (with_state vip number Current rows)) ≡ Some Draining)
one_drains rows vip number replaced free first =
    let both = both_current rows vip number replaced free first in
    let other = differ rows vip number replaced free (replaced_is rows vip replaced first) in (
      state_other (with_state vip number Current rows) vip number vip replaced Draining (λ _ same. other same) ∙ both.0,
      state_same (with_state vip number Current rows) vip replaced Current Draining both.1,
    )

-- ---- how many are Current

-- an element more
count_more : (test : NumberState → Bool) (s : NumberState) (row : List NumberState) → count_by test (s ∷ row) ≡ cond (test s) 1 0 + count_by test row
count_more test s row = omega (arith, sum_by-append (λ (t : NumberState). cond (test t) 1 0) (s ∷ []) row)

-- an element in the place of another
pub count_set : (test : NumberState → Bool) (row : List NumberState) (n : ℕ) (old state : NumberState) → slice_get row n ≡ Some old
    → count_by test (set row n state) + cond (test old) 1 0 ≡ count_by test row + cond (test state) 1 0
count_set test [] n old state h = absurd (cc)
count_set test (s ∷ row) zero old state h =
    let same : s ≡ old = cc in
    let bit : NumberState → ℕ = λ t. cond (test t) 1 0 in
    let e = ap bit same in
    omega (arith, count_more test s row, count_more test state row, e)
count_set test (s ∷ row) (suc n) old state h =
    omega (arith, count_more test s row, count_more test s (set row n state), count_set test row n old state h)

-- the row of a virtual address after an act
pub row_after : (rows : NumberRows) (vip number : ℕ) (old state : NumberState) → state_of vip number rows ≡ Some old
    → row_of vip (with_state vip number state rows) ≡ set (row_of vip rows) number state
row_after rows vip number old state h = get_or-set_same rows vip (set (row_of vip rows) number state) [] (vip_within rows vip number old h)

pub one_stays : (rows : NumberRows) (vip number replaced : ℕ) → state_of vip number rows ≡ Some Free → current_of vip rows ≡ Some replaced → current_count vip rows ≡ 1
    → current_count vip (with_state vip replaced Draining (with_state vip number Current rows)) ≡ 1
one_stays rows vip number replaced free first one =
    let given = with_state vip number Current rows in
    let both = both_current rows vip number replaced free first in
    let a = count_set is_current (row_of vip rows) number Free Current free in
    let b = count_set is_current (row_of vip given) replaced Current Draining both.1 in
    let ra = ap (count_by is_current) (row_after rows vip number Free Current free) in
    let rb = ap (count_by is_current) (row_after given vip replaced Current Draining both.1) in
    omega (arith, a, b, ra, rb, one)
