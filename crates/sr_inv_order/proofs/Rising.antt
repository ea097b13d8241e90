-- Each line that is printed has new ticks, which rise.
use Rattle.std.proofs.Common.{◌≡◌, ℕ, zero, suc, ◌+◌, ◌<◌, ◌≤◌, ◌≢◌, nat_lt, nat_le, ◌==◌, ◌&&◌, ◌||◌, not, Bool, true, false, List, [], ◌∷◌, ◌++◌, slice_get, Some, if◌then◌else◌, sum_by, sym, refl, ap, ◌∙◌, subst, arith}
use Rattle.std.proofs.lemmas.List.Sums.{sum_by-append, sum_by-cons}
use Rattle.std.proofs.lemmas.Bool.Decides.{nat_tests}
use Rattle.std.proofs.lemmas.Option.{same_Some}
use Rattle.std.specs.List.{AllByRecursion, list_any}
use Rattle.sr_inv_facts.proofs.Lists.{all_more, all_then}
use Rattle.sr_inv_facts.proofs.Printing.{all_out, below_next, newest_all}
use Rattle.sr_inv_facts.specs.InTicks.{AllOutBefore, InTicks, IsOfPipe, below, job_times, line_times, lines_times, pipe_times, same, stage_times}
use Rattle.sr_law.specs.Rising.{after_last, has_new_ticks, has_two_ticks, is_in_time, one_by_one, rises, share_tick, was_controlling, was_in_pipe}
use Rattle.sr_law.specs.Ticks.{is_controller, out_of, start_of}
use Rattle.sr_law.specs.declared.line.Line.{Line}
use Rattle.sr_machine.specs.Core.{Core, pipe_lines, printed}
use Rattle.sr_machine.specs.declared.pipe_view.PipeView.{PipeView}
use Rattle.sr_law.specs.declared.line.Line.TheVariants as line
use Rattle.sr_machine.specs.declared.name.Name.TheVariants as name

-- ---- tests of lists

pub or_false : (a b : Bool) → a ≡ false → b ≡ false → (a || b) ≡ false
or_false true b p q = cc
or_false false b p q = q

pub and_true : (a b : Bool) → a ≡ true → b ≡ true → (a && b) ≡ true
and_true true b p q = q
and_true false b p q = cc

pub and_false : (a b : Bool) → a ≡ false → (a && b) ≡ false
and_false true b p = cc
and_false false b p = refl

pub not_false : (a : Bool) → a ≡ false → not a ≡ true
not_false true e = cc
not_false false e = refl

pub none_passes : (test : Line → Bool) (lines : List Line) → AllByRecursion (λ l. test l ≡ false) lines → list_any test lines ≡ false
none_passes test [] a = refl
none_passes test (l ∷ rest) a = or_false (test l) (list_any test rest) a.0 (none_passes test rest a.1)

-- ---- the lines of a state

pub pipe_lines_all : (P : Line → Type 0) (pipes : List PipeView)
    → ((q : ℕ) (u : PipeView) → slice_get pipes q ≡ Some u → AllByRecursion P u.lines) → AllByRecursion P (pipe_lines pipes)
pipe_lines_all P [] h = tt
pipe_lines_all P (u ∷ rest) h = all_more P u.lines (pipe_lines rest) (h 0 u refl) (pipe_lines_all P rest (λ q w e. h (suc q) w e))

-- what holds of each line of the pipes and of the controller holds of each that is printed
pub printed_all : (s : Core) (P : Line → Type 0) → ((q : ℕ) (u : PipeView) → slice_get s.pipes q ≡ Some u → AllByRecursion P u.lines)
    → AllByRecursion P s.controller.lines
    → AllByRecursion P (printed s)
printed_all s P h c =
    newest_all P (pipe_lines s.pipes ++ s.controller.lines) (all_more P (pipe_lines s.pipes) s.controller.lines (pipe_lines_all P s.pipes h) c)

-- all lines are out before the next tick
pub all_before : (s : Core) → InTicks s → AllOutBefore (s.words name.Tick) (printed s)
all_before s t = newest_all (λ l. out_of l < s.words name.Tick) (pipe_lines s.pipes ++ s.controller.lines) (all_out s t)

-- ---- a tick that no line has

abbrev pub Untouched : ℕ → Line → Type 0
Untouched t l = ((t == out_of l) ≡ false) × ((t == start_of l) ≡ false)

one_start : (l : Line) → has_two_ticks l ≡ false → start_of l ≡ out_of l
one_start (line.Packet number entered out pipe key kind v) e = cc
one_start (line.Swept number from to ms) e = cc
one_start l e = refl

abbrev one_if : Bool → ℕ
one_if b = if b then 1 else 0

same_zero : (t n : ℕ) → same t n ≡ 0 → (t == n) ≡ false
same_zero t n e = at (t == n) e
  where
    at : (b : Bool) → one_if b ≡ 0 → b ≡ false
    at true e = absurd (omega (arith, e))
    at false e = refl

untouched_line : (t : ℕ) (l : Line) → line_times t l ≡ 0 → Untouched t l
untouched_line t l e = at (has_two_ticks l) refl e
  where
    at : (b : Bool) → has_two_ticks l ≡ b → same t (out_of l) + (if b then same t (start_of l) else 0) ≡ 0 → Untouched t l
    at true q e = (same_zero t (out_of l) (omega (arith, e)), same_zero t (start_of l) (omega (arith, e)))
    at false q e =
        let out : (t == out_of l) ≡ false = same_zero t (out_of l) (omega (arith, e)) in
        (out, subst (λ n. (t == n) ≡ false) (sym (one_start l q)) out)

untouched : (t : ℕ) (lines : List Line) → lines_times t lines ≡ 0 → AllByRecursion (Untouched t) lines
untouched t [] e = tt
untouched t (l ∷ rest) e =
    (untouched_line t l (omega (arith, e, sum_by-cons (line_times t) l rest)), untouched t rest (omega (arith, e, sum_by-cons (line_times t) l rest)))

pub unshared : (l : Line) (lines : List Line) → AllByRecursion (Untouched (out_of l)) lines → AllByRecursion (Untouched (start_of l)) lines
    → list_any (share_tick l) lines ≡ false
unshared l [] a b = refl
unshared l (m ∷ rest) a b =
    or_false (share_tick l m) (list_any (share_tick l) rest)
    (or_false ((out_of l == out_of m) || (out_of l == start_of m)) ((start_of l == out_of m) || (start_of l == start_of m))
    (or_false (out_of l == out_of m) (out_of l == start_of m) a.0.0 a.0.1)
    (or_false (start_of l == out_of m) (start_of l == start_of m) b.0.0 b.0.1))
    (unshared l rest a.1 b.1)

-- ---- which ticks those are

abbrev pub all_lines : Core → List Line
all_lines s = pipe_lines s.pipes ++ s.controller.lines

pub same_self : (t : ℕ) → same t t ≡ 1
same_self t = at (t == t) (grind (arith, nat_tests))
  where
    at : (b : Bool) → b ≡ true → one_if b ≡ 1
    at true e = refl
    at false e = cc

below_none : (n : ℕ) → below n n ≡ 0
below_none n = at (nat_lt 0 n) (nat_lt n n) refl
  where
    at : (a b : Bool) → nat_lt n n ≡ b → one_if (a && b) ≡ 0
    at a true e = absurd (grind (arith, nat_tests))
    at true false e = refl
    at false false e = refl

below_one : (t n : ℕ) → below t n ≤ 1
below_one t n = at (nat_lt 0 t && nat_lt t n)
  where
    at : (b : Bool) → one_if b ≤ 1
    at true = omega arith
    at false = omega arith

above_none : (t n : ℕ) → 1 ≤ below t n → 1 ≤ t
above_none t n h = at (nat_lt 0 t) (nat_lt t n) refl h
  where
    at : (a b : Bool) → nat_lt 0 t ≡ a → 1 ≤ one_if (a && b) → 1 ≤ t
    at true b q g = grind (arith, nat_tests)
    at false b q g = absurd (omega arith)

lines_of_pipes : (t : ℕ) (pipes : List PipeView) → lines_times t (pipe_lines pipes) ≤ sum_by (pipe_times t) pipes
lines_of_pipes t [] = omega arith
lines_of_pipes t (v ∷ rest) =
    omega (arith, lines_of_pipes t rest, sum_by-append (line_times t) v.lines (pipe_lines rest), sum_by-cons (pipe_times t) v rest)

-- beside the lines there is the packet in hand
lines_and_stage : (t : ℕ) (pipes : List PipeView) (p : ℕ) (v : PipeView) → slice_get pipes p ≡ Some v
    → lines_times t (pipe_lines pipes) + stage_times t v.stage ≤ sum_by (pipe_times t) pipes
lines_and_stage t [] p v e = cc
lines_and_stage t (u ∷ rest) zero v e =
    subst (λ w. lines_times t (pipe_lines (u ∷ rest)) + stage_times t w.stage ≤ sum_by (pipe_times t) (u ∷ rest)) (same_Some u v e)
    (omega (arith, lines_of_pipes t rest, sum_by-append (line_times t) u.lines (pipe_lines rest), sum_by-cons (pipe_times t) u rest))
lines_and_stage t (u ∷ rest) (suc p) v e =
    omega (arith, lines_and_stage t rest p v e, sum_by-append (line_times t) u.lines (pipe_lines rest), sum_by-cons (pipe_times t) u rest)

-- a tick is in no line, and in time
pub record IsFresh (s : Core) (t : ℕ) : Type 0 where
  pub none : lines_times t (all_lines s) ≡ 0
  pub least : 1 ≤ t
  pub low : t < s.words name.Tick

-- so is the tick at which a packet in hand entered
pub entered_fresh : (s : Core) → InTicks s → (p : ℕ) (v : PipeView) → slice_get s.pipes p ≡ Some v → (t : ℕ) → stage_times t v.stage ≡ 1
    → IsFresh s t
entered_fresh s i p v q t one =
    let once = i.once t in
    let parts = lines_and_stage t s.pipes p v q in
    let joined = sum_by-append (line_times t) (pipe_lines s.pipes) s.controller.lines in
    let most = below_one t (s.words name.Tick) in
    let drawn : 1 ≤ below t (s.words name.Tick) = omega (arith, once, parts, one) in record {
      none = omega (arith, once, parts, joined, most, one);
      least = above_none t (s.words name.Tick) drawn;
      low = below_next t (s.words name.Tick) drawn;
    }

-- and that at which a sweep began
pub sweep_fresh : (s : Core) → InTicks s → (t : ℕ) → job_times t s.controller.job ≡ 1 → IsFresh s t
sweep_fresh s i t one =
    let once = i.once t in
    let parts = lines_of_pipes t s.pipes in
    let joined = sum_by-append (line_times t) (pipe_lines s.pipes) s.controller.lines in
    let most = below_one t (s.words name.Tick) in
    let drawn : 1 ≤ below t (s.words name.Tick) = omega (arith, once, parts, one) in record {
      none = omega (arith, once, parts, joined, most, one);
      least = above_none t (s.words name.Tick) drawn;
      low = below_next t (s.words name.Tick) drawn;
    }

next_none : (s : Core) → InTicks s → lines_times (s.words name.Tick) (all_lines s) ≡ 0
next_none s i =
    let t = s.words name.Tick in
    omega (arith, i.once t, below_none t, lines_of_pipes t s.pipes, sum_by-append (line_times t) (pipe_lines s.pipes) s.controller.lines)

-- ---- a line that is printed next

pub after_all : (x : ℕ) (lines : List Line) (l : Line) → out_of l ≡ x → AllOutBefore x lines → after_last lines l ≡ true
after_all x [] l e a = refl
after_all x (m ∷ rest) l e a = grind (arith, nat_tests)

in_time : (l : Line) → (b : Bool) → has_two_ticks l ≡ b → (b ≡ true → start_of l < out_of l) → (b ≡ false → start_of l ≡ out_of l) → 1 ≤ start_of l
    → is_in_time l ≡ true
in_time l true q low same least =
    let lower = low refl in
    subst (λ b. (nat_le 1 (start_of l) && (if b then nat_lt (start_of l) (out_of l) else nat_le (start_of l) (out_of l))) ≡ true) (sym q)
    (and_true (nat_le 1 (start_of l)) (nat_lt (start_of l) (out_of l)) (grind (arith, nat_tests)) (grind (arith, nat_tests)))
in_time l false q low same least =
    let is = same refl in
    subst (λ b. (nat_le 1 (start_of l) && (if b then nat_lt (start_of l) (out_of l) else nat_le (start_of l) (out_of l))) ≡ true) (sym q)
    (and_true (nat_le 1 (start_of l)) (nat_le (start_of l) (out_of l)) (grind (arith, nat_tests)) (grind (arith, nat_tests)))

-- A line whose tick is the next one, whose other tick is in no line, and whose actor does one thing after another, rises.
pub rises_next : (s : Core) → InTicks s → 1 ≤ s.words name.Tick → (l : Line) → out_of l ≡ s.words name.Tick
    → (has_two_ticks l ≡ true → IsFresh s (start_of l))
    → one_by_one (printed s) l ≡ true
    → rises (printed s) l ≡ true
unfolding rises
rises_next s i least l out two one = at (has_two_ticks l) refl
  where
    clean : (t : ℕ) → lines_times t (all_lines s) ≡ 0 → AllByRecursion (Untouched t) (printed s)
    clean t e = newest_all (Untouched t) (all_lines s) (untouched t (all_lines s) e)

    here : AllByRecursion (Untouched (out_of l)) (printed s)
    here = clean (out_of l) (ap (λ t. lines_times t (all_lines s)) out ∙ next_none s i)

    all : (start : AllByRecursion (Untouched (start_of l)) (printed s)) → is_in_time l ≡ true
        → (((after_last (printed s) l && is_in_time l) && has_new_ticks (printed s) l) && one_by_one (printed s) l) ≡ true
    all start time =
        and_true ((after_last (printed s) l && is_in_time l) && has_new_ticks (printed s) l) (one_by_one (printed s) l)
        (and_true (after_last (printed s) l && is_in_time l) (has_new_ticks (printed s) l)
        (and_true (after_last (printed s) l) (is_in_time l) (after_all (s.words name.Tick) (printed s) l out (all_before s i)) time)
        (not_false (list_any (share_tick l) (printed s)) (unshared l (printed s) here start)))
        one

    at : (b : Bool) → has_two_ticks l ≡ b
        → (((after_last (printed s) l && is_in_time l) && has_new_ticks (printed s) l) && one_by_one (printed s) l) ≡ true
    at true q =
        let f = two q in
        let low : start_of l < out_of l = subst (λ n. start_of l < n) (sym out) f.low in
        all (clean (start_of l) f.none) (in_time l true q (λ r. low) (λ r. cc) f.least)
    at false q =
        let is = one_start l q in
        all (subst (λ n. AllByRecursion (Untouched n) (printed s)) (sym is) here)
        (in_time l false q (λ r. cc) (λ r. is) (subst (λ n. 1 ≤ n) (sym (is ∙ out)) least))

-- ---- one thing after another

own_apart : (n t : ℕ) (lines : List Line) → AllOutBefore t lines → AllByRecursion (λ l. was_in_pipe n t l ≡ false) lines
own_apart n t lines a = all_then (λ l. out_of l < t) (λ l. was_in_pipe n t l ≡ false) one lines a
  where
    one : (l : Line) → out_of l < t → was_in_pipe n t l ≡ false
    one (line.Packet number entered out pipe key kind v) h = at (pipe == n) (nat_le t out) (grind (arith, nat_tests))
      where
        at : (a b : Bool) → b ≡ false → (a && b) ≡ false
        at true b e = e
        at false b e = refl
    one l h = refl

other_apart : (n t q : ℕ) (lines : List Line) → q ≢ n → AllByRecursion (IsOfPipe q) lines → AllByRecursion (λ l. was_in_pipe n t l ≡ false) lines
other_apart n t q lines other a = all_then (IsOfPipe q) (λ l. was_in_pipe n t l ≡ false) one lines a
  where
    one : (l : Line) → IsOfPipe q l → was_in_pipe n t l ≡ false
    one (line.Packet number entered out pipe key kind v) h =
        let apart : pipe ≢ n = λ e. other (sym h ∙ e) in
        and_false (pipe == n) (nat_le t out) (grind (arith, nat_tests))
    one l h = refl

controller_apart : (n t : ℕ) (lines : List Line) → AllByRecursion (λ l. is_controller l ≡ true) lines
    → AllByRecursion (λ l. was_in_pipe n t l ≡ false) lines
controller_apart n t lines a = all_then (λ l. is_controller l ≡ true) (λ l. was_in_pipe n t l ≡ false) one lines a
  where
    one : (l : Line) → is_controller l ≡ true → was_in_pipe n t l ≡ false
    one (line.Packet number entered out pipe key kind v) h = cc
    one l h = refl

-- a packet in hand entered after all lines of its pipe
pub after_its_pipe : (s : Core) → InTicks s → (p : ℕ) (v : PipeView) → slice_get s.pipes p ≡ Some v → (t : ℕ) → AllOutBefore t v.lines
    → list_any (was_in_pipe p t) (printed s) ≡ false
after_its_pipe s i p v q t a =
    none_passes (was_in_pipe p t) (printed s)
    (printed_all s (λ l. was_in_pipe p t l ≡ false) (λ n u e. at (n == p) n u refl e) (controller_apart p t s.controller.lines i.controller.own))
  where
    at : (b : Bool) (n : ℕ) (u : PipeView) → (n == p) ≡ b → slice_get s.pipes n ≡ Some u
        → AllByRecursion (λ l. was_in_pipe p t l ≡ false) u.lines
    at true n u r e =
        let is : n ≡ p = grind (arith, nat_tests) in
        let same : v ≡ u = same_Some v u (sym q ∙ (ap (λ m. slice_get s.pipes m) (sym is) ∙ e)) in
        own_apart p t u.lines (subst (λ w. AllOutBefore t w.lines) same a)
    at false n u r e =
        let other : n ≢ p = grind (arith, nat_tests) in
        other_apart p t n u.lines other (i.pipes n u e).own

-- ---- sweeps

pipe_uncontrolled : (t q : ℕ) (lines : List Line) → AllByRecursion (IsOfPipe q) lines → AllByRecursion (λ l. was_controlling t l ≡ false) lines
pipe_uncontrolled t q lines a = all_then (IsOfPipe q) (λ l. was_controlling t l ≡ false) one lines a
  where
    one : (l : Line) → IsOfPipe q l → was_controlling t l ≡ false
    one (line.Packet number entered out pipe key kind v) h = refl
    one l h = absurd h

controlled_before : (t : ℕ) (lines : List Line) → AllOutBefore t lines → AllByRecursion (λ l. was_controlling t l ≡ false) lines
controlled_before t lines a = all_then (λ l. out_of l < t) (λ l. was_controlling t l ≡ false) one lines a
  where
    at : (a b : Bool) → b ≡ false → (a && b) ≡ false
    at true b e = e
    at false b e = refl

    one : (l : Line) → out_of l < t → was_controlling t l ≡ false
    one l h = at (is_controller l) (nat_le t (out_of l)) (grind (arith, nat_tests))

-- a sweep began after all lines of the controller
pub after_controller : (s : Core) → InTicks s → (t : ℕ) → AllOutBefore t s.controller.lines
    → list_any (was_controlling t) (printed s) ≡ false
after_controller s i t a =
    none_passes (was_controlling t) (printed s)
    (printed_all s (λ l. was_controlling t l ≡ false) (λ q u e. pipe_uncontrolled t q u.lines (i.pipes q u e).own) (controlled_before t s.controller.lines a))
