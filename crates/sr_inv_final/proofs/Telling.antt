-- The lines of one pipe, among all the lines of a state, stand in the order in which the pipe printed them.
use Rattle.std.proofs.Common.{◌≡◌, ℕ, zero, suc, ◌<◌, ◌≤◌, ◌≢◌, ◌==◌, nat_le, Bool, true, false, cond, List, [], ◌∷◌, ◌++◌, reverse, filter, slice_get, if◌then◌else◌, Some, sym, refl, ap, ◌∙◌, append-nil, arith}
use Rattle.std.proofs.lemmas.Bool.Decides.{nat_tests}
use Rattle.std.proofs.lemmas.List.{reverse-append}
use Rattle.std.proofs.lemmas.List.Elements.{filter-append}
use Rattle.std.proofs.lemmas.Option.{same_Some}
use Rattle.std.specs.List.{AllByRecursion}
use Rattle.sr_inv_facts.proofs.Lists.{all_filtered, all_then}
use Rattle.sr_inv_facts.proofs.Printing.{newest_all}
use Rattle.sr_inv_facts.specs.InTicks.{InTicks, IsOfPipe, Rise}
use Rattle.sr_law.specs.Ticks.{is_controller, out_of}
use Rattle.sr_law.specs.declared.line.Line.{Line}
use Rattle.sr_machine.specs.Core.{Core, newest_first, pipe_lines, printed, put_line}
use Rattle.sr_machine.specs.declared.pipe_view.PipeView.{PipeView}
use Rattle.sr_law.specs.declared.line.Line.TheVariants as line

-- ---- lines whose ticks fall

-- no line is out after the ones before it in the list
abbrev Fall : List Line → Type 0
Fall [] = Unit {0}
Fall (l ∷ rest) = AllByRecursion (λ m. out_of m ≤ out_of l) rest × Fall rest

put_each : (P : Line → Type 0) (l : Line) (lines : List Line) → P l → AllByRecursion P lines → AllByRecursion P (put_line l lines)
put_each P l [] p a = (p, tt)
put_each P l (m ∷ rest) p a = at (nat_le (out_of m) (out_of l)) (put_each P l rest p a.1)
  where
    at : (b : Bool) → AllByRecursion P (put_line l rest) → AllByRecursion P (if b then l ∷ m ∷ rest else (m ∷ put_line l rest))
    at true h = (p, a)
    at false h = (a.0, h)

put_falls : (l : Line) (lines : List Line) → Fall lines → Fall (put_line l lines)
put_falls l [] f = (tt, tt)
put_falls l (m ∷ rest) f = at (nat_le (out_of m) (out_of l)) refl (put_falls l rest f.1)
  where
    at : (b : Bool) → nat_le (out_of m) (out_of l) ≡ b → Fall (put_line l rest)
        → Fall (if b then l ∷ m ∷ rest else (m ∷ put_line l rest))
    at true e h =
        let low : out_of m ≤ out_of l = grind (arith, nat_tests) in
        ((low, all_then (λ n. out_of n ≤ out_of m) (λ n. out_of n ≤ out_of l) (λ n g. omega (arith, g, low)) rest f.0), f)
    at false e h =
        let high : out_of l ≤ out_of m = grind (arith, nat_tests) in (put_each (λ n. out_of n ≤ out_of m) l rest high f.0, h)

newest_falls : (lines : List Line) → Fall (newest_first lines)
newest_falls [] = tt
newest_falls (l ∷ rest) = put_falls l (newest_first rest) (newest_falls rest)

-- a line that no other is out after stands first
put_top : (l : Line) (lines : List Line) → AllByRecursion (λ m. out_of m ≤ out_of l) lines → put_line l lines ≡ l ∷ lines
put_top l [] a = refl
put_top l (m ∷ rest) a = at (nat_le (out_of m) (out_of l)) (let low = a.0 in grind (arith, nat_tests))
  where
    at : (b : Bool) → b ≡ true → (if b then l ∷ m ∷ rest else (m ∷ put_line l rest)) ≡ l ∷ m ∷ rest
    at true e = refl
    at false e = cc

-- and one that all others are out after stands last
put_last : (l : Line) (lines : List Line) → AllByRecursion (λ m. out_of l < out_of m) lines → put_line l lines ≡ lines ++ l ∷ []
put_last l [] a = refl
put_last l (m ∷ rest) a = at (nat_le (out_of m) (out_of l)) (let low = a.0 in grind (arith, nat_tests)) (put_last l rest a.1)
  where
    at : (b : Bool) → b ≡ false → put_line l rest ≡ rest ++ l ∷ []
        → (if b then l ∷ m ∷ rest else (m ∷ put_line l rest)) ≡ m ∷ (rest ++ l ∷ [])
    at true e h = cc
    at false e h = ap (λ ls. m ∷ ls) h

rise_after : (low : ℕ) (lines : List Line) → Rise low lines → AllByRecursion (λ m. low < out_of m) lines
rise_after low [] r = tt
rise_after low (l ∷ rest) r =
    (r.0, all_then (λ m. out_of l < out_of m) (λ m. low < out_of m) (λ m h. let first = r.0 in omega (arith, h, first)) rest (rise_after (out_of l) rest r.1))

-- lines that rise stand the newest first once they are turned round
rise_newest : (low : ℕ) (lines : List Line) → Rise low lines → newest_first lines ≡ reverse lines
rise_newest low [] r = refl
rise_newest low (l ∷ rest) r =
    put_last l (newest_first rest) (newest_all (λ m. out_of l < out_of m) rest (rise_after (out_of l) rest r.1))
    ∙ (ap (λ ls. ls ++ l ∷ []) (rise_newest (out_of l) rest r.1) ∙ sym (reverse-append (l ∷ []) rest))

-- ---- the lines that pass a test

module _ (test : Line → Bool) where
  filter_put : (l : Line) (lines : List Line) (b : Bool) → test l ≡ b → Fall lines
      → filter test (put_line l lines) ≡ (if b then put_line l (filter test lines) else filter test lines)
  filter_put l [] b e f = at b e
    where
      at : (b : Bool) → test l ≡ b → cond (test l) (l ∷ []) [] ≡ (if b then l ∷ [] else [])
      at true e = ap (λ c. cond c (l ∷ []) []) e
      at false e = ap (λ c. cond c (l ∷ []) []) e
  filter_put l (m ∷ rest) b e f = at (nat_le (out_of m) (out_of l)) refl b e (filter_put l rest b e f.1)
    where
      -- the line stands here
      here : (b : Bool) → test l ≡ b → AllByRecursion (λ n. out_of n ≤ out_of l) (m ∷ rest)
          → cond (test l) (l ∷ filter test (m ∷ rest)) (filter test (m ∷ rest))
          ≡ (if b then put_line l (filter test (m ∷ rest)) else filter test (m ∷ rest))
      here true e low =
          ap (λ c. cond c (l ∷ filter test (m ∷ rest)) (filter test (m ∷ rest))) e
          ∙ sym (put_top l (filter test (m ∷ rest)) (all_filtered (λ n. out_of n ≤ out_of l) test (m ∷ rest) low))
      here false e low = ap (λ c. cond c (l ∷ filter test (m ∷ rest)) (filter test (m ∷ rest))) e

      -- or further on
      on : (b c g : Bool) → g ≡ nat_le (out_of m) (out_of l) → g ≡ false
          → filter test (put_line l rest) ≡ (if b then put_line l (filter test rest) else filter test rest)
          → cond c (m ∷ filter test (put_line l rest)) (filter test (put_line l rest))
          ≡ (if b then put_line l (cond c (m ∷ filter test rest) (filter test rest)) else cond c (m ∷ filter test rest) (filter test rest))
      on true true g p q h =
          ap (λ ls. m ∷ ls) h ∙ ap (λ d. if d then l ∷ m ∷ filter test rest else (m ∷ put_line l (filter test rest))) (sym q ∙ p)
      on true false g p q h = h
      on false true g p q h = ap (λ ls. m ∷ ls) h
      on false false g p q h = h

      at : (g : Bool) → nat_le (out_of m) (out_of l) ≡ g → (b : Bool) → test l ≡ b
          → filter test (put_line l rest) ≡ (if b then put_line l (filter test rest) else filter test rest)
          → filter test (if g then l ∷ m ∷ rest else (m ∷ put_line l rest))
          ≡ (if b then put_line l (filter test (m ∷ rest)) else filter test (m ∷ rest))
      at true p b e h =
          let low : out_of m ≤ out_of l = grind (arith, nat_tests) in
          here b e (low, all_then (λ n. out_of n ≤ out_of m) (λ n. out_of n ≤ out_of l) (λ n g. omega (arith, g, low)) rest f.0)
      at false p b e h = on b (test m) false (sym p) refl h

  filter_newest : (lines : List Line) → filter test (newest_first lines) ≡ newest_first (filter test lines)
  filter_newest [] = refl
  filter_newest (l ∷ rest) =
      at (test l) (filter_put l (newest_first rest) (test l) refl (newest_falls rest)) (filter_newest rest)
    where
      at : (b : Bool) → filter test (put_line l (newest_first rest))
          ≡ (if b then put_line l (filter test (newest_first rest)) else filter test (newest_first rest))
          → filter test (newest_first rest) ≡ newest_first (filter test rest)
          → filter test (put_line l (newest_first rest)) ≡ newest_first (cond b (l ∷ filter test rest) (filter test rest))
      at true e h = e ∙ ap (put_line l) h
      at false e h = e ∙ h

  filter_all : (lines : List Line) → AllByRecursion (λ l. test l ≡ true) lines → filter test lines ≡ lines
  filter_all [] a = refl
  filter_all (l ∷ rest) a =
      ap (λ b. cond b (l ∷ filter test rest) (filter test rest)) a.0 ∙ ap (λ ls. l ∷ ls) (filter_all rest a.1)

  filter_none : (lines : List Line) → AllByRecursion (λ l. test l ≡ false) lines → filter test lines ≡ []
  filter_none [] a = refl
  filter_none (l ∷ rest) a = ap (λ b. cond b (l ∷ filter test rest) (filter test rest)) a.0 ∙ filter_none rest a.1

  others_none : (pipes : List PipeView) → ((q : ℕ) (u : PipeView) → slice_get pipes q ≡ Some u → AllByRecursion (λ l. test l ≡ false) u.lines)
      → filter test (pipe_lines pipes) ≡ []
  others_none [] h = refl
  others_none (u ∷ rest) h =
      filter-append test u.lines (pipe_lines rest)
      ∙ (ap (λ ls. ls ++ filter test (pipe_lines rest)) (filter_none u.lines (h 0 u refl)) ∙ others_none rest (λ q w e. h (suc q) w e))

  -- where the lines of one pipe alone pass, they are what is left
  pipe_alone : (pipes : List PipeView) (p : ℕ) (v : PipeView) → slice_get pipes p ≡ Some v → AllByRecursion (λ l. test l ≡ true) v.lines
      → ((q : ℕ) (u : PipeView) → slice_get pipes q ≡ Some u → q ≢ p → AllByRecursion (λ l. test l ≡ false) u.lines)
      → filter test (pipe_lines pipes) ≡ v.lines
  pipe_alone [] p v e own h = cc
  pipe_alone (u ∷ rest) zero v e own h =
      let none : filter test (pipe_lines rest) ≡ [] = others_none rest (λ q w f. h (suc q) w f (λ z. absurd (omega (arith, z)))) in
      filter-append test u.lines (pipe_lines rest)
      ∙ (ap (λ ls. filter test u.lines ++ ls) none
      ∙ (append-nil (filter test u.lines) ∙ (ap (λ w. filter test w.lines) (same_Some u v e) ∙ filter_all v.lines own)))
  pipe_alone (u ∷ rest) (suc p) v e own h =
      let none : filter test u.lines ≡ [] = filter_none u.lines (h 0 u refl (λ z. absurd (omega (arith, z)))) in
      filter-append test u.lines (pipe_lines rest)
      ∙ (ap (λ ls. ls ++ filter test (pipe_lines rest)) none
      ∙ pipe_alone rest p v e own (λ q w f n. h (suc q) w f (λ z. n (omega (arith, z)))))

-- ---- the lines of a pipe

-- the line is a packet's, of this pipe
abbrev pub is_of_pipe : ℕ → Line → Bool
is_of_pipe p (line.Packet number entered out pipe key kind v) = pipe == p
is_of_pipe p l = false

own_pass : (p : ℕ) (lines : List Line) → AllByRecursion (IsOfPipe p) lines → AllByRecursion (λ l. is_of_pipe p l ≡ true) lines
own_pass p lines a = all_then (IsOfPipe p) (λ l. is_of_pipe p l ≡ true) one lines a
  where
    one : (l : Line) → IsOfPipe p l → is_of_pipe p l ≡ true
    one (line.Packet number entered out pipe key kind v) h = grind (arith, nat_tests)
    one l h = absurd h

others_fail : (p q : ℕ) (lines : List Line) → q ≢ p → AllByRecursion (IsOfPipe q) lines → AllByRecursion (λ l. is_of_pipe p l ≡ false) lines
others_fail p q lines n a = all_then (IsOfPipe q) (λ l. is_of_pipe p l ≡ false) one lines a
  where
    one : (l : Line) → IsOfPipe q l → is_of_pipe p l ≡ false
    one (line.Packet number entered out pipe key kind v) h = let other : pipe ≢ p = λ e. n (sym h ∙ e) in grind (arith, nat_tests)
    one l h = absurd h

controller_fails : (p : ℕ) (lines : List Line) → AllByRecursion (λ l. is_controller l ≡ true) lines
    → AllByRecursion (λ l. is_of_pipe p l ≡ false) lines
controller_fails p lines a = all_then (λ l. is_controller l ≡ true) (λ l. is_of_pipe p l ≡ false) one lines a
  where
    one : (l : Line) → is_controller l ≡ true → is_of_pipe p l ≡ false
    one (line.Packet number entered out pipe key kind v) h = cc
    one l h = refl

-- among all lines of a state those of a pipe stand as the pipe has them, the newest first
pub pipe_told : (s : Core) → InTicks s → (p : ℕ) (v : PipeView) → slice_get s.pipes p ≡ Some v
    → filter (is_of_pipe p) (printed s) ≡ reverse v.lines
pipe_told s t p v e =
    let own : filter (is_of_pipe p) (pipe_lines s.pipes) ≡ v.lines =
    pipe_alone (is_of_pipe p) s.pipes p v e (own_pass p v.lines (t.pipes p v e).own)
    (λ q u f n. others_fail p q u.lines n (t.pipes q u f).own) in
    let none : filter (is_of_pipe p) s.controller.lines ≡ [] =
    filter_none (is_of_pipe p) s.controller.lines (controller_fails p s.controller.lines t.controller.own) in
    let both : filter (is_of_pipe p) (pipe_lines s.pipes ++ s.controller.lines) ≡ v.lines =
    filter-append (is_of_pipe p) (pipe_lines s.pipes) s.controller.lines
    ∙ (ap (λ ls. filter (is_of_pipe p) (pipe_lines s.pipes) ++ ls) none ∙ (append-nil (filter (is_of_pipe p) (pipe_lines s.pipes)) ∙ own)) in
    filter_newest (is_of_pipe p) (pipe_lines s.pipes ++ s.controller.lines)
    ∙ (ap newest_first both ∙ rise_newest 0 v.lines (t.pipes p v e).rise)
