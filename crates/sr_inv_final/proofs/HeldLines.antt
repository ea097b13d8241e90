-- The held openers of a pipe by the lines of a state: in their order, and how many stand before a line.
use Rattle.std.proofs.Common.{◌≡◌, ℕ, ◌+◌, ◌==◌, Bool, true, false, cond, List, [], ◌∷◌, ◌++◌, length, reverse, filter, slice_get, if◌then◌else◌, Some, sym, refl, ap, ◌∙◌, append-nil, append_assoc, arith}
use Rattle.std.proofs.lemmas.Bool.Decides.{nat_tests}
use Rattle.std.proofs.lemmas.List.{length-reverse, reverse-append, reverse-reverse}
use Rattle.std.proofs.lemmas.List.Elements.{filter-append}
use Rattle.sr_base.specs.Key.{KeyView}
use Rattle.sr_base.specs.declared.kind.Kind.{Kind}
use Rattle.sr_inv_facts.specs.InHeld.{Waiting, held_as, held_at, held_in_line, held_in_lines, held_of}
use Rattle.sr_inv_facts.specs.InTicks.{InTicks}
use Rattle.sr_inv_final.proofs.Telling.{is_of_pipe, pipe_told}
use Rattle.sr_law.specs.Full.{held_count, is_held_in}
use Rattle.sr_law.specs.declared.line.Line.{Line}
use Rattle.sr_law.specs.declared.verdict.HeldBy.{HeldBy}
use Rattle.sr_law.specs.declared.verdict.Verdict.{Verdict}
use Rattle.sr_machine.specs.Core.{Core, printed}
use Rattle.sr_machine.specs.declared.pipe_view.PipeView.{PipeView}
use Rattle.sr_machine.specs.declared.stage.Stage.TheVariants.{Idle}
use Rattle.sr_law.specs.declared.line.Line.TheVariants as line
use Rattle.sr_law.specs.declared.verdict.Verdict.TheVariants as verdict

-- ---- in the other order

helds_more : (xs ys : List Line) → held_in_lines (xs ++ ys) ≡ held_in_lines xs ++ held_in_lines ys
helds_more [] ys = refl
helds_more (l ∷ xs) ys =
    ap (λ ws. held_in_line l ++ ws) (helds_more xs ys) ∙ sym (append_assoc (held_in_line l) (held_in_lines xs) (held_in_lines ys))

-- a line tells of one held opener at most
verdict_reverse : (v : Verdict) (w : Waiting) → reverse (held_as v w) ≡ held_as v w
verdict_reverse (verdict.Held why) w = refl
verdict_reverse v w = refl

line_reverse : (l : Line) → reverse (held_in_line l) ≡ held_in_line l
line_reverse (line.Packet number entered out pipe key kind v) = verdict_reverse v (record { key = key; entered = entered })
line_reverse l = refl

helds_reverse : (lines : List Line) → held_in_lines (reverse lines) ≡ reverse (held_in_lines lines)
helds_reverse [] = refl
helds_reverse (l ∷ rest) =
    ap held_in_lines (reverse-append (l ∷ []) rest)
    ∙ (helds_more (reverse rest) (l ∷ [])
    ∙ (ap (λ ws. held_in_lines (reverse rest) ++ ws) (append-nil (held_in_line l) ∙ sym (line_reverse l))
    ∙ (ap (λ ws. ws ++ reverse (held_in_line l)) (helds_reverse rest) ∙ sym (reverse-append (held_in_line l) (held_in_lines rest)))))

-- ---- the held openers that lines tell of

-- those of a pipe, in the order of the lines
abbrev pub helds_told : ℕ → List Line → List Waiting
helds_told p lines = held_in_lines (filter (is_of_pipe p) lines)

helds_told_more : (p : ℕ) (xs ys : List Line) → helds_told p (xs ++ ys) ≡ helds_told p xs ++ helds_told p ys
helds_told_more p xs ys =
    ap held_in_lines (filter-append (is_of_pipe p) xs ys) ∙ helds_more (filter (is_of_pipe p) xs) (filter (is_of_pipe p) ys)

-- they are counted as the clauses count them
pub counts_told : (p : ℕ) (lines : List Line) → length (helds_told p lines) ≡ held_count p lines
counts_told p [] = refl
counts_told p (l ∷ rest) = at l (counts_told p rest)
  where
    none : (b : Bool) (m : Line) → held_in_line m ≡ [] → length (helds_told p rest) ≡ held_count p rest
        → length (held_in_lines (cond b (m ∷ filter (is_of_pipe p) rest) (filter (is_of_pipe p) rest))) ≡ held_count p rest
    none true m e h = ap (λ ws. length (ws ++ helds_told p rest)) e ∙ h
    none false m e h = h

    one : (b : Bool) (number entered out pipe : ℕ) (key : KeyView) (kind : Kind) (why : HeldBy)
        → length (helds_told p rest) ≡ held_count p rest
        → length (held_in_lines (cond b (line.Packet number entered out pipe key kind (verdict.Held why) ∷ filter (is_of_pipe p) rest) (filter (is_of_pipe p) rest)))
        ≡ (if b then 1 else 0) + held_count p rest
    one true number entered out pipe key kind why h = omega (arith, h)
    one false number entered out pipe key kind why h = omega (arith, h)

    by : (number entered out pipe : ℕ) (key : KeyView) (kind : Kind) (v : Verdict) → length (helds_told p rest) ≡ held_count p rest
        → length (helds_told p (line.Packet number entered out pipe key kind v ∷ rest))
        ≡ (if is_held_in p (line.Packet number entered out pipe key kind v) then 1 else 0) + held_count p rest
    by number entered out pipe key kind (verdict.Held why) h = one (pipe == p) number entered out pipe key kind why h
    by number entered out pipe key kind (verdict.To server version pool) h =
        omega (arith, none (pipe == p) (line.Packet number entered out pipe key kind (verdict.To server version pool)) refl h)
    by number entered out pipe key kind (verdict.Down server version pool) h =
        omega (arith, none (pipe == p) (line.Packet number entered out pipe key kind (verdict.Down server version pool)) refl h)
    by number entered out pipe key kind verdict.Full h =
        omega (arith, none (pipe == p) (line.Packet number entered out pipe key kind verdict.Full) refl h)
    by number entered out pipe key kind verdict.NoPlace h =
        omega (arith, none (pipe == p) (line.Packet number entered out pipe key kind verdict.NoPlace) refl h)

    at : (m : Line) → length (helds_told p rest) ≡ held_count p rest → length (helds_told p (m ∷ rest)) ≡ held_count p (m ∷ rest)
    at (line.Packet number entered out pipe key kind v) h = by number entered out pipe key kind v h
    at m h = omega (arith, h)

-- ---- those of a pipe that is idle

module _ (s : Core) (t : InTicks s) (p : ℕ) (v : PipeView) (is : slice_get s.pipes p ≡ Some v) (idle : v.stage ≡ Idle) where
  -- the lines of the state tell of them, the newest first
  pub helds_are_told : helds_told p (printed s) ≡ reverse (held_of v)
  helds_are_told =
      ap held_in_lines (pipe_told s t p v is)
      ∙ (helds_reverse v.lines ∙ ap reverse (sym (ap (λ ws. held_in_lines v.lines ++ ws) at_rest ∙ append-nil (held_in_lines v.lines))))
    where
      at_rest : held_at v.stage ≡ []
      at_rest = ap held_at idle

  -- as many as it held
  pub helds_counted : held_count p (printed s) ≡ length (held_of v)
  helds_counted = sym (counts_told p (printed s)) ∙ (ap length helds_are_told ∙ length-reverse (held_of v))

seam : {X : Type 0} (xs : List X) (x : X) (ys : List X) → slice_get (xs ++ x ∷ ys) (length xs) ≡ Some x
seam [] x ys = refl
seam (z ∷ xs) x ys = seam xs x ys

-- in a list that is turned round, an element has as many before it as were behind it
turned : {X : Type 0} (xs : List X) (x : X) (ys : List X) → slice_get (reverse (xs ++ x ∷ ys)) (length ys) ≡ Some x
turned xs x ys =
    ap (λ zs. slice_get zs (length ys)) (reverse-append xs (x ∷ ys) ∙ ap (λ zs. zs ++ reverse xs) (reverse-append (x ∷ []) ys))
    ∙ (ap (λ zs. slice_get zs (length ys)) (append_assoc (reverse ys) (x ∷ []) (reverse xs))
    ∙ (ap (λ n. slice_get (reverse ys ++ x ∷ reverse xs) n) (sym (length-reverse ys)) ∙ seam (reverse ys) x (reverse xs)))

-- a line that holds an opener is the one of which so many lines before it tell
pub held_at_count : (s : Core) → InTicks s → (p : ℕ) (v : PipeView) → slice_get s.pipes p ≡ Some v → v.stage ≡ Idle
    → (front : List Line) (number entered out : ℕ) (key : KeyView) (kind : Kind) (why : HeldBy) (before : List Line)
    → front ++ line.Packet number entered out p key kind (verdict.Held why) ∷ before ≡ printed s
    → slice_get (held_of v) (held_count p before) ≡ Some (record { key = key; entered = entered })
held_at_count s t p v is idle front number entered out key kind why before e =
    ap (λ ws. slice_get ws (held_count p before)) whole
    ∙ (ap (λ n. slice_get (reverse (helds_told p front ++ w ∷ helds_told p before)) n) (sym (counts_told p before))
    ∙ turned (helds_told p front) w (helds_told p before))
  where
    w : Waiting
    w = record { key = key; entered = entered }

    own : (b : Bool) → b ≡ true
        → held_in_lines (cond b (line.Packet number entered out p key kind (verdict.Held why) ∷ filter (is_of_pipe p) before) (filter (is_of_pipe p) before))
        ≡ w ∷ helds_told p before
    own true q = refl
    own false q = cc

    told : helds_told p (printed s) ≡ helds_told p front ++ w ∷ helds_told p before
    told =
        ap (helds_told p) (sym e)
        ∙ (helds_told_more p front (line.Packet number entered out p key kind (verdict.Held why) ∷ before)
        ∙ ap (λ ws. helds_told p front ++ ws) (own (p == p) (grind (arith, nat_tests))))

    whole : held_of v ≡ reverse (helds_told p front ++ w ∷ helds_told p before)
    whole = sym (reverse-reverse (held_of v)) ∙ (ap reverse (sym (helds_are_told s t p v is idle)) ∙ ap reverse told)
