-- A pipe that gets no more openers and Ending packets than its ring has cells never finds it full.
use Rattle.std.proofs.Common.{◌≡◌, ℕ, ◌+◌, ◌≤◌, ◌&&◌, ◌==◌, nat_le, Bool, true, false, cond, List, [], ◌∷◌, count_by, if◌then◌else◌, refl, ap, subst, arith}
use Rattle.std.proofs.lemmas.Bool.Decides.{nat_tests}
use Rattle.std.proofs.lemmas.List.Sums.{sum_by-cons}
use Rattle.sr_base.specs.declared.kind.Kind.TheVariants.{Opener, Carry, Ending}
use Rattle.sr_law.specs.Cause.{meets_cause}
use Rattle.sr_law.specs.Full.{leaves_word, may_be_full, may_push, was_answered, words_since}
use Rattle.sr_law.specs.Lawful.{MeetsClauses}
use Rattle.sr_law.specs.Retire.{EndingPacket}
use Rattle.sr_law.specs.Setup.{SetupView}
use Rattle.sr_law.specs.declared.line.Line.{Line}
use Rattle.sr_law_causes.proofs.Walking.{Walk, walk_met}
use Rattle.sr_law_causes.specs.Laws.{FewFindRoom}
use Rattle.sr_law_causes.specs.Rare.{HasNone, is_full_on, reports_on}
use Rattle.sr_law.specs.declared.line.Line.TheVariants as line
use Rattle.sr_law.specs.declared.verdict.Verdict.TheVariants as verdict

module _ (setup : SetupView) (endings : List EndingPacket) (pipe : ℕ) where
  abbrev many : List Line → ℕ
  many lines = count_by (reports_on pipe) lines

  many_more : (l : Line) (lines : List Line) → many (l ∷ lines) ≡ cond (reports_on pipe l) 1 0 + many lines
  many_more l lines = sum_by-cons (λ l. cond (reports_on pipe l) 1 0) l lines

  -- a line that left a word is of an opener or an Ending packet
  word_reports : (before : List Line) (l : Line) → meets_cause setup before l ≡ true → may_push pipe l ≡ true → reports_on pipe l ≡ true
  unfolding meets_cause
  word_reports before (line.Packet number entered out at key Opener v) m e = at_pipe (at == pipe) e
    where
      at_pipe : (b : Bool) → (b && leaves_word Opener v) ≡ true → (b && true) ≡ true
      at_pipe true h = refl
      at_pipe false h = h
  word_reports before (line.Packet number entered out at key Ending v) m e = at_pipe (at == pipe) e
    where
      at_pipe : (b : Bool) → (b && leaves_word Ending v) ≡ true → (b && true) ≡ true
      at_pipe true h = refl
      at_pipe false h = h
  word_reports before (line.Packet number entered out at key Carry (verdict.Held why)) m e = cc
  word_reports before (line.Packet number entered out at key Carry (verdict.To server version pool)) m e =
      absurd (no_word (at == pipe) e)
    where
      no_word : (b : Bool) → (b && false) ≡ true → ⊥
      no_word true h = cc
      no_word false h = cc
  word_reports before (line.Packet number entered out at key Carry (verdict.Down server version pool)) m e =
      absurd (no_word (at == pipe) e)
    where
      no_word : (b : Bool) → (b && false) ≡ true → ⊥
      no_word true h = cc
      no_word false h = cc
  word_reports before (line.Packet number entered out at key Carry verdict.Full) m e = cc
  word_reports before (line.Packet number entered out at key Carry verdict.NoPlace) m e = cc
  word_reports before l m e = cc

  -- a pipe's ring got no more words than it got such packets
  abbrev Few : List Line → Type 0
  Few before = (all : List Line) (tick : ℕ) → words_since all pipe tick before ≤ many before

  few_more : (before : List Line) (l : Line) → meets_cause setup before l ≡ true → Few before → Few (l ∷ before)
  few_more before l m few all tick = at (was_answered all pipe tick l before) (may_push pipe l) refl
    where
      at : (a p : Bool) → may_push pipe l ≡ p
          → (if a then 0 else ((if p then 1 else 0) + words_since all pipe tick before)) ≤ many (l ∷ before)
      at true p q = omega arith
      at false true q =
          omega (arith, few all tick, many_more l before, ap (λ b. cond {A = ℕ} b 1 0) (word_reports before l m q))
      at false false q = omega (arith, few all tick, many_more l before)

  -- a line that finds the ring full comes after as many as it has cells
  full_late : (before : List Line) (l : Line) → meets_cause setup before l ≡ true → Few before → many before + cond (reports_on pipe l) 1 0 ≤ setup.shape.ring
      → is_full_on pipe l ≡ false
  unfolding meets_cause may_be_full
  full_late before (line.Packet number entered out at key Opener verdict.Full) m few h = at_pipe (at == pipe) refl
    where
      at_pipe : (b : Bool) → (at == pipe) ≡ b → (b && true) ≡ false
      at_pipe false q = refl
      at_pipe true q =
          let same : at ≡ pipe = grind (arith, nat_tests) in
          let full : nat_le setup.shape.ring (words_since before pipe entered before) ≡ true =
          subst (λ p. nat_le setup.shape.ring (words_since before p entered before) ≡ true) same m in
          let least : setup.shape.ring ≤ words_since before pipe entered before = grind (arith, nat_tests) in
          let one : cond {A = ℕ} ((at == pipe) && true) 1 0 ≡ 1 = ap (λ b. cond {A = ℕ} (b && true) 1 0) q in
          absurd (omega (arith, few before entered, least, one, h))
  full_late before (line.Packet number entered out at key Carry verdict.Full) m few h = cc
  full_late before (line.Packet number entered out at key Ending verdict.Full) m few h = cc
  full_late before (line.Packet number entered out at key kind (verdict.To server version pool)) m few h = none (at == pipe)
    where
      none : (b : Bool) → (b && false) ≡ false
      none true = refl
      none false = refl
  full_late before (line.Packet number entered out at key kind (verdict.Held why)) m few h = none (at == pipe)
    where
      none : (b : Bool) → (b && false) ≡ false
      none true = refl
      none false = refl
  full_late before (line.Packet number entered out at key kind (verdict.Down server version pool)) m few h = none (at == pipe)
    where
      none : (b : Bool) → (b && false) ≡ false
      none true = refl
      none false = refl
  full_late before (line.Packet number entered out at key kind verdict.NoPlace) m few h = none (at == pipe)
    where
      none : (b : Bool) → (b && false) ≡ false
      none true = refl
      none false = refl
  full_late before l m few h = refl

  walked : (before lines : List Line) → Walk (MeetsClauses setup endings) before lines → Few before → many before + many lines ≤ setup.shape.ring
      → HasNone (is_full_on pipe) lines
  walked before [] m few h = tt
  walked before (l ∷ rest) m few h = (
    full_late before l m.0.cause few (omega (arith, h, many_more l rest)),
    walked (l ∷ before) rest m.1 (few_more before l m.0.cause few) (omega (arith, h, many_more l rest, many_more l before)),
  )

pub few : FewFindRoom
few setup endings lines pipe met h =
    walked setup endings pipe [] lines (walk_met setup endings lines met) (λ all tick. omega arith) (omega (arith, h))
