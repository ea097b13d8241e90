-- A list of which no line breaks a clause, walked from the front.
use Rattle.std.proofs.Common.{◌≡◌, ℕ, suc, List, [], ◌∷◌, ◌++◌, reverse, take, slice_get, Some, sym, refl, ap, ◌∙◌, subst, append_assoc, append-nil}
use Rattle.std.proofs.lemmas.List.{reverse-append}
use Rattle.sr_law.proofs.Clauses.{meets}
use Rattle.sr_law.specs.Lawful.{MeetsClauses, NoLineBreaks}
use Rattle.sr_law.specs.Retire.{EndingPacket}
use Rattle.sr_law.specs.Setup.{SetupView}
use Rattle.sr_law.specs.Ticks.{lines_before}
use Rattle.sr_law.specs.declared.line.Line.{Line}

-- each line has the fact by the lines before it, of which the newest stands first
abbrev pub Walk : (List Line → Line → Type 0) → List Line → List Line → Type 0
Walk P before [] = Unit {0}
Walk P before (l ∷ rest) = P before l × Walk P (l ∷ before) rest

-- what holds of each line by its position holds as the list is walked
walk_from : (P : List Line → Line → Type 0) (before lines : List Line)
    → ((i : ℕ) (l : Line) → slice_get lines i ≡ Some l → P (reverse (take i lines) ++ before) l)
    → Walk P before lines
walk_from P before [] h = tt
walk_from P before (l ∷ rest) h =
    (h 0 l refl, walk_from P (l ∷ before) rest (λ i m e. subst (λ ls. P ls m) (turned i) (h (suc i) m e)))
  where
    turned : (i : ℕ) → reverse (l ∷ take i rest) ++ before ≡ reverse (take i rest) ++ l ∷ before
    turned i =
        ap (λ ls. ls ++ before) (reverse-append (l ∷ []) (take i rest)) ∙ append_assoc (reverse (take i rest)) (l ∷ []) before

pub walk : (P : List Line → Line → Type 0) (lines : List Line)
    → ((i : ℕ) (l : Line) → slice_get lines i ≡ Some l → P (lines_before i lines) l) → Walk P [] lines
walk P lines h = walk_from P [] lines (λ i l e. subst (λ ls. P ls l) (sym (append-nil (lines_before i lines))) (h i l e))

pub walk_met : (setup : SetupView) (endings : List EndingPacket) (lines : List Line) → NoLineBreaks setup endings lines
    → Walk (MeetsClauses setup endings) [] lines
walk_met setup endings lines met =
    walk (MeetsClauses setup endings) lines (λ i l e. meets setup endings (lines_before i lines) l (met i l e))
