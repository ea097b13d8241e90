-- The lines of a state that meets the invariant break no clause.
use Rattle.std.proofs.Common.{◌≡◌, suc, ◌+◌, true, List, [], ◌∷◌, ◌++◌, length, reverse, None, sym, refl, ap, ◌∙◌, subst}
use Rattle.std.proofs.lemmas.List.{reverse-reverse}
use Rattle.sr_inv_facts.proofs.Pipes.{idle}
use Rattle.sr_inv_facts.specs.InCauses.{AllMeet, ending_at, endings_under_way, setup_of}
use Rattle.sr_inv_facts.specs.Invariant.{Invariant}
use Rattle.sr_inv_facts.specs.Readings.{EachPipe}
use Rattle.sr_inv_runs.specs.Runs.{LinesKeepClauses}
use Rattle.sr_law.proofs.Breaches.{first_broken-none, first_none, first_zero, none_at}
use Rattle.sr_law.proofs.Clauses.{none_broken}
use Rattle.sr_law.proofs.Kept.{kept}
use Rattle.sr_law.proofs.Switches.{newer}
use Rattle.sr_law.specs.Lawful.{NoLineBreaks, breach_at, broken, first_broken}
use Rattle.sr_law.specs.Retire.{EndingPacket, endings_of}
use Rattle.sr_law.specs.Setup.{SetupView}
use Rattle.sr_law.specs.declared.line.Line.{Line}
use Rattle.sr_machine.specs.Core.{Core, lines_of, printed}
use Rattle.sr_machine.specs.Pipe.{is_idle}
use Rattle.sr_machine.specs.declared.pipe_view.PipeView.{PipeView}

-- lines that meet the clauses break none
none_first : (setup : SetupView) (endings : List EndingPacket) (lines : List Line) → AllMeet setup endings lines
    → first_broken setup endings lines ≡ None
unfolding first_broken
none_first setup endings [] a = first_zero setup endings
none_first setup endings (l ∷ before) a =
    first_none (first_broken setup endings before) (breach_at (length before + 1) (broken setup endings before l)) (none_first setup endings before a.1)
    (none_at (length before + 1) (broken setup endings before l) (none_broken setup endings before l a.0))

pub unbroken : (setup : SetupView) (endings : List EndingPacket) (lines : List Line) → AllMeet setup endings lines
    → NoLineBreaks setup endings (reverse lines)
unbroken setup endings lines a =
    (first_broken-none setup endings (reverse lines)).0
    (subst (λ ls. first_broken setup endings ls ≡ None) (sym (reverse-reverse lines)) (none_first setup endings lines a))

-- no Ending packet is under way where each pipe is idle
none_under_way : (pipes : List PipeView) → EachPipe (λ p v. is_idle v.stage ≡ true) pipes → endings_under_way pipes ≡ []
none_under_way [] h = refl
none_under_way (v ∷ rest) h =
    ap (λ a. ending_at a ++ endings_under_way rest) (idle v.stage (h 0 v refl)) ∙ none_under_way rest (λ p u e. h (suc p) u e)

pub lines_keep : (s : Core) → Invariant s → EachPipe (λ p v. is_idle v.stage ≡ true) s.pipes → LinesKeepClauses s.config s
lines_keep s i h =
    let all : AllMeet (setup_of s.config) (endings_of (printed s)) (printed s) =
    subst (λ es. AllMeet (setup_of s.config) (es ++ endings_of (printed s)) (printed s)) (none_under_way s.pipes h) i.causes.causes.clauses in
    let none = unbroken (setup_of s.config) (endings_of (printed s)) (printed s) all in record {
      unbroken = none;
      kept = kept (setup_of s.config) (endings_of (printed s)) (lines_of s) none;
      newer = newer (setup_of s.config) (endings_of (printed s)) (lines_of s) none;
    }
