-- A breach that is named among the first lines is that of the whole list.
use Rattle.std.proofs.Common.{◌≡◌, ℕ, zero, suc, ◌+◌, ◌-◌, ◌<◌, ◌≤◌, List, length, get_or, take, reverse, Option, None, Some, sym, ap, subst, ◌∙◌, arith}
use Rattle.std.specs.Option.{option_or}
use Rattle.std.proofs.Math.Seq.{take-length}
use Rattle.sr_law.specs.declared.check_refusal.CheckRefusal.{CheckRefusal}
use Rattle.sr_law.specs.declared.clause.Clause.{Clause}
use Rattle.sr_law.specs.declared.line.Line.{Line}
use Rattle.sr_law.specs.declared.line.Line.TheVariants.{Recorded}
use Rattle.sr_law.specs.Lawful.{broken, breach_at, first_broken}
use Rattle.sr_law.specs.Retire.{EndingPacket}
use Rattle.sr_law.specs.Setup.{SetupView}
use Rattle.sr_law.proofs.Breaches.{first_more}

module _ (setup : SetupView) (endings : List EndingPacket) (lines : List Line) where
  -- among the first n
  abbrev pub named : ℕ → Option CheckRefusal
  named n = first_broken setup endings (reverse (take n lines))

  -- a breach that is named stays
  stays : (more n : ℕ) (breach : CheckRefusal) → n + more ≤ length lines → named n ≡ Some breach → named (n + more) ≡ Some breach
  stays zero n breach h e = subst (λ k. named k ≡ Some breach) (omega arith) e
  stays (suc more) n breach h e =
      let d : Line = Recorded 0 0 in
      let at = n + more in
      let older : named at ≡ Some breach = stays more n breach (omega arith) e in
      let step : named (at + 1) ≡ option_or (named at) (breach_at (at + 1) (broken setup endings (reverse (take at lines)) (get_or lines at d))) =
      first_more setup endings lines at d (omega arith) in
      let same : at + 1 ≡ n + suc more = omega arith in
      subst (λ k. named k ≡ Some breach) same
      (step ∙ ap (λ x. option_or x (breach_at (at + 1) (broken setup endings (reverse (take at lines)) (get_or lines at d)))) older)

  whole : named (length lines) ≡ first_broken setup endings (reverse lines)
  whole = ap (λ x. first_broken setup endings (reverse x)) (take-length lines)

  -- the first line that breaks a clause, where no line before it does
  pub breach_found : (i : ℕ) (line : Line) (clause : Clause) → i < length lines → named i ≡ None → get_or lines i line ≡ line → broken setup endings (reverse (take i lines)) line ≡ Some clause
      → first_broken setup endings (reverse lines) ≡ breach_at (i + 1) (Some clause)
  breach_found i line clause h none at e =
      let step : named (i + 1) ≡ option_or (named i) (breach_at (i + 1) (broken setup endings (reverse (take i lines)) (get_or lines i line))) =
      first_more setup endings lines i line h in
      let met : broken setup endings (reverse (take i lines)) (get_or lines i line) ≡ Some clause =
      subst (λ x. broken setup endings (reverse (take i lines)) x ≡ Some clause) (sym at) e in
      let next : named (i + 1) ≡ breach_at (i + 1) (Some clause) =
      step ∙ ap (λ x. option_or x (breach_at (i + 1) (broken setup endings (reverse (take i lines)) (get_or lines i line)))) none ∙ ap (breach_at (i + 1)) met in
      let size : i + 1 + (length lines - (i + 1)) ≡ length lines = omega arith in
      sym whole ∙ subst (λ k. named k ≡ breach_at (i + 1) (Some clause)) size (stays (length lines - (i + 1)) (i + 1) _ (omega arith) next)

  -- one line more that breaks none
  pub none_more : (i : ℕ) (line : Line) → i < length lines → named i ≡ None → get_or lines i line ≡ line → broken setup endings (reverse (take i lines)) line ≡ None
      → named (i + 1) ≡ None
  none_more i line h none at e =
      let met : broken setup endings (reverse (take i lines)) (get_or lines i line) ≡ None =
      subst (λ x. broken setup endings (reverse (take i lines)) x ≡ None) (sym at) e in
      first_more setup endings lines i line h
      ∙ ap (λ x. option_or x (breach_at (i + 1) (broken setup endings (reverse (take i lines)) (get_or lines i line)))) none ∙ ap (breach_at (i + 1)) met
