-- A sum over the lines of a state is one over the lines of its pipes and of its controller, in whatever order they stand.
use Rattle.std.proofs.Common.{◌≡◌, ℕ, ◌+◌, Bool, true, false, nat_le, List, [], ◌∷◌, ◌++◌, if◌then◌else◌, sum_by, refl, arith}
use Rattle.std.proofs.lemmas.List.Sums.{sum_by-append, sum_by-cons}
use Rattle.std.specs.List.{AllByRecursion}
use Rattle.sr_law.specs.Ticks.{out_of}
use Rattle.sr_law.specs.declared.line.Line.{Line}
use Rattle.sr_machine.specs.Core.{Core, newest_first, pipe_lines, printed, put_line}

module _ (f : Line → ℕ) where
  put_sum : (l : Line) (lines : List Line) → sum_by f (put_line l lines) ≡ f l + sum_by f lines
  put_sum l [] = sum_by-cons f l []
  put_sum l (other ∷ rest) = at (nat_le (out_of other) (out_of l)) (put_sum l rest)
    where
      at : (b : Bool) → sum_by f (put_line l rest) ≡ f l + sum_by f rest
          → sum_by f (if b then l ∷ other ∷ rest else (other ∷ put_line l rest)) ≡ f l + sum_by f (other ∷ rest)
      at true h = sum_by-cons f l (other ∷ rest)
      at false h = omega (arith, h, sum_by-cons f other (put_line l rest), sum_by-cons f other rest)

  newest_sum : (lines : List Line) → sum_by f (newest_first lines) ≡ sum_by f lines
  newest_sum [] = refl
  newest_sum (l ∷ rest) = omega (arith, put_sum l (newest_first rest), newest_sum rest, sum_by-cons f l rest)

  pub printed_sum : (s : Core) → sum_by f (printed s) ≡ sum_by f (pipe_lines s.pipes) + sum_by f s.controller.lines
  printed_sum s =
      omega (arith, newest_sum (pipe_lines s.pipes ++ s.controller.lines), sum_by-append f (pipe_lines s.pipes) s.controller.lines)

  -- of lines of which each adds nothing
  pub zero_sum : (lines : List Line) → AllByRecursion (λ l. f l ≡ 0) lines → sum_by f lines ≡ 0
  zero_sum [] a = refl
  zero_sum (l ∷ rest) a = omega (arith, a.0, zero_sum rest a.1, sum_by-cons f l rest)
