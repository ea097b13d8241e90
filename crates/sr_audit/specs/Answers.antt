-- The answers to the held openers of the pipes, by pipe and number.
use Rattle.std.specs.Prelude.{◌≡◌, ℕ, Bool, true, false, ◌&&◌, ◌==◌, nat_lt, if◌then◌else◌, List, [], ◌∷◌, Option, Some, None}
use Rattle.std.specs.BTreeMap.{get}
use Rattle.std.specs.declared.cmp.Ordering.{Ordering}
use Rattle.std.specs.Ordering.{nat_cmp, ordering_then}
use Rattle.sr_base.specs.Key.{KeyView, same_key}
use Rattle.sr_law.specs.declared.line.Line.{Line}
use Rattle.sr_law.specs.declared.line.Line.TheVariants.{Answer}
use Rattle.sr_audit.specs.declared.answers.Answered.{Answered}
use Rattle.sr_audit.specs.declared.answers.Answers.{Answers}

-- the order of the index: by pipe, and then by number
abbrev pub nth_cmp : ℕ × ℕ → ℕ × ℕ → Ordering
nth_cmp x y = ordering_then (nat_cmp x.0 y.0) (nat_cmp x.1 y.1)

-- an answer to the nth held opener of this pipe
abbrev pub answer_by : Line → ℕ → ℕ → Option Answered
answer_by (Answer out at n key verdict) pipe nth = if (at == pipe) && (n == nth) then Some (record { once = true; key = key; out = out }) else None
answer_by line pipe nth = None

-- an answer more
abbrev pub one_more : Option Answered → Option Answered → Option Answered
one_more None older = older
one_more (Some answer) None = Some answer
one_more (Some answer) (Some older) = Some (record { once = false; key = answer.key; out = answer.out })

-- what these lines answer it
abbrev pub answered_by : List Line → ℕ → ℕ → Option Answered
answered_by [] pipe nth = None
answered_by (line ∷ before) pipe nth = one_more (answer_by line pipe nth) (answered_by before pipe nth)

-- it is answered once, and rightly
abbrev pub answers_it : KeyView → ℕ → Option Answered → Bool
answers_it key entered None = false
answers_it key entered (Some answer) = answer.once && same_key answer.key key && nat_lt entered answer.out

-- the index is that of these lines
abbrev pub TellsAnswers : Answers → List Line → Type 0
TellsAnswers index before = (pipe nth : ℕ) → get nth_cmp index.map (pipe, nth) ≡ answered_by before pipe nth
