-- Atomic steps that were made one after another, whoever has the words.
use Rattle.std.specs.Prelude.{◌≡◌, ℕ, List, [], ◌∷◌, Option, Some, None}
use Rattle.sr_machine.specs.Ops.{op_answer, op_name, op_words}
use Rattle.sr_machine.specs.declared.name.Name.{Name}
use Rattle.sr_machine.specs.declared.op.Op.{Op}

-- An atomic step that was made, and what its actor learned.
pub record Made : Type 0 where
  pub op : Op
  pub answer : ℕ

-- this step, if there is one, and then those
abbrev pub made_before : Option Op → ℕ → List Made → List Made
made_before None x rest = rest
made_before (Some op) x rest = record { op = op; answer = x } ∷ rest

-- the words after these steps
abbrev pub words_after : (Name → ℕ) → List Made → Name → ℕ
words_after words [] = words
words_after words (m ∷ rest) = words_after (op_words words m.op) rest

-- each step answered what the words were that it found
abbrev pub AnsweredBy : (Name → ℕ) → List Made → Type 0
AnsweredBy words [] = Unit {0}
AnsweredBy words (m ∷ rest) = (m.answer ≡ op_answer m.op (words (op_name m.op))) × AnsweredBy (op_words words m.op) rest

-- where the words were told, the answers are theirs, and the words after the steps are told
abbrev pub ShowsSteps : ((Name → ℕ) → Type 0) → List Made → ((Name → ℕ) → Type 0) → Type 0
ShowsSteps shows steps after = (words : Name → ℕ) → shows words → AnsweredBy words steps × after (words_after words steps)
