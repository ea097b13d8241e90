-- The grammar of logs, and what reading one answers.
use Rattle.std.specs.Prelude.{◌≡◌, ◌≢◌, ℕ, ◌+◌, ◌≤◌, ◌⊎◌, List, [], ◌++◌, length, Option, Some, Result, Ok, Err}
use Rattle.std.specs.List.{All}
use Rattle.sr_frame.specs.declared.skip.Skip.{Skip}
use Rattle.sr_law.specs.declared.line.Line.{Line}
use Rattle.sr_text.specs.declared.log_refusal.LogRefusal.{LogRefusal}
use Rattle.sr_text.specs.declared.log_refusal.LogRefusal.TheVariants.{BadLine, ReadFault, Memory}
use Rattle.sr_text.specs.LineText.{head_text, line_text, skip_text, log_text}
use Rattle.sr_text.specs.Ranges.{IsLine, IsSkipped}

-- A text is in the grammar where it is `log_text` of such lists, in whatever order: every number is one that its field's type holds.
pub record IsLog (skips : List (ℕ × Skip)) (lines : List Line) : Type 0 where
  pub each_skip : All IsSkipped skips
  pub each_line : All IsLine lines

-- how many lines the text has: the head, the skipped records, the lines
abbrev pub line_count : List (ℕ × Skip) → List Line → ℕ
line_count skips lines = 1 + (length skips + length lines)

-- how many lines a log may have at most
abbrev pub most_lines : ℕ
most_lines = 33554432

-- a line of the grammar, with its line feed, is at the front of these bytes
abbrev pub LineNext : List ℕ → Type 0
LineNext bytes = (line : Line) × (rest : List ℕ) × (IsLine line × (bytes ≡ line_text line ++ rest))

-- the line of a skipped record is
abbrev pub SkipNext : List ℕ → Type 0
SkipNext bytes = (skip : ℕ × Skip) × (rest : List ℕ) × (IsSkipped skip × (bytes ≡ skip_text skip ++ rest))

-- A text that stands at these lines goes on in the grammar with these bytes. A skipped record comes before all lines.
abbrev pub GoesOn : List Line → List ℕ → Type 0
GoesOn lines bytes = LineNext bytes ⊎ ((lines ≡ []) × SkipNext bytes)

-- Behind a front that is a text of the grammar more bytes come, and the line with this number, from 1, is outside it or past the limit.
pub record BadAfter (number : ℕ) (bytes : List ℕ) (skips : List (ℕ × Skip)) (lines : List Line) (rest : List ℕ) : Type 0 where
  pub numbers : IsLog skips lines
  pub front : bytes ≡ log_text skips lines ++ rest
  pub more : rest ≢ []
  pub next : number ≡ 1 + line_count skips lines
  pub within : line_count skips lines ≤ most_lines
  pub outside : ¬ (GoesOn lines rest) ⊎ (line_count skips lines ≡ most_lines)

-- The first line outside the grammar or past the limit has this number: the head isn't there, or the next line behind a front that is a
-- text of the grammar is it.
abbrev pub IsFirstBad : ℕ → List ℕ → Type 0
IsFirstBad number bytes =
    ((number ≡ 1) × ((rest : List ℕ) → bytes ≢ head_text ++ rest))
    ⊎ ((skips : List (ℕ × Skip)) × (lines : List Line) × (rest : List ℕ) × BadAfter number bytes skips lines rest)

-- What is read is a text of the grammar, and was read to its end; or its first bad line was found.
abbrev pub Reads : {L : Type 0} → (L → List (ℕ × Skip)) → (L → List Line) → Result L LogRefusal → List ℕ → Option (List ℕ) → Type 0
Reads skips lines (Ok log) bytes left = (bytes ≡ log_text (skips log) (lines log)) × (left ≡ Some [])
Reads skips lines (Err (BadLine number)) bytes left = IsFirstBad number bytes
Reads skips lines (Err ReadFault) bytes left = Unit {0}
Reads skips lines (Err Memory) bytes left = Unit {0}

-- What was printed is read back, and no line of it is bad.
abbrev pub ReadsBack : {L : Type 0} → (L → List (ℕ × Skip)) → (L → List Line) → Result L LogRefusal → List (ℕ × Skip) → List Line → Type 0
ReadsBack skips lines (Ok log) those these = (skips log ≡ those) × (lines log ≡ these)
ReadsBack skips lines (Err (BadLine number)) those these = ⊥
ReadsBack skips lines (Err ReadFault) those these = Unit {0}
ReadsBack skips lines (Err Memory) those these = Unit {0}

-- what any source allows: numbers in their ranges, and no more lines than the limit; or the number of a line up to the one after it
abbrev pub IsRead : {L : Type 0} → (L → List (ℕ × Skip)) → (L → List Line) → Result L LogRefusal → Type 0
IsRead skips lines (Ok log) = IsLog (skips log) (lines log) × (line_count (skips log) (lines log) ≤ most_lines)
IsRead skips lines (Err (BadLine number)) = (1 ≤ number) × (number ≤ most_lines + 1)
IsRead skips lines (Err ReadFault) = Unit {0}
IsRead skips lines (Err Memory) = Unit {0}
