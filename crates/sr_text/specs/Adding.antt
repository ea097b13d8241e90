-- How a log grows line by line.
use Rattle.std.specs.Prelude.{◌≡◌, ◌≢◌, ℕ, ◌+◌, ◌≤◌, List, [], ◌∷◌, ◌++◌, Bool, true, false, Option, Some, Result, Ok, Err}
use Rattle.sr_frame.specs.declared.skip.Skip.{Skip}
use Rattle.sr_io.specs.Window.{Pending, WindowView}
use Rattle.sr_law.specs.declared.line.Line.{Line}
use Rattle.sr_text.specs.LineText.{head_text, log_text}
use Rattle.sr_text.specs.Log.{IsLog, GoesOn, IsFirstBad, line_count, most_lines}
use Rattle.sr_text.specs.declared.log_refusal.LogRefusal.{LogRefusal}
use Rattle.sr_text.specs.declared.log_refusal.LogRefusal.TheVariants.{BadLine, ReadFault, Memory}

-- the line of one value was used, and the value is the list's last now
pub record Takes {A : Type 0} (text : A → List ℕ) (fits : A → Type 0) (old new : WindowView) (xs ys : List A) : Type 0 where
  pub one : A
  pub within : fits one
  pub used : old.unread ≡ text one ++ new.unread
  pub over : new.over ≡ old.over
  pub list : ys ≡ xs ++ one ∷ []

-- A line was added; or none of the kind is next, and all is as it was.
abbrev pub AddsTo : {A E : Type 0} → (A → List ℕ) → (A → Type 0) → (List ℕ → Type 0) → Result Bool E → WindowView → WindowView → List A → List A → Type 0
AddsTo text fits next (Ok true) old new xs ys = Takes text fits old new xs ys
AddsTo text fits next (Ok false) old new xs ys = (¬ (next old.unread)) × (new ≡ old) × (ys ≡ xs)
AddsTo text fits next (Err e) old new xs ys = Unit {0}

-- the same of a log's two lists
pub record TakesOne (old new : WindowView) (ss : List (ℕ × Skip)) (ls : List Line) (ts : List (ℕ × Skip)) (ms : List Line) : Type 0 where
  pub text : List ℕ
  pub used : old.unread ≡ text ++ new.unread
  pub over : new.over ≡ old.over
  pub more : log_text ts ms ≡ log_text ss ls ++ text
  pub numbers : IsLog ss ls → IsLog ts ms
  pub count : line_count ts ms ≡ 1 + line_count ss ls

-- A line was added to one of the two lists; or none that can come next is there, and all is as it was.
abbrev pub Adds : {E : Type 0} → Result Bool E → WindowView → WindowView → List (ℕ × Skip) → List Line → List (ℕ × Skip) → List Line → Type 0
Adds (Ok true) old new ss ls ts ms = TakesOne old new ss ls ts ms
Adds (Ok false) old new ss ls ts ms = (¬ (GoesOn ls old.unread)) × (new ≡ old) × (ts ≡ ss) × (ms ≡ ls)
Adds (Err e) old new ss ls ts ms = Unit {0}

-- a text that begins with that of these lists, up to which it was read
pub record Reached (ss : List (ℕ × Skip)) (ls : List Line) (w : WindowView) (left : Option (List ℕ)) (bytes : List ℕ) : Type 0 where
  pub rest : List ℕ
  pub text : bytes ≡ log_text ss ls ++ rest
  pub pending : Pending w left rest

-- bytes come next that don't begin with a line of the grammar
pub record Strays (ss : List (ℕ × Skip)) (ls : List Line) (bytes : List ℕ) : Type 0 where
  pub rest : List ℕ
  pub text : bytes ≡ log_text ss ls ++ rest
  pub more : rest ≢ []
  pub outside : ¬ (GoesOn ls rest)

-- what was found after these lines
abbrev pub Finds : Result Bool LogRefusal → List (ℕ × Skip) → List Line → WindowView → Option (List ℕ) → List ℕ → Type 0
Finds (Ok true) ss ls w left bytes = Reached ss ls w left bytes
Finds (Ok false) ss ls w left bytes = (bytes ≡ log_text ss ls) × (left ≡ Some [])
Finds (Err (BadLine number)) ss ls w left bytes = Strays ss ls bytes
Finds (Err ReadFault) ss ls w left bytes = Unit {0}
Finds (Err Memory) ss ls w left bytes = Unit {0}

-- by a line, which has this number, or not at all
abbrev pub Grows : Result Bool LogRefusal → ℕ → List (ℕ × Skip) → List Line → List (ℕ × Skip) → List Line → Type 0
Grows (Ok true) number ss ls ts ms = (IsLog ss ls → IsLog ts ms) × (line_count ts ms ≡ 1 + line_count ss ls)
Grows (Ok false) number ss ls ts ms = (ts ≡ ss) × (ms ≡ ls)
Grows (Err (BadLine bad)) number ss ls ts ms = (bad ≡ number) × (ts ≡ ss) × (ms ≡ ls)
Grows (Err ReadFault) number ss ls ts ms = Unit {0}
Grows (Err Memory) number ss ls ts ms = Unit {0}

-- the head was read; or it isn't there
abbrev pub Heads : Result (Unit {0}) LogRefusal → WindowView → Option (List ℕ) → List ℕ → Type 0
Heads (Ok done) w left bytes = (rest : List ℕ) × ((bytes ≡ head_text ++ rest) × Pending w left rest)
Heads (Err (BadLine number)) w left bytes = (number ≡ 1) × ((rest : List ℕ) → bytes ≢ head_text ++ rest)
Heads (Err ReadFault) w left bytes = Unit {0}
Heads (Err Memory) w left bytes = Unit {0}

-- all lines after the head were read; or a bad one was found
abbrev pub Bodies : Result (Unit {0}) LogRefusal → List (ℕ × Skip) → List Line → Option (List ℕ) → List ℕ → Type 0
Bodies (Ok done) ss ls left bytes = (bytes ≡ log_text ss ls) × (left ≡ Some [])
Bodies (Err (BadLine number)) ss ls left bytes = IsFirstBad number bytes
Bodies (Err ReadFault) ss ls left bytes = Unit {0}
Bodies (Err Memory) ss ls left bytes = Unit {0}

-- what any source allows
abbrev pub IsBody : Result (Unit {0}) LogRefusal → List (ℕ × Skip) → List Line → Type 0
IsBody (Ok done) ss ls = IsLog ss ls × (line_count ss ls ≤ most_lines)
IsBody (Err (BadLine number)) ss ls = (1 ≤ number) × (number ≤ most_lines + 1)
IsBody (Err ReadFault) ss ls = Unit {0}
IsBody (Err Memory) ss ls = Unit {0}

-- what any source allows of the head
abbrev pub IsHead : Result (Unit {0}) LogRefusal → Type 0
IsHead (Ok done) = Unit {0}
IsHead (Err (BadLine number)) = number ≡ 1
IsHead (Err ReadFault) = Unit {0}
IsHead (Err Memory) = ⊥
