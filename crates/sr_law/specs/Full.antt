-- Cause, in part: when a pipe's ring may be full.
use Rattle.std.specs.Prelude.{ℕ, ◌+◌, Bool, true, false, ◌&&◌, ◌==◌, nat_lt, nat_le, if◌then◌else◌, List, [], ◌∷◌}
use Rattle.std.specs.List.{list_any}
use Rattle.sr_base.specs.declared.shape.Shape.{Shape}
use Rattle.sr_base.specs.declared.kind.Kind.{Kind}
use Rattle.sr_base.specs.declared.kind.Kind.TheVariants.{Opener, Ending}
use Rattle.sr_law.specs.declared.line.Line.{Line}
use Rattle.sr_law.specs.declared.line.Line.TheVariants.{Packet, Answer}
use Rattle.sr_law.specs.declared.verdict.Verdict.{Verdict}
use Rattle.sr_law.specs.declared.verdict.Verdict.TheVariants.{To, Held}

-- a line of this pipe whose packet was held
abbrev pub is_held_in : ℕ → Line → Bool
is_held_in pipe (Packet number entered out at key kind (Held why)) = at == pipe
is_held_in pipe line = false

-- how many openers a pipe held
abbrev pub held_count : ℕ → List Line → ℕ
held_count pipe [] = 0
held_count pipe (line ∷ before) = (if is_held_in pipe line then 1 else 0) + held_count pipe before

-- the line answers the nth held opener of a pipe, before this tick
abbrev pub answers_before : ℕ → ℕ → ℕ → Line → Bool
answers_before pipe nth tick (Answer out at n key verdict) = (at == pipe) && (n == nth) && nat_lt out tick
answers_before pipe nth tick line = false

-- a packet of this kind and verdict left a word in its pipe's ring, or found it full
abbrev pub leaves_word : Kind → Verdict → Bool
leaves_word kind (Held why) = true
leaves_word Opener (To server version pool) = true
leaves_word Ending verdict = true
leaves_word kind verdict = false

-- a line of this pipe whose packet may have left a word in the pipe's ring
abbrev pub may_push : ℕ → Line → Bool
may_push pipe (Packet number entered out at key kind verdict) = (at == pipe) && leaves_word kind verdict
may_push pipe line = false

-- the last of these lines holds an opener of the pipe that was answered before this tick, by a line of `all`
abbrev pub was_answered : List Line → ℕ → ℕ → Line → List Line → Bool
was_answered all pipe tick line before = is_held_in pipe line && list_any (answers_before pipe (1 + held_count pipe before) tick) all

-- how many words a pipe's ring may have got since its last opener that was held and answered before this tick, by a line of `all`:
-- all words before that opener's were taken
abbrev pub words_since : List Line → ℕ → ℕ → List Line → ℕ
words_since all pipe tick [] = 0
words_since all pipe tick (line ∷ before) =
    if was_answered all pipe tick line before then 0 else ((if may_push pipe line then 1 else 0) + words_since all pipe tick before)

-- an opener may find its pipe's ring full: as many words as it has cells may not have been taken
unfoldable pub may_be_full : Shape → List Line → ℕ → ℕ → Bool
may_be_full shape before pipe start = nat_le shape.ring (words_since before pipe start before)
