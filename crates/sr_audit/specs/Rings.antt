-- How many words each pipe's ring may have got, and which of them were taken when its held openers were answered.
use Rattle.std.specs.Prelude.{◌≡◌, ℕ, ◌+◌, ◌<◌, ◌≤◌, Bool, true, false, ◌&&◌, ◌==◌, nat_lt, if◌then◌else◌, List, [], ◌∷◌, length, reverse, Option, Some, None, option_map, unwrap_or}
use Rattle.std.specs.BTreeMap.{get}
use Rattle.std.specs.List.{find}
use Rattle.std.specs.Option.{option_or}
use Rattle.std.specs.Ordering.{nat_cmp}
use Rattle.sr_law.specs.declared.line.Line.{Line}
use Rattle.sr_law.specs.declared.line.Line.TheVariants.{Packet, Answer}
use Rattle.sr_law.specs.declared.verdict.Verdict.{Verdict}
use Rattle.sr_law.specs.declared.verdict.Verdict.TheVariants.{Held}
use Rattle.sr_law.specs.Full.{is_held_in, held_count, leaves_word, may_push, words_since}
use Rattle.sr_audit.specs.declared.ring.Mark.{Mark}
use Rattle.sr_audit.specs.declared.ring.Ring.{Ring}
use Rattle.sr_audit.specs.declared.rings.Rings.{Rings}
use Rattle.sr_audit.specs.Lately.{Falls, was_before}

-- how many words a pipe's ring may have got
abbrev pub push_count : ℕ → List Line → ℕ
push_count pipe [] = 0
push_count pipe (line ∷ before) = (if may_push pipe line then 1 else 0) + push_count pipe before

-- how many there were with that of the nth opener that the pipe held, if there is one
abbrev pub held_at : ℕ → ℕ → List Line → Option ℕ
held_at pipe nth [] = None
held_at pipe nth (line ∷ before) =
    if is_held_in pipe line && (nth == (1 + held_count pipe before)) then Some (1 + push_count pipe before) else held_at pipe nth before

-- the tick of an answer to it
abbrev pub answer_tick : Line → ℕ → ℕ → Option ℕ
answer_tick (Answer out at n key verdict) pipe nth = if (at == pipe) && (n == nth) then Some out else None
answer_tick line pipe nth = None

-- the tick of the first answer to it, which may stand before its own line
abbrev pub first_answer : List Line → ℕ → ℕ → Option ℕ
first_answer [] pipe nth = None
first_answer (line ∷ before) pipe nth = option_or (first_answer before pipe nth) (answer_tick line pipe nth)

-- it was held
abbrev pub is_held : Verdict → Bool
is_held (Held why) = true
is_held verdict = false

-- the pipe of a line that its ring counts: a word that may be left there, or an answer
abbrev pub counted_in : Line → Option ℕ
counted_in (Packet number entered out pipe key kind verdict) = if leaves_word kind verdict then Some pipe else None
counted_in (Answer out pipe nth key verdict) = Some pipe
counted_in line = None

-- of the marks that were out before a tick the last one's words, the newest first; 0 if there is none
abbrev pub marked_before : List Mark → ℕ → ℕ
marked_before marks tick = unwrap_or (option_map (λ mark. mark.pushes) (find (λ mark. nat_lt mark.out tick) marks)) 0

-- the greater one
abbrev pub greater : ℕ → ℕ → ℕ
greater x y = if nat_lt x y then y else x

-- a ring of which nothing is told
pub record IsNew (ring : Ring) : Type 0 where
  pub pushes : ring.pushes ≡ 0
  pub count : ring.count ≡ 0
  pub held : (nth : ℕ) → get nat_cmp ring.held nth ≡ None
  pub answered : (nth : ℕ) → get nat_cmp ring.answered nth ≡ None
  pub marks : ring.marks.items ≡ []

-- a word more
pub record Pushed (old new : Ring) : Type 0 where
  pub pushes : old.pushes < 18446744073709551615 → new.pushes ≡ old.pushes + 1
  pub count : new.count ≡ old.count
  pub held : new.held ≡ old.held
  pub answered : new.answered ≡ old.answered
  pub marks : new.marks ≡ old.marks

-- a word more, of an opener that was held, and a mark if that was answered already
pub record HoldsOne (old new : Ring) : Type 0 where
  pub pushes : old.pushes < 18446744073709551615 → new.pushes ≡ old.pushes + 1
  pub count : old.count < 18446744073709551615 → new.count ≡ old.count + 1
  pub held : (nth : ℕ) → get nat_cmp new.held nth ≡ (if new.count == nth then Some new.pushes else get nat_cmp old.held nth)
  pub answered : new.answered ≡ old.answered
  pub marks : (tick : ℕ)
      → marked_before (reverse new.marks.items) tick
      ≡ (if was_before (get nat_cmp old.answered new.count) tick then new.pushes else marked_before (reverse old.marks.items) tick)

-- the words at a mark after an opener of so many words, if there is one, was answered
abbrev pub marked_after : Option ℕ → ℕ → ℕ → ℕ → ℕ → ℕ
marked_after None out last tick older = older
marked_after (Some pushes) out last tick older = if nat_lt out tick then greater last pushes else older

-- an answer more, and a mark if its opener was told
pub record AnswersOne (nth out : ℕ) (old new : Ring) : Type 0 where
  pub pushes : new.pushes ≡ old.pushes
  pub count : new.count ≡ old.count
  pub held : new.held ≡ old.held
  pub answered : (n : ℕ) → get nat_cmp new.answered n ≡ option_or (get nat_cmp old.answered n) (if nth == n then Some out else None)
  pub marks : (tick : ℕ)
      → marked_before (reverse new.marks.items) tick
      ≡ marked_after (get nat_cmp old.held nth) out (marked_before (reverse old.marks.items) out) tick (marked_before (reverse old.marks.items) tick)

-- a pipe's ring is that of these lines: what was taken when the last of the marks before a tick was answered, and what it may have got since,
-- are all words
pub record TellsRing (pipe : ℕ) (ring : Ring) (before : List Line) : Type 0 where
  pub pushes : ring.pushes ≡ push_count pipe before
  pub count : ring.count ≡ held_count pipe before
  pub held : (nth : ℕ) → get nat_cmp ring.held nth ≡ held_at pipe nth before
  pub answered : (nth : ℕ) → get nat_cmp ring.answered nth ≡ first_answer before pipe nth
  pub words : (tick : ℕ) → words_since before pipe tick before + marked_before (reverse ring.marks.items) tick ≡ push_count pipe before

-- that of a pipe that isn't in the index is new
abbrev pub TellsPipe : ℕ → List Line → Option Ring → Type 0
TellsPipe pipe before None = (ring : Ring) → IsNew ring → TellsRing pipe ring before
TellsPipe pipe before (Some ring) = TellsRing pipe ring before

-- the index is that of these lines, where they fall, and aren't more than can be counted
abbrev pub TellsRings : Rings → List Line → Type 0
TellsRings index before = length before ≤ 18446744073709551615 → Falls before → (pipe : ℕ) → TellsPipe pipe before (get nat_cmp index.map pipe)
