-- Held openers: each opener that a pipe held is told to the controller once, in order, and answered once. A ring's reports stand behind as many lines of its pipe.
use Rattle.std.specs.List.{AllByRecursion, range_with_len}
use Rattle.std.specs.Prelude.{◌≡◌, ℕ, zero, suc, ◌+◌, ◌-◌, ◌%◌, ◌<◌, ◌≤◌, Bool, true, false, List, [], ◌∷◌, ◌++◌, map, length, drop, if◌then◌else◌, ◌==◌, slice_get, Some, None, Option}
use Rattle.sr_base.specs.Key.{KeyView}
use Rattle.sr_base.specs.Layout.{LayoutView}
use Rattle.sr_base.specs.declared.kind.Kind.{Kind}
use Rattle.sr_base.specs.declared.ring_word.RingKind.{RingKind}
use Rattle.sr_base.specs.declared.ring_word.RingKind.TheVariants.{Learn, Punt, Close}
use Rattle.sr_base.specs.declared.ring_word.RingWord.{RingWord}
use Rattle.sr_inv_facts.specs.Readings.{EachPipe, ring_words}
use Rattle.sr_law.specs.Full.{leaves_word}
use Rattle.sr_law.specs.declared.line.Line.{Line}
use Rattle.sr_law.specs.declared.verdict.Verdict.{Verdict}
use Rattle.sr_machine.specs.Core.{Core}
use Rattle.sr_machine.specs.Deciding.{ring_count}
use Rattle.sr_machine.specs.Reads.{read_report}
use Rattle.sr_machine.specs.declared.held_opener.HeldOpener.{HeldOpener}
use Rattle.sr_machine.specs.declared.pipe_view.PipeView.{PipeView}
use Rattle.sr_machine.specs.declared.ring_count.RingCount.{RingCount}
use Rattle.sr_machine.specs.declared.stage.Stage.{Stage}
use Rattle.sr_machine.specs.declared.stage.Stage.TheVariants as stage
use Rattle.sr_machine.specs.declared.leg.Leg.TheVariants as leg
use Rattle.sr_machine.specs.declared.leg.Last.TheVariants as last
use Rattle.sr_law.specs.declared.verdict.Verdict.TheVariants as verdict
use Rattle.sr_law.specs.declared.line.Line.TheVariants as line

-- ---- the held openers of a pipe

-- whose opener was held, and when it entered
pub record Waiting : Type 0 where
  pub key : KeyView
  pub entered : ℕ

-- it waits, if its verdict was that it was held
abbrev pub held_as : Verdict → Waiting → List Waiting
held_as (verdict.Held why) w = w ∷ []
held_as v w = []

abbrev pub held_in_line : Line → List Waiting
held_in_line (line.Packet number entered out pipe key kind v) = held_as v (record { key = key; entered = entered })
held_in_line l = []

abbrev pub held_in_lines : List Line → List Waiting
held_in_lines [] = []
held_in_lines (l ∷ rest) = held_in_line l ++ held_in_lines rest

-- one whose line isn't drawn yet, though its report is stored
abbrev pub held_at : Stage → List Waiting
held_at (stage.Fly f (leg.Judged v last.Out)) = held_as v (record { key = f.packet.key; entered = f.entered })
held_at at = []

-- those of a pipe, in the order in which they were reported
abbrev pub held_of : PipeView → List Waiting
held_of v = held_in_lines v.lines ++ held_at v.stage

-- the keys of some
abbrev pub keys_of : List Waiting → List KeyView
keys_of waiting = map (λ w. w.key) waiting

-- ---- their reports

abbrev pub punt_by : RingWord → RingKind → List KeyView
punt_by w Punt = w.key ∷ []
punt_by w Learn = []
punt_by w Close = []

abbrev pub punt_in : Option RingWord → List KeyView
punt_in None = []
punt_in (Some w) = punt_by w w.kind

-- the keys of the held openers that so many words of a ring report, from the word of this number on
abbrev pub punts_from : LayoutView → (ℕ → ℕ) → ℕ → ℕ → List KeyView
punts_from l ring first zero = []
punts_from l ring first (suc count) = punt_in (read_report l (ring (first % l.shape.ring))) ++ punts_from l ring (first + 1) count

-- ---- answers

-- which held openers of a pipe were answered, in order
abbrev pub answered_by : ℕ → Line → List ℕ
answered_by p (line.Answer out pipe nth key v) = if pipe == p then (nth ∷ []) else []
answered_by p l = []

abbrev pub answered_in : ℕ → List Line → List ℕ
answered_in p [] = []
answered_in p (l ∷ rest) = answered_by p l ++ answered_in p rest

-- which of them wait
abbrev pub waiting_by : ℕ → HeldOpener → List ℕ
waiting_by p h = if h.pipe == p then (h.nth ∷ []) else []

abbrev pub waiting_in : ℕ → List HeldOpener → List ℕ
waiting_in p [] = []
waiting_in p (h ∷ rest) = waiting_by p h ++ waiting_in p rest

-- the nth held opener of a pipe, from 1, is of this key
abbrev pub IsHeld : List PipeView → ℕ → ℕ → KeyView → (Waiting → Type 0) → Type 0
IsHeld pipes pipe nth key P =
    (v : PipeView) → slice_get pipes pipe ≡ Some v
    → (w : Waiting) × (slice_get (held_of v) (nth - 1) ≡ Some w) × (w.key ≡ key) × P w

-- an answer is to a held opener, of its key, that entered before
abbrev pub AnswersHeld : List PipeView → Line → Type 0
AnswersHeld pipes (line.Answer out pipe nth key v) = IsHeld pipes pipe nth key (λ w. w.entered < out)
AnswersHeld pipes l = Unit {0}

-- ---- lines and words of a ring

abbrev pub is_held : Verdict → Bool
is_held (verdict.Held why) = true
is_held v = false

-- the line of a packet that left a word in its ring, with whether it was held
abbrev pub report_by : Kind → Verdict → List Bool
report_by kind v = if leaves_word kind v then (is_held v ∷ []) else []

abbrev pub reports_in : List Line → List Bool
reports_in [] = []
reports_in (line.Packet number entered out pipe key kind v ∷ rest) = report_by kind v ++ reports_in rest
reports_in (l ∷ rest) = reports_in rest

abbrev pub report_at : Stage → List Bool
report_at (stage.Fly f (leg.Judged v last.Out)) = report_by f.packet.kind v
report_at at = []

abbrev pub reports_of : PipeView → List Bool
reports_of v = reports_in v.lines ++ report_at v.stage

-- how many come after so many held ones
abbrev pub after_held : ℕ → List Bool → ℕ
after_held zero reports = length reports
after_held (suc n) [] = 0
after_held (suc n) (true ∷ rest) = after_held n rest
after_held (suc n) (false ∷ rest) = after_held (suc n) rest

-- ---- all of it

pub record PipeHeld (l : LayoutView) (ring : ℕ → ℕ) (taken : RingCount) (v : PipeView) : Type 0 where
  pub count : taken.punts ≤ length (held_of v)
  pub told : drop taken.punts (keys_of (held_of v)) ≡ punts_from l ring taken.words (v.pushed - taken.words)
  pub reports : (j : ℕ) → j ≤ v.pushed - taken.words
      → (v.pushed - taken.words) - j ≤ after_held (taken.punts + length (punts_from l ring taken.words j)) (reports_of v)

pub record HeldHolds (l : LayoutView) (ring : ℕ → ℕ → ℕ) (pipes : List PipeView) (rings : List RingCount) (held : List HeldOpener) (lines : List Line) : Type 0 where
  pub pipe : EachPipe (λ p v. PipeHeld l (ring p) (ring_count rings p) v) pipes
  pub opener : AllByRecursion (λ h. IsHeld pipes h.pipe h.nth h.key (λ w. Unit {0})) held
  pub once : (p : ℕ) → p < l.shape.pipes → answered_in p lines ++ waiting_in p held ≡ range_with_len 1 (ring_count rings p).punts
  pub answer : AllByRecursion (AnswersHeld pipes) lines

pub record InHeld (s : Core) : Type 0 where
  pub held : HeldHolds s.config.layout (ring_words s.words) s.pipes s.controller.rings s.controller.held s.controller.lines
