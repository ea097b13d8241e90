-- A board at rest, and the reports that its rings hold.
use Rattle.std.specs.Prelude.{◌≡◌, ℕ, zero, suc, ◌+◌, ◌<◌, ◌==◌, List, if◌then◌else◌}
use Rattle.sr_base.specs.Layout.{LayoutView}
use Rattle.sr_base.specs.WordName.{word_at}
use Rattle.sr_base.specs.declared.word_name.WordName.TheVariants.{Note, Ring}
use Rattle.sr_core.specs.PlainWords.{HeldWords}
use Rattle.sr_machine.specs.declared.actor.Actor.{Actor}
use Rattle.sr_machine.specs.declared.actor.Actor.TheVariants.{Controller}

-- each pipe's note is 0
abbrev pub NotesAreClear : HeldWords → Type 0
NotesAreClear h = (p : ℕ) → p < h.layout.shape.pipes → word_at h.layout h.words (Note p) ≡ 0

-- A board is at rest in the controller's hands alone: whoever holds it as a pipe's can make that pipe step.
pub record IsAtRest (h : HeldWords) (holder : Actor) : Type 0 where
  pub actor : holder ≡ Controller
  pub notes : NotesAreClear h

-- the sum of what the numbers below this one give
abbrev pub total : ℕ → (ℕ → ℕ) → ℕ
total zero f = 0
total (suc n) f = total n f + f n

-- a cell with a report counts
abbrev pub filled : ℕ → ℕ
filled x = if x == 0 then 0 else 1

-- how many reports the rings hold
abbrev pub reports_in : HeldWords → ℕ
reports_in h = total h.layout.shape.pipes (λ p. total h.layout.shape.ring (λ c. filled (word_at h.layout h.words (Ring p c))))
