-- Rings: which of their cells hold reports.
use Rattle.std.specs.Prelude.{◌≡◌, ℕ, ◌+◌, ◌%◌, ◌<◌, ◌≤◌, ◌≢◌, Some}
use Rattle.sr_base.specs.declared.ring_word.RingWord.{RingWord}
use Rattle.sr_inv_facts.specs.Readings.{EachPipe}
use Rattle.sr_machine.specs.Core.{Core}
use Rattle.sr_machine.specs.Deciding.{ring_count}
use Rattle.sr_machine.specs.Reads.{read_report}
use Rattle.sr_machine.specs.Stages.{ring_cell}
use Rattle.sr_machine.specs.declared.name.Name.TheVariants as name
use Rattle.sr_machine.specs.declared.pipe_view.PipeView.{PipeView}

-- how many words of a pipe's ring the controller has taken: its place
abbrev pub place_in : Core → ℕ → ℕ
place_in s p = (ring_count s.controller.rings p).words

-- From the controller's place up to what its pipe has pushed, at most the ring's length, each number's cell holds a report; each cell that
-- is of none of these numbers is 0.
pub record RingHolds (s : Core) (p : ℕ) (v : PipeView) : Type 0 where
  pub least : place_in s p ≤ v.pushed
  pub most : v.pushed ≤ place_in s p + s.config.layout.shape.ring
  pub reports : (n : ℕ) → place_in s p ≤ n → n < v.pushed
      → (w : RingWord) × (read_report s.config.layout (s.words (ring_cell s.config.layout p n)) ≡ Some w)
  pub others : (cell : ℕ) → ((n : ℕ) → place_in s p ≤ n → n < v.pushed → cell ≢ (n % s.config.layout.shape.ring))
      → s.words (name.Ring p cell) ≡ 0

abbrev pub RingsHold : Core → Type 0
RingsHold s = EachPipe (RingHolds s) s.pipes
