-- A packet handled at one go.
use Rattle.std.specs.Prelude.{◌≡◌, ℕ, ◌≤◌, ◌++◌, true, List, [], ◌∷◌, length}
use Rattle.sr_base.specs.Layout.{LayoutView}
use Rattle.sr_base.specs.declared.packet.Packet.{Packet}
use Rattle.sr_law.specs.declared.line.Line.{Line}
use Rattle.sr_law.specs.declared.line.Line.TheVariants as line
use Rattle.sr_law.specs.declared.verdict.Verdict.{Verdict}
use Rattle.sr_machine.specs.Pipe.{is_idle}
use Rattle.sr_machine.specs.declared.pipe_view.PipeView.{PipeView}
use Rattle.sr_machine.specs.declared.stage.Stage.TheVariants.{Enter}
use Rattle.sr_pipe.specs.Causes.{HasCause}
use Rattle.sr_pipe.specs.Known.{FitsThen, Known}
use Rattle.sr_core.specs.Making.{ShowsSteps}
use Rattle.sr_pipe.specs.Steps.{AreSteps, steps_made, view_after_all}
use Rattle.sr_pipe.specs.Told.{told_by}

-- what a pipe knows once a packet has entered
abbrev pub with_packet : Packet → PipeView → PipeView
with_packet packet v = record v { stage = Enter packet }

-- this is the line of the packet, with this verdict
abbrev pub IsLineOf : ℕ → Packet → Verdict → Line → Type 0
IsLineOf pipe packet verdict l =
    (entered : ℕ) × (out : ℕ) × (l ≡ line.Packet packet.number entered out pipe packet.key packet.kind verdict)

-- A pipe that knew this has handled the packet: it has made the packet's steps, to the last one, and written this line.
pub record Handled (l : LayoutView) (packet : Packet) (v w : PipeView) (written : Line) (answers : List ℕ) : Type 0 where
  -- the steps are the packet's, each the pipe's next one
  pub each : AreSteps l (with_packet packet v) answers
  pub view : view_after_all l (with_packet packet v) answers ≡ w
  -- they are its last ones, and 25 at most
  pub idle : is_idle w.stage ≡ true
  pub few : length answers ≤ 25
  -- its line was written, with a verdict that has its cause in the words that were loaded
  pub line : w.lines ≡ v.lines ++ written ∷ []
  pub verdict : (verdict : Verdict) × IsLineOf v.number packet verdict written
      × HasCause l packet (told_by l packet.key (steps_made l (with_packet packet v) answers)) verdict

-- A packet was handled on a board: for some answers, which are those of the words where these are told.
pub record HandledOn (l : LayoutView) (packet : Packet) (old : Known) (v : PipeView) (new : Known) (w : PipeView) (written : Line)
    : Type 0 where
  pub answers : List ℕ
  pub handled : Handled l packet v w written answers
  pub fits : FitsThen l old v new w
  pub words : ShowsSteps old.shows (steps_made l (with_packet packet v) answers) new.shows
