-- Turns of the controller, one after another.
use Rattle.std.proofs.Common.{◌≡◌, ◌∙◌, ℕ, List, [], ◌∷◌, refl, sym, ap}
use Rattle.sr_ctl.specs.SeenController.{SeenController}
use Rattle.sr_ctl.specs.Steps.{view_after_all}
use Rattle.sr_ctl.specs.Turned.{Makes}
use Rattle.sr_machine.specs.Config.{Config}
use Rattle.sr_machine.specs.Controller.{controller_after}
use Rattle.sr_machine.specs.declared.controller_view.ControllerView.{ControllerView}
use Rattle.sr_machine.specs.declared.name.Name.{Name}
use Rattle.sr_machine.specs.declared.turn.Turn.{Turn}
use Rattle.sr_machine.specs.declared.turn.Turn.TheVariants as turn
use Rattle.sr_machine.specs.declared.view.View.{View}
use Rattle.sr_threads.specs.Governing.{Governed, Governs}
use Rattle.sr_words.specs.declared.word_board.WordBoard.{WordBoard}

-- a step tells no time
timeless : (k : Config) (c : ControllerView) (answers : List ℕ) → (view_after_all k c answers).clock ≡ c.clock
timeless k c [] = refl
timeless k c (x ∷ rest) = timeless k (controller_after k c x) rest

-- nor does a turn
pub turn_timeless : (k : Config) (fits : Config → View → Type 0) (shows : (Name → ℕ) → Type 0) (c : ControllerView) (t : Turn)
    (after : Config → View → Type 0) (shows_after : (Name → ℕ) → Type 0) (d : ControllerView) → Makes k fits shows c t after shows_after d
    → d.clock ≡ c.clock
turn_timeless k fits shows c turn.Memory after shows_after d h = ap (λ (e : ControllerView). e.clock) h
turn_timeless k fits shows c (turn.Did act) after shows_after d h =
    ap (λ (e : ControllerView). e.clock) (sym h.turned.view) ∙ timeless k c h.answers
turn_timeless k fits shows c (turn.NotYet pipe entered) after shows_after d h =
    ap (λ (e : ControllerView). e.clock) (sym h.turned.view) ∙ timeless k c h.answers
turn_timeless k fits shows c (turn.NoRoom key) after shows_after d h =
    ap (λ (e : ControllerView). e.clock) (sym h.turned.view) ∙ timeless k c h.answers
turn_timeless k fits shows c (turn.VersionsFull vip) after shows_after d h =
    ap (λ (e : ControllerView). e.clock) (sym h.turned.view) ∙ timeless k c h.answers
turn_timeless k fits shows c turn.Idle after shows_after d h =
    ap (λ (e : ControllerView). e.clock) (sym h.turned.view) ∙ timeless k c h.answers

pub governed_still : (a : WordBoard) (c : SeenController) → Governs a c → Governed a c a c
governed_still a c g = record { config = refl; board = g; belongs = refl; clock = refl }

pub governed_then : (a b e : WordBoard) (c d f : SeenController) → Governed a c b d → Governed b d e f → Governed a c e f
governed_then a b e c d f g h = record {
  config = h.config ∙ g.config;
  board = h.board;
  belongs = h.belongs ∙ g.belongs;
  clock = h.clock ∙ g.clock;
}
