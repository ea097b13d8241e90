-- What an actor does on the plain words, as the machine's event or turn.
use Rattle.std.specs.Prelude.{◌≡◌, ℕ, Bool, List, Option, None, Some, unwrap_or}
use Rattle.sr_base.specs.Layout.{LayoutView}
use Rattle.sr_base.specs.declared.packet.Packet.{Packet}
use Rattle.sr_core.specs.HeldCore.{HeldCore, Shows, state_of}
use Rattle.sr_core.specs.HeldPipe.{HeldPipe}
use Rattle.sr_core.specs.PlainWords.{HeldWords, ShowsWords}
use Rattle.sr_ctl.specs.SeenController.{SeenController}
use Rattle.sr_interleave.specs.Together.{held}
use Rattle.sr_machine.specs.Ops.{op_answer, op_name, op_words}
use Rattle.sr_machine.specs.Pipe.{entered, pipe_after, pipe_op}
use Rattle.sr_machine.specs.declared.event.Event.{Event}
use Rattle.sr_machine.specs.declared.name.Name.{Name}
use Rattle.sr_machine.specs.declared.op.Op.{Op}
use Rattle.sr_machine.specs.declared.pipe_view.PipeView.{PipeView}
use Rattle.sr_machine.specs.declared.turn.Turn.{Turn}
use Rattle.sr_picks.specs.Play.{finds_nothing}
use Rattle.sr_picks.specs.Turn.{after, turn_of}

-- ---- one pipe

-- a pipe has this step, or none, and made it on words that were these
abbrev pub StepsBy : Option Op → LayoutView → (Name → ℕ) → PipeView → HeldWords → PipeView → Type 0
StepsBy None l words v new w = (w ≡ v) × ShowsWords new.layout new.words words
StepsBy (Some o) l words v new w =
    (w ≡ pipe_after l v v.stage (op_answer o (words (op_name o)))) × ShowsWords new.layout new.words (op_words words o)

-- a pipe made its next step, if it has one, on these words, and left those
abbrev pub StepsOn : HeldWords → PipeView → HeldWords → PipeView → Type 0
StepsOn old v new w =
    (words : Name → ℕ) → ShowsWords old.layout old.words words → StepsBy (pipe_op old.layout v v.stage) old.layout words v new w

-- a packet has entered on a pipe, where it can; the words are as they were
pub record EntersOn (packet : Packet) (old : HeldWords) (v : PipeView) (new : HeldWords) (w : PipeView) : Type 0 where
  pub view : w ≡ unwrap_or (entered old.layout packet v) v
  pub words : (words : Name → ℕ) → ShowsWords old.layout old.words words → ShowsWords new.layout new.words words

-- ---- the machine

-- whatever state the machine stood for, it stands for what an event makes of it
abbrev pub EventMade : Event → HeldCore → HeldCore → Type 0
EventMade e old new =
    (words : Name → ℕ) → ShowsWords old.config.layout old.words words → Shows new (after e (state_of old words))

-- so it does with any controller of its layout
abbrev pub MadeOn : Event → HeldWords → List HeldPipe → HeldWords → List HeldPipe → Type 0
MadeOn e board pipes new after =
    (c : SeenController) → c.config.layout ≡ board.layout → EventMade e (held board pipes c) (held new after c)

-- and for what two events make of it, one after the other
abbrev pub BothMadeOn : Event → Event → HeldWords → List HeldPipe → HeldWords → List HeldPipe → Type 0
BothMadeOn first second board pipes new now =
    (c : SeenController) → c.config.layout ≡ board.layout
    → (words : Name → ℕ) → ShowsWords c.config.layout board.words words
    → Shows (held new now c) (after second (after first (state_of (held board pipes c) words)))

-- and for what a turn makes of it, which answered this
abbrev pub TurnMade : Option Turn → HeldCore → HeldCore → Type 0
TurnMade answer old new =
    (words : Name → ℕ) → ShowsWords old.config.layout old.words words
    → ((turn_of (state_of old words)).answer ≡ answer) × Shows new (turn_of (state_of old words)).state

-- A turn was made, whatever the pipes know. It found nothing to do, or it did something.
pub record TurnMadeOn (nothing : Bool) (board : HeldWords) (c : SeenController) (new : HeldWords) (d : SeenController) : Type 0 where
  pub answer : Turn
  pub found : nothing ≡ finds_nothing (Some answer)
  pub turn : (pipes : List HeldPipe) → TurnMade (Some answer) (held board pipes c) (held new pipes d)
