-- What follows for whoever holds boards, and for what is stored.
use Rattle.std.specs.Prelude.{◌≡◌, ℕ, ◌+◌, true, List, [], Some}
use Rattle.sr_inv_facts.specs.Fitted.{IsFitted}
use Rattle.sr_inv_facts.specs.Flying.{OnLeg}
use Rattle.sr_inv_facts.specs.Invariant.{Invariant}
use Rattle.sr_inv_facts.specs.Readings.{EachPipe}
use Rattle.sr_inv_final.specs.Reached.{IsReached}
use Rattle.sr_inv_packets.specs.Numbers.{IsUnused}
use Rattle.sr_machine.specs.Config.{Config}
use Rattle.sr_machine.specs.Controller.{controller_op}
use Rattle.sr_machine.specs.Core.{Core}
use Rattle.sr_machine.specs.declared.controller_view.ControllerView.{ControllerView}
use Rattle.sr_machine.specs.declared.name.Name.TheVariants.{Head, Member}
use Rattle.sr_machine.specs.declared.op.Op.{Op}
use Rattle.sr_machine.specs.declared.op.Op.TheVariants.{Stores}
use Rattle.sr_machine.specs.declared.pipe_view.PipeView.{PipeView}
use Rattle.sr_machine.specs.declared.view.View.{View}
use Rattle.sr_machine.specs.declared.view.View.TheVariants.{OfPipe, OfController}
use Rattle.sr_words.specs.Besides.{all_but_first}
use Rattle.sr_words.specs.Boarding.{is_controlled, number_of}
use Rattle.sr_words.specs.Steps.{FitsSeat, IsShown, IsStepFrom}
use Rattle.sr_words.specs.declared.heard.Heard.{Heard}
use Rattle.sr_words.specs.declared.seated.Seated.{Seated}

-- the state that shows some actors' views meets the invariant, whose last part says that its lines so far break no clause
abbrev pub ShownStatesMeet : Type 0
ShownStatesMeet = (k : Config) (views : List View) → (s : IsShown k views) → Invariant s.state

-- and so does the one in which a step was made
abbrev pub StepsAreMadeIn : Type 0
StepsAreMadeIn = (k : Config) (views : List View) (o : Op) (answer : ℕ) → (s : IsStepFrom k views o answer) → Invariant s.state

-- no packet in flight of the virtual address has loaded, found or chosen the version
abbrev pub IsUnchosen : Core → ℕ → ℕ → Type 0
IsUnchosen s vip n = EachPipe (λ p v. OnLeg v.stage (λ f leg. f.packet.key.vip ≡ vip → IsUnused f leg n)) s.pipes

-- the version that a head or a member is stored for
abbrev pub OnVersion : Op → (ℕ → ℕ → Type 0) → Type 0
OnVersion (Stores (Head vip n) x) P = P vip n
OnVersion (Stores (Member vip n index) x) P = P vip n
OnVersion o P = Unit {0}

-- where the controller's next step in a state that events lead to is to store a head or a member, its version is unchosen
abbrev pub HeadsAreUnchosen : Type 0
HeadsAreUnchosen =
    (k : Config) (s : Core) (o : Op) → IsFitted k → IsReached k s → controller_op s.config s.controller ≡ Some o
    → OnVersion o (IsUnchosen s)

-- a board of one actor alone that fits a view of a pipe is of that pipe
abbrev pub BoardsKnowPipes : Type 0
BoardsKnowPipes =
    (made_for : Config) (seat : Seated) (h : Heard) (k : Config) (v : PipeView) → FitsSeat made_for seat h k (OfPipe v)
    → all_but_first seat.actors ≡ [] → number_of seat.actors ≡ v.number + 1

-- and one that fits a view of the controller is the controller's
abbrev pub BoardsKnowController : Type 0
BoardsKnowController =
    (made_for : Config) (seat : Seated) (h : Heard) (k : Config) (c : ControllerView) → FitsSeat made_for seat h k (OfController c)
    → all_but_first seat.actors ≡ [] → is_controlled seat.actors ≡ true
