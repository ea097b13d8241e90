-- What a seat's step is, and which views a board fits.
use Rattle.std.specs.Prelude.{◌≡◌, ℕ, List, ◌∷◌, Option, Some}
use Rattle.sr_inv_facts.specs.Fitted.{IsFitted}
use Rattle.sr_inv_final.specs.Reached.{IsReached}
use Rattle.sr_machine.specs.Boards.{ShowsAfter}
use Rattle.sr_machine.specs.Config.{Config}
use Rattle.sr_machine.specs.Core.{Core, view_after, view_op}
use Rattle.sr_machine.specs.Ops.{op_answer, op_name}
use Rattle.sr_machine.specs.declared.op.Op.{Op}
use Rattle.sr_machine.specs.declared.view.View.{View}
use Rattle.sr_words.specs.Hearing.{told}
use Rattle.sr_words.specs.Seats.{AllShown, ShowsKnown}
use Rattle.sr_words.specs.declared.heard.Heard.{Heard}
use Rattle.sr_words.specs.declared.seated.Seated.{Seated}

-- The step of the first of these views was made in a state that events lead to, which shows them all, and answered what its words tell.
pub record IsStepFrom (k : Config) (views : List View) (o : Op) (answer : ℕ) : Type 0 where
  pub fitted : IsFitted k
  pub state : Core
  pub reached : IsReached k state
  pub shown : AllShown state views
  pub answers : answer ≡ op_answer o (state.words (op_name o))

-- The seat's first actor, who was told this before, has made its next step, and knows what it knows after it. Where the seat knew the words, the answer
-- is theirs, and it knows the words after the step.
abbrev pub Makes : Config → Heard → Seated → ℕ → Seated → Type 0
Makes k h old answer new =
    (x y : View) (rest : List View) (o : Op) → old.actors ≡ x ∷ rest → told h k x ≡ Some y → view_op k y ≡ Some o
    → (new.actors ≡ view_after k y answer ∷ rest) × IsStepFrom k (y ∷ rest) o answer
    × ShowsAfter (ShowsKnown k.layout old.words) o answer (ShowsKnown k.layout new.words)

-- the view of a seat's first actor, who was told this
abbrev pub FitsSeat : Config → Seated → Heard → Config → View → Type 0
FitsSeat made_for seat h k y =
    (k ≡ made_for) × (x : View) × (rest : List View) × (seat.actors ≡ x ∷ rest) × (told h k x ≡ Some y)

-- Events lead to a state in which each of these actors knows this.
pub record IsShown (k : Config) (views : List View) : Type 0 where
  pub fitted : IsFitted k
  pub state : Core
  pub reached : IsReached k state
  pub shown : AllShown state views

-- a seat's actors, the first of whom was told this, know this in a state that events lead to
abbrev pub ShowsAll : Config → Seated → Heard → Type 0
ShowsAll k seat h =
    (x y : View) (rest : List View) → seat.actors ≡ x ∷ rest → told h k x ≡ Some y → IsShown k (y ∷ rest)

-- Events lead to a state in which each of these actors knows this, and whose words are those that are known.
pub record IsKnown (k : Config) (views : List View) (list : Option (List ℕ)) : Type 0 where
  pub shown : IsShown k views
  pub words : ShowsKnown k.layout list shown.state.words

-- a seat's actors, the first of whom was told this, know this in a state that events lead to, and the seat has come to know its words
abbrev pub Learns : Config → Heard → Seated → Seated → Type 0
Learns k h old new =
    (new.actors ≡ old.actors)
    × ((x y : View) (rest : List View) → old.actors ≡ x ∷ rest → told h k x ≡ Some y → IsKnown k (y ∷ rest) new.words)

-- a look changes nothing, and tells what the seat's actors know
abbrev pub Looks : Config → Heard → Seated → Seated → Type 0
Looks k h old new = (new ≡ old) × ShowsAll k old h
