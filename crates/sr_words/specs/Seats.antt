-- What the seats of the table know, and how a state shows it.
use Rattle.std.specs.Prelude.{◌≡◌, ◌≢◌, ℕ, ◌+◌, ◌==◌, Bool, true, false, List, [], ◌∷◌, ◌++◌, map, Option, Some, None, if◌then◌else◌}
use Rattle.atomic_table.specs.Table.{State}
use Rattle.sr_base.specs.Layout.{LayoutView}
use Rattle.sr_core.specs.PlainWords.{ShowsWords}
use Rattle.sr_machine.specs.Config.{Config}
use Rattle.sr_machine.specs.Core.{Core, view_at}
use Rattle.sr_machine.specs.Opening.{opening_controller, opening_pipes}
use Rattle.sr_machine.specs.declared.actor.Actor.{Actor}
use Rattle.sr_machine.specs.declared.actor.Actor.TheVariants.{Pipe, Controller}
use Rattle.sr_machine.specs.declared.name.Name.{Name}
use Rattle.sr_machine.specs.declared.view.View.{View}
use Rattle.sr_machine.specs.declared.view.View.TheVariants.{OfPipe, OfController}
use Rattle.sr_words.specs.declared.seated.Seated.{Seated}
use lib.ListN.{get_elem?}
use mathlib.Core.Option.{some}

-- whose view it is
abbrev pub actor_of : View → Actor
actor_of (OfPipe v) = Pipe v.number
actor_of (OfController c) = Controller

abbrev pub same_actor : Actor → Actor → Bool
same_actor (Pipe p) (Pipe q) = p == q
same_actor (Pipe p) Controller = false
same_actor Controller (Pipe q) = false
same_actor Controller Controller = true

-- each of the views is its actor's in the state
abbrev pub AllShown : Core → List View → Type 0
AllShown s [] = Unit {0}
AllShown s (x ∷ rest) = (view_at s (actor_of x) ≡ Some x) × AllShown s rest

-- how many of the views are this actor's
abbrev pub times_in : Actor → List View → ℕ
times_in a [] = 0
times_in a (x ∷ rest) = (if same_actor a (actor_of x) then 1 else 0) + times_in a rest

-- and how many of those of all seats
abbrev pub claimed : Actor → List Seated → ℕ
claimed a [] = 0
claimed a (seat ∷ rest) = times_in a seat.actors + claimed a rest

-- it knows nothing of the words
abbrev pub seated : List View → Seated
seated actors = record { actors = actors; words = None }

-- ---- the words that a seat knows

-- they are those of the table, and no other seat has an actor
abbrev pub IsSure : State (Unit {0}) Seated → ℕ → Option (List ℕ) → Type 0
IsSure t id None = Unit {0}
IsSure t id (Some list) =
    (list ≡ t.words) × ((j : ℕ) (other : Seated) → j ≢ id → get_elem? t.views j ≡ some other → other.actors ≡ [])

-- once the table's words are these: a seat that knew them knows them still
abbrev pub still_known : Option (List ℕ) → List ℕ → Option (List ℕ)
still_known None list = None
still_known (Some old) list = Some list

-- by their names
abbrev pub ShowsKnown : LayoutView → Option (List ℕ) → (Name → ℕ) → Type 0
ShowsKnown l None words = ⊥
ShowsKnown l (Some list) words = ShowsWords l list words

-- ---- two views of one seat

-- a seat's second view is taken off
abbrev pub without_second : List View → List View
without_second [] = []
without_second (x ∷ []) = x ∷ []
without_second (x ∷ y ∷ rest) = x ∷ rest

abbrev pub only_second : List View → List View
only_second [] = []
only_second (x ∷ []) = []
only_second (x ∷ y ∷ rest) = y ∷ []

-- the views of two seats
abbrev pub together : Seated → Seated → Seated
together v w = seated (v.actors ++ w.actors)

-- the views at the beginning, the controller's first
abbrev pub first_views : Config → List View
first_views k = OfController (opening_controller k) ∷ map OfPipe (opening_pipes k)

-- the first seat steps for all
abbrev pub first_seated : Config → Seated
first_seated k = seated (first_views k)

-- no machine is made for this
abbrev pub no_config : Config
no_config = record {
  layout = record {
    shape = record {
      pipes = 0;
      buckets = 0;
      digest_bits = 0;
      versions = 0;
      pool_max = 0;
      full_rows = 0;
      filter_bits = 0;
      ring = 0;
      window_ms = 0;
      idle_ms = 0;
      lives = 0;
    };
    vips = 0;
    servers = 0;
  };
  pools = [];
  changes = [];
}
