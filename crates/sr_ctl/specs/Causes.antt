-- Why a turn answers what it answers: the words that it loaded, and what the controller knew.
use Rattle.std.specs.Prelude.{◌≡◌, ℕ, ◌<◌, true, List, [], ◌∷◌, find, map, Contains, Some, None}
use Rattle.std.specs.List.{range_with_len}
use Rattle.sr_core.specs.Making.{Made}
use Rattle.sr_machine.specs.Begins.{NoAct}
use Rattle.sr_machine.specs.Config.{Config}
use Rattle.sr_machine.specs.Deciding.{ring_count}
use Rattle.sr_machine.specs.Stages.{ring_cell}
use Rattle.sr_machine.specs.Telling.{full_change}
use Rattle.sr_machine.specs.declared.controller_view.ControllerView.{ControllerView}
use Rattle.sr_machine.specs.declared.job.Job.TheVariants.{Free, Pass}
use Rattle.sr_machine.specs.declared.name.Name.TheVariants.{Note}
use Rattle.sr_machine.specs.declared.op.Op.TheVariants.{Loads, Swaps}
use Rattle.sr_machine.specs.declared.turn.Turn.{Turn}
use Rattle.sr_machine.specs.declared.turn.Turn.TheVariants as turn
use Rattle.sr_machine.specs.declared.wait.Wait.{Wait}
use Rattle.sr_shadow.specs.Entry.{is_pending}
use Rattle.sr_shadow.specs.Plan.{first_plan}
use Rattle.sr_shadow.specs.declared.entry.Entry.{Entry}
use Rattle.sr_shadow.specs.declared.plan.Plan.TheVariants as plan
use Rattle.sr_update.specs.declared.give_change.GiveChange.{GiveChange}

-- A pipe's note was loaded, in a wait: its packet had entered before the wait began. Nothing has changed.
pub record SawPacket (c : ControllerView) (steps : List Made) (pipe entered : ℕ) (d : ControllerView) : Type 0 where
  pub grace : ℕ
  pub waiting : Wait
  pub job : c.job ≡ Pass grace pipe waiting
  pub loaded : steps ≡ record { op = Loads (Note pipe); answer = entered } ∷ []
  pub up : 0 < entered
  pub before : entered < grace
  pub same : d ≡ c

-- the next cell of a pipe's ring was swapped, and was empty
abbrev pub empty_swap : Config → ControllerView → ℕ → Made
empty_swap k c pipe = record { op = Swaps (ring_cell k.layout pipe (ring_count c.rings pipe).words) 0; answer = 0 }

-- No act applies, the next cell of each ring was swapped, in the order of the pipes, and was empty. Nothing has changed.
pub record FoundNothing (k : Config) (c : ControllerView) (steps : List Made) (d : ControllerView) : Type 0 where
  pub free : c.job ≡ Free
  pub acts : NoAct k c
  pub rings : steps ≡ map (empty_swap k c) (range_with_len 0 k.layout.shape.pipes)
  pub same : d ≡ c

-- no key that waits for a place has a plan
abbrev pub HaveNoPlan : Config → ControllerView → Type 0
HaveNoPlan k c = (e : Entry) → Contains c.book.entries e → is_pending e ≡ true
    → first_plan k.layout.shape c.book.entries e.key ≡ plan.NoRoom

abbrev pub HasCause : Config → ControllerView → List Made → Turn → ControllerView → Type 0
HasCause k c steps (turn.Did act) d = Unit {0}
HasCause k c steps (turn.NotYet pipe entered) d = SawPacket c steps pipe entered d
HasCause k c steps (turn.NoRoom key) d = FoundNothing k c steps d × HaveNoPlan k c
    × ((e : Entry) × (find is_pending c.book.entries ≡ Some e) × (key ≡ e.key))
HasCause k c steps (turn.VersionsFull vip) d = FoundNothing k c steps d × (find is_pending c.book.entries ≡ None)
    × ((g : GiveChange) × (full_change c.clock c.numbers c.gives ≡ Some g) × (vip ≡ g.vip))
HasCause k c steps turn.Idle d = FoundNothing k c steps d × (find is_pending c.book.entries ≡ None)
    × (full_change c.clock c.numbers c.gives ≡ None)
HasCause k c steps turn.Memory d = ⊥
