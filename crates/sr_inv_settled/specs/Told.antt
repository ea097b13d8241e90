-- What the lines tell of a script's changes: those that were made or refused, in the script's order, and the servers that were taken down.
use Rattle.std.specs.List.{AllByRecursion}
use Rattle.std.specs.Prelude.{◌≡◌, ℕ, ◌<◌, Bool, true, List, [], ◌∷◌, ◌++◌, map, reverse, Option}
use Rattle.sr_inv_facts.specs.InCauses.{setup_of}
use Rattle.sr_inv_facts.specs.InUpdate.{AllTaken}
use Rattle.sr_law.specs.Settled.{DueGive, downs_of, gives_settled}
use Rattle.sr_law.specs.declared.line.Line.{Line}
use Rattle.sr_machine.specs.Config.{Config}
use Rattle.sr_machine.specs.Core.{Core, printed}
use Rattle.sr_machine.specs.Opening.{outages_in}
use Rattle.sr_machine.specs.declared.job.Job.{Job}
use Rattle.sr_machine.specs.declared.outage.Outage.{Outage}
use Rattle.sr_machine.specs.declared.pool_update.PoolUpdate.{PoolUpdate}
use Rattle.sr_shadow.specs.declared.entry.Entry.{Entry}
use Rattle.sr_update.specs.Numbers.{NumberRows}
use Rattle.sr_update.specs.Updates.{gives_after, has_come}
use Rattle.sr_update.specs.declared.give_change.GiveChange.{GiveChange}
use Rattle.sr_machine.specs.declared.draw.Draw.TheVariants as draw
use Rattle.sr_machine.specs.declared.store.Store.TheVariants as store
use Rattle.sr_machine.specs.declared.job.Job.TheVariants as job

-- ---- pools

-- the change as a judge of lines sees it
abbrev pub due_of : GiveChange → DueGive
due_of g = record { position = g.position; vip = g.vip; pool = g.pool }

-- the clock has reached these changes
abbrev pub HaveCome : Option ℕ → List GiveChange → Type 0
HaveCome clock gives = AllByRecursion (λ g. has_come g.at_ms clock ≡ true) gives

-- the clock has reached the first of the changes that are still to be made
abbrev pub IsFirstDue : Option ℕ → List GiveChange → Type 0
IsFirstDue clock [] = ⊥
IsFirstDue clock (g ∷ rest) = has_come g.at_ms clock ≡ true

-- one change was taken, and this update makes it
pub record IsMadeBy (u : PoolUpdate) (taken : List GiveChange) : Type 0 where
  pub change : GiveChange
  pub one : taken ≡ change ∷ []
  pub vip : change.vip ≡ u.vip
  pub pool : change.pool ≡ u.pool

-- one change was taken, and is about to be refused: no version of its virtual address is free
pub record IsRefusedAs (k : Config) (numbers : NumberRows) (entries : List Entry) (position : ℕ) (taken : List GiveChange) : Type 0 where
  pub change : GiveChange
  pub one : taken ≡ change ∷ []
  pub position_is : change.position ≡ position
  pub below : change.vip < k.layout.vips
  pub full : AllTaken k.layout.shape.versions numbers entries change.vip

-- the change that was taken and of which no line tells yet, if there is one
abbrev pub IsTaken : Config → NumberRows → List Entry → Job → List GiveChange → Type 0
IsTaken k numbers entries (job.Draw (draw.Refused position)) taken = IsRefusedAs k numbers entries position taken
IsTaken k numbers entries (job.Draw (draw.Given u)) taken = IsMadeBy u taken
IsTaken k numbers entries (job.Store (store.Member u index)) taken = IsMadeBy u taken
IsTaken k numbers entries (job.Store (store.Head u)) taken = IsMadeBy u taken
IsTaken k numbers entries j taken = taken ≡ []

-- The changes of pools are those that the lines tell of, in their order, the one that was taken since, and those that are still to be made; what was taken had
-- come due, and so has what is to be refused.
pub record GivesTold (k : Config) (clock : Option ℕ) (lines : List Line) (numbers : NumberRows) (entries : List Entry) (gives : List GiveChange) (refusing : Bool) (j : Job) : Type 0 where
  pub made : List GiveChange
  pub taken : List GiveChange
  pub all : gives_after [] k.changes ≡ made ++ (taken ++ gives)
  pub due : HaveCome clock (made ++ taken)
  pub aim : IsTaken k numbers entries j taken
  pub told : gives_settled (setup_of k) [] (map due_of made) (reverse lines) ≡ true
  pub first : refusing ≡ true → IsFirstDue clock gives

abbrev pub GivesKept : Core → Type 0
GivesKept s =
    GivesTold s.config s.controller.clock (printed s) s.controller.numbers s.controller.book.entries s.controller.gives s.controller.refusing s.controller.job

-- ---- servers

-- the lines tell of the servers that were taken down, and what took them down had come due
pub record DownsTold (k : Config) (clock : Option ℕ) (lines : List Line) (down : List ℕ) (outages : List Outage) : Type 0 where
  pub made : List Outage
  pub all : outages_in k.changes ≡ made ++ outages
  pub due : AllByRecursion (λ o. has_come o.at_ms clock ≡ true) made
  pub told : downs_of lines ≡ reverse down

abbrev pub DownsKept : Core → Type 0
DownsKept s = DownsTold s.config s.controller.clock (printed s) s.controller.down s.controller.outages
