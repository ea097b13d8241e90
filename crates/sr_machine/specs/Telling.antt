-- What the controller is told: the time, and to refuse a change.
use Rattle.std.specs.Prelude.{ℕ, ◌&&◌, nat_le, not, is_none, Bool, true, false, List, [], ◌∷◌, Option, Some, None, if◌then◌else◌}
use Rattle.sr_update.specs.Numbers.{NumberRows, first_drained, least_free}
use Rattle.sr_update.specs.Updates.{has_come}
use Rattle.sr_machine.specs.declared.controller_view.ControllerView.{ControllerView}
use Rattle.sr_machine.specs.declared.job.Job.{Job}
use Rattle.sr_machine.specs.declared.job.Job.TheVariants.{Free, Look}
use Rattle.sr_update.specs.declared.give_change.GiveChange.{GiveChange}

-- the clock doesn't fall
abbrev pub is_no_earlier : Option ℕ → ℕ → Bool
is_no_earlier None ms = true
is_no_earlier (Some clock) ms = nat_le clock ms

abbrev pub told_time : ℕ → ControllerView → Option ControllerView
told_time ms c = if is_no_earlier c.clock ms then Some (record c { clock = Some ms }) else None

-- no job is in progress; a look at the rings is none
abbrev pub is_at_leisure : Job → Bool
is_at_leisure Free = true
is_at_leisure (Look pipe) = true
is_at_leisure j = false

-- the first change of a pool that is due finds no free number of its virtual address: this is that change
abbrev pub full_change : Option ℕ → NumberRows → List GiveChange → Option GiveChange
full_change clock numbers [] = None
full_change clock numbers (g ∷ rest) = if has_come g.at_ms clock && is_none (least_free g.vip numbers) then Some g else None

-- nothing that the controller does could free a number for it
abbrev pub may_refuse : ControllerView → Bool
may_refuse c =
    not c.refusing && (is_none c.update && (is_at_leisure c.job && (is_none (first_drained c.numbers c.book.entries)
    && not (is_none (full_change c.clock c.numbers c.gives)))))

abbrev pub told_to_refuse : ControllerView → Option ControllerView
told_to_refuse c = if may_refuse c then Some (record c { refusing = true }) else None
