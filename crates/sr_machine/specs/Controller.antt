-- The controller: its next step, and what it knows after it.
use Rattle.std.specs.Prelude.{ℕ, Option, None, if◌then◌else◌}
use Rattle.sr_machine.specs.Config.{Config}
use Rattle.sr_machine.specs.Deciding.{in_bounds}
use Rattle.sr_machine.specs.Jobs.{job_after, job_op}
use Rattle.sr_machine.specs.Starting.{begun}
use Rattle.sr_machine.specs.declared.controller_view.ControllerView.{ControllerView}
use Rattle.sr_machine.specs.declared.op.Op.{Op}

-- the next step of a controller that has begun its act
abbrev pub begun_op : Config → ControllerView → Option Op
begun_op k c = job_op k c c.job

abbrev pub begun_after : Config → ControllerView → ℕ → ControllerView
begun_after k c x = job_after k c c.job x

-- the next step; none past 2^56 ticks or words
abbrev pub controller_op : Config → ControllerView → Option Op
controller_op k c = if in_bounds c then begun_op k (begun k c) else None

-- what it knows after its step, which answered this
abbrev pub controller_after : Config → ControllerView → ℕ → ControllerView
controller_after k c x = begun_after k (begun k c) x
