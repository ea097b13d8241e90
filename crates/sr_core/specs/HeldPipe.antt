-- A pipe's machine as what the pipe knows, with the layout that it was made of and the room that it has for lines.
use Rattle.std.specs.Prelude.{ℕ, ◌+◌, ◌-◌, ◌^◌, ◌<◌}
use Rattle.sr_base.specs.Layout.{LayoutView}
use Rattle.sr_machine.specs.declared.leg.Last.TheVariants as last
use Rattle.sr_machine.specs.declared.leg.Leg.TheVariants as leg
use Rattle.sr_machine.specs.declared.pipe_view.PipeView.{PipeView}
use Rattle.sr_machine.specs.declared.stage.Stage.{Stage}
use Rattle.sr_machine.specs.declared.stage.Stage.TheVariants as stage

pub record HeldPipe : Type 0 where
  pub layout : LayoutView
  pub view : PipeView
  pub room : ℕ

-- the room after a step at this stage: its line takes some
abbrev pub room_after : Stage → ℕ → ℕ
room_after (stage.Fly flight (leg.Judged verdict last.Out)) room = room - 1
room_after at room = room

-- while a packet's line isn't written there is room for it, and fewer than 2^32 - 1 lines are
abbrev pub HasRoom : Stage → ℕ → ℕ → Type 0
HasRoom stage.Idle room lines = Unit {0}
HasRoom (stage.Enter packet) room lines = (0 < room) × (lines + 1 < 2 ^ 32)
HasRoom (stage.Note packet entered) room lines = (0 < room) × (lines + 1 < 2 ^ 32)
HasRoom (stage.Vip packet entered) room lines = (0 < room) × (lines + 1 < 2 ^ 32)
HasRoom (stage.Fly flight leg) room lines = (0 < room) × (lines + 1 < 2 ^ 32)
HasRoom (stage.Leave flight) room lines = Unit {0}

-- how many reports were pushed at most, where so many lines were written: each packet pushes one, before it writes its line
abbrev pub most_pushed : Stage → ℕ → ℕ
most_pushed (stage.Fly flight (leg.Judged verdict last.Out)) lines = lines + 1
most_pushed at lines = lines

-- how many lines there are after a step at this stage
abbrev pub lines_count : Stage → ℕ → ℕ
lines_count (stage.Fly flight (leg.Judged verdict last.Out)) lines = lines + 1
lines_count at lines = lines
