-- A pipe: its next step, what it knows after it, and the entry of a packet.
use Rattle.std.specs.Prelude.{ℕ, ◌+◌, ◌^◌, ◌&&◌, ◌++◌, nat_lt, Bool, true, false, List, [], ◌∷◌, length, Option, Some, None, if◌then◌else◌}
use Rattle.sr_base.specs.Layout.{LayoutView}
use Rattle.sr_base.specs.declared.packet.Packet.{Packet}
use Rattle.sr_law.specs.declared.line.Line.{Line}
use Rattle.sr_law.specs.declared.line.Line.TheVariants as line
use Rattle.sr_law.specs.declared.verdict.Verdict.{Verdict}
use Rattle.sr_machine.specs.Stages.{stage_op, stage_after}
use Rattle.sr_machine.specs.declared.flight.Flight.{Flight}
use Rattle.sr_machine.specs.declared.leg.Last.TheVariants.{Push, Out}
use Rattle.sr_machine.specs.declared.leg.Leg.TheVariants.{Judged}
use Rattle.sr_machine.specs.declared.op.Op.{Op}
use Rattle.sr_machine.specs.declared.pipe_view.PipeView.{PipeView}
use Rattle.sr_machine.specs.declared.stage.Stage.{Stage}
use Rattle.sr_machine.specs.declared.stage.Stage.TheVariants.{Idle, Enter, Fly}

-- the line of a packet that leaves at this tick
abbrev pub packet_line : ℕ → Flight → Verdict → ℕ → Line
packet_line pipe f v out = line.Packet f.packet.number f.entered out pipe f.packet.key f.packet.kind v

-- a report was stored
abbrev pub pushed_after : Stage → ℕ → ℕ
pushed_after (Fly f (Judged v Push)) pushed = pushed + 1
pushed_after stage pushed = pushed

-- the last tick was drawn
abbrev pub lines_after : ℕ → Stage → ℕ → List Line → List Line
lines_after pipe (Fly f (Judged v Out)) x lines = lines ++ packet_line pipe f v x ∷ []
lines_after pipe stage x lines = lines

-- the next step of a pipe that is at this stage
abbrev pub pipe_op : LayoutView → PipeView → Stage → Option Op
pipe_op l v stage = stage_op l v.number v.pushed stage

-- what it knows after this step, which answered this
abbrev pub pipe_after : LayoutView → PipeView → Stage → ℕ → PipeView
pipe_after l v stage x = record v {
  stage = stage_after l stage x;
  pushed = pushed_after stage v.pushed;
  lines = lines_after v.number stage x v.lines;
}

abbrev pub is_idle : Stage → Bool
is_idle Idle = true
is_idle stage = false

-- the layout has the virtual address of the packet
abbrev pub has_vip : LayoutView → Packet → Bool
has_vip l packet = nat_lt packet.key.vip l.vips

-- a packet enters where none is in hand; fewer than 2^32 do
abbrev pub entered : LayoutView → Packet → PipeView → Option PipeView
entered l packet v =
    if is_idle v.stage && (has_vip l packet && nat_lt (length v.lines + 1) (2 ^ 32)) then Some (record v {
      stage =
          Enter packet;
    }) else None

-- a pipe that has done nothing yet
abbrev pub fresh_pipe : ℕ → PipeView
fresh_pipe number = record { number = number; stage = Idle; pushed = 0; lines = [] }
