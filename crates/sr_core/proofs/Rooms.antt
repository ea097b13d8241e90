-- A pipe's machine keeps its counts and its room.
use Rattle.std.proofs.Common.{◌≡◌, ℕ, ◌-◌, ◌^◌, ◌<◌, ◌≤◌, refl, arith}
use Rattle.sr_base.specs.Layout.{LayoutView}
use Rattle.sr_machine.specs.Pipe.{pushed_after}
use Rattle.sr_machine.specs.Stages.{stage_after}
use Rattle.sr_machine.specs.declared.leg.Last.TheVariants as last
use Rattle.sr_machine.specs.declared.leg.Leg.TheVariants as leg
use Rattle.sr_machine.specs.declared.stage.Stage.{Stage}
use Rattle.sr_machine.specs.declared.stage.Stage.TheVariants as stage
use Rattle.sr_core.specs.HeldPipe.{HasRoom, lines_count, most_pushed, room_after}

most_least : (s : Stage) (n : ℕ) → n ≤ most_pushed s n
most_least stage.Idle n = omega arith
most_least (stage.Enter packet) n = omega arith
most_least (stage.Note packet entered) n = omega arith
most_least (stage.Vip packet entered) n = omega arith
most_least (stage.Fly f (leg.Look place rest)) n = omega arith
most_least (stage.Fly f (leg.Hit place version)) n = omega arith
most_least (stage.Fly f (leg.Filter bit rest)) n = omega arith
most_least (stage.Fly f (leg.Chosen version next)) n = omega arith
most_least (stage.Fly f (leg.Judged v last.Ring)) n = omega arith
most_least (stage.Fly f (leg.Judged v (last.Mark bit rest))) n = omega arith
most_least (stage.Fly f (leg.Judged v last.Push)) n = omega arith
most_least (stage.Fly f (leg.Judged v last.Out)) n = omega arith
most_least (stage.Leave f) n = omega arith

module _ (l : LayoutView) (x pushed n : ℕ) where
  pushes_after : (s : Stage) → pushed ≤ most_pushed s n
      → pushed_after s pushed ≤ most_pushed (stage_after l s x) (lines_count s n)
  pushes_after stage.Idle h = h
  pushes_after (stage.Enter packet) h = h
  pushes_after (stage.Note packet entered) h = h
  pushes_after (stage.Vip packet entered) h = omega (arith, h, most_least (stage_after l (stage.Vip packet entered) x) n)
  pushes_after (stage.Fly f (leg.Look place rest)) h =
      omega (arith, h, most_least (stage_after l (stage.Fly f (leg.Look place rest)) x) n)
  pushes_after (stage.Fly f (leg.Hit place version)) h =
      omega (arith, h, most_least (stage_after l (stage.Fly f (leg.Hit place version)) x) n)
  pushes_after (stage.Fly f (leg.Filter bit rest)) h =
      omega (arith, h, most_least (stage_after l (stage.Fly f (leg.Filter bit rest)) x) n)
  pushes_after (stage.Fly f (leg.Chosen version next)) h =
      omega (arith, h, most_least (stage_after l (stage.Fly f (leg.Chosen version next)) x) n)
  pushes_after (stage.Fly f (leg.Judged v last.Ring)) h =
      omega (arith, h, most_least (stage_after l (stage.Fly f (leg.Judged v last.Ring)) x) n)
  pushes_after (stage.Fly f (leg.Judged v (last.Mark bit rest))) h =
      omega (arith, h, most_least (stage_after l (stage.Fly f (leg.Judged v (last.Mark bit rest))) x) n)
  pushes_after (stage.Fly f (leg.Judged v last.Push)) h = omega (arith, h)
  pushes_after (stage.Fly f (leg.Judged v last.Out)) h = h
  pushes_after (stage.Leave f) h = h

pub pushes_fit : (l : LayoutView) (x pushed n : ℕ) (s next : Stage) → next ≡ stage_after l s x → pushed ≤ most_pushed s n
    → pushed_after s pushed ≤ most_pushed next (lines_count s n)
pushes_fit l x pushed n s next e h = rw e (pushes_after l x pushed n s h)

module _ (l : LayoutView) (x room n : ℕ) where
  room_left : (s : Stage) → HasRoom s room n → HasRoom (stage_after l s x) (room_after s room) (lines_count s n)
  room_left stage.Idle h = h
  room_left (stage.Enter packet) h = h
  room_left (stage.Note packet entered) h = h
  room_left (stage.Vip packet entered) h = h
  room_left (stage.Fly f (leg.Look place rest)) h = h
  room_left (stage.Fly f (leg.Hit place version)) h = h
  room_left (stage.Fly f (leg.Filter bit rest)) h = h
  room_left (stage.Fly f (leg.Chosen version next)) h = h
  room_left (stage.Fly f (leg.Judged v last.Ring)) h = h
  room_left (stage.Fly f (leg.Judged v (last.Mark bit rest))) h = h
  room_left (stage.Fly f (leg.Judged v last.Push)) h = h
  room_left (stage.Fly f (leg.Judged v last.Out)) h = tt
  room_left (stage.Leave f) h = h

pub room_fits : (l : LayoutView) (x room n : ℕ) (s next : Stage) → next ≡ stage_after l s x → HasRoom s room n
    → HasRoom next (room_after s room) (lines_count s n)
room_fits l x room n s next e h = rw e (room_left l x room n s h)

-- a report more is counted in 64 bits
pub pushed_fits : (s : Stage) (pushed room n : ℕ) → pushed < 2 ^ 64 → pushed ≤ most_pushed s n → HasRoom s room n
    → pushed_after s pushed < 2 ^ 64
pushed_fits stage.Idle pushed room n b m h = b
pushed_fits (stage.Enter packet) pushed room n b m h = b
pushed_fits (stage.Note packet entered) pushed room n b m h = b
pushed_fits (stage.Vip packet entered) pushed room n b m h = b
pushed_fits (stage.Fly f (leg.Look place rest)) pushed room n b m h = b
pushed_fits (stage.Fly f (leg.Hit place version)) pushed room n b m h = b
pushed_fits (stage.Fly f (leg.Filter bit rest)) pushed room n b m h = b
pushed_fits (stage.Fly f (leg.Chosen version next)) pushed room n b m h = b
pushed_fits (stage.Fly f (leg.Judged v last.Ring)) pushed room n b m h = b
pushed_fits (stage.Fly f (leg.Judged v (last.Mark bit rest))) pushed room n b m h = b
pushed_fits (stage.Fly f (leg.Judged v last.Push)) pushed room n b m h = omega (arith, m, h.1)
pushed_fits (stage.Fly f (leg.Judged v last.Out)) pushed room n b m h = b
pushed_fits (stage.Leave f) pushed room n b m h = b

-- a line takes the room of one
pub room_counts : (s : Stage) (capacity n : ℕ) → capacity - lines_count s n ≡ room_after s (capacity - n)
room_counts stage.Idle capacity n = refl
room_counts (stage.Enter packet) capacity n = refl
room_counts (stage.Note packet entered) capacity n = refl
room_counts (stage.Vip packet entered) capacity n = refl
room_counts (stage.Fly f (leg.Look place rest)) capacity n = refl
room_counts (stage.Fly f (leg.Hit place version)) capacity n = refl
room_counts (stage.Fly f (leg.Filter bit rest)) capacity n = refl
room_counts (stage.Fly f (leg.Chosen version next)) capacity n = refl
room_counts (stage.Fly f (leg.Judged v last.Ring)) capacity n = refl
room_counts (stage.Fly f (leg.Judged v (last.Mark bit rest))) capacity n = refl
room_counts (stage.Fly f (leg.Judged v last.Push)) capacity n = refl
room_counts (stage.Fly f (leg.Judged v last.Out)) capacity n = omega arith
room_counts (stage.Leave f) capacity n = refl
