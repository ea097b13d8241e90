-- A grace: a wait until each pipe was seen at rest, or at work on a packet that it took up after the grace's tick.
use Rattle.std.specs.Prelude.{ℕ, ◌+◌, Bool, nat_lt, ◌&&◌, if◌then◌else◌}
use Rattle.sr_update.specs.declared.saw.Saw.{Saw}
use Rattle.sr_update.specs.declared.saw.Saw.TheVariants.{Passed, NotYet}

-- the tick that was drawn after a publication, how many pipes there are, and the pipe whose note is to be looked at next
pub record GraceView : Type 0 where
  pub tick : ℕ
  pub pipes : ℕ
  pub next : ℕ

-- no pipe was seen yet
abbrev pub grace_from : ℕ → ℕ → GraceView
grace_from tick pipes = record { tick = tick; pipes = pipes; next = 0 }

-- a note of 0 says that the pipe is at rest, another one when it took up its packet; the packet may have missed what
-- was published before the tick
abbrev pub is_behind : ℕ → ℕ → Bool
is_behind tick note = nat_lt 0 note && nat_lt note tick

-- the next pipe has passed
abbrev pub stepped : GraceView → GraceView
stepped g = record g { next = g.next + 1 }

-- what a look at the next pipe's note answers
abbrev pub saw_of : GraceView → ℕ → Saw
saw_of g note = if is_behind g.tick note then NotYet g.next note else Passed

-- and what it leaves
abbrev pub after_note : GraceView → ℕ → GraceView
after_note g note = if is_behind g.tick note then g else stepped g
