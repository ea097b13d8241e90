-- Turns of the controller until nothing is left to do.
use Rattle.std.specs.Prelude.{◌≡◌, ℕ, zero, suc, Option, Some, None, option_and_then}
use Rattle.sr_base.specs.declared.vip_word.Phase.{Phase}
use Rattle.sr_base.specs.declared.vip_word.Phase.TheVariants.{Steady, Recording, Holding, Transit}
use Rattle.sr_shadow.specs.declared.entry.Entry.{Entry}
use Rattle.sr_machine.specs.Core.{Core, step_event}
use Rattle.sr_machine.specs.Deciding.{vip_at}
use Rattle.sr_machine.specs.Turning.{turned}
use Rattle.sr_update.specs.Waits.{first_before_finish, first_before_hold}
use Rattle.sr_machine.specs.declared.controller_view.ControllerView.{ControllerView}
use Rattle.sr_machine.specs.declared.event.Event.TheVariants.{Refuse}
use Rattle.sr_machine.specs.declared.settled.Settled.{Settled}
use Rattle.sr_machine.specs.declared.settled.Settled.TheVariants.{Quiet, Waiting}
use Rattle.sr_machine.specs.declared.turn.Turn.{Turn}
use Rattle.sr_machine.specs.declared.turn.Turn.TheVariants as turn
use Rattle.sr_machine.specs.declared.pool_update.PoolUpdate.{PoolUpdate}

-- the first key for which an update waits in a phase
abbrev pub awaited_in : ControllerView → PoolUpdate → Phase → Option Entry
awaited_in c u Steady = None
awaited_in c u Recording = first_before_hold u.vip c.mark c.book.entries
awaited_in c u Holding = None
awaited_in c u Transit = first_before_finish u.vip u.replaced c.book.entries

abbrev pub awaited_by : ControllerView → Option PoolUpdate → Option Entry
awaited_by c None = None
awaited_by c (Some u) = awaited_in c u (vip_at c.vips u.vip).phase

-- the first key for which the update that is under way waits
abbrev pub awaited : ControllerView → Option Entry
awaited c = awaited_by c c.update

abbrev pub ending_of : Option Entry → Settled
ending_of None = Quiet
ending_of (Some e) = Waiting e.key

-- What a turn's answer is followed by: at an answer that nothing can be done a change is refused, where that can be told, and
-- else the turns are over; every other answer is followed by the next turn.
pub data Follows : Type 0 where
  More : Follows
  Over : Follows
  OrRefusal : Follows

abbrev pub follows : Turn → Follows
follows (turn.Did act) = More
follows (turn.NotYet pipe entered) = More
follows (turn.NoRoom key) = OrRefusal
follows (turn.VersionsFull vip) = OrRefusal
follows turn.Idle = Over
follows turn.Memory = Over

-- the state once a refusal was told, if it can be
abbrev pub refused : Core → Follows → Option Core
refused s More = Some s
refused s Over = None
refused s OrRefusal = step_event Refuse s

-- the turns go on from this state, or are over
abbrev pub on_or : Core → (Core → Option (Settled × Core)) → Option Core → Option (Settled × Core)
on_or s rest None = Some (ending_of (awaited s.controller), s)
on_or s rest (Some t) = rest t

-- so many turns at most: how they end, and where
abbrev pub settled_in : ℕ → Core → Option (Settled × Core)
settled_in zero s = None
settled_in (suc n) s = option_and_then (λ p. on_or p.1 (settled_in n) (refused p.1 (follows p.0))) (turned s)

-- the turns from a state end so
abbrev pub Settles : Core → Settled → Core → Type 0
Settles s r t = (n : ℕ) × (settled_in n s ≡ Some (r, t))
