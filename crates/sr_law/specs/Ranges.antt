-- Order, in part: each number of a line is in its range, and each place is one of its key.
use Rattle.std.specs.Prelude.{ℕ, Bool, true, ◌&&◌, nat_lt, length, Option, Some, None, option_map}
use Rattle.sr_base.specs.declared.shape.Shape.{Shape}
use Rattle.sr_hash.specs.Uses.{is_place_of}
use Rattle.sr_law.specs.declared.line.Line.{Line}
use Rattle.sr_law.specs.declared.line.Line.TheVariants.{Packet, Answer, Given, Recorded, Hold, Switched, Finished, TakenDown, Reserved, Placed, Cleared}
use Rattle.sr_law.specs.Setup.{SetupView}
use Rattle.sr_law.specs.Ticks.{key_of, choice_of}

-- the virtual address that a line speaks of
abbrev pub vip_of : Line → Option ℕ
vip_of (Given out vip version pool) = Some vip
vip_of (Recorded out vip) = Some vip
vip_of (Hold out vip) = Some vip
vip_of (Switched out vip pool) = Some vip
vip_of (Finished out vip) = Some vip
vip_of line = option_map (λ key. key.vip) (key_of line)

-- the pipe that a line speaks of
abbrev pub pipe_of : Line → Option ℕ
pipe_of (Packet number entered out pipe key kind verdict) = Some pipe
pipe_of (Answer out pipe nth key verdict) = Some pipe
pipe_of line = None

-- the server that a line speaks of: one that is taken down, or that of a verdict
abbrev pub server_named : Line → Option ℕ
server_named (TakenDown out server) = Some server
server_named line = option_map (λ choice. choice.server) (choice_of line)

-- there is no number, or one below this
abbrev pub if_below : ℕ → Option ℕ → Bool
if_below limit None = true
if_below limit (Some n) = nat_lt n limit

-- a line that names a place names one of its key
abbrev pub names_own_place : Shape → Line → Bool
names_own_place shape (Reserved out key place) = is_place_of shape key place
names_own_place shape (Placed out key place) = is_place_of shape key place
names_own_place shape (Cleared out key place) = is_place_of shape key place
names_own_place shape line = true

-- the virtual address, pipe, server and place of a line are ones of the setup
unfoldable pub in_range : SetupView → Line → Bool
in_range setup line =
    if_below (length setup.pools) (vip_of line) && if_below setup.shape.pipes (pipe_of line) && if_below setup.servers (server_named line) && names_own_place setup.shape line
