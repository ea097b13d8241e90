-- Retire: a connection is over only after it was quiet for so many sweeps, or for one where it sent an end.
use Rattle.std.specs.Prelude.{ℕ, ◌+◌, ◌-◌, Bool, true, false, not, ◌&&◌, ◌||◌, ◌==◌, nat_lt, nat_le, if◌then◌else◌, List, [], ◌∷◌, ◌++◌, Option, Some, None, unwrap_or}
use Rattle.std.specs.List.{list_any}
use Rattle.std.specs.Option.{option_or}
use Rattle.sr_base.specs.Key.{KeyView, same_key}
use Rattle.sr_base.specs.declared.kind.Kind.{Kind}
use Rattle.sr_base.specs.declared.kind.Kind.TheVariants.{Opener, Ending}
use Rattle.sr_law.specs.declared.line.Line.{Line}
use Rattle.sr_law.specs.declared.line.Line.TheVariants.{Packet, Placed, Swept, Retired}
use Rattle.sr_law.specs.declared.sweep.Sweep.{Sweep}
use Rattle.sr_law.specs.Opening.{is_open}
use Rattle.sr_law.specs.Setup.{SetupView}

-- the sweep that a line tells of
abbrev pub sweep_by : Line → Option Sweep
sweep_by (Swept number from to at_ms) = Some (record { number = number; from = from; to = to; at_ms = at_ms })
sweep_by line = None

-- the last sweep
abbrev pub last_sweep : List Line → Option Sweep
last_sweep [] = None
last_sweep (line ∷ before) = option_or (sweep_by line) (last_sweep before)

-- the sweep, if it has this number
abbrev pub of_number : ℕ → Option Sweep → Option Sweep
of_number number None = None
of_number number (Some sweep) = if sweep.number == number then Some sweep else None

-- the sweep of this number
abbrev pub numbered_sweep : List Line → ℕ → Option Sweep
numbered_sweep [] number = None
numbered_sweep (line ∷ before) number = option_or (of_number number (sweep_by line)) (numbered_sweep before number)

-- a sweep has the next number, and comes no sooner than the idle time after the last one, or after the start of the capture
abbrev pub is_next_sweep : ℕ → ℕ → ℕ → Option Sweep → Bool
is_next_sweep idle_ms number at_ms None = (number == 1) && nat_le idle_ms at_ms
is_next_sweep idle_ms number at_ms (Some last) = (number == (last.number + 1)) && nat_le (last.at_ms + idle_ms) at_ms

-- an Ending packet that may support a retirement: whose it is, when it entered, and when it was out, if it is
pub record EndingPacket : Type 0 where
  pub key : KeyView
  pub entered : ℕ
  pub out : Option ℕ

-- the Ending packet that a line tells of
abbrev pub ending_by : Line → List EndingPacket
ending_by (Packet number entered out pipe key Ending verdict) = record { key = key; entered = entered; out = Some out } ∷ []
ending_by line = []

-- the Ending packets of a list of lines
abbrev pub endings_of : List Line → List EndingPacket
endings_of [] = []
endings_of (line ∷ before) = ending_by line ++ endings_of before

-- it was out after this tick, or isn't out yet
abbrev pub is_out_after : ℕ → Option ℕ → Bool
is_out_after tick None = true
is_out_after tick (Some out) = nat_lt tick out

-- the packet ends this connection: it entered before this tick, and was out after the connection was last retired
abbrev pub may_end : KeyView → ℕ → ℕ → EndingPacket → Bool
may_end c retired tick ending = same_key ending.key c && nat_lt ending.entered tick && is_out_after retired ending.out

-- the tick at which a line retires this connection
abbrev pub retired_by : Line → KeyView → Option ℕ
retired_by (Retired out key) c = if same_key key c then Some out else None
retired_by line c = None

-- the tick at which a connection was last retired, or 0
abbrev pub last_retired : List Line → KeyView → ℕ
last_retired [] c = 0
last_retired (line ∷ before) c = unwrap_or (retired_by line c) (last_retired before c)

-- the tick at which a line places an entry of this connection
abbrev pub placed_by : Line → KeyView → Option ℕ
placed_by (Placed out key place) c = if same_key key c then Some out else None
placed_by line c = None

-- the tick at which an entry of a connection was last placed, in this life of it or in an earlier one
abbrev pub last_placed : List Line → KeyView → Option ℕ
last_placed [] c = None
last_placed (line ∷ before) c = option_or (placed_by line c) (last_placed before c)

-- there is a tick, and it is before this one
abbrev pub is_before : Option ℕ → ℕ → Bool
is_before None tick = false
is_before (Some n) tick = nat_lt n tick

-- the packet uses a live entry: all but an opener, which another connection's entry may have held
abbrev pub uses_entry : Kind → Bool
uses_entry Opener = false
uses_entry kind = true

-- the line is of a packet of this connection that used its entry between two ticks
abbrev pub uses_between : KeyView → ℕ → ℕ → Line → Bool
uses_between c low high (Packet number entered out pipe key kind verdict) = same_key key c && uses_entry kind && nat_le low entered && nat_le out high
uses_between c low high line = false

-- from one sweep to another a connection was placed and sent nothing
abbrev pub is_quiet_between : List Line → KeyView → Option Sweep → Option Sweep → Bool
is_quiet_between before c (Some early) (Some late) =
    is_before (last_placed before c) early.from && not (list_any (uses_between c early.to late.from) before)
is_quiet_between before c early late = false

-- a connection was quiet for so many sweeps up to the last one
abbrev pub is_quiet : List Line → KeyView → ℕ → Option Sweep → Bool
is_quiet before c sweeps None = false
is_quiet before c sweeps (Some last) = nat_lt sweeps last.number && is_quiet_between before c (numbered_sweep before (last.number - sweeps)) (Some last)

-- a connection may be retired at this tick
abbrev pub may_retire : SetupView → List EndingPacket → List Line → KeyView → ℕ → Bool
may_retire setup endings before c tick =
    is_open before c
    && (is_quiet before c setup.shape.lives (last_sweep before)
    || (list_any (may_end c (last_retired before c) tick) endings && is_quiet before c 1 (last_sweep before)))

-- a sweep is the next one, and a connection that is retired was open, and quiet
unfoldable pub meets_retire : SetupView → List EndingPacket → List Line → Line → Bool
meets_retire setup endings before (Swept number from to at_ms) = is_next_sweep setup.shape.idle_ms number at_ms (last_sweep before)
meets_retire setup endings before (Retired out key) = may_retire setup endings before key out
meets_retire setup endings before line = true
