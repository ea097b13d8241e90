-- The ticks of a line, whose line it is, and what became of its packet.
--
-- A line is judged by the lines before it. In all definitions here these are a list `before` with the newest line first: the lines before
-- line i of a printed list, from 0, are `lines_before i lines`. So a line that is printed next comes to the front of `before`.
use Rattle.std.specs.Prelude.{ℕ, Bool, true, false, List, take, reverse, Option, Some, None}
use Rattle.sr_base.specs.Key.{KeyView}
use Rattle.sr_law.specs.declared.line.Line.{Line}
use Rattle.sr_law.specs.declared.line.Line.TheVariants.{Packet, Answer, Given, Recorded, Hold, Switched, Finished, TakenDown, Reserved, Placed, Cleared, Swept, Retired, Refused}
use Rattle.sr_law.specs.declared.verdict.Verdict.{Verdict}
use Rattle.sr_law.specs.declared.verdict.Verdict.TheVariants.{To, Down}
use Rattle.sr_law.specs.declared.choice.Choice.{Choice}

-- the lines before line i of a printed list, from 0, the newest first
abbrev pub lines_before : ℕ → List Line → List Line
lines_before i lines = reverse (take i lines)

-- the tick that a line has its place by; a sweep's is the one after it
abbrev pub out_of : Line → ℕ
out_of (Packet number entered out pipe key kind verdict) = out
out_of (Answer out pipe nth key verdict) = out
out_of (Given out vip version pool) = out
out_of (Recorded out vip) = out
out_of (Hold out vip) = out
out_of (Switched out vip pool) = out
out_of (Finished out vip) = out
out_of (TakenDown out server) = out
out_of (Reserved out key place) = out
out_of (Placed out key place) = out
out_of (Cleared out key place) = out
out_of (Swept number from to at_ms) = to
out_of (Retired out key) = out
out_of (Refused out change) = out

-- the tick at which what a line tells of began: a packet's entry, the tick before a sweep, and of every other line its only tick
abbrev pub start_of : Line → ℕ
start_of (Packet number entered out pipe key kind verdict) = entered
start_of (Swept number from to at_ms) = from
start_of line = out_of line

-- a line of the controller: any but a pipe's line of a packet
abbrev pub is_controller : Line → Bool
is_controller (Packet number entered out pipe key kind verdict) = false
is_controller line = true

-- whose line it is
abbrev pub key_of : Line → Option KeyView
key_of (Packet number entered out pipe key kind verdict) = Some key
key_of (Answer out pipe nth key verdict) = Some key
key_of (Reserved out key place) = Some key
key_of (Placed out key place) = Some key
key_of (Cleared out key place) = Some key
key_of (Retired out key) = Some key
key_of line = None

-- the server that a verdict names for a key, with the version and pool that it was picked by
abbrev pub chosen : KeyView → Verdict → Option Choice
chosen key (To server version pool) = Some (record { key = key; server = server; version = version; pool = pool })
chosen key (Down server version pool) = Some (record { key = key; server = server; version = version; pool = pool })
chosen key verdict = None

-- the choice of a line whose verdict is To or Down; no other line has one
abbrev pub choice_of : Line → Option Choice
choice_of (Packet number entered out pipe key kind verdict) = chosen key verdict
choice_of (Answer out pipe nth key verdict) = chosen key verdict
choice_of line = None
