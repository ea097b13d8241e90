-- What a lawful list of lines means for connections, and what Ending packets support.
use Rattle.std.specs.Prelude.{◌≡◌, ℕ, ◌<◌, ◌≤◌, List, Some, None, true, slice_get}
use Rattle.std.specs.List.{list_any}
use Rattle.sr_base.specs.Key.{KeyView}
use Rattle.sr_law.specs.declared.line.Line.{Line}
use Rattle.sr_law.specs.declared.line.Line.TheVariants.{Switched}
use Rattle.sr_law.specs.declared.choice.Choice.{Choice}
use Rattle.sr_law.specs.declared.opening.Opening.{Opening}
use Rattle.sr_law.specs.Opening.{opening, opened_by}
use Rattle.sr_law.specs.Retire.{EndingPacket, may_end}
use Rattle.sr_law.specs.Ticks.{choice_of, key_of, lines_before, out_of, start_of}

-- The packets of an open connection go to the server of its opening, or would were that server not down: each line that chooses a server for
-- the connection chooses that one, if its packet began after the opening. (SilkRoad, SIGCOMM 2017: per-connection consistency.)
abbrev pub ConnectionsKeepServers : List Line → Type 0
ConnectionsKeepServers lines =
    (i : ℕ) (line : Line) (choice : Choice) (o : Opening)
    → slice_get lines i ≡ Some line → choice_of line ≡ Some choice
    → opening (lines_before i lines) choice.key ≡ Some o → o.out < start_of line
    → choice.server ≡ o.server

-- A connection that is opened after a switch of its virtual address uses the pool of that switch or a later one: line i opens it, line j, an
-- earlier one, made the switch, and the switch was out before line i began.
abbrev pub OpeningsFollowSwitches : List Line → Type 0
OpeningsFollowSwitches lines =
    (i j : ℕ) (line : Line) (key : KeyView) (o : Opening) (out pool : ℕ)
    → slice_get lines i ≡ Some line → key_of line ≡ Some key
    → opening (lines_before i lines) key ≡ None → opened_by line key ≡ Some o
    → j < i → slice_get lines j ≡ Some (Switched out key.vip pool) → out < start_of line
    → pool ≤ o.pool

-- each of these lines was out before this tick
abbrev pub AreOutBefore : ℕ → List Line → Type 0
AreOutBefore tick lines = (i : ℕ) (line : Line) → slice_get lines i ≡ Some line → out_of line < tick

-- the new Ending packets support each retirement that the old ones do, of connections that were last retired before this tick
pub record Supports (tick : ℕ) (old new : List EndingPacket) : Type 0 where
  pub passes : (c : KeyView) (retired at : ℕ) → retired < tick
      → list_any (may_end c retired at) old ≡ true
      → list_any (may_end c retired at) new ≡ true

-- an Ending packet while it is under way, and once it is out
abbrev pub is_under_way : EndingPacket → EndingPacket
is_under_way ending = record ending { out = None }

abbrev pub is_out : ℕ → EndingPacket → EndingPacket
is_out out ending = record ending { out = Some out }
