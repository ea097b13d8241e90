-- Same: connection consistency (SilkRoad, SIGCOMM 2017: per-connection consistency).
use Rattle.std.specs.Prelude.{ℕ, Bool, true, ◌||◌, ◌==◌, nat_le, List, Option, Some, None}
use Rattle.sr_law.specs.declared.line.Line.{Line}
use Rattle.sr_law.specs.declared.choice.Choice.{Choice}
use Rattle.sr_law.specs.declared.opening.Opening.{Opening}
use Rattle.sr_law.specs.Ticks.{start_of, choice_of}
use Rattle.sr_law.specs.Opening.{opening}

-- a packet that began after a connection's opening has that opening's pool; one that was under way then is free
abbrev pub keeps_pool : Option Opening → ℕ → ℕ → Bool
keeps_pool None start pool = true
keeps_pool (Some opening) start pool = nat_le start opening.out || (pool == opening.pool)

-- the same of a line's choice, if it has one
abbrev pub keeps_choice : List Line → ℕ → Option Choice → Bool
keeps_choice before start None = true
keeps_choice before start (Some choice) = keeps_pool (opening before choice.key) start choice.pool

-- a line that sends a packet of an open connection, or would were the server not down, uses the pool of its opening
abbrev pub meets_same : List Line → Line → Bool
meets_same before line = keeps_choice before (start_of line) (choice_of line)
