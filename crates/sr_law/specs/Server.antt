-- Server: the server is the one that the connection's hash picks from the pool, and the version names that pool.
use Rattle.std.specs.Prelude.{ℕ, Bool, true, false, ◌&&◌, ◌==◌, List, Option, Some, None}
use Rattle.sr_law.specs.declared.line.Line.{Line}
use Rattle.sr_law.specs.declared.choice.Choice.{Choice}
use Rattle.sr_law.specs.Given.{last_version, has_pool}
use Rattle.sr_law.specs.Pools.{VipPools, server_of}
use Rattle.sr_law.specs.Ticks.{choice_of}

-- there is a number, and it is this one
abbrev pub is_number : Option ℕ → ℕ → Bool
is_number None n = false
is_number (Some x) n = x == n

-- the choice's version was last given its pool, and its server is the one that the key's hash picks from that pool
abbrev pub is_right_choice : List VipPools → List Line → Option Choice → Bool
is_right_choice pools before None = true
is_right_choice pools before (Some choice) =
    has_pool (last_version before choice.key.vip choice.version) choice.pool && is_number (server_of pools choice.pool choice.key) choice.server

-- a line that sends a packet, or would were the server not down, names the right server
abbrev pub meets_server : List VipPools → List Line → Line → Bool
meets_server pools before line = is_right_choice pools before (choice_of line)
