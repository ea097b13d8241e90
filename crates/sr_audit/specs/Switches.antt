-- The switches of virtual addresses to pools.
use Rattle.std.specs.Prelude.{◌≡◌, ℕ, Bool, ◌&&◌, ◌==◌, nat_lt, List, reverse, Option, option_map}
use Rattle.std.specs.List.{find}
use Rattle.sr_law.specs.declared.line.Line.{Line}
use Rattle.sr_law.specs.Newer.{last_switched}
use Rattle.sr_audit.specs.declared.switches.Switch.{Switch}
use Rattle.sr_audit.specs.declared.switches.Switches.{Switches}

-- it is one of this virtual address, before this tick
abbrev pub is_before : ℕ → ℕ → Switch → Bool
is_before vip tick switch = (switch.vip == vip) && nat_lt switch.out tick

-- the pool of the first such one; the newest is given first
abbrev pub pool_before : List Switch → ℕ → ℕ → Option ℕ
pool_before switches vip tick = option_map (λ switch. switch.pool) (find (is_before vip tick) switches)

-- the index has those of these lines
abbrev pub TellsSwitches : Switches → List Line → Type 0
TellsSwitches index before = (vip tick : ℕ) → pool_before (reverse index.list.items) vip tick ≡ last_switched before vip tick
