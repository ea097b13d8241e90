-- Newer: a connection that is opened after a switch uses that pool or a later one.
use Rattle.std.specs.Prelude.{ℕ, Bool, true, ◌&&◌, ◌||◌, ◌==◌, nat_lt, nat_le, if◌then◌else◌, List, [], ◌∷◌, Option, Some, None}
use Rattle.std.specs.Option.{option_or}
use Rattle.sr_base.specs.Key.{KeyView}
use Rattle.sr_law.specs.declared.line.Line.{Line}
use Rattle.sr_law.specs.declared.line.Line.TheVariants.{Switched}
use Rattle.sr_law.specs.declared.giving.Giving.{Giving}
use Rattle.sr_law.specs.declared.opening.Opening.{Opening}
use Rattle.sr_law.specs.Given.{last_given}
use Rattle.sr_law.specs.Opening.{is_open, opened_by}
use Rattle.sr_law.specs.Ticks.{start_of, key_of}

-- the pool that a line switched this virtual address to, before this tick
abbrev pub switched_by : Line → ℕ → ℕ → Option ℕ
switched_by (Switched out to pool) vip tick = if (to == vip) && nat_lt out tick then Some pool else None
switched_by line vip tick = None

-- the pool that a virtual address was last switched to before this tick
abbrev pub last_switched : List Line → ℕ → ℕ → Option ℕ
last_switched [] vip tick = None
last_switched (line ∷ before) vip tick = option_or (switched_by line vip tick) (last_switched before vip tick)

-- not before the pool of the switch, if there was one
abbrev pub is_from : Option ℕ → ℕ → Bool
is_from None pool = true
is_from (Some switched) pool = nat_le switched pool

-- not after the last pool that was given, if there was one
abbrev pub is_up_to : Option Giving → ℕ → Bool
is_up_to None pool = true
is_up_to (Some giving) pool = nat_le pool giving.pool

-- the pool of an opening, of which the line started at this tick
abbrev pub is_new_pool : List Line → ℕ → ℕ → Option Opening → Bool
is_new_pool before vip start None = true
is_new_pool before vip start (Some opening) = is_from (last_switched before vip start) opening.pool && is_up_to (last_given before vip) opening.pool

-- where the connection isn't open, the line is an opening if it has the marks of one
abbrev pub opens_new : List Line → Line → Option KeyView → Bool
opens_new before line None = true
opens_new before line (Some key) = is_open before key || is_new_pool before key.vip (start_of line) (opened_by line key)

-- an opening line uses the pool that its virtual address was switched to before the line started, or a later one, and none that wasn't given
unfoldable pub meets_newer : List Line → Line → Bool
meets_newer before line = opens_new before line (key_of line)
