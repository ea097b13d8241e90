-- Order, in part: an update is a whole group of lines, one update after another, and pools are given in the order of their numbers.
use Rattle.std.specs.Prelude.{ℕ, ◌+◌, ◌-◌, Bool, true, false, not, ◌&&◌, ◌==◌, nat_lt, nat_le, if◌then◌else◌, List, [], ◌∷◌, length, take, Option, Some, None, is_some}
use Rattle.std.specs.List.{list_any}
use Rattle.sr_law.specs.declared.line.Line.{Line}
use Rattle.sr_law.specs.declared.line.Line.TheVariants.{Given, Recorded, Hold, Switched, Finished}
use Rattle.sr_law.specs.Given.{last_given, has_pool}
use Rattle.sr_law.specs.Pools.{VipPools, pool_of}
use Rattle.sr_law.specs.Setup.{SetupView}

-- the first lines of a list are one Given line for each virtual address: its version 0 is its first pool
abbrev pub is_opening_give : ℕ → Line → Bool
is_opening_give vip (Given out to version pool) = (out == (vip + 1)) && (to == vip) && (version == 0) && (pool == 1)
is_opening_give vip line = false

-- the lines before, without these first ones
abbrev pub after_gives : ℕ → List Line → List Line
after_gives vips before = take (length before - vips) before

-- the lines of an update
abbrev pub is_of_update : Line → Bool
is_of_update (Given out vip version pool) = true
is_of_update (Recorded out vip) = true
is_of_update (Hold out vip) = true
is_of_update (Switched out vip pool) = true
is_of_update (Finished out vip) = true
is_of_update line = false

-- the last line of an update
abbrev pub last_of_update : List Line → Option Line
last_of_update [] = None
last_of_update (line ∷ before) = if is_of_update line then Some line else last_of_update before

-- what an update did last, of this virtual address
abbrev pub was_given : ℕ → Option Line → Bool
was_given vip (Some (Given out to version pool)) = to == vip
was_given vip last = false

abbrev pub was_recorded : ℕ → Option Line → Bool
was_recorded vip (Some (Recorded out to)) = to == vip
was_recorded vip last = false

abbrev pub was_held : ℕ → Option Line → Bool
was_held vip (Some (Hold out to)) = to == vip
was_held vip last = false

abbrev pub was_switched : ℕ → Option Line → Bool
was_switched vip (Some (Switched out to pool)) = to == vip
was_switched vip last = false

-- no update is under way
abbrev pub is_over : Option Line → Bool
is_over None = true
is_over (Some (Finished out vip)) = true
is_over (Some line) = false

-- an update goes on as it must: given, recorded, held, switched, finished, of one virtual address
abbrev pub goes_on : Option Line → Line → Bool
goes_on last (Given out vip version pool) = is_over last
goes_on last (Recorded out vip) = was_given vip last
goes_on last (Hold out vip) = was_recorded vip last
goes_on last (Switched out vip pool) = was_held vip last
goes_on last (Finished out vip) = was_switched vip last
goes_on last line = true

-- the virtual address was given this pool or one of a greater number
abbrev pub was_given_past : ℕ → ℕ → Line → Bool
was_given_past vip pool (Given out to version given) = (to == vip) && nat_le pool given
was_given_past vip pool line = false

-- a pool that is given exists, and comes after those that its virtual address was given; the one that it switches to is the last given
abbrev pub names_next_pool : List VipPools → List Line → Line → Bool
names_next_pool pools before (Given out vip version pool) = is_some (pool_of pools vip pool) && not (list_any (was_given_past vip pool) before)
names_next_pool pools before (Switched out vip pool) = has_pool (last_given before vip) pool
names_next_pool pools before line = true

-- the first lines give every virtual address its first pool, and after them each update goes on as it must
unfoldable pub keeps_groups : SetupView → List Line → Line → Bool
keeps_groups setup before line =
    (if nat_lt (length before) (length setup.pools) then is_opening_give (length before) line
    else goes_on (last_of_update (after_gives (length setup.pools) before)) line)
    && names_next_pool setup.pools before line
