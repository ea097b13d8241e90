-- Number: a version is given again only when nothing holds it.
use Rattle.std.specs.Prelude.{ℕ, Bool, true, false, not, ◌&&◌, ◌||◌, ◌==◌, nat_lt, List, length, Option, Some, None}
use Rattle.std.specs.List.{list_any}
use Rattle.sr_law.specs.declared.line.Line.{Line}
use Rattle.sr_law.specs.declared.line.Line.TheVariants.{Given}
use Rattle.sr_law.specs.declared.opening.Opening.{Opening}
use Rattle.sr_law.specs.Given.{last_given, has_version}
use Rattle.sr_law.specs.Opening.{opening}
use Rattle.sr_law.specs.Setup.{SetupView}
use Rattle.sr_law.specs.Ticks.{key_of}
use Rattle.sr_base.specs.Key.{KeyView}

-- the opening is of this version
abbrev pub opened_with : ℕ → Option Opening → Bool
opened_with version None = false
opened_with version (Some opening) = opening.version == version

-- the key is one of this virtual address, and was opened with this version and is open
abbrev pub holds_version : List Line → ℕ → ℕ → Option KeyView → Bool
holds_version before vip version None = false
holds_version before vip version (Some key) = (key.vip == vip) && opened_with version (opening before key)

-- some open connection of this virtual address has this version: each open one has a line
abbrev pub is_held_open : List Line → ℕ → ℕ → Bool
is_held_open before vip version = list_any (λ line. holds_version before vip version (key_of line)) before

-- a version that a virtual address may not be given: its last one, or that of an open connection
abbrev pub is_in_use : List Line → ℕ → ℕ → Bool
is_in_use before vip version = has_version (last_given before vip) version || is_held_open before vip version

-- after the first lines, a version that is given is one of the shape and isn't in use
unfoldable pub meets_number : SetupView → List Line → Line → Bool
meets_number setup before (Given out vip version pool) =
    nat_lt (length before) (length setup.pools) || (nat_lt version setup.shape.versions && not (is_in_use before vip version))
meets_number setup before line = true
