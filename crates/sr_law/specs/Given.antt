-- What the versions of a virtual address were given.
use Rattle.std.specs.Prelude.{ℕ, Bool, false, ◌==◌, if◌then◌else◌, List, [], ◌∷◌, Option, Some, None}
use Rattle.std.specs.Option.{option_or}
use Rattle.sr_law.specs.declared.line.Line.{Line}
use Rattle.sr_law.specs.declared.line.Line.TheVariants.{Given}
use Rattle.sr_law.specs.declared.giving.Giving.{Giving}

-- the version and pool that a line gives to this virtual address
abbrev pub given_by : Line → ℕ → Option Giving
given_by (Given out to version pool) vip = if to == vip then Some (record { version = version; pool = pool }) else None
given_by line vip = None

-- what a virtual address was last given
abbrev pub last_given : List Line → ℕ → Option Giving
last_given [] vip = None
last_given (line ∷ before) vip = option_or (given_by line vip) (last_given before vip)

-- the giving, if it is of this version
abbrev pub of_version : ℕ → Option Giving → Option Giving
of_version version None = None
of_version version (Some giving) = if giving.version == version then Some giving else None

-- what a virtual address was last given under this version
abbrev pub last_version : List Line → ℕ → ℕ → Option Giving
last_version [] vip version = None
last_version (line ∷ before) vip version = option_or (of_version version (given_by line vip)) (last_version before vip version)

-- it is of this pool; of this version
abbrev pub has_pool : Option Giving → ℕ → Bool
has_pool None pool = false
has_pool (Some giving) pool = giving.pool == pool

abbrev pub has_version : Option Giving → ℕ → Bool
has_version None version = false
has_version (Some giving) version = giving.version == version
