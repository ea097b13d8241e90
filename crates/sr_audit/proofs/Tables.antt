-- Steps of the table of versions.
use Rattle.std.proofs.Common.{◌≡◌, ℕ, ◌<◌, ◌≤◌, List, ◌∷◌, length, set, Option, Some, arith}
use Rattle.std.proofs.lemmas.Bool.Decides.{nat_tests}
use Rattle.std.proofs.lemmas.Grind.{common_steps}
use Rattle.sr_law.specs.declared.giving.Giving.{Giving}
use Rattle.sr_law.specs.declared.line.Line.{Line}
use Rattle.sr_law.specs.declared.line.Line.TheVariants.{Given}
use Rattle.sr_audit.specs.Versions.{cell_of, TellsVersions}

-- a version that is given
pub given_more : (cells : List (Option Giving)) (before : List Line) (out to version pool : ℕ) → to < 16 → version < 64 → length cells ≡ 1024 → TellsVersions cells before
    → TellsVersions (set cells (cell_of to version) (Some (record { version = version; pool = pool }))) (Given out to version pool ∷ before)
given_more cells before out to version pool vip number size h v n hv hn = grind (arith, common_steps, nat_tests, h v n hv hn)

-- one of no virtual address
pub given_beyond : (cells : List (Option Giving)) (before : List Line) (out to version pool : ℕ) → 16 ≤ to → TellsVersions cells before
    → TellsVersions cells (Given out to version pool ∷ before)
given_beyond cells before out to version pool vip h v n hv hn = grind (arith, common_steps, nat_tests, h v n hv hn)
