-- The lines that tell of changes which give a pool, one at a time.
use Rattle.std.specs.Prelude.{ℕ, Bool, true, false, not, nat_lt, List, length}
use Rattle.sr_law.specs.declared.line.Line.{Line}
use Rattle.sr_law.specs.declared.line.Line.TheVariants.{Given, Refused}
use Rattle.sr_law.specs.Settled.{DueGive, is_given_next, is_refused_next}
use Rattle.sr_law.specs.Setup.{SetupView}

-- the line of this number, from 0, tells that a change was made or refused; the first lines give every virtual address its first pool
abbrev pub is_change : SetupView → ℕ → Line → Bool
is_change setup number (Given out vip version pool) = not (nat_lt number (length setup.pools))
is_change setup number (Refused out change) = true
is_change setup number line = false

-- it tells of the next of the due changes
abbrev pub is_next : SetupView → List Line → List DueGive → Line → Bool
is_next setup before dues (Given out vip version pool) = is_given_next dues vip pool
is_next setup before dues (Refused out change) = is_refused_next setup before dues change
is_next setup before dues line = true
