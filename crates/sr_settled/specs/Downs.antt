-- The servers that changes and lines take down, one at a time.
use Rattle.std.specs.Prelude.{ℕ, Bool, true, if◌then◌else◌, List, Option, Some, None}
use Rattle.sr_base.specs.declared.change.Change.{Change}
use Rattle.sr_base.specs.declared.change.What.TheVariants.{Give, TakeDown}
use Rattle.sr_law.specs.declared.line.Line.{Line}
use Rattle.sr_law.specs.declared.line.Line.TheVariants.{TakenDown}
use Rattle.sr_law.specs.Server.{is_number}
use Rattle.sr_law.specs.Settled.{downs_of, due_downs, is_due, is_number_as_often}

-- the server that a change takes down, if it is due
abbrev pub taken_by : Option ℕ → Change → Option ℕ
taken_by clock change =
    elim change.what [ Give vip pool ↦ None | TakeDown server ↦ if is_due clock change.at_ms then Some server else None ]

-- the server that a line takes down
abbrev pub taken_down : Line → Option ℕ
taken_down (TakenDown out server) = Some server
taken_down line = None

-- there is none, or it is one of which this holds
abbrev pub holds_of : (ℕ → Bool) → Option ℕ → Bool
holds_of holds None = true
holds_of holds (Some server) = holds server

-- the change is due, and takes this server down; the line does
abbrev pub takes : Option ℕ → ℕ → Change → Bool
takes clock server change = is_number (taken_by clock change) server

abbrev pub takes_down : ℕ → Line → Bool
takes_down server line = is_number (taken_down line) server

-- where there is a server, the lines take it down as often as the due changes do
abbrev pub is_made : Option ℕ → List Change → List Line → Option ℕ → Bool
is_made clock changes all server = holds_of (is_number_as_often (due_downs clock changes) (downs_of all)) server
