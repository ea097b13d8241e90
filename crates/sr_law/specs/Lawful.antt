-- A lawful list of lines: no line breaks a clause by the lines before it, and each packet has its final line.
use Rattle.std.specs.Prelude.{◌≡◌, ℕ, ◌+◌, Bool, true, if◌then◌else◌, List, [], ◌∷◌, length, reverse, Option, Some, None, slice_get, IsTrue}
use Rattle.std.specs.Option.{option_or}
use Rattle.sr_law.specs.declared.line.Line.{Line}
use Rattle.sr_law.specs.declared.clause.Clause.{Clause}
use Rattle.sr_law.specs.declared.clause.Clause.TheVariants as C
use Rattle.sr_law.specs.declared.check_refusal.CheckRefusal.{CheckRefusal}
use Rattle.sr_law.specs.declared.check_refusal.CheckRefusal.TheVariants.{Breach}
use Rattle.sr_law.specs.Cause.{meets_cause}
use Rattle.sr_law.specs.Final.{meets_final}
use Rattle.sr_law.specs.Newer.{meets_newer}
use Rattle.sr_law.specs.Number.{meets_number}
use Rattle.sr_law.specs.Order.{meets_order}
use Rattle.sr_law.specs.Retire.{EndingPacket, endings_of, meets_retire}
use Rattle.sr_law.specs.Same.{meets_same}
use Rattle.sr_law.specs.Server.{meets_server}
use Rattle.sr_law.specs.Setup.{SetupView}
use Rattle.sr_law.specs.Ticks.{lines_before}

-- the clause, where it isn't met, or else what follows
abbrev pub where_met : Bool → Clause → Option Clause → Option Clause
where_met met clause next = if met then next else Some clause

-- the first clause that a line breaks, by the lines before it and the Ending packets that may support a retirement
unfoldable pub broken : SetupView → List EndingPacket → List Line → Line → Option Clause
broken setup endings before line =
    where_met (meets_order setup before line) C.Order
    (where_met (meets_server setup.pools before line) C.Server
    (where_met (meets_same before line) C.Same
    (where_met (meets_newer before line) C.Newer
    (where_met (meets_number setup before line) C.Number
    (where_met (meets_cause setup before line) C.Cause
    (where_met (meets_retire setup endings before line) C.Retire None))))))

-- a line meets each clause
pub record MeetsClauses (setup : SetupView) (endings : List EndingPacket) (before : List Line) (line : Line) : Type 0 where
  pub order : meets_order setup before line ≡ true
  pub server : meets_server setup.pools before line ≡ true
  pub same : meets_same before line ≡ true
  pub newer : meets_newer before line ≡ true
  pub number : meets_number setup before line ≡ true
  pub cause : meets_cause setup before line ≡ true
  pub retire : meets_retire setup endings before line ≡ true

-- no line of a printed list breaks a clause
abbrev pub NoLineBreaks : SetupView → List EndingPacket → List Line → Type 0
NoLineBreaks setup endings lines =
    (i : ℕ) (line : Line) → slice_get lines i ≡ Some line → broken setup endings (lines_before i lines) line ≡ None

-- a printed list is lawful for a setup: no line breaks a clause, where its own Ending lines, later ones too, may support a retirement,
-- and each packet has one final line
abbrev pub IsLawful : SetupView → List Line → Type 0
IsLawful setup lines = NoLineBreaks setup (endings_of (reverse lines)) lines × IsTrue (meets_final setup (reverse lines))

-- the breach, by the position of its line from 1
abbrev pub breach_at : ℕ → Option Clause → Option CheckRefusal
breach_at number None = None
breach_at number (Some clause) = Some (Breach number clause)

-- the first of these lines that breaks a clause, and the first clause that it breaks; the newest line is given first
unfoldable pub first_broken : SetupView → List EndingPacket → List Line → Option CheckRefusal
first_broken setup endings [] = None
first_broken setup endings (line ∷ before) =
    option_or (first_broken setup endings before) (breach_at (length before + 1) (broken setup endings before line))

-- what an auditor names: the first line of a printed list that breaks a clause, or else, one past the last, that a final line is missing
unfoldable pub breach_of : SetupView → List Line → Option CheckRefusal
breach_of setup lines =
    option_or (first_broken setup (endings_of (reverse lines)) (reverse lines))
    (if meets_final setup (reverse lines) then None else Some (Breach (length lines + 1) C.Final))
