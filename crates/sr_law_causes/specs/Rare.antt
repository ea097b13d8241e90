-- Verdicts that a list has for a rare reason alone, and what rules the reason out. Lists are in printed order.
use Rattle.std.specs.Prelude.{◌≡◌, ℕ, ◌+◌, ◌*◌, ◌≤◌, Bool, true, false, ◌&&◌, ◌==◌, List, if◌then◌else◌}
use Rattle.std.specs.List.{AllByRecursion}
use Rattle.sr_base.specs.declared.kind.Kind.{Kind}
use Rattle.sr_base.specs.declared.kind.Kind.TheVariants.{Opener, Carry, Ending}
use Rattle.sr_base.specs.declared.place.Place.TheVariants.{Row}
use Rattle.sr_law.specs.Rows.{is_live}
use Rattle.sr_law.specs.Ticks.{lines_before}
use Rattle.sr_law.specs.declared.line.Line.{Line}
use Rattle.sr_law.specs.declared.line.Line.TheVariants.{Packet, Answer}
use Rattle.sr_law.specs.declared.verdict.HeldBy.{HeldBy}
use Rattle.sr_law.specs.declared.verdict.HeldBy.TheVariants.{Clash, Hold, Transit}
use Rattle.sr_law.specs.declared.verdict.Verdict.{Verdict}
use Rattle.sr_law.specs.declared.verdict.Verdict.TheVariants.{Full, Held, NoPlace}

-- ---- a full ring

-- a packet that may have something to report
abbrev pub is_reporting : Kind → Bool
is_reporting Opener = true
is_reporting Carry = false
is_reporting Ending = true

-- the line is of an opener or an Ending packet of this pipe
abbrev pub reports_on : ℕ → Line → Bool
reports_on pipe (Packet number entered out at key kind verdict) = (at == pipe) && is_reporting kind
reports_on pipe line = false

abbrev pub is_full : Verdict → Bool
is_full Full = true
is_full verdict = false

-- the line is of a packet of this pipe that found its ring full
abbrev pub is_full_on : ℕ → Line → Bool
is_full_on pipe (Packet number entered out at key kind verdict) = (at == pipe) && is_full verdict
is_full_on pipe line = false

-- ---- an update that holds openers

abbrev pub is_by_update : HeldBy → Bool
is_by_update Clash = false
is_by_update Hold = true
is_by_update Transit = true

abbrev pub is_held_by_update : Verdict → Bool
is_held_by_update (Held why) = is_by_update why
is_held_by_update verdict = false

-- the line is of a packet that an update held
abbrev pub waits_for_update : Line → Bool
waits_for_update (Packet number entered out pipe key kind verdict) = is_held_by_update verdict
waits_for_update line = false

-- ---- a group of rows without a free one

abbrev pub is_no_place : Verdict → Bool
is_no_place NoPlace = true
is_no_place verdict = false

-- the line answers that there is no place
abbrev pub finds_no_place : Line → Bool
finds_no_place (Packet number entered out pipe key kind verdict) = is_no_place verdict
finds_no_place (Answer out pipe nth key verdict) = is_no_place verdict
finds_no_place line = false

-- how many of the four rows of a group have a live entry
abbrev pub rows_held : List Line → ℕ → ℕ
rows_held before group =
    let first = 4 * group in
    (if is_live before (Row first) then 1 else 0) + (if is_live before (Row (first + 1)) then 1 else 0)
    + (if is_live before (Row (first + 2)) then 1 else 0)
    + (if is_live before (Row (first + 3)) then 1 else 0)

-- at no line more than three are
abbrev pub HasFreeRows : List Line → Type 0
HasFreeRows lines = (i group : ℕ) → rows_held (lines_before i lines) group ≤ 3

-- no line is such a one
abbrev pub HasNone : (Line → Bool) → List Line → Type 0
HasNone test lines = AllByRecursion (λ line. test line ≡ false) lines
