-- What is proved of lists of which no line breaks a clause.
use Rattle.std.specs.Prelude.{◌≡◌, ℕ, ◌≤◌, true, List, [], length, Option, count_by}
use Rattle.sr_base.specs.declared.change.Change.{Change}
use Rattle.sr_law.specs.Lawful.{IsLawful, NoLineBreaks}
use Rattle.sr_law.specs.Retire.{EndingPacket}
use Rattle.sr_law.specs.Settled.{due_gives, gives_settled}
use Rattle.sr_law.specs.Setup.{SetupView}
use Rattle.sr_law.specs.declared.line.Line.{Line}
use Rattle.sr_law_causes.specs.Plain.{AreOnce, EachHasOneLine, HeldHaveOneAnswer, VersionsAreFree}
use Rattle.sr_law_causes.specs.Rare.{HasFreeRows, HasNone, finds_no_place, is_full_on, reports_on, waits_for_update}

-- a pipe with no more openers and Ending packets than its ring has cells finds it full never
abbrev pub FewFindRoom : Type 0
FewFindRoom =
    (setup : SetupView) (endings : List EndingPacket) (lines : List Line) (pipe : ℕ) → NoLineBreaks setup endings lines
    → count_by (reports_on pipe) lines ≤ setup.shape.ring
    → HasNone (is_full_on pipe) lines

-- where no change of a pool is due, and the lines tell of those that are and no others, no update holds a packet
abbrev pub NothingHoldsUnchanged : Type 0
NothingHoldsUnchanged =
    (setup : SetupView) (endings : List EndingPacket) (lines : List Line) (clock : Option ℕ) (changes : List Change)
    → NoLineBreaks setup endings lines
    → gives_settled setup [] (due_gives clock [] 0 changes) lines ≡ true
    → due_gives clock [] 0 changes ≡ []
    → HasNone waits_for_update lines

-- where at most three rows of each group are held, each connection finds a place
abbrev pub FreeRowsGivePlaces : Type 0
FreeRowsGivePlaces =
    (setup : SetupView) (endings : List EndingPacket) (lines : List Line) → NoLineBreaks setup endings lines → HasFreeRows lines
    → HasNone finds_no_place lines

-- a version is given again only when nothing holds it
abbrev pub VersionsAreGivenFree : Type 0
VersionsAreGivenFree =
    (setup : SetupView) (endings : List EndingPacket) (lines : List Line) → NoLineBreaks setup endings lines
    → VersionsAreFree (length setup.pools) lines

-- each packet has one final line: its own, or the answer to it where it was held
abbrev pub PacketsAreFinal : Type 0
PacketsAreFinal =
    (setup : SetupView) (lines : List Line) → IsLawful setup lines
    → (AreOnce setup.packets → EachHasOneLine setup.packets lines) × HeldHaveOneAnswer lines
