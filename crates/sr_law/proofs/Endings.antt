-- One line more among those whose Ending packets are looked over.
use Rattle.std.proofs.Common.{◌≡◌, Bool, ◌||◌, List, ◌∷◌}
use Rattle.std.specs.List.{list_any}
use Rattle.std.proofs.lemmas.List.Folds.{list_any-append}
use Rattle.sr_law.specs.declared.line.Line.{Line}
use Rattle.sr_law.specs.Retire.{EndingPacket, ending_by, endings_of}

-- its own Ending packet passes the test, or one of the others does
pub any_ending : (test : EndingPacket → Bool) (line : Line) (before : List Line) → list_any test (endings_of (line ∷ before)) ≡ (list_any test (ending_by line) || list_any test (endings_of before))
any_ending test line before = list_any-append test (ending_by line) (endings_of before)
