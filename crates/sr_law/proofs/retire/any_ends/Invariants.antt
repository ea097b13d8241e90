use Rattle.std.proofs.Common.{◌≡◌, reverse, take}
use Rattle.std.specs.List.{list_any}
use Rattle.sr_law.specs.Retire.{may_end, endings_of}
use Rattle.sr_law.proofs.retire.any_ends.Given as goal

abbrev pub invariant-loop-line : goal.invariant-loop-line
invariant-loop-line l = l.any ≡ list_any (may_end l.c l.retired l.tick) (endings_of (reverse (take l.line-index l.all)))
