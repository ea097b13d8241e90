use Rattle.std.proofs.Common.{◌≡◌, reverse, take}
use Rattle.std.specs.List.{list_all}
use Rattle.sr_law.specs.Final.{answer_is_held}
use Rattle.sr_audit.proofs.pairing.all_answers_held.Given as goal

abbrev pub invariant-loop-line : goal.invariant-loop-line
invariant-loop-line l = l.all ≡ list_all (answer_is_held (reverse l.lines)) (reverse (take l.line-index l.lines))
