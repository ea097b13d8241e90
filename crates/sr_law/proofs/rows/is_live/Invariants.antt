use Rattle.std.proofs.Common.{◌≡◌, reverse, take}
use Rattle.sr_law.specs.Rows.{is_live}
use Rattle.sr_law.proofs.rows.is_live.Given as goal

abbrev pub invariant-loop-line : goal.invariant-loop-line
invariant-loop-line l = l.live ≡ is_live (reverse (take l.line-index l.before)) l.place
