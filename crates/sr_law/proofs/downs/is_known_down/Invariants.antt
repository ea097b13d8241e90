use Rattle.std.proofs.Common.{◌≡◌, reverse, take}
use Rattle.std.specs.List.{list_any}
use Rattle.sr_law.specs.TakenDown.{takes_down_before, is_known_down}
use Rattle.sr_law.proofs.downs.is_known_down.Given as goal

abbrev pub invariant-loop-line : goal.invariant-loop-line
invariant-loop-line l = (l.down ≡ list_any (takes_down_before l.server l.tick) (reverse (take l.line-index l.before))) × (l.known ≡ is_known_down (reverse (take l.line-index l.before)) l.server l.tick)
