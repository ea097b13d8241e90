use Rattle.std.proofs.Common.{◌≡◌, drop}
use Rattle.sr_machine.specs.Deciding.{is_down}
use Rattle.sr_acts.proofs.deciding.is_down.Given as goal

-- it is one of those that are left
abbrev pub invariant-loop-other : goal.invariant-loop-other
invariant-loop-other l = is_down (drop l.other-index l.down) l.server ≡ is_down l.down l.server
