use Rattle.std.proofs.Common.{◌≡◌, ◌++◌, drop}
use Rattle.sr_machine.specs.Opening.{outages_in}
use Rattle.sr_acts.proofs.outages.Outages.new.Given as goal

-- those so far and those of the changes that are left are all of them
abbrev pub invariant-loop-change : goal.invariant-loop-change
invariant-loop-change l = l.outages.items ++ outages_in (drop l.change-index l.changes) ≡ outages_in l.changes
