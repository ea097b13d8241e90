use Rattle.std.proofs.Common.{◌≡◌, drop}
use Rattle.sr_shadow.specs.Plan.{entry_at}
use Rattle.sr_shadow.proofs.plain.entry_at.Given as goal

-- the first is among those that are left
abbrev pub invariant-loop-entry : goal.invariant-loop-entry
invariant-loop-entry l = entry_at l.place (drop l.entry-index l.es) ≡ entry_at l.place l.es
