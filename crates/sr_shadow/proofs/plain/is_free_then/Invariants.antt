use Rattle.std.proofs.Common.{◌≡◌, drop}
use Rattle.sr_shadow.specs.Plan.{is_free, with_moved}
use Rattle.sr_shadow.proofs.plain.is_free_then.Given as goal

-- one of those that are left holds it
abbrev pub invariant-loop-entry : goal.invariant-loop-entry
invariant-loop-entry l = is_free (with_moved l.other l.to (drop l.entry-index l.es)) l.place ≡ is_free (with_moved l.other l.to l.es) l.place
