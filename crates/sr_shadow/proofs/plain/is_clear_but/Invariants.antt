use Rattle.std.proofs.Common.{◌≡◌, drop}
use Rattle.sr_shadow.specs.Plan.{is_clear_but}
use Rattle.sr_shadow.proofs.plain.is_clear_but.Given as goal

-- one is among those that are left
abbrev pub invariant-loop-entry : goal.invariant-loop-entry
invariant-loop-entry l = is_clear_but l.layout.shape (drop l.entry-index l.es) l.key l.other ≡ is_clear_but l.layout.shape l.es l.key l.other
