use Rattle.std.proofs.Common.{◌≡◌, drop}
use Rattle.sr_shadow.specs.Book.{is_clashing}
use Rattle.sr_shadow.specs.Plan.{with_moved}
use Rattle.sr_shadow.proofs.plain.is_clashing_then.Given as goal

-- one is among those that are left
abbrev pub invariant-loop-entry : goal.invariant-loop-entry
invariant-loop-entry l =
    is_clashing l.layout.shape l.way l.key (with_moved l.other l.to (drop l.entry-index l.es))
    ≡ is_clashing l.layout.shape l.way l.key (with_moved l.other l.to l.es)
