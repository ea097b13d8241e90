use Rattle.std.proofs.Common.{◌≡◌, drop}
use Rattle.sr_shadow.specs.Book.{is_clashing}
use Rattle.sr_shadow.proofs.plain.is_clashing.Given as goal

-- one is among those that are left
abbrev pub invariant-loop-entry : goal.invariant-loop-entry
invariant-loop-entry l = is_clashing l.layout.shape l.way l.key (drop l.entry-index l.es) ≡ is_clashing l.layout.shape l.way l.key l.es
