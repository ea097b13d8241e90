use Rattle.std.proofs.Common.{◌≡◌, drop}
use Rattle.sr_shadow.specs.Book.{is_registered}
use Rattle.sr_shadow.proofs.plain.is_registered.Given as goal

-- one is among those that are left
abbrev pub invariant-loop-entry : goal.invariant-loop-entry
invariant-loop-entry l = is_registered l.key (drop l.entry-index l.es) ≡ is_registered l.key l.es
