use Rattle.std.proofs.Common.{◌≡◌, drop}
use Rattle.sr_shadow.specs.Book.{holder_of}
use Rattle.sr_shadow.proofs.plain.holder.Given as goal

-- the first is among those that are left
abbrev pub invariant-loop-entry : goal.invariant-loop-entry
invariant-loop-entry l = holder_of l.place (drop l.entry-index l.es) ≡ holder_of l.place l.es
