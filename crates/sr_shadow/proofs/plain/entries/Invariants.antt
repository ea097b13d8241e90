use Rattle.std.proofs.Common.{◌≡◌, ◌++◌, drop}
use Rattle.sr_shadow.proofs.plain.entries.Given as goal

-- the entries so far and those that are left are all of them
abbrev pub invariant-loop-i : goal.invariant-loop-i
invariant-loop-i l = l.es.items ++ drop l.i l.shadow.book.entries ≡ l.shadow.book.entries
