use Rattle.std.proofs.Common.{◌≡◌, drop}
use Rattle.sr_update.specs.Numbers.{first_drained, drained_from}
use Rattle.sr_update.proofs.numbers.Numbers.first_drained.Given as goal

abbrev pub invariant-loop-vip : goal.invariant-loop-vip
invariant-loop-vip l = first_drained l.self l.book.book.entries ≡ drained_from l.vip (drop l.vip l.self) l.book.book.entries
