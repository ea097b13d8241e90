use Rattle.std.proofs.Common.{◌≡◌, replicate}
use Rattle.sr_update.specs.Numbers.{opening_row}
use Rattle.sr_update.proofs.numbers.Numbers.new.Given as goal

abbrev pub invariant-loop-vip : goal.invariant-loop-vip
invariant-loop-vip l = l.rows.items ≡ replicate l._vip (opening_row l.layout.shape.versions)
