use Rattle.std.proofs.Common.{◌≡◌, ◌∷◌, ◌-◌, replicate}
use Rattle.sr_machine.specs.Reads.{steady}
use Rattle.sr_acts.proofs.versions.Versions.new.Given as goal

abbrev pub invariant-loop-vip : goal.invariant-loop-vip
invariant-loop-vip l = (l.named.items ≡ replicate l._vip (1 ∷ replicate (l.layout.shape.versions - 1) 0))
    × (l.vips.items ≡ replicate l._vip (steady 0))
