use Rattle.std.proofs.Common.{nat_lt, rules}
use Rattle.std.proofs.lemmas.Fn.{always_returns_same}
use Rattle.sr_shadow.proofs.Slots.{rising_parts}
use Rattle.sr_shadow.proofs.roll.slot_from.Goals as goal

pub returns : goal.returns
returns c = λ low high h.
    c.partition_point.ensures.partitioned (λ s. nat_lt s.0 c.args.number) (always_returns_same _ _ _ (λ a r f' k. search rules)) (rising_parts c.args.number low high _ h)
