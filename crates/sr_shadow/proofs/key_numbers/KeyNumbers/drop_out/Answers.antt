use Rattle.sr_shadow.proofs.Lookups.{numbered_less}
use Rattle.sr_shadow.proofs.key_numbers.KeyNumbers.drop_out.Goals as goal

pub returns-clause-less : goal.returns-clause-less
returns-clause-less c = λ front back e same before after h. numbered_less _ _ c.args.key c.pack.result front back e c.pack.ensures.value c.key_ranges.ensures same before after (λ q. c.swap_remove.ensures.updates.0 q) h
