use Rattle.sr_shadow.proofs.Lookups.{numbered_more}
use Rattle.sr_shadow.proofs.key_numbers.KeyNumbers.join.Goals as goal

pub returns-clause-more : goal.returns-clause-more
returns-clause-more c = λ es e same told none h. numbered_more _ _ c.args.key c.pack.result c.args.number es e c.pack.ensures.value c.key_ranges.ensures same told none (λ q. c.in-Ok.ensures.updates.0 q) h
