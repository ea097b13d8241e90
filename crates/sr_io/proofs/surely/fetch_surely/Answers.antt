use Rattle.std.proofs.Common.{Some, refl}
use Rattle.sr_io.proofs.surely.fetch_surely.Goals as goal

pub returns-clause-text : goal.returns-clause-text
returns-clause-text c = c.fetch_any.ensures.text (λ _. Some c.args.shelf.now) refl
