use Rattle.sr_plain.proofs.Openings.{opens_so}
use Rattle.sr_plain.proofs.plain_board.PlainBoard.opening.Goals as goal

pub returns-clause-words : goal.returns-clause-words
returns-clause-words c =
    opens_so c.args.config.now c.layout.result.now c.pools.result.now c.in_ok-words.words.words c.layout.ensures c.pools.ensures
    (c.in_ok-words.ensures.words c.args.config.now.changes)
