use Rattle.sr_words.proofs.Hears.{hears_refusal}
use Rattle.sr_words.proofs.resting.RestingBoard.refuse.Goals as goal

pub returns-clause-fits : goal.returns-clause-fits
returns-clause-fits c =
    hears_refusal c.args.self.now.board.words.now.key c.args.self.now.board.seat.me.0 c.args.self.now.board.heard c.refuse.new.self c.refuse.ensures
