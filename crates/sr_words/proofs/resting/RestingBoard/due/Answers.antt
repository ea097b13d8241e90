use Rattle.sr_words.proofs.Hears.{hears_time}
use Rattle.sr_words.proofs.resting.RestingBoard.due.Goals as goal

pub returns-clause-fits : goal.returns-clause-fits
returns-clause-fits c =
    hears_time c.args.self.now.board.words.now.key c.args.self.now.board.seat.me.0 c.args.self.now.board.heard c.due.new.self c.args.ms c.due.ensures
