use Rattle.sr_words.proofs.Hears.{hears_packet}
use Rattle.sr_words.proofs.resting.RestingBoard.enter.Goals as goal

pub returns-clause-fits : goal.returns-clause-fits
returns-clause-fits c =
    hears_packet c.args.self.now.board.words.now.key c.args.self.now.board.seat.me.0 c.args.self.now.board.heard c.enter.new.self c.args.packet c.enter.ensures
