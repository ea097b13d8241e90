use Rattle.sr_words.proofs.Alone.{learn_may, learned_back}
use Rattle.sr_words.proofs.steps.learn_told.Goals as goal

pub load-requires : goal.load-requires
load-requires g c = (
  c.requires.table,
  c.requires.wide,
  learn_may c.args.words.now.key g.T.Telling.config c.args.heard.now g.T.Telling.heard c.args.words.now.table_id.slots c.args.seat.now.id 0 c.args.seat.now.me
      c.every_state_meets_the_invariant.ensures c.packet_ranges.ensures c.requires.config c.requires.heard c.requires.free c.requires.all,
)

pub returns-clause-learned : goal.returns-clause-learned
returns-clause-learned g c =
    learned_back c.args.words.now.key g.T.Telling.config c.args.heard.now g.T.Telling.heard c.args.seat.now.me.0 c.load.new.seat.me.0 c.requires.config c.requires.heard
    c.load.ensures.2.0
