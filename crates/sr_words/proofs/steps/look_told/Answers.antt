use Rattle.sr_words.proofs.Seating.{look_may}
use Rattle.sr_words.proofs.Stepping.{looked_back}
use Rattle.sr_words.proofs.steps.look_told.Goals as goal

pub load-requires : goal.load-requires
load-requires g c = (
  c.requires.table,
  c.requires.wide,
  look_may c.args.words.now.key g.T.Telling.config c.args.heard.now g.T.Telling.heard c.args.words.now.table_id.slots c.args.seat.now.id 0 c.args.seat.now.me
      c.packet_ranges.ensures c.requires.config c.requires.heard c.requires.free,
)

pub returns-clause-looked : goal.returns-clause-looked
returns-clause-looked g c =
    looked_back c.args.words.now.key g.T.Telling.config c.args.heard.now g.T.Telling.heard c.args.seat.now.me.0 c.load.new.seat.me.0 c.requires.config c.requires.heard
    c.load.ensures.2.0
