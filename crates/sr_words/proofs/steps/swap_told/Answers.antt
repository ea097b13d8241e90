use Rattle.std.proofs.Common.{refl, arith}
use Rattle.sr_machine.specs.Names.{name_for}
use Rattle.sr_machine.specs.declared.op.Op.TheVariants.{Swaps}
use Rattle.sr_words.proofs.Stepping.{made_back, step_may}
use Rattle.sr_words.proofs.steps.swap_told.Goals as goal

pub swap-requires : goal.swap-requires
swap-requires g c = (
  c.requires.table,
  omega arith,
  step_may c.args.words.now.key g.T.Telling.config c.args.heard.now g.T.Telling.heard c.args.words.now.table_id.slots c.args.seat.now.id c.args.seat.now.me c.args.layout.now (Swaps (name_for c.args.at) c.args.value)
      c.words_stand_apart.ensures.stand c.words_stand_apart.ensures.stores c.packet_ranges.ensures c.requires.layout c.requires.config c.requires.heard c.requires.free c.requires.next
      c.args.at c.place.result refl c.requires.named c.place.ensures.value,
)

pub returns-clause-made : goal.returns-clause-made
returns-clause-made g c =
    made_back c.args.words.now.key g.T.Telling.config c.args.heard.now g.T.Telling.heard c.args.seat.now.me.0 c.swap.new.seat.me.0 c.swap.result c.requires.config c.requires.heard
    c.swap.ensures.2.0
