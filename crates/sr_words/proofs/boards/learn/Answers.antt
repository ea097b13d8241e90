use Rattle.std.proofs.Common.{◌≡◌, ◌<◌, subst, arith}
use Rattle.sr_base.specs.Layout.{LayoutView}
use Rattle.sr_base.specs.WordName.{place_of, words_of}
use Rattle.sr_base.specs.declared.word_name.WordName.TheVariants.{Tick}
use Rattle.sr_words.specs.Boarding.{AreAtRest}
use Rattle.sr_words.proofs.boards.learn.Goals as goal

pub learn_told-requires-clause-wide : goal.learn_told-requires-clause-wide
learn_told-requires-clause-wide c =
    let some : place_of c.args.board.now.layout Tick < words_of c.args.board.now.layout = c.words_stand_apart.ensures.below Tick tt in
    let all : c.args.board.now.words.now.table_id.words ≡ words_of c.args.board.now.layout = c.args.board.now.wide in omega arith

pub learn_told-requires-clause-all : goal.learn_told-requires-clause-all
learn_told-requires-clause-all c =
    subst (λ (l : LayoutView). AreAtRest l c.args.board.now.seat.me.0.actors) c.args.board.now.placed c.requires
