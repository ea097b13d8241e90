use Rattle.std.proofs.Common.{◌≡◌, ◌∙◌, ◌<◌, arith}
use Rattle.sr_base.specs.WordName.{place_of, words_of}
use Rattle.sr_base.specs.declared.word_name.WordName.TheVariants.{Tick}
use Rattle.sr_words.proofs.Seating.{joins}
use Rattle.sr_words.proofs.word_board.WordBoard.join.Goals as goal

pub join_seat-requires : goal.join_seat-requires
join_seat-requires c = (
  c.args.self.now.own,
  c.requires ∙ c.args.self.now.own,
  c.args.other.free,
  (let some : place_of c.args.self.now.layout Tick < words_of c.args.self.now.layout = c.words_stand_apart.ensures.below Tick tt in
      let all : c.args.self.now.words.now.table_id.words ≡ words_of c.args.self.now.layout = c.args.self.now.wide in omega arith),
  joins c.args.self.now.words.now.key c.args.self.now.seat.id c.args.other.seat.id c.args.self.now.seat.me.0 c.args.other.seat.me.0,
)
