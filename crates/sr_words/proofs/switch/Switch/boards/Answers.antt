use Rattle.std.proofs.Common.{◌≡◌, ◌∙◌, ◌<◌, ◌+◌, ◌-◌, ◌-◌, length, map, replicate, sym, ap, arith}
use Rattle.std.specs.List.{range_with_len}
use Rattle.sr_base.specs.WordName.{place_of, words_of}
use Rattle.sr_base.specs.declared.word_name.WordName.TheVariants.{Tick}
use Rattle.sr_machine.specs.Pipe.{fresh_pipe}
use Rattle.sr_machine.specs.declared.view.View.TheVariants.{OfPipe}
use Rattle.sr_words.proofs.Launching.{all_left, held_is, none_left, numbers_are, one_less, one_more, one_off, tables_are, views_left}
use Rattle.sr_words.proofs.Seating.{splits}
use Rattle.sr_words.specs.Boarding.{held, is_controlled}
use Rattle.sr_words.specs.Seats.{seated}
use Rattle.sr_words.proofs.switch.Switch.boards.Goals as goal

pub loop-number-init : goal.loop-number-init
loop-number-init c = (
  c.requires.0,
  ap (λ m. m.1) c.requires.1,
  ap (λ m. m.0) c.requires.1
      ∙ all_left c.args.self.now.table.shared.key c.shape.result.now.pipes (ap (λ s. s.pipes) c.shape.ensures ∙ ap (λ l. l.shape.pipes) c.args.self.now.placed),
  ap (map held) c.in_ok-pipes.ensures.items,
  c.in_ok-pipes.ensures.len,
  c.in_ok-pipes.ensures.capacity,
)

pub split_seat-other-requires : goal.split_seat-other-requires
split_seat-other-requires c = (
  c.loop-number.invariant.0,
  (let some : place_of c.args.self.now.layout Tick < words_of c.args.self.now.layout = c.words_stand_apart.ensures.below Tick tt in
      let all : c.args.self.now.table.shared.table_id.words ≡ words_of c.args.self.now.layout = c.args.self.now.wide in omega arith),
  splits c.args.self.now.table.shared.key c.loop-number.seat.id c.loop-number.seat.me.0,
)

pub loop-number-preserved : goal.loop-number-preserved
loop-number-preserved c =
    let k = c.args.self.now.table.shared.key in
    let t = c.args.self.now.table.shared.table_id in
    let i = c.loop-number.invariant in
    let s = c.split_seat-other.ensures in (
      s.0 ∙ i.0,
      ap (λ m. m.1) s.2 ∙ i.1,
      ap (λ m. m.0) s.2 ∙ one_less k c.loop-number.number c.shape.result.now.pipes c.loop-number.seat.me.0 c.loop-number-test.true i.2,
      ap (map held) c.push_reserved.ensures.items
          ∙ one_more k t c.loop-number.number c.loop-number.pipes.items c.board.result i.3
          (held_is c.board.result k t (OfPipe (fresh_pipe c.loop-number.number)) (ap (λ w. w.key) c.board.ensures.words)
          (ap (λ x. x.table_id) c.board.ensures.seat ∙ s.3 ∙ i.0)
          (ap (λ x. x.me.0) c.board.ensures.seat ∙ ap (λ m. m.0) s.4
          ∙ one_off k c.loop-number.number c.shape.result.now.pipes c.loop-number.seat.me.0 c.loop-number-test.true i.2)
          c.board.ensures.heard),
      c.push_reserved.ensures.len ∙ ap (λ n. n + 1) i.4,
      (let p = c.push_reserved.ensures.capacity in let q = i.5 in omega arith),
    )

pub invariant_of-result : goal.invariant_of-result
invariant_of-result c =
    let k = c.args.self.now.table.shared.key in
    let t = c.args.self.now.table.shared.table_id in
    let i = c.loop-number.invariant in
    let last : c.loop-number.number ≡ c.shape.result.now.pipes = let a = c.loop-number-test.false in let b = c.loop-number.auto.number-end in omega arith in
    record {
      one_table =
          tables_are k t c.loop-number.number c.loop-number.pipes.items i.3
          ∙ ap (λ id. replicate (length c.loop-number.pipes.items) id) (sym (ap (λ x. x.table_id) c.board-controller.ensures.seat ∙ i.0));
      one_each =
          numbers_are k t c.loop-number.number c.loop-number.pipes.items i.3
          ∙ ap (range_with_len 1)
          (last ∙ ap (λ s. s.pipes) c.shape.ensures ∙ ap (λ l. l.shape.pipes) c.args.self.now.placed
          ∙ sym (ap (λ l. l.shape.pipes) c.board-controller.result.placed ∙ ap (λ w. w.key.layout.shape.pipes) c.board-controller.ensures.words));
      alone =
          ap (λ x. is_controlled x.me.0.actors) c.board-controller.ensures.seat
          ∙ ap (λ v. is_controlled v.actors)
          (none_left k c.shape.result.now.pipes c.loop-number.seat.me.0 (i.2 ∙ ap (λ m. seated (views_left k m (c.shape.result.now.pipes - m))) last));
    }
