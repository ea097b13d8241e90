use Rattle.std.proofs.Common.{◌≡◌, ◌∙◌, ◌<◌, length, sym, ap, arith}
use Rattle.sr_machine.specs.declared.view.View.TheVariants.{OfPipe}
use Rattle.sr_pipe_rows.proofs.OwnSeats.{first_board, is_for_seat}
use Rattle.sr_words.specs.Boarding.{board_of}
use Rattle.sr_pipe_rows.proofs.shared.first_line.Goals as goal

pub handle-requires-clause-board : goal.handle-requires-clause-board
handle-requires-clause-board c =
    let k = c.in_ok-switch.switch.table.shared.key in
    let t = c.in_ok-switch.switch.table.shared.table_id in
    let some : 0 < length c.in_ok-boards.boards.pipes.items =
    let a = c.remove-board.ensures.len in let b = c.in_ok-boards.boards.pipes.ok.0 in omega arith in
    is_for_seat c.remove-board.result k t c.reserve.new.self
    (first_board k t k.layout.shape.pipes c.in_ok-boards.boards.pipes.items c.remove-board.result c.in_ok-boards.ensures.0 some
    c.remove-board.ensures.value
    ∙ ap (λ v. board_of k t (OfPipe v)) (sym (c.reserve.ensures.view ∙ c.new-pipe.ensures.view)))
    (ap (λ m. m.layout) c.in_ok-switch.ensures.config ∙ c.requires ∙ sym (c.reserve.ensures.layout ∙ c.new-pipe.ensures.layout))
