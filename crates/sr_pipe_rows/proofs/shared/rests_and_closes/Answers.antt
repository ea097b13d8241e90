use Rattle.std.proofs.Common.{map, sym, subst, List}
use Rattle.std.specs.List.{range_with_len}
use Rattle.sr_machine.specs.Pipe.{fresh_pipe}
use Rattle.sr_pipe_rows.proofs.OwnSeats.{new_idle}
use Rattle.sr_words.specs.Boarding.{FitIdle, HeldBoard}
use Rattle.sr_pipe_rows.proofs.shared.rests_and_closes.Goals as goal

pub rest-resting-requires : goal.rest-resting-requires
rest-resting-requires c =
    let k = c.in_ok-switch.switch.table.shared.key in
    let t = c.in_ok-switch.switch.table.shared.table_id in
    let n = k.layout.shape.pipes in (
      map fresh_pipe (range_with_len 0 n),
      subst (λ (hs : List HeldBoard). FitIdle hs (map fresh_pipe (range_with_len 0 n))) (sym c.in_ok-boards.ensures.0) (new_idle k t 0 n),
    )
