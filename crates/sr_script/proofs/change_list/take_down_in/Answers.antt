use Rattle.std.proofs.lemmas.Result.{err_from_is_err_and}
use Rattle.sr_script.specs.Walk.{take_down_in}
use Rattle.sr_script.proofs.Readings.{fails_then}
use Rattle.sr_script.proofs.change_list.take_down_in.Goals as goal

pub returns-in_err-server : goal.returns-in_err-server
unfolding take_down_in
returns-in_err-server c =
    let p = err_from_is_err_and c.from_residual.result c.from_residual.ensures.1 in
    rw (p.1, p.2, ← c.down_in.ensures) (fails_then _ _ _ c.in_err-server.ensures)

pub returns : goal.returns
unfolding take_down_in
returns c = rw (← c.down_in.ensures, c.in_ok-server.ensures)
