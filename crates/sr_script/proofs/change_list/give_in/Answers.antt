use Rattle.std.proofs.lemmas.Result.{err_from_is_err_and}
use Rattle.sr_script.specs.Walk.{give_in}
use Rattle.sr_script.proofs.Readings.{fails_then}
use Rattle.sr_script.proofs.change_list.give_in.Goals as goal

pub returns-in_err-vip : goal.returns-in_err-vip
unfolding give_in
returns-in_err-vip c =
    let p = err_from_is_err_and c.from_residual.result c.from_residual.ensures.1 in
    rw (p.1, p.2, ← c.given_vip.ensures) (fails_then _ _ _ c.in_err-vip.ensures)

pub returns-in_err-pool : goal.returns-in_err-pool
unfolding give_in
returns-in_err-pool c =
    let p = err_from_is_err_and c.from_residual-in_err-pool.result c.from_residual-in_err-pool.ensures.1 in
    rw (p.1, p.2, ← c.given_vip.ensures, c.in_ok-vip.ensures) (fails_then _ _ _ c.in_err-pool.ensures)

pub returns : goal.returns
unfolding give_in
returns c = rw (← c.given_vip.ensures, c.in_ok-vip.ensures, c.in_ok-pool.ensures)
