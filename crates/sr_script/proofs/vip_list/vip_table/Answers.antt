use Rattle.std.proofs.lemmas.Result.{err_from_is_err_and}
use Rattle.sr_script.specs.Walk.{vip_table}
use Rattle.sr_script.proofs.Readings.{fails_then}
use Rattle.sr_script.proofs.vip_list.vip_table.Goals as goal

pub returns-in_err-only_known : goal.returns-in_err-only_known
unfolding vip_table
returns-in_err-only_known c =
    let p = err_from_is_err_and c.from_residual.result c.from_residual.ensures.1 in
    rw (p.1, p.2, ← c.len.ensures) (fails_then _ _ _ c.in_err-only_known.ensures)

pub returns-in_err-address : goal.returns-in_err-address
unfolding vip_table
returns-in_err-address c =
    let p = err_from_is_err_and c.from_residual-in_err-address.result c.from_residual-in_err-address.ensures.1 in
    rw (p.1, p.2, ← c.len.ensures, c.in_ok-only_known.ensures, ← c.vip_address.ensures) (fails_then _ _ _ c.in_err-address.ensures)

pub returns-in_err-pool : goal.returns-in_err-pool
unfolding vip_table
returns-in_err-pool c =
    let p = err_from_is_err_and c.from_residual-in_err-pool.result c.from_residual-in_err-pool.ensures.1 in
    rw (p.1, p.2, ← c.len.ensures, c.in_ok-only_known.ensures, ← c.vip_address.ensures, c.in_ok-address.ensures) (fails_then _ _ _ c.in_err-pool.ensures)

pub returns : goal.returns
unfolding vip_table
returns c = rw (← c.len.ensures, c.in_ok-only_known.ensures, ← c.vip_address.ensures, c.in_ok-address.ensures, c.in_ok-pool.ensures)
