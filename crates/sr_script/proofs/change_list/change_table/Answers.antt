use Rattle.std.proofs.lemmas.Result.{err_from_is_err_and}
use Rattle.sr_script.specs.Walk.{change_table}
use Rattle.sr_script.proofs.Readings.{fails_then}
use Rattle.sr_script.proofs.change_list.change_table.Goals as goal

pub returns-in_err-only_known : goal.returns-in_err-only_known
unfolding change_table
returns-in_err-only_known c =
    let p = err_from_is_err_and c.from_residual.result c.from_residual.ensures.1 in
    rw (p.1, p.2, ← c.gives.ensures, ← c.change_keys.ensures) (fails_then _ _ _ c.in_err-only_known.ensures)

pub returns-in_err-at_ms : goal.returns-in_err-at_ms
unfolding change_table
returns-in_err-at_ms c =
    let p = err_from_is_err_and c.from_residual-in_err-at_ms.result c.from_residual-in_err-at_ms.ensures.1 in
    rw (p.1, p.2, ← c.gives.ensures, ← c.change_keys.ensures, c.in_ok-only_known.ensures, ← c.last_ms.ensures, ← c.due_in.ensures) (fails_then _ _ _ c.in_err-at_ms.ensures)

pub returns-in_err-what : goal.returns-in_err-what
unfolding change_table
returns-in_err-what c =
    let p = err_from_is_err_and c.from_residual-in_err-what.result c.from_residual-in_err-what.ensures.1 in
    rw (p.1, p.2, ← c.gives.ensures, ← c.change_keys.ensures, c.in_ok-only_known.ensures, ← c.last_ms.ensures, ← c.due_in.ensures, c.in_ok-at_ms.ensures) (fails_then _ _ _ c.in_err-what.ensures)

pub returns : goal.returns
unfolding change_table
returns c = rw (← c.gives.ensures, ← c.change_keys.ensures, c.in_ok-only_known.ensures, ← c.last_ms.ensures, ← c.due_in.ensures, c.in_ok-at_ms.ensures, c.in_ok-what.ensures)
