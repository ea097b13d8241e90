use Rattle.std.proofs.lemmas.Result.{err_from_is_err_and}
use Rattle.sr_script.specs.Walk.{shape_in}
use Rattle.sr_script.proofs.Readings.{fails_then}
use Rattle.sr_script.proofs.shape_table.shape_in.Goals as goal

pub returns-in_err-only_known : goal.returns-in_err-only_known
unfolding shape_in
returns-in_err-only_known c =
    let p = err_from_is_err_and c.from_residual.result c.from_residual.ensures.1 in
    rw (p.1, p.2) (fails_then _ _ _ c.in_err-only_known.ensures)

pub returns-in_err-pipes : goal.returns-in_err-pipes
unfolding shape_in
returns-in_err-pipes c =
    let p = err_from_is_err_and c.from_residual-in_err-pipes.result c.from_residual-in_err-pipes.ensures.1 in
    rw (p.1, p.2, c.in_ok-only_known.ensures) (fails_then _ _ _ c.in_err-pipes.ensures.value)

pub returns-in_err-buckets : goal.returns-in_err-buckets
unfolding shape_in
returns-in_err-buckets c =
    let p = err_from_is_err_and c.from_residual-in_err-buckets.result c.from_residual-in_err-buckets.ensures.1 in
    rw (p.1, p.2, c.in_ok-only_known.ensures, c.in_ok-pipes.ensures.value) (fails_then _ _ _ c.in_err-buckets.ensures.value)

pub returns-in_err-digest_bits : goal.returns-in_err-digest_bits
unfolding shape_in
returns-in_err-digest_bits c =
    let p = err_from_is_err_and c.from_residual-in_err-digest_bits.result c.from_residual-in_err-digest_bits.ensures.1 in
    rw (p.1, p.2, c.in_ok-only_known.ensures, c.in_ok-pipes.ensures.value, c.in_ok-buckets.ensures.value) (fails_then _ _ _ c.in_err-digest_bits.ensures.value)

pub returns-in_err-versions : goal.returns-in_err-versions
unfolding shape_in
returns-in_err-versions c =
    let p = err_from_is_err_and c.from_residual-in_err-versions.result c.from_residual-in_err-versions.ensures.1 in
    rw (p.1, p.2, c.in_ok-only_known.ensures, c.in_ok-pipes.ensures.value, c.in_ok-buckets.ensures.value, c.in_ok-digest_bits.ensures.value) (fails_then _ _ _ c.in_err-versions.ensures.value)

pub returns-in_err-pool_max : goal.returns-in_err-pool_max
unfolding shape_in
returns-in_err-pool_max c =
    let p = err_from_is_err_and c.from_residual-in_err-pool_max.result c.from_residual-in_err-pool_max.ensures.1 in
    rw (p.1, p.2, c.in_ok-only_known.ensures, c.in_ok-pipes.ensures.value, c.in_ok-buckets.ensures.value, c.in_ok-digest_bits.ensures.value, c.in_ok-versions.ensures.value) (fails_then _ _ _ c.in_err-pool_max.ensures.value)

pub returns-in_err-full_rows : goal.returns-in_err-full_rows
unfolding shape_in
returns-in_err-full_rows c =
    let p = err_from_is_err_and c.from_residual-in_err-full_rows.result c.from_residual-in_err-full_rows.ensures.1 in
    rw (p.1, p.2, c.in_ok-only_known.ensures, c.in_ok-pipes.ensures.value, c.in_ok-buckets.ensures.value, c.in_ok-digest_bits.ensures.value, c.in_ok-versions.ensures.value, c.in_ok-pool_max.ensures.value) (fails_then _ _ _ c.in_err-full_rows.ensures.value)

pub returns-in_err-filter_bits : goal.returns-in_err-filter_bits
unfolding shape_in
returns-in_err-filter_bits c =
    let p = err_from_is_err_and c.from_residual-in_err-filter_bits.result c.from_residual-in_err-filter_bits.ensures.1 in
    rw (p.1, p.2, c.in_ok-only_known.ensures, c.in_ok-pipes.ensures.value, c.in_ok-buckets.ensures.value, c.in_ok-digest_bits.ensures.value, c.in_ok-versions.ensures.value, c.in_ok-pool_max.ensures.value, c.in_ok-full_rows.ensures.value) (fails_then _ _ _ c.in_err-filter_bits.ensures.value)

pub returns-in_err-ring : goal.returns-in_err-ring
unfolding shape_in
returns-in_err-ring c =
    let p = err_from_is_err_and c.from_residual-in_err-ring.result c.from_residual-in_err-ring.ensures.1 in
    rw (p.1, p.2, c.in_ok-only_known.ensures, c.in_ok-pipes.ensures.value, c.in_ok-buckets.ensures.value, c.in_ok-digest_bits.ensures.value, c.in_ok-versions.ensures.value, c.in_ok-pool_max.ensures.value, c.in_ok-full_rows.ensures.value, c.in_ok-filter_bits.ensures.value) (fails_then _ _ _ c.in_err-ring.ensures.value)

pub returns-in_err-window_ms : goal.returns-in_err-window_ms
unfolding shape_in
returns-in_err-window_ms c =
    let p = err_from_is_err_and c.from_residual-in_err-window_ms.result c.from_residual-in_err-window_ms.ensures.1 in
    rw (p.1, p.2, c.in_ok-only_known.ensures, c.in_ok-pipes.ensures.value, c.in_ok-buckets.ensures.value, c.in_ok-digest_bits.ensures.value, c.in_ok-versions.ensures.value, c.in_ok-pool_max.ensures.value, c.in_ok-full_rows.ensures.value, c.in_ok-filter_bits.ensures.value, c.in_ok-ring.ensures.value) (fails_then _ _ _ c.in_err-window_ms.ensures.value)

pub returns-in_err-idle_ms : goal.returns-in_err-idle_ms
unfolding shape_in
returns-in_err-idle_ms c =
    let p = err_from_is_err_and c.from_residual-in_err-idle_ms.result c.from_residual-in_err-idle_ms.ensures.1 in
    rw (p.1, p.2, c.in_ok-only_known.ensures, c.in_ok-pipes.ensures.value, c.in_ok-buckets.ensures.value, c.in_ok-digest_bits.ensures.value, c.in_ok-versions.ensures.value, c.in_ok-pool_max.ensures.value, c.in_ok-full_rows.ensures.value, c.in_ok-filter_bits.ensures.value, c.in_ok-ring.ensures.value, c.in_ok-window_ms.ensures.value) (fails_then _ _ _ c.in_err-idle_ms.ensures.value)

pub returns-in_err-lives : goal.returns-in_err-lives
unfolding shape_in
returns-in_err-lives c =
    let p = err_from_is_err_and c.from_residual-in_err-lives.result c.from_residual-in_err-lives.ensures.1 in
    rw (p.1, p.2, c.in_ok-only_known.ensures, c.in_ok-pipes.ensures.value, c.in_ok-buckets.ensures.value, c.in_ok-digest_bits.ensures.value, c.in_ok-versions.ensures.value, c.in_ok-pool_max.ensures.value, c.in_ok-full_rows.ensures.value, c.in_ok-filter_bits.ensures.value, c.in_ok-ring.ensures.value, c.in_ok-window_ms.ensures.value, c.in_ok-idle_ms.ensures.value) (fails_then _ _ _ c.in_err-lives.ensures.value)

pub returns : goal.returns
unfolding shape_in
returns c = rw (c.in_ok-only_known.ensures, c.in_ok-pipes.ensures.value, c.in_ok-buckets.ensures.value, c.in_ok-digest_bits.ensures.value, c.in_ok-versions.ensures.value, c.in_ok-pool_max.ensures.value, c.in_ok-full_rows.ensures.value, c.in_ok-filter_bits.ensures.value, c.in_ok-ring.ensures.value, c.in_ok-window_ms.ensures.value, c.in_ok-idle_ms.ensures.value, c.in_ok-lives.ensures.value)
