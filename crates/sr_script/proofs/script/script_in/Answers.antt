use Rattle.std.proofs.Common.{◌≡◌, length, arith}
use Rattle.std.proofs.lemmas.Result.{err_from_is_err_and}
use Rattle.sr_script.specs.Walk.{script_in}
use Rattle.sr_script.proofs.Readings.{fails_then}
use Rattle.sr_script.proofs.script.script_in.Goals as goal

pub returns-in_err-only_known : goal.returns-in_err-only_known
unfolding script_in
returns-in_err-only_known c =
    let p = err_from_is_err_and c.from_residual.result c.from_residual.ensures.1 in
    rw (p.1, p.2) (fails_then _ _ _ c.in_err-only_known.ensures)

pub returns-in_err-shape : goal.returns-in_err-shape
unfolding script_in
returns-in_err-shape c =
    let p = err_from_is_err_and c.from_residual-in_err-shape.result c.from_residual-in_err-shape.ensures.1 in
    rw (p.1, p.2, c.in_ok-only_known.ensures) (fails_then _ _ _ c.in_err-shape.ensures)

pub returns-in_err-servers : goal.returns-in_err-servers
unfolding script_in
returns-in_err-servers c =
    let p = err_from_is_err_and c.from_residual-in_err-servers.result c.from_residual-in_err-servers.ensures.1 in
    rw (p.1, p.2, c.in_ok-only_known.ensures, c.in_ok-shape.ensures) (fails_then _ _ _ c.in_err-servers.ensures.value)

pub returns-in_err-vips : goal.returns-in_err-vips
unfolding script_in
returns-in_err-vips c =
    let p = err_from_is_err_and c.from_residual-in_err-vips.result c.from_residual-in_err-vips.ensures.1 in
    let count : length c.in_ok-servers.servers.items ≡ c.len-count.result = omega (arith, c.len-count.ensures, c.in_ok-servers.servers.ok.0) in
    rw (p.1, p.2, c.in_ok-only_known.ensures, c.in_ok-shape.ensures, c.in_ok-servers.ensures.value, count)
    (fails_then _ _ _ c.in_err-vips.ensures.value)

pub returns-in_err-changes : goal.returns-in_err-changes
unfolding script_in
returns-in_err-changes c =
    let p = err_from_is_err_and c.from_residual-in_err-changes.result c.from_residual-in_err-changes.ensures.1 in
    let count : length c.in_ok-servers.servers.items ≡ c.len-count.result = omega (arith, c.len-count.ensures, c.in_ok-servers.servers.ok.0) in
    let vips : length c.in_ok-vips.vips.addresses.items ≡ c.len-vip_count.result = omega (arith, c.len-vip_count.ensures, c.in_ok-vips.vips.addresses.ok.0) in
    rw (p.1, p.2, c.in_ok-only_known.ensures, c.in_ok-shape.ensures, c.in_ok-servers.ensures.value, count, c.in_ok-vips.ensures.value, vips)
    (fails_then _ _ _ c.in_err-changes.ensures)

pub returns : goal.returns
unfolding script_in
returns c =
    let count : length c.in_ok-servers.servers.items ≡ c.len-count.result = omega (arith, c.len-count.ensures, c.in_ok-servers.servers.ok.0) in
    let vips : length c.in_ok-vips.vips.addresses.items ≡ c.len-vip_count.result = omega (arith, c.len-vip_count.ensures, c.in_ok-vips.vips.addresses.ok.0) in
    rw (c.in_ok-only_known.ensures, c.in_ok-shape.ensures, c.in_ok-servers.ensures.value, count, c.in_ok-vips.ensures.value, vips, c.in_ok-changes.ensures)
