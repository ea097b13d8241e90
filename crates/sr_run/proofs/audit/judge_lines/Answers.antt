use Rattle.std.proofs.Common.{◌≡◌, ◌+◌, ◌≤◌, length, ap, ◌∙◌, arith}
use Rattle.sr_base.specs.Limit.{limit_of}
use Rattle.sr_law.specs.Pools.{pools_from}
use Rattle.sr_run.proofs.AuditedLines.{fits_pools, refusal_within}
use Rattle.sr_run.proofs.audit.judge_lines.Goals as goal

pub check-requires : goal.check-requires
check-requires c =
    let script = c.args.script.now in
    let fits = fits_pools script.shape script.first.items script.changes.items (length script.servers.items) c.requires.fitting.layout in
    let pools : c.in_ok-pools.pools ≡ pools_from 0 script.first.items script.changes.items = c.in_ok-pools.ensures ∙ ap (λ f. pools_from 0 f c.deref-2.result.now) c.deref.ensures.value ∙ ap (λ h. pools_from 0 script.first.items h) c.deref-2.ensures.value in
    ap (λ p. limit_of script.shape (length p) c.len.result) pools ∙ ap (λ n. limit_of script.shape (length (pools_from 0 script.first.items script.changes.items)) n) (c.len.ensures ∙ script.servers.ok.0) ∙ fits

pub overflow_add-result-in-Err-Breach : goal.overflow_add-result-in-Err-Breach
overflow_add-result-in-Err-Breach c =
    let lines = c.args.log.now.lines.items in
    let skips = c.args.log.now.skips.items in
    let line : c.in-Err-Breach.line ≤ length c.deref-3.result.now + 1 = refusal_within _ c.deref-3.result.now c.in-Err-Breach.field-0 c.in-Err-Breach.line c.in-Err-Breach.clause c.in-Err-Breach.field-0-is c.in-Err-Breach.ensures in
    let some : length c.deref-3.result.now ≡ length lines = ap length c.deref-3.ensures.value in
    let skipped : c.len-in-Err-Breach.result ≡ length skips = c.len-in-Err-Breach.ensures ∙ c.args.log.now.skips.ok.0 in
    let few = c.requires.few in
    omega arith
