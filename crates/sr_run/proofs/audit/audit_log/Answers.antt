use Rattle.std.proofs.Common.{sym, subst}
use Rattle.sr_script.specs.Script.{spelled}
use Rattle.sr_text.specs.declared.log.Log.{Log}
use Rattle.sr_run.specs.Audit.{AuditsLog}
use Rattle.sr_run.proofs.Auditing.{audits_unread}
use Rattle.sr_run.proofs.audit.audit_log.Goals as goal

pub returns-in-Err-clause-log : goal.returns-in-Err-clause-log
returns-in-Err-clause-log g c = λ xs e.
    let source = g.S.Source.known c.read_lines.new.source in
    let sink = g.K.Sink.known c.args.sink.now in
    subst (λ z. AuditsLog z (spelled c.args.script.now) xs source sink sink) (sym c.from.ensures)
    (audits_unread (λ (log : Log). log.skips.items) (λ (log : Log). log.lines.items) c.in-Err.why (spelled c.args.script.now) xs source sink (c.in-Err.ensures.text xs e))
