use Rattle.std.proofs.Common.{refl}
use Rattle.sr_script.specs.Script.{spelled}
use Rattle.sr_run.specs.Outside.{outside}
use Rattle.sr_run.proofs.Auditing.{says_audited, ends_audited, no_script_status, says_unfetched, ends_unfetched, unfetched_refuses}
use Rattle.sr_run.proofs.audit.run_audit.Goals as goal

pub returns-in-Ok-clause-audit : goal.returns-in-Ok-clause-audit
returns-in-Ok-clause-audit g c = record {
  ends = ends_audited c.audit_log.result c.audit_log.ensures.ends;
  says = λ texts told xs left.
      says_audited c.audit_log.result (texts c.args.script.now) (spelled c.in-Ok.script) xs
      (outside (g.S.Source.known c.args.source.now) (g.F.Shelf.known c.args.shelf.now) (g.K.Sink.known c.args.sink.now))
      (outside (g.S.Source.known c.audit_log.new.source) (g.F.Shelf.known c.fetch_script.new.shelf) (g.K.Sink.known c.audit_log.new.sink))
      (c.in-Ok.ensures.text texts told) (c.audit_log.ensures.log xs left) c.audit_log.ensures.source;
  refuses = λ refusal texts told e. absurd (no_script_status c.audit_log.result c.audit_log.ensures.ends refusal e);
}

pub returns-in-Err-clause-audit : goal.returns-in-Err-clause-audit
returns-in-Err-clause-audit g c = record {
  ends = ends_unfetched c.in-Err.status c.in-Err.ensures.ready;
  says = λ texts told xs left.
      says_unfetched c.in-Err.status (texts c.args.script.now) xs
      (outside (g.S.Source.known c.args.source.now) (g.F.Shelf.known c.args.shelf.now) (g.K.Sink.known c.args.sink.now))
      (outside (g.S.Source.known c.args.source.now) (g.F.Shelf.known c.fetch_script.new.shelf) (g.K.Sink.known c.args.sink.now))
      (c.in-Err.ensures.text texts told) refl c.in-Err.ensures.faults;
  refuses = λ refusal texts told e. unfetched_refuses c.in-Err.status (texts c.args.script.now) refusal (c.in-Err.ensures.text texts told) e;
}
