use Rattle.std.proofs.Common.{sym, subst}
use Rattle.sr_run.specs.One.{OneSays}
use Rattle.sr_run.proofs.Running.{says_read, says_unread}
use Rattle.sr_run.proofs.one.run_one.Goals as goal

pub returns-in-Ok-clause-says : goal.returns-in-Ok-clause-says
returns-in-Ok-clause-says g c = λ xs e.
    let read = c.in-Ok.ensures.capture xs e in
    says_read c.args.vip c.args.servers xs (g.S.Source.known c.read_capture.new.source) (g.K.Sink.known c.args.sink.now) (g.K.Sink.known c.print_captured.new.sink) c.print_captured.result c.in-Ok.captured
    read.0 c.requires read.1 read.2 c.print_captured.ensures

pub returns-in-Err-clause-says : goal.returns-in-Err-clause-says
returns-in-Err-clause-says g c = λ xs e.
    let source = g.S.Source.known c.read_capture.new.source in
    let sink = g.K.Sink.known c.args.sink.now in
    subst (λ s. OneSays s c.args.vip c.args.servers xs source sink sink) (sym c.from.ensures)
    (says_unread c.in-Err.why c.args.vip c.args.servers xs source sink (c.in-Err.ensures.capture xs e))
