use Rattle.std.proofs.Common.{Ok, Err, sym, subst}
use Rattle.sr_capture.specs.Capture.{Reads}
use Rattle.sr_script.specs.Script.{spelled}
use Rattle.sr_played.specs.Captured.{timed}
use Rattle.sr_run.specs.Played.{PlaysCapture}
use Rattle.sr_run.proofs.Stepping.{plays_read, plays_unread}
use Rattle.sr_run.proofs.played.play_capture.Goals as goal

pub returns-in-Ok-clause-log : goal.returns-in-Ok-clause-log
returns-in-Ok-clause-log g c = λ xs e.
    let source = g.S.Source.known c.read_capture.new.source in
    let read = subst (λ vips. Reads timed (Ok c.in-Ok.captured) vips xs source.left) c.deref.ensures.value (c.in-Ok.ensures.capture xs e) in
    plays_read (spelled c.args.script) c.args.way xs c.in-Ok.captured read.0 read.1 source read.2 c.requires c.play_captured.result
    (g.K.Sink.known c.args.sink.now) (g.K.Sink.known c.play_captured.new.sink) c.play_captured.ensures

pub returns-in-Err-clause-log : goal.returns-in-Err-clause-log
returns-in-Err-clause-log g c = λ xs e.
    let source = g.S.Source.known c.read_capture.new.source in
    let sink = g.K.Sink.known c.args.sink.now in
    let read = subst (λ vips. Reads timed (Err c.in-Err.why) vips xs source.left) c.deref.ensures.value (c.in-Err.ensures.capture xs e) in
    subst (λ s. PlaysCapture s (spelled c.args.script) c.args.way xs source sink sink) (sym c.from.ensures)
    (plays_unread c.in-Err.why (spelled c.args.script) c.args.way xs source sink read)
