use Rattle.std.proofs.Common.{refl}
use Rattle.sr_script.specs.Script.{spelled}
use Rattle.sr_run.specs.Outside.{outside}
use Rattle.sr_run.proofs.Auditing.{unfetched_refuses}
use Rattle.sr_run.proofs.Stepping.{ends_played, ends_unscripted, no_script_refusal, says_played, says_unscripted}
use Rattle.sr_run.proofs.played.run_played.Goals as goal

pub returns-in-Ok-clause-plays : goal.returns-in-Ok-clause-plays
returns-in-Ok-clause-plays g c = record {
  ends = ends_played c.play_capture.result c.play_capture.ensures.ends;
  says = λ texts told xs left.
      says_played c.play_capture.result (texts c.args.script.now) (spelled c.in-Ok.script) c.args.way xs
      (outside (g.S.Source.known c.args.source.now) (g.F.Shelf.known c.args.shelf.now) (g.K.Sink.known c.args.sink.now))
      (outside (g.S.Source.known c.play_capture.new.source) (g.F.Shelf.known c.fetch_script.new.shelf) (g.K.Sink.known c.play_capture.new.sink))
      (c.in-Ok.ensures.text texts told) (c.play_capture.ensures.log xs left) c.play_capture.ensures.source;
  refuses = λ refusal texts told e. absurd (no_script_refusal c.play_capture.result c.play_capture.ensures.ends refusal e);
}

pub returns-in-Err-clause-plays : goal.returns-in-Err-clause-plays
returns-in-Err-clause-plays g c = record {
  ends = ends_unscripted c.in-Err.status c.in-Err.ensures.ready;
  says = λ texts told xs left.
      says_unscripted c.in-Err.status (texts c.args.script.now) c.args.way xs
      (outside (g.S.Source.known c.args.source.now) (g.F.Shelf.known c.args.shelf.now) (g.K.Sink.known c.args.sink.now))
      (outside (g.S.Source.known c.args.source.now) (g.F.Shelf.known c.fetch_script.new.shelf) (g.K.Sink.known c.args.sink.now))
      (c.in-Err.ensures.text texts told) refl c.in-Err.ensures.faults;
  refuses = λ refusal texts told e. unfetched_refuses c.in-Err.status (texts c.args.script.now) refusal (c.in-Err.ensures.text texts told) e;
}
