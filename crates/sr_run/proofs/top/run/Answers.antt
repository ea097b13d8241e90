use Rattle.std.proofs.Common.{◌≡◌, Some, map, string_bytes, ap, ◌∙◌}
use Rattle.sr_run.proofs.Completing.{audit_done, completes, of_words, one_done, play_done}
use Rattle.sr_run.specs.Command.{One, Audit, Replay, Steps, command_of}
use Rattle.sr_run.specs.Outside.{outside}
use Rattle.sr_run.specs.declared.command.Command.TheVariants as read
use Rattle.sr_run.specs.declared.way.Way.TheVariants.{Picked as ByPicks, OnThreads}
use Rattle.sr_run.proofs.top.run.Goals as goal

pub returns-in-Ok-Some-One-clause-complete : goal.returns-in-Ok-Some-One-clause-complete
returns-in-Ok-Some-One-clause-complete g c command is =
    let before = outside (g.S.Source.known c.args.source.now) (g.F.Shelf.known c.args.shelf.now) (g.K.Sink.known c.args.sink.now) in
    let after = outside (g.S.Source.known c.run_one.new.source) (g.F.Shelf.known c.args.shelf.now) (g.K.Sink.known c.run_one.new.sink) in
    let vip = c.in-Ok-Some-One.vip in
    let servers = c.in-Ok-Some-One.servers in
    let ran = c.run_one.ensures in
    let known : Some (One vip servers) ≡ command_of (map string_bytes c.args.words.now) =
    of_words c.in-Ok-Some-One.field-0 (read.One vip servers) (command_of (map string_bytes c.args.words.now)) c.in-Ok-Some-One.ensures.value (c.in-Ok-Some-One.field-0-is ∙ ap Some c.in-Ok-Some-One.field-0-0-is) in
    completes (One vip servers) command (command_of (map string_bytes c.args.words.now)) c.run_one.result before after known is
    (λ valid none. one_done vip servers c.run_one.result before after valid ran.says ran.source ran.sink none)

pub returns-in-Ok-Some-Audit-clause-complete : goal.returns-in-Ok-Some-Audit-clause-complete
returns-in-Ok-Some-Audit-clause-complete g c command is =
    let before = outside (g.S.Source.known c.args.source.now) (g.F.Shelf.known c.args.shelf.now) (g.K.Sink.known c.args.sink.now) in
    let after = outside (g.S.Source.known c.run_audit.new.source) (g.F.Shelf.known c.run_audit.new.shelf) (g.K.Sink.known c.run_audit.new.sink) in
    let script = c.in-Ok-Some-Audit.script.now in
    let ran = c.run_audit.ensures in
    let known : Some (Audit script) ≡ command_of (map string_bytes c.args.words.now) =
    of_words c.in-Ok-Some-Audit.field-0 (read.Audit c.in-Ok-Some-Audit.script) (command_of (map string_bytes c.args.words.now)) c.in-Ok-Some-Audit.ensures.value (c.in-Ok-Some-Audit.field-0-is ∙ ap Some c.in-Ok-Some-Audit.field-0-0-is) in
    completes (Audit script) command (command_of (map string_bytes c.args.words.now)) c.run_audit.result before after known is
    (λ valid none. audit_done script c.run_audit.result before after valid ran.audit ran.faults none)

pub returns-in-Ok-Some-Replay-clause-complete : goal.returns-in-Ok-Some-Replay-clause-complete
returns-in-Ok-Some-Replay-clause-complete g c command is =
    let before = outside (g.S.Source.known c.args.source.now) (g.F.Shelf.known c.args.shelf.now) (g.K.Sink.known c.args.sink.now) in
    let after = outside (g.S.Source.known c.run_played.new.source) (g.F.Shelf.known c.run_played.new.shelf) (g.K.Sink.known c.run_played.new.sink) in
    let script = c.in-Ok-Some-Replay.script.now in
    let ran = c.run_played.ensures in
    let known : Some (Replay script) ≡ command_of (map string_bytes c.args.words.now) =
    of_words c.in-Ok-Some-Replay.field-0 (read.Replay c.in-Ok-Some-Replay.script) (command_of (map string_bytes c.args.words.now)) c.in-Ok-Some-Replay.ensures.value (c.in-Ok-Some-Replay.field-0-is ∙ ap Some c.in-Ok-Some-Replay.field-0-0-is) in
    completes (Replay script) command (command_of (map string_bytes c.args.words.now)) c.run_played.result before after known is
    (λ valid none. play_done script OnThreads c.run_played.result before after valid.0 valid.1 ran.plays ran.faults none)

pub returns-in-Ok-Some-Steps-clause-complete : goal.returns-in-Ok-Some-Steps-clause-complete
returns-in-Ok-Some-Steps-clause-complete g c command is =
    let played = c.run_played-in-Ok-Some-Steps in
    let before = outside (g.S.Source.known c.args.source.now) (g.F.Shelf.known c.args.shelf.now) (g.K.Sink.known c.args.sink.now) in
    let after = outside (g.S.Source.known played.new.source) (g.F.Shelf.known played.new.shelf) (g.K.Sink.known played.new.sink) in
    let script = c.in-Ok-Some-Steps.script.now in
    let seed = c.in-Ok-Some-Steps.seed in
    let known : Some (Steps script seed) ≡ command_of (map string_bytes c.args.words.now) =
    of_words c.in-Ok-Some-Steps.field-0 (read.Steps c.in-Ok-Some-Steps.script seed) (command_of (map string_bytes c.args.words.now)) c.in-Ok-Some-Steps.ensures.value (c.in-Ok-Some-Steps.field-0-is ∙ ap Some c.in-Ok-Some-Steps.field-0-0-is) in
    completes (Steps script seed) command (command_of (map string_bytes c.args.words.now)) played.result before after known is
    (λ valid none. play_done script (ByPicks seed) played.result before after valid.0 valid.1 played.ensures.plays played.ensures.faults none)
