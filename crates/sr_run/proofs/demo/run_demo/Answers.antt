use Rattle.std.proofs.Common.{subst, sym}
use Rattle.sr_io.specs.Sink.{Writes}
use Rattle.sr_io.specs.declared.sink.Put.TheVariants.{All}
use Rattle.sr_run.proofs.Demonstrating.{counted, demo_says}
use Rattle.sr_run.specs.Demo.{RunsDemo}
use Rattle.sr_run.proofs.demo.run_demo.Goals as goal

pub returns-in-All-clause-demo : goal.returns-in-All-clause-demo
returns-in-All-clause-demo g c =
    let before = g.K.Sink.known c.args.sink.now in
    let after = g.K.Sink.known c.print_summary.new.sink in
    let shown = c.in-Ok.shown in
    let h = c.in-Ok.ensures in
    let written = subst (λ t. Writes All before after t) (counted c.args.number shown h) c.in-All.ensures in
    subst (λ s. RunsDemo c.args.number s before after) (sym c.status_after.ensures)
    (demo_says c.args.number h.lines before after shown.awaited h.run written)
