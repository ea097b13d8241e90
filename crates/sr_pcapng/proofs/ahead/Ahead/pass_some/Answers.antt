use Rattle.std.proofs.Common.{◌≡◌, ◌≤◌, Ok, length, ap, sym, subst, arith}
use Rattle.sr_io.specs.Window.{WindowView, Pending}
use Rattle.sr_pcapng.specs.Reading.{Passes}
use Rattle.sr_pcapng.proofs.Filling.{passes}
use Rattle.sr_pcapng.proofs.ahead.Ahead.pass_some.Goals as goal

pub returns-clause-bytes : goal.returns-clause-bytes
returns-clause-bytes g c = rw (← c.self.view_is) (λ xs p.
    let w = c.fill.new.self in
    let told = (g.S.Source.known c.fill.new.source).left in
    let n = c.min-n.result in
    let long : length c.unread.result.now ≡ length w.unread = ap length c.unread.ensures in
    let within : n ≤ length w.unread = omega (arith, c.min-n.ensures) in
    subst (λ (v : WindowView). Passes (Ok n) xs (Pending v told)) (sym c.pass_over.ensures)
    (passes w told xs n c.in_ok-fill.ensures.filled (c.fill.ensures.reads.pending xs p) within (λ none. omega (arith, c.min-n.ensures))))
