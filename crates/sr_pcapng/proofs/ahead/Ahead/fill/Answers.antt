use Rattle.std.proofs.Common.{◌≡◌, ◌++◌, Ok, length, drop, ap, sym, subst, ◌∙◌}
use Rattle.std.proofs.lemmas.List.{take_at}
use Rattle.sr_io.specs.Window.{WindowView, Pending}
use Rattle.sr_pcapng.specs.Reading.{Fills}
use Rattle.sr_pcapng.proofs.Filling.{filled}
use Rattle.sr_pcapng.proofs.ahead.Ahead.fill.Goals as goal

pub returns-clause-bytes : goal.returns-clause-bytes
returns-clause-bytes g c = λ xs p.
    let w = c.ready.new.self in
    let told = (g.S.Source.known c.ready.new.source).left in
    let n = length c.front-there.result.now in
    let piece : c.copy_from_slice.new.self ≡ c.front-there.result.now = c.copy_from_slice.ensures.after in
    subst (λ (v : WindowView). Fills (Ok n) c.args.size xs (c.copy_from_slice.new.self ++ drop n c.args.into.now) (Pending v told)) (sym c.pass.ensures)
    (filled w told xs (c.copy_from_slice.new.self ++ drop n c.args.into.now) c.args.size n c.in_ok-ready.ensures.filled (c.ready.ensures.pending xs p) (ap length c.front-there.ensures)
    (take_at c.copy_from_slice.new.self (drop n c.args.into.now) n (ap length piece) ∙ piece ∙ c.front-there.ensures))
