use Rattle.std.proofs.Common.{sym, subst}
use Rattle.sr_io.specs.Window.{WindowView, Pending}
use Rattle.sr_io.proofs.Reading.{pending_new}
use Rattle.sr_pcap.proofs.reader.Reader.begin.Goals as goal

pub returns-clause-header : goal.returns-clause-header
returns-clause-header g c = λ xs e.
    let before = (g.S.Source.known c.args.source.now).left in
    c.begin_through.ensures.header xs (subst (λ (v : WindowView). Pending v before xs) (sym c.in_ok-window.ensures) (pending_new _ before xs e))
