use Rattle.std.proofs.Common.{ap, length, arith}
use Rattle.sr_io.specs.Window.{WindowView}
use Rattle.sr_io.proofs.Windows.{window_pass_over, slice_length}
use Rattle.sr_io.proofs.window.Window.pass_over.Goals as goal

pub returns : goal.returns
returns c =
    let v = c.self.view_is in
    let i = c.self.invariant in
    let unread = ap (λ (w : WindowView). length w.unread) v in
    let long = slice_length c.self.inside.buffer.items c.self.inside.at c.self.inside.end i.1 (omega arith) in
    window_pass_over c.self.inside.buffer.items c.self.inside.start c.self.inside.at c.self.inside.end c.args.n _ c.self.inside.over c.args.self.now (omega arith) v
