use Rattle.sr_text.proofs.Growing.{adds_plain}
use Rattle.sr_text.proofs.adding.add_line.Goals as goal

pub returns : goal.returns
returns c =
    let none = rw c.if-skipped.false at c.in_ok-skipped.ensures in
    adds_plain _ c.args.window.now c.add_skip.new.window _ _ _ _ _ c.add_plain-2.ensures none.1 none.2 (λ e n. none.0 n)
