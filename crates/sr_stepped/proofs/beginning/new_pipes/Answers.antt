use Rattle.std.proofs.Common.{◌+◌, refl, subst, sym}
use Rattle.sr_stepped.proofs.Opened.{AreNew, new_more}
use Rattle.sr_stepped.proofs.beginning.new_pipes.Goals as goal

pub loop-number-preserved : goal.loop-number-preserved
loop-number-preserved c =
    subst (AreNew c.args.layout.now (c.loop-number.number + 1)) (sym c.in_ok-push.ensures.items)
    (new_more c.args.layout.now c.loop-number.number c.loop-number.pipes.items c.new.result c.loop-number.invariant c.new.ensures.layout c.new.ensures.view)
