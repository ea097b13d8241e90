use Rattle.std.proofs.Common.{◌≡◌, ◌-◌, length}
use Rattle.sr_io.specs.Window.{ReadsOn}
use Rattle.sr_io.proofs.window.Window.fill.Given as goal

abbrev pub invariant-loop-self : goal.invariant-loop-self
invariant-loop-self g l = record {
  reads : ReadsOn l.fn.self (g.S.Source.known l.fn.source).left l.self (g.S.Source.known l.source).left;
  still : (g.S.Source.known l.source).faults ≡ (g.S.Source.known l.fn.source).faults;
}

abbrev pub decreases-loop-self : goal.decreases-loop-self
decreases-loop-self g l = l.self.room - length l.self.unread
