use Rattle.std.proofs.Common.{◌≡◌, [], reverse, take, drop}
use Rattle.sr_law.specs.Settled.{gives_settled}
use Rattle.sr_settled.proofs.gives.tell_in_order.Given as goal

abbrev pub invariant-loop-i : goal.invariant-loop-i
invariant-loop-i l = gives_settled l.setup [] l.dues l.lines ≡ gives_settled l.setup (reverse (take l.i l.lines)) l.left (drop l.i l.lines)
