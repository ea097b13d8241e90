use Rattle.sr_stepped.proofs.Opened.{AreNew}
use Rattle.sr_stepped.proofs.beginning.new_pipes.Given as goal

abbrev pub invariant-loop-number : goal.invariant-loop-number
invariant-loop-number l = AreNew l.layout l.number l.pipes.items
