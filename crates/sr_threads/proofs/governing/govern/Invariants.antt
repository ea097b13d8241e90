use Rattle.std.proofs.Common.{◌≤◌}
use Rattle.sr_threads.specs.Governing.{Governed}
use Rattle.sr_threads.proofs.governing.govern.Given as goal

abbrev pub invariant-loop-turn : goal.invariant-loop-turn
invariant-loop-turn l = Governed l.initial.board l.initial.controller l.board l.controller × (l.waits ≤ l._turn)
