use Rattle.std.proofs.Common.{◌≡◌, ℕ, ◌≤◌, ◌-◌, List, drop}
use Rattle.sr_io.specs.Window.{Pending}
use Rattle.sr_pcapng.proofs.ahead.Ahead.skip.Given as goal

abbrev pub invariant-loop-at : goal.invariant-loop-at
invariant-loop-at g l = record {
  within : l.at ≤ l.size;
  rest : (xs : List ℕ) → Pending l.fn.self (g.S.Source.known l.fn.source).left xs → Pending l.self (g.S.Source.known l.source).left (drop l.at xs);
  still : (g.S.Source.known l.source).faults ≡ (g.S.Source.known l.fn.source).faults;
}

abbrev pub decreases-loop-at : goal.decreases-loop-at
decreases-loop-at g l = l.size - l.at
