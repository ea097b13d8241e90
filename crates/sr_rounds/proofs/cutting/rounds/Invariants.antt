use Rattle.std.proofs.Common.{◌≡◌, ◌+◌, ◌≤◌, ◌++◌, drop}
use Rattle.sr_rounds.specs.Rounds.{rounds_after, rounds_of}
use Rattle.sr_rounds.proofs.cutting.rounds.Given as goal

abbrev pub invariant-loop-timed : goal.invariant-loop-timed
invariant-loop-timed l = (l.rounds.items ++ rounds_after l.window_ms l.open (drop l.timed-index l.timed-items) ≡ rounds_of l.window_ms l.packets)
    × (l.open.from ≤ l.open.to) × (l.open.to ≡ l.timed-index + 1)
