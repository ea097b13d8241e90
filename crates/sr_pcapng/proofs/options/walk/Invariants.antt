use Rattle.std.proofs.Common.{◌≡◌, ℕ, ◌≤◌, List, None}
use Rattle.sr_io.specs.Window.{Pending}
use Rattle.sr_pcapng.specs.Options.{walk}
use Rattle.sr_pcapng.proofs.Walking.{WalksOn}
use Rattle.sr_pcapng.proofs.options.walk.Given as goal

abbrev pub invariant-loop-room : goal.invariant-loop-room
invariant-loop-room g l = record {
  within : l.room ≤ l.size;
  walked : (xs : List ℕ) → Pending l.fn.ahead (g.S.Source.known l.fn.source).left xs
      → WalksOn l.endian l.offset l.room l.resolution (Pending l.ahead (g.S.Source.known l.source).left) (walk l.size l.endian l.offset l.size None xs);
  still : (g.S.Source.known l.source).faults ≡ (g.S.Source.known l.fn.source).faults;
}

abbrev pub decreases-loop-room : goal.decreases-loop-room
decreases-loop-room g l = l.room
