use Rattle.std.proofs.Common.{◌≡◌, ℕ, List, None}
use Rattle.sr_io.specs.Window.{Pending}
use Rattle.sr_pcapng.specs.Reader.{PassesOver}
use Rattle.sr_pcapng.proofs.ng_reader.NgReader.read_on.Given as goal

abbrev pub invariant-loop-head : goal.invariant-loop-head
invariant-loop-head g l = record {
  going : l.self.ended ≡ None;
  passed : (xs : List ℕ) → Pending l.fn.self.window (g.S.Source.known l.fn.source).left xs → PassesOver l.fn.self xs l.self (g.S.Source.known l.source).left;
  still : (g.S.Source.known l.source).faults ≡ (g.S.Source.known l.fn.source).faults;
}

abbrev pub decreases-loop-head : goal.decreases-loop-head
decreases-loop-head g l = l.self.place.room
