use Rattle.std.proofs.Common.{◌≡◌, ℕ, ◌≤◌, List, length}
use Rattle.sr_io.specs.Window.{Pending}
use Rattle.sr_capture.specs.Capture.{most_records}
use Rattle.sr_capture.specs.Reader.{IsGoing, place_of, window_of}
use Rattle.sr_capture.specs.Records.{records_from}
use Rattle.sr_capture.proofs.Gathering.{Reached}
use Rattle.sr_capture.proofs.reading.read_records.Given as goal

abbrev pub invariant-loop-number : goal.invariant-loop-number
invariant-loop-number g l =
    let known = g.S.Source.known in
    record {
      going : IsGoing l.reader;
      few : length l.packets.items ≤ l.number;
      still : (known l.source).faults ≡ (known l.fn.source).faults;
      reached : (xs : List ℕ) → Pending (window_of l.initial.reader) (known l.fn.source).left xs
          → Reached g.T.Kept.kept l.vips (records_from most_records (place_of l.initial.reader) xs) l.clock l.number (place_of l.reader) (window_of l.reader) (known l.source).left l.skips.items l.packets.items;
    }
