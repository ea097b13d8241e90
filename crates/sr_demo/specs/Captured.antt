-- What is kept of a capture that is made from a number.
use Rattle.std.specs.Prelude.{◌≡◌, ℕ, List, length, Ok}
use Rattle.sr_capture.specs.Capture.{capture_of}
use Rattle.sr_capture.specs.Packets.{kept_in, skips_in}
use Rattle.sr_capture.specs.Records.{Records}
use Rattle.sr_capture.specs.declared.captured.Captured.{Captured}
use Rattle.sr_gen.specs.Capture.{capture_of as made_of}
use Rattle.sr_played.specs.Captured.{timed}
use Rattle.sr_rounds.specs.declared.timed.Timed.{Timed}

-- It is read whole, as so many records; and of these is kept what there is for the virtual addresses.
pub record IsMade (number packets : ℕ) (vips : List (ℕ × ℕ)) (captured : Captured Timed) : Type 0 where
  pub records : Records
  pub taken : capture_of (made_of number packets) ≡ Ok records
  pub whole : length records.frames ≡ packets
  pub skips : captured.skips.items ≡ skips_in vips records.frames
  pub packets_kept : captured.packets.items ≡ kept_in timed vips records.frames
