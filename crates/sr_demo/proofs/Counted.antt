-- Each record of a capture is kept or skipped.
use Rattle.std.proofs.Common.{◌≡◌, ℕ, ◌+◌, List, [], ◌∷◌, length, refl, arith}
use Rattle.sr_capture.specs.Clock.{seen_at, time_of}
use Rattle.sr_capture.specs.Packets.{kept_from, kept_of, seen_in, skip_of, skips_from}
use Rattle.sr_capture.specs.Records.{Frame}
use Rattle.sr_capture.specs.declared.clock.Clock.{Clock}
use Rattle.sr_frame.specs.declared.seen.Seen.{Seen}
use Rattle.sr_frame.specs.declared.seen.Seen.TheVariants as seen_as
use Rattle.sr_played.specs.Captured.{timed}
use Rattle.std.proofs.Common.{◌++◌}
use Rattle.sr_frame.specs.declared.skip.Skip.{Skip}
use Rattle.sr_rounds.specs.declared.timed.Timed.{Timed}

one : (number ms : ℕ) (s : Seen) (kept : List Timed) (skips : List (ℕ × Skip))
    → length (kept_of timed number ms s ++ kept) + length (skip_of number s ++ skips) ≡ 1 + (length kept + length skips)
one number ms (seen_as.Packet key kind) kept skips = omega arith
one number ms (seen_as.Skipped why) kept skips = omega arith

pub all_counted : (vips : List (ℕ × ℕ)) (clock : Clock) (number : ℕ) (frames : List Frame)
    → length (kept_from timed vips clock number frames) + length (skips_from vips number frames) ≡ length frames
all_counted vips clock number [] = refl
all_counted vips clock number (frame ∷ frames) =
    let here = one number (time_of (seen_at clock frame.ms)) (seen_in frame.link frame.bytes vips) (kept_from timed vips (seen_at clock frame.ms) (number + 1) frames)
    (skips_from vips (number + 1) frames) in
    let more = all_counted vips (seen_at clock frame.ms) (number + 1) frames in
    omega (arith, here, more)
