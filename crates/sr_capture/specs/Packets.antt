-- What is kept of the records of a capture: the packets to virtual addresses, and why the others are skipped.
use Rattle.std.specs.Prelude.{ℕ, ◌+◌, ◌==◌, ◌||◌, if◌then◌else◌, List, [], ◌∷◌, ◌++◌}
use Rattle.sr_base.specs.declared.packet.Packet.{Packet}
use Rattle.sr_frame.specs.declared.seen.Seen.{Seen}
use Rattle.sr_frame.specs.declared.seen.Seen.TheVariants as seen_as
use Rattle.sr_frame.specs.declared.skip.Skip.{Skip}
use Rattle.sr_frame.specs.declared.skip.Skip.TheVariants.{NotIpv4}
use Rattle.sr_frame.specs.Frame.{seen}
use Rattle.sr_capture.specs.declared.clock.Clock.{Clock}
use Rattle.sr_capture.specs.Clock.{new_clock, seen_at, time_of}
use Rattle.sr_capture.specs.Records.{Frame}

-- what is seen in a frame: one of another link type than Ethernet and raw IP has no packet
abbrev pub seen_in : ℕ → List ℕ → List (ℕ × ℕ) → Seen
seen_in link bytes vips = if (link == 1) || (link == 101) then seen link bytes vips else seen_as.Skipped NotIpv4

-- what is kept of the packet in the record of this position and time, if it has one
abbrev pub kept_of : {T : Type 0} → (Packet → ℕ → T) → ℕ → ℕ → Seen → List T
kept_of kept number ms (seen_as.Packet key kind) = kept (record { number = number; key = key; kind = kind }) ms ∷ []
kept_of kept number ms (seen_as.Skipped why) = []

-- the record of this position, if it is skipped, and why
abbrev pub skip_of : ℕ → Seen → List (ℕ × Skip)
skip_of number (seen_as.Packet key kind) = []
skip_of number (seen_as.Skipped why) = (number, why) ∷ []

-- what is kept of the packets in these records, the first of which has this position and comes after the times that were seen
abbrev pub kept_from : {T : Type 0} → (Packet → ℕ → T) → List (ℕ × ℕ) → Clock → ℕ → List Frame → List T
kept_from kept vips clock number [] = []
kept_from kept vips clock number (frame ∷ frames) =
    kept_of kept number (time_of (seen_at clock frame.ms)) (seen_in frame.link frame.bytes vips) ++ kept_from kept vips (seen_at clock frame.ms) (number + 1) frames

-- the skipped ones of these records
abbrev pub skips_from : List (ℕ × ℕ) → ℕ → List Frame → List (ℕ × Skip)
skips_from vips number [] = []
skips_from vips number (frame ∷ frames) = skip_of number (seen_in frame.link frame.bytes vips) ++ skips_from vips (number + 1) frames

-- the same of all the records of a capture
abbrev pub kept_in : {T : Type 0} → (Packet → ℕ → T) → List (ℕ × ℕ) → List Frame → List T
kept_in kept vips frames = kept_from kept vips new_clock 1 frames

abbrev pub skips_in : List (ℕ × ℕ) → List Frame → List (ℕ × Skip)
skips_in vips frames = skips_from vips 1 frames
