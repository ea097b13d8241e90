-- The packets of a capture to a script's virtual addresses are ones that its machine can take: each has its virtual address, and they aren't too many.
use Rattle.std.proofs.Common.{◌≡◌, ℕ, zero, suc, ◌+◌, ◌≤◌, List, [], ◌∷◌, ◌++◌, length, Option, Result, Ok, Err, subst, arith}
use Rattle.std.proofs.lemmas.Bool.{lt-ltb}
use Rattle.std.specs.List.{AllByRecursion}
use Rattle.sr_base.specs.declared.packet.Packet.{Packet}
use Rattle.sr_capture.specs.Capture.{Start, begin_of, capture_of, most_records, records_after}
use Rattle.sr_capture.specs.Clock.{new_clock, seen_at, time_of}
use Rattle.sr_capture.specs.Packets.{kept_from, kept_of, seen_in}
use Rattle.sr_capture.specs.Records.{Arrival, Frame, Place, Records, ended, next_record, records_from, with_frame}
use Rattle.sr_capture.specs.declared.capture_refusal.CaptureRefusal.{CaptureRefusal}
use Rattle.sr_capture.specs.declared.clock.Clock.{Clock}
use Rattle.sr_frame.specs.declared.seen.Seen.{Seen}
use Rattle.sr_frame.specs.declared.seen.Seen.TheVariants as seen_as
use Rattle.sr_inv_entered.specs.Entered.{AreTakable, MayEnter, given}
use Rattle.sr_pcap.specs.declared.begin_refusal.BeginRefusal.{BeginRefusal}
use Rattle.sr_rounds.specs.declared.timed.Timed.{Timed}
use Rattle.sr_played.proofs.FrameVips.{packets_within}
use Rattle.sr_played.specs.Captured.{played_packets, timed}
use Rattle.sr_script.specs.Fitting.{IsFitting}
use Rattle.sr_script.specs.Spelled.{Spelled}
use Rattle.sr_scripted.specs.Config.{config_of}

-- ---- a capture has so many records at most

one_more : (room : ℕ) (next : Result Arrival (Option CaptureRefusal)) → ((a : Arrival) → length (records_from room a.place a.rest).frames ≤ room)
    → length (elim next as (λ r. Records) [
      | Ok a ↦ with_frame a.frame (records_from room a.place a.rest)
      | Err why ↦ ended why
    ]).frames ≤ suc room
one_more room (Ok a) h = omega (arith, h a)
one_more room (Err why) h = omega (arith)

none_more : (next : Result Arrival (Option CaptureRefusal)) (many : Arrival → Option CaptureRefusal)
    → length (elim next as (λ r. Records) [
      | Ok a ↦ ended (many a)
      | Err why ↦ ended why
    ]).frames ≤ 0
none_more (Ok a) many = omega (arith)
none_more (Err why) many = omega (arith)

frames_few : (room : ℕ) (place : Place) (bytes : List ℕ) → length (records_from room place bytes).frames ≤ room
unfolding records_from
frames_few zero place bytes = none_more (next_record place bytes) _
frames_few (suc room) place bytes = one_more room (next_record place bytes) (λ a. frames_few room a.place a.rest)

after_few : (start : Result Start BeginRefusal) (records : Records) → records_after start ≡ Ok records → length records.frames ≤ most_records
after_few (Ok start) records q =
    let same : records_from most_records start.place start.rest ≡ records = cc in
    subst (λ r. length r.frames ≤ most_records) same (frames_few most_records start.place start.rest)
after_few (Err why) records q = absurd cc

records_few : (bytes : List ℕ) (records : Records) → capture_of bytes ≡ Ok records → length records.frames ≤ most_records
unfolding capture_of
records_few bytes records q = after_few (begin_of bytes) records q

-- ---- and no more packets

kept_one : (number ms : ℕ) (s : Seen) (others : List Timed) (n : ℕ) → length others ≤ n → length (kept_of timed number ms s ++ others) ≤ n + 1
kept_one number ms (seen_as.Packet key kind) others n h = omega (arith, h)
kept_one number ms (seen_as.Skipped why) others n h = omega (arith, h)

kept_few : (vips : List (ℕ × ℕ)) (clock : Clock) (number : ℕ) (frames : List Frame) → length (kept_from timed vips clock number frames) ≤ length frames
kept_few vips clock number [] = omega (arith)
kept_few vips clock number (frame ∷ frames) =
    let n = kept_one number (time_of (seen_at clock frame.ms)) (seen_in frame.link frame.bytes vips) (kept_from timed vips (seen_at clock frame.ms) (number + 1) frames)
    (length frames) (kept_few vips (seen_at clock frame.ms) (number + 1) frames) in
    omega (arith, n)

-- ---- the machine has their virtual addresses

given_each : (P : Packet → Type 0) (packets : List Timed) → AllByRecursion (λ t. P t.packet) packets → AllByRecursion P (given packets)
given_each P [] h = tt
given_each P (t ∷ packets) h = (h.0, given_each P packets h.1)

pub takable : (s : Spelled) (bytes : List ℕ) (records : Records) → IsFitting s → capture_of bytes ≡ Ok records
    → AreTakable (config_of s) (played_packets s records)
takable s bytes records f q = record {
  each = given_each (MayEnter (config_of s)) (played_packets s records)
      (packets_within s.vips timed (λ (t : Timed). MayEnter (config_of s) t.packet) (λ packet ms h. lt-ltb _ _ (omega (arith, h, f.pools))) new_clock 1 records.frames);
  few = omega (arith, kept_few s.vips new_clock 1 records.frames, records_few bytes records q);
}
