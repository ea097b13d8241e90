-- A capture that is made from a number is read whole.
use Rattle.std.proofs.Common.{◌≡◌, ◌∙◌, ℕ, zero, suc, ◌+◌, ◌*◌, ◌/◌, ◌%◌, ◌<◌, ◌≤◌, ◌==◌, nat_lt, false, List, [], ◌++◌, length, take, drop, Option, None, Result, Ok, Err, refl, ap, arith}
use Rattle.std.proofs.lemmas.Bool.Decides.{nat_tests}
use Rattle.byteorder.specs.Endian.{little_bytes, little_number}
use Rattle.byteorder.specs.Numbers.{little_number-reads_back}
use Rattle.sr_capture.specs.Capture.{begin_of, capture_of, is_pcapng, most_records, records_after}
use Rattle.sr_capture.specs.Records.{Arrival, Classic, Records, classic_next, ended, next_record, records_from, with_frame}
use Rattle.sr_capture.specs.declared.capture_refusal.CaptureRefusal.{CaptureRefusal}
use Rattle.sr_gen.specs.Capture.{capture_header, most_packets}
use Rattle.sr_gen.specs.Capture.{capture_of as made_of, records_from as made_from}
use Rattle.sr_gen.specs.Connection.{connection_of}
use Rattle.sr_gen.specs.Record.{microseconds, record_of, record_with}
use Rattle.sr_gen.specs.Turns.{connection_number}
use Rattle.sr_gen.specs.declared.connection.Connection.{Connection}
use Rattle.sr_made.specs.Made.{MadeAreFrames, MadeAreLong, MadeAreWhole, frame_with, frames_from}
use Rattle.sr_pcap.specs.Format.{format_in, format_of, header_of, milliseconds}
use Rattle.sr_pcap.specs.Next.{frame_at, next_at, next_sized, rest_at, size_at}
use Rattle.sr_pcap.specs.Reader.{offset_after}
use Rattle.sr_pcap.specs.declared.endian.Endian.TheVariants.{Little}
use Rattle.sr_pcap.specs.declared.format.Format.{Format}
use Rattle.sr_pcap.specs.declared.next.Next.TheVariants.{Whole}
use Rattle.sr_pcap.specs.declared.resolution.Resolution.TheVariants.{Microseconds}

-- the format of its header
abbrev made_format : Format
made_format = record { endian = Little; resolution = Microseconds; link = 101 }

-- ---- lengths

record_long : (t : ℕ) (c : Connection) (more : List ℕ) → length (record_with t c ++ more) ≡ 56 + length more
unfolding record_with
record_long t c more = omega arith

records_long : (number t packets : ℕ) → length (made_from number t packets) ≡ 56 * packets
unfolding made_from
records_long number t zero = refl
records_long number t (suc packets) =
    let one = record_long t (connection_of number (connection_number t)) (made_from number (t + 1) packets) in
    let rest = records_long number (t + 1) packets in
    omega (arith, one, rest)

header_long : (rest : List ℕ) → length (capture_header ++ rest) ≡ 24 + length rest
header_long rest = omega arith

pub made_long : MadeAreLong
unfolding made_of
made_long number packets =
    let header = header_long (made_from number 0 packets) in
    let records = records_long number 0 packets in
    omega (arith, header, records)

-- ---- the header

header_read : (rest : List ℕ) → header_of (capture_header ++ rest) ≡ Ok made_format
unfolding header_of format_of format_in
header_read rest =
    let long = header_long rest in
    let whole : nat_lt (length (capture_header ++ rest)) 24 ≡ false = grind (arith, nat_tests, long) in
    rw whole refl

begins_classic : (rest : List ℕ) → is_pcapng (capture_header ++ rest) ≡ false
unfolding is_pcapng
begins_classic rest =
    let long = header_long rest in
    let some : nat_lt (length (capture_header ++ rest)) 4 ≡ false = grind (arith, nat_tests, long) in
    rw some refl

started : (rest : List ℕ) → begin_of (capture_header ++ rest) ≡ Ok (record { place = Classic made_format 24; rest = rest })
unfolding begin_of
started rest = rw (begins_classic rest, header_read rest) refl

-- ---- a record

sized : (ms offset : ℕ) (bytes : List ℕ) → nat_lt (length bytes) (16 + 40) ≡ false → next_sized ms 40 offset bytes ≡ Whole ms offset
unfolding next_sized
sized ms offset bytes body = rw body refl

next_whole : (offset : ℕ) (bytes : List ℕ) → (length bytes == 0) ≡ false → nat_lt (length bytes) 16 ≡ false → size_at made_format bytes ≡ 40
    → nat_lt (length bytes) (16 + 40) ≡ false → next_at made_format offset bytes ≡ Whole (milliseconds made_format (take 16 bytes)) offset
unfolding next_at
next_whole offset bytes some head size body =
    rw (some, head) (ap (λ n. next_sized (milliseconds made_format (take 16 bytes)) n offset bytes) size
    ∙ sized (milliseconds made_format (take 16 bytes)) offset bytes body)

record_size : (t : ℕ) (c : Connection) (more : List ℕ) → size_at made_format (record_with t c ++ more) ≡ 40
unfolding record_with
record_size t c more = refl

record_passed : (t : ℕ) (c : Connection) (more : List ℕ) → drop 56 (record_with t c ++ more) ≡ more
unfolding record_with
record_passed t c more = refl

-- the record's time and its captured bytes
record_spelled : (t : ℕ) (c : Connection) (more : List ℕ)
    → milliseconds made_format (take 16 (record_with t c ++ more))
    ≡ little_number 4 (little_bytes 4 (microseconds t / 1000000) ++ []) * 1000 + little_number 4 (little_bytes 4 (microseconds t % 1000000) ++ []) / 1000
unfolding record_with
record_spelled t c more = refl

record_time : (t : ℕ) (c : Connection) (more : List ℕ) → t < most_packets → milliseconds made_format (take 16 (record_with t c ++ more)) ≡ t / 10
record_time t c more h =
    let seconds : little_number 4 (little_bytes 4 (microseconds t / 1000000) ++ []) ≡ microseconds t / 1000000 =
    little_number-reads_back 4 (microseconds t / 1000000) [] (omega (arith, h)) in
    let rest : little_number 4 (little_bytes 4 (microseconds t % 1000000) ++ []) ≡ microseconds t % 1000000 =
    little_number-reads_back 4 (microseconds t % 1000000) [] (omega (arith)) in
    record_spelled t c more ∙ (ap (λ s. s * 1000 + little_number 4 (little_bytes 4 (microseconds t % 1000000) ++ []) / 1000) seconds
    ∙ (ap (λ r. microseconds t / 1000000 * 1000 + r / 1000) rest ∙ tenths t))
  where
    tenths : (t : ℕ) → t * 100 / 1000000 * 1000 + t * 100 % 1000000 / 1000 ≡ t / 10
    tenths t = omega arith

record_frame : (t : ℕ) (c : Connection) (more : List ℕ) → take 40 (drop 16 (record_with t c ++ more)) ≡ (frame_with t c).bytes
unfolding record_with
record_frame t c more = refl

-- what comes next where the bytes begin with a record
next_made : (offset t : ℕ) (c : Connection) (more : List ℕ) → t < most_packets
    → (a : Arrival) × (next : ℕ) × (next_record (Classic made_format offset) (record_with t c ++ more) ≡ Ok a)
    × (a.place ≡ Classic made_format next) × (a.rest ≡ more) × (a.frame ≡ frame_with t c)
unfolding next_record
next_made offset t c more h =
    let bytes = record_with t c ++ more in
    let long = record_long t c more in
    let some : (length bytes == 0) ≡ false = grind (arith, nat_tests, long) in
    let head : nat_lt (length bytes) 16 ≡ false = grind (arith, nat_tests, long) in
    let body : nat_lt (length bytes) (16 + 40) ≡ false = grind (arith, nat_tests, long) in
    let size = record_size t c more in
    let framed : frame_at made_format bytes ≡ (frame_with t c).bytes = ap (λ n. take n (drop 16 bytes)) size ∙ record_frame t c more in (
      record {
        frame = record { ms = milliseconds made_format (take 16 bytes); link = 101; bytes = frame_at made_format bytes };
        offset = offset;
        place = Classic made_format (offset_after offset (size_at made_format bytes));
        rest = rest_at made_format bytes;
      },
      offset_after offset (size_at made_format bytes),
      ap (classic_next made_format offset bytes) (next_whole offset bytes some head size body),
      refl,
      ap (λ n. drop (16 + n) bytes) size ∙ record_passed t c more,
      ap (λ ms. record { ms = ms; link = 101; bytes = frame_at made_format bytes }) (record_time t c more h)
          ∙ ap (λ b. record { ms = t / 10; link = 101; bytes = b }) framed,
    )

-- ---- all records

-- the records from one that came, or none
abbrev goes_on : ℕ → Result Arrival (Option CaptureRefusal) → Records
goes_on room next = elim next as (λ r. Records) [
  | Ok a ↦ with_frame a.frame (records_from room a.place a.rest)
  | Err why ↦ ended why
]

none_left : (offset room : ℕ) → records_from room (Classic made_format offset) [] ≡ ended None
unfolding records_from next_record next_at
none_left offset zero = refl
none_left offset (suc room) = refl

one_more : (room offset number t left : ℕ)
    → records_from (suc room) (Classic made_format offset) (made_from number t (suc left))
    ≡ goes_on room (next_record (Classic made_format offset) (record_of number t ++ made_from number (t + 1) left))
unfolding records_from made_from
one_more room offset number t left = refl

abbrev framed_from : ℕ → ℕ → ℕ → Records
framed_from number t left = record { frames = frames_from number t left; ending = None }

records_framed : (number left t offset room : ℕ) → left ≤ room → t + left ≤ most_packets
    → records_from room (Classic made_format offset) (made_from number t left) ≡ framed_from number t left
unfolding made_from
records_framed number zero t offset room h few = none_left offset room
records_framed number (suc left) t offset zero h few = absurd (omega (arith, h))
records_framed number (suc left) t offset (suc room) h few =
    let more = made_from number (t + 1) left in
    let came = next_made offset t (connection_of number (connection_number t)) more (omega (arith, few)) in
    let a = came.0 in
    let rest = records_framed number left (t + 1) came.1 room (omega (arith, h)) (omega (arith, few)) in
    let on : records_from room a.place a.rest ≡ framed_from number (t + 1) left =
    ap (λ p. records_from room p a.rest) came.3 ∙ (ap (records_from room (Classic made_format came.1)) came.4 ∙ rest) in
    one_more room offset number t left
    ∙ (ap (goes_on room) came.2 ∙ (ap (with_frame a.frame) on ∙ ap (λ f. with_frame f (framed_from number (t + 1) left)) came.5))

pub made_frames : MadeAreFrames
unfolding made_of capture_of
made_frames number packets few =
    ap records_after (started (made_from number 0 packets)) ∙ ap Ok (records_framed number packets 0 24 most_records few (omega (arith, few)))

frames_long : (number t packets : ℕ) → length (frames_from number t packets) ≡ packets
frames_long number t zero = refl
frames_long number t (suc packets) = omega (arith, frames_long number (t + 1) packets)

pub made_whole : MadeAreWhole
made_whole number packets few = (framed_from number 0 packets, made_frames number packets few, frames_long number 0 packets, refl)
