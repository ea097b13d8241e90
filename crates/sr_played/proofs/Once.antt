-- Each packet that is kept of a capture is there once: its number is its record's.
use Rattle.std.proofs.Common.{◌≡◌, ℕ, ◌+◌, ◌≤◌, ◌==◌, ◌&&◌, true, false, cond, List, [], ◌∷◌, ◌++◌, map, count_by, refl, ap, arith}
use Rattle.std.proofs.lemmas.Bool.{and_from, eq-eqb}
use Rattle.std.proofs.lemmas.Bool.Decides.{nat_tests}
use Rattle.std.proofs.lemmas.List.Sums.{sum_by-cons}
use Rattle.std.specs.List.{AllByRecursion}
use Rattle.sr_base.proofs.Sameness.{same_key-self}
use Rattle.sr_base.specs.Key.{same_key}
use Rattle.sr_base.specs.declared.kind.Kind.{Kind}
use Rattle.sr_base.specs.declared.kind.Kind.TheVariants.{Opener, Carry, Ending}
use Rattle.sr_base.specs.declared.packet.Packet.{Packet}
use Rattle.sr_capture.specs.Clock.{new_clock, seen_at, time_of}
use Rattle.sr_capture.specs.Packets.{kept_from, kept_of, seen_in}
use Rattle.sr_capture.specs.Records.{Frame, Records}
use Rattle.sr_capture.specs.declared.clock.Clock.{Clock}
use Rattle.sr_frame.specs.declared.seen.Seen.{Seen}
use Rattle.sr_frame.specs.declared.seen.Seen.TheVariants as seen_as
use Rattle.sr_law.specs.Final.{same_kind, same_packet}
use Rattle.sr_law_causes.specs.Plain.{AreOnce}
use Rattle.sr_played.specs.Captured.{played_packets, timed}
use Rattle.sr_rounds.specs.declared.timed.Timed.{Timed}
use Rattle.sr_script.specs.Spelled.{Spelled}

abbrev packets_of : List Timed → List Packet
packets_of ts = map (λ t. t.packet) ts

abbrev times : Packet → List Timed → ℕ
times packet ts = count_by (same_packet packet) (packets_of ts)

-- from this number on
abbrev AreFrom : ℕ → List Timed → Type 0
AreFrom number ts = AllByRecursion (λ t. number ≤ t.packet.number) ts

abbrev AreOnceIn : List Timed → List Timed → Type 0
AreOnceIn all ts = AllByRecursion (λ t. times t.packet all ≡ 1) ts

times_more : (packet : Packet) (t : Timed) (ts : List Timed) → times packet (t ∷ ts) ≡ cond (same_packet packet t.packet) 1 0 + times packet ts
times_more packet t ts = sum_by-cons (λ p. cond {A = ℕ} (same_packet packet p) 1 0) t.packet (packets_of ts)

kind_self : (kind : Kind) → same_kind kind kind ≡ true
kind_self Opener = refl
kind_self Carry = refl
kind_self Ending = refl

packet_self : (p : Packet) → same_packet p p ≡ true
packet_self p =
    and_from ((p.number == p.number) && same_key p.key p.key) (same_kind p.kind p.kind)
    (and_from (p.number == p.number) (same_key p.key p.key) (eq-eqb p.number p.number refl) (same_key-self p.key)) (kind_self p.kind)

apart : (a b : Packet) → (a.number == b.number) ≡ false → same_packet a b ≡ false
apart a b e = ap (λ c. (c && same_key a.key b.key) && same_kind a.kind b.kind) e

none_later : (packet : Packet) (ts : List Timed) → AreFrom (packet.number + 1) ts → times packet ts ≡ 0
none_later packet [] h = refl
none_later packet (t ∷ ts) h =
    let other : (packet.number == t.packet.number) ≡ false = grind (arith, nat_tests, h.0) in
    omega (arith, times_more packet t ts, ap (λ b. cond {A = ℕ} b 1 0) (apart packet t.packet other), none_later packet ts h.1)

-- one packet more, with a lower number, leaves the others once
still_once : (t : Timed) (all ts : List Timed) → AreFrom (t.packet.number + 1) ts → AreOnceIn all ts → AreOnceIn (t ∷ all) ts
still_once t all [] h once = tt
still_once t all (u ∷ ts) h once =
    let other : (u.packet.number == t.packet.number) ≡ false = grind (arith, nat_tests, h.0) in
    (omega (arith, times_more u.packet t all, ap (λ b. cond {A = ℕ} b 1 0) (apart u.packet t.packet other), once.0), still_once t all ts h.1 once.1)

lower : (number : ℕ) (ts : List Timed) → AreFrom (number + 1) ts → AreFrom number ts
lower number [] h = tt
lower number (t ∷ ts) h = (omega (arith, h.0), lower number ts h.1)

record AreKept (number : ℕ) (ts : List Timed) : Type 0 where
  from : AreFrom number ts
  once : AreOnceIn ts ts

kept_one : (number ms : ℕ) (s : Seen) (rest : List Timed) → AreKept (number + 1) rest → AreKept number (kept_of timed number ms s ++ rest)
kept_one number ms (seen_as.Skipped why) rest h = record { from = lower number rest h.from; once = h.once }
kept_one number ms (seen_as.Packet key kind) rest h =
    let p : Packet = record { number = number; key = key; kind = kind } in
    let t : Timed = timed p ms in record {
      from = (omega arith, lower number rest h.from);
      once = (
        omega (arith, times_more p t rest, ap (λ b. cond {A = ℕ} b 1 0) (packet_self p), none_later p rest h.from),
        still_once t rest rest h.from h.once,
      );
    }

kept_all : (vips : List (ℕ × ℕ)) (clock : Clock) (number : ℕ) (frames : List Frame) → AreKept number (kept_from timed vips clock number frames)
kept_all vips clock number [] = record { from = tt; once = tt }
kept_all vips clock number (frame ∷ frames) =
    kept_one number (time_of (seen_at clock frame.ms)) (seen_in frame.link frame.bytes vips)
    (kept_from timed vips (seen_at clock frame.ms) (number + 1) frames)
    (kept_all vips (seen_at clock frame.ms) (number + 1) frames)

alone : (P : Packet → Type 0) (ts : List Timed) → AllByRecursion (λ t. P t.packet) ts → AllByRecursion P (packets_of ts)
alone P [] h = tt
alone P (t ∷ ts) h = (h.0, alone P ts h.1)

pub played_once : (s : Spelled) (records : Records) → AreOnce (map (λ t. t.packet) (played_packets s records))
played_once s records =
    let packets = played_packets s records in
    alone (λ packet. count_by (same_packet packet) (packets_of packets) ≡ 1) packets (kept_all s.vips new_clock 1 records.frames).once
