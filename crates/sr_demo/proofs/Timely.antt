-- The packets of a capture that is made from a number are all to the virtual addresses of the demonstration, and the last one comes at its time.
use Rattle.std.proofs.Common.{◌≡◌, ℕ, zero, suc, ◌+◌, ◌*◌, ◌-◌, ◌/◌, ◌%◌, ◌<◌, ◌≤◌, ◌⊎◌, List, [], ◌++◌, refl, sym, subst, inl, inr, arith}
use Rattle.std.specs.Option.{unwrap_or}
use Rattle.sr_capture.specs.Clock.{new_clock, seen_at, time_of}
use Rattle.sr_capture.specs.Packets.{kept_from, kept_of, seen_in}
use Rattle.sr_capture.specs.declared.clock.Clock.{Clock}
use Rattle.sr_demo.proofs.Lasting.{Comes}
use Rattle.sr_demo.specs.Script.{demo_script}
use Rattle.sr_frame.specs.Ipv4.{header_seen, packet_seen, payload_seen}
use Rattle.sr_frame.specs.Tcp.{kind, segment_seen}
use Rattle.sr_frame.specs.declared.seen.Seen.{Seen}
use Rattle.sr_frame.specs.declared.seen.Seen.TheVariants as seen_as
use Rattle.sr_gen.specs.Connection.{address, connection_of}
use Rattle.sr_gen.specs.Generator.{draw_of}
use Rattle.sr_gen.specs.Turns.{connection_number}
use Rattle.sr_gen.specs.declared.connection.Connection.{Connection}
use Rattle.sr_made.specs.Made.{frame_with, frames_from}
use Rattle.sr_played.specs.Captured.{timed}
use Rattle.sr_rounds.specs.declared.timed.Timed.{Timed}

-- a packet is seen there
abbrev IsSeen : Seen → Type 0
IsSeen (seen_as.Packet key kind) = Unit {0}
IsSeen (seen_as.Skipped why) = ⊥

abbrev seen_of : ℕ → Connection → Seen
seen_of t c = seen_in 101 (frame_with t c).bytes demo_script.vips

-- a connection to the virtual address of this last number
abbrev to_last : ℕ → ℕ → ℕ → Connection
to_last source port n = record { source = source; port = port; vip = address 192 0 2 (1 + n) }

first_seen : (t source port : ℕ) → IsSeen (seen_of t (to_last source port 0))
unfolding packet_seen header_seen payload_seen segment_seen
first_seen t source port = tt

second_seen : (t source port : ℕ) → IsSeen (seen_of t (to_last source port 1))
unfolding packet_seen header_seen payload_seen segment_seen
second_seen t source port = tt

third_seen : (t source port : ℕ) → IsSeen (seen_of t (to_last source port 2))
unfolding packet_seen header_seen payload_seen segment_seen
third_seen t source port = tt

fourth_seen : (t source port : ℕ) → IsSeen (seen_of t (to_last source port 3))
unfolding packet_seen header_seen payload_seen segment_seen
fourth_seen t source port = tt

four : (n : ℕ) → n < 4 → (n ≡ 0) ⊎ ((n ≡ 1) ⊎ ((n ≡ 2) ⊎ (n ≡ 3)))
four zero h = inl refl
four (suc zero) h = inr (inl refl)
four (suc (suc zero)) h = inr (inr (inl refl))
four (suc (suc (suc zero))) h = inr (inr (inr refl))
four (suc (suc (suc (suc n)))) h = absurd (omega (arith, h))

any_seen : (t source port n : ℕ) → n < 4 → IsSeen (seen_of t (to_last source port n))
any_seen t source port n h =
    elim (four n h) [
      | inl e ↦ subst (λ n. IsSeen (seen_of t (to_last source port n))) (sym e) (first_seen t source port)
      | inr (inl e) ↦ subst (λ n. IsSeen (seen_of t (to_last source port n))) (sym e) (second_seen t source port)
      | inr (inr (inl e)) ↦ subst (λ n. IsSeen (seen_of t (to_last source port n))) (sym e) (third_seen t source port)
      | inr (inr (inr e)) ↦ subst (λ n. IsSeen (seen_of t (to_last source port n))) (sym e) (fourth_seen t source port)
    ]

made_seen : (number t i : ℕ) → IsSeen (seen_of t (connection_of number i))
made_seen number t i = any_seen t (address 10 0 0 1 + i) (1024 + (draw_of i number / 4) % 60000) (draw_of i number % 4) (omega arith)

-- ---- times

-- no record was read before the first, whose time is 0
abbrev Begun : ℕ → Clock → Type 0
Begun t clock = unwrap_or clock.first (t / 10) ≡ 0

-- the packets from this one on come to the time of the last
one_more : (window ms number time : ℕ) (s : Seen) (rest : List Timed) → IsSeen s → Comes window ms rest → Comes window ms (kept_of timed number time s ++ rest)
one_more window ms number time (seen_as.Packet key kind) rest is h = inr h
one_more window ms number time (seen_as.Skipped why) rest is h = absurd is

its_own : (ms number time : ℕ) (s : Seen) (rest : List Timed) → IsSeen s → ms ≤ time / 100 * 100 → Comes 100 ms (kept_of timed number time s ++ rest)
its_own ms number time (seen_as.Packet key kind) rest is h = inl h
its_own ms number time (seen_as.Skipped why) rest is h = absurd is

comes_from : (ms number t left at : ℕ) (clock : Clock) → Begun t clock → ms ≤ (t + left) / 10 / 100 * 100
    → Comes 100 ms (kept_from timed demo_script.vips clock at (frames_from number t (suc left)))
comes_from ms number t zero at clock b h =
    its_own ms at (time_of (seen_at clock (t / 10))) (seen_of t (connection_of number (connection_number t))) [] (made_seen number t (connection_number t))
    (omega (arith, b, h))
comes_from ms number t (suc left) at clock b h =
    one_more 100 ms at (time_of (seen_at clock (t / 10))) (seen_of t (connection_of number (connection_number t)))
    (kept_from timed demo_script.vips (seen_at clock (t / 10)) (at + 1) (frames_from number (t + 1) (suc left)))
    (made_seen number t (connection_number t))
    (comes_from ms number (t + 1) left (at + 1) (seen_at clock (t / 10)) b (omega (arith, h)))

-- with so many packets one comes in the window that begins then
pub comes : (ms number packets : ℕ) → 0 < packets → ms ≤ (packets - 1) / 10 / 100 * 100
    → Comes 100 ms (kept_from timed demo_script.vips new_clock 1 (frames_from number 0 packets))
comes ms number zero some h = absurd (omega (arith, some))
comes ms number (suc left) some h = comes_from ms number 0 left 1 new_clock refl (omega (arith, h))
