-- Records that are kept one after another: what was kept so far, and what the bytes that are left say, are what all the bytes say.
use Rattle.std.proofs.Common.{◌≡◌, ℕ, zero, suc, ◌+◌, ◌≤◌, ◌<◌, List, [], ◌∷◌, ◌++◌, length, Option, Some, None, refl, sym, ap, ◌∙◌, subst, append_assoc, append-nil, Result, Ok, Err, arith}
use Rattle.sr_base.specs.declared.packet.Packet.{Packet}
use Rattle.sr_frame.specs.declared.seen.Seen.{Seen}
use Rattle.sr_frame.specs.declared.skip.Skip.{Skip}
use Rattle.sr_io.specs.Window.{WindowView, Pending}
use Rattle.sr_pcap.specs.declared.begin_refusal.BeginRefusal.{BeginRefusal}
use Rattle.sr_pcap.specs.declared.begin_refusal.BeginRefusal.TheVariants as begin
use Rattle.sr_capture.specs.declared.capture_reader.CaptureReader.{CaptureReader}
use Rattle.sr_capture.specs.declared.capture_refusal.CaptureRefusal.{CaptureRefusal}
use Rattle.sr_capture.specs.declared.capture_refusal.CaptureRefusal.TheVariants.{TooMany}
use Rattle.sr_capture.specs.declared.captured.Captured.{Captured}
use Rattle.sr_capture.specs.declared.clock.Clock.{Clock}
use Rattle.sr_capture.specs.declared.record.Record.{Record}
use Rattle.sr_capture.specs.declared.record.Record.TheVariants.{Whole, Over, Failed}
use Rattle.sr_capture.specs.Capture.{EndsWith, Keeps, Reads, ReadsOn, Start, begin_of, capture_of, most_records, records_after}
use Rattle.sr_capture.specs.Clock.{new_clock, seen_at, time_of}
use Rattle.sr_capture.specs.Packets.{kept_from, kept_of, seen_in, skip_of, skips_from}
use Rattle.sr_capture.specs.Reader.{Answers, Arrives, Begins, Stands, bytes_of, place_of, window_of}
use Rattle.sr_capture.specs.Records.{Arrival, Frame, Place, Records, ended, next_record, records_from, with_frame}

-- what was kept of the first records, and what comes of those that may follow, is what comes of all
pub record Reached {T : Type 0} (kept : Packet → ℕ → T) (vips : List (ℕ × ℕ)) (all : Records) (clock : Clock) (number : ℕ) (place : Place) (window : WindowView) (left : Option (List ℕ)) (skips : List (ℕ × Skip)) (packets : List T) : Type 0 where
  pub room : ℕ
  pub bytes : List ℕ
  pub room_is : room + number ≡ 4194304
  pub pending : Pending window left bytes
  pub skips_are : skips ++ skips_from vips (number + 1) (records_from room place bytes).frames ≡ skips_from vips 1 all.frames
  pub packets_are : packets ++ kept_from kept vips clock (number + 1) (records_from room place bytes).frames ≡ kept_from kept vips new_clock 1 all.frames
  pub ending_is : (records_from room place bytes).ending ≡ all.ending

-- before the first record
pub reached_none : {T : Type 0} (kept : Packet → ℕ → T) (vips : List (ℕ × ℕ)) (xs : List ℕ) (clock : Clock) (place : Place) (window : WindowView) (left : Option (List ℕ)) (skips : List (ℕ × Skip)) (packets : List T)
    → Pending window left xs → clock ≡ new_clock → skips ≡ [] → packets ≡ [] → Reached kept vips (records_from most_records place xs) clock 0 place window left skips packets
reached_none kept vips xs clock place window left skips packets p fresh no_skips no_packets = record {
  room = 4194304;
  bytes = xs;
  room_is = omega arith;
  pending = p;
  skips_are = ap (λ k. k ++ skips_from vips 1 (records_from 4194304 place xs).frames) no_skips;
  packets_are =
      ap (λ k. k ++ kept_from kept vips clock 1 (records_from 4194304 place xs).frames) no_packets
      ∙ ap (λ c. kept_from kept vips c 1 (records_from 4194304 place xs).frames) fresh;
  ending_is = refl;
}

go_on : (room : ℕ) (place : Place) (bytes : List ℕ) (a : Arrival) → next_record place bytes ≡ Ok a → records_from (suc room) place bytes ≡ with_frame a.frame (records_from room a.place a.rest)
unfolding records_from
go_on room place bytes a e = rw (e, records_from) refl

over_at : (room : ℕ) (place : Place) (bytes : List ℕ) (ending : Option CaptureRefusal) → next_record place bytes ≡ Err ending → records_from room place bytes ≡ ended ending
unfolding records_from
over_at zero place bytes ending e = rw (e, records_from) refl
over_at (suc room) place bytes ending e = rw (e, records_from) refl

full_at : (room : ℕ) (place : Place) (bytes : List ℕ) (a : Arrival) → room ≡ 0 → next_record place bytes ≡ Ok a → records_from room place bytes ≡ ended (Some (TooMany a.offset))
unfolding records_from
full_at zero place bytes a none e = rw (e, records_from) refl
full_at (suc room) place bytes a none e = absurd (omega arith)

-- one record more
more_at : {T : Type 0} (kept : Packet → ℕ → T) (vips : List (ℕ × ℕ)) (all : Records) (clock : Clock) (number : ℕ) (place : Place) (window : WindowView) (left new : Option (List ℕ)) (skips : List (ℕ × Skip))
    (packets : List T) (r : CaptureReader) (ms link at room : ℕ) (so_far : Reached kept vips all clock number place window left skips packets)
    → so_far.room ≡ suc room → Arrives ms link at (next_record place so_far.bytes) r new
    → Reached kept vips all (seen_at clock ms) (number + 1) (place_of r) (window_of r) new (skips ++ skip_of (number + 1) (seen_in link (bytes_of r) vips))
    (packets ++ kept_of kept (number + 1) (time_of (seen_at clock ms)) (seen_in link (bytes_of r) vips))
more_at kept vips all clock number place window left new skips packets r ms link at room so_far is a =
    let step = ap (λ n. records_from n place so_far.bytes) is ∙ go_on room place so_far.bytes _ a.same in
    record {
      room = room;
      bytes = a.rest;
      room_is = omega (arith, so_far.room_is, is);
      pending = a.pending;
      skips_are = append_assoc skips _ _ ∙ ap (λ (z : Records). skips ++ skips_from vips (number + 1) z.frames) (sym step) ∙ so_far.skips_are;
      packets_are = append_assoc packets _ _ ∙ ap (λ (z : Records). packets ++ kept_from kept vips clock (number + 1) z.frames) (sym step) ∙ so_far.packets_are;
      ending_is = ap (λ (z : Records). z.ending) (sym step) ∙ so_far.ending_is;
    }

more_in : {T : Type 0} (kept : Packet → ℕ → T) (vips : List (ℕ × ℕ)) (all : Records) (clock : Clock) (number : ℕ) (place : Place) (window : WindowView) (left new : Option (List ℕ)) (skips : List (ℕ × Skip))
    (packets : List T) (r : CaptureReader) (ms link at room : ℕ) (so_far : Reached kept vips all clock number place window left skips packets)
    → so_far.room ≡ room → number < 4194304 → Arrives ms link at (next_record place so_far.bytes) r new
    → Reached kept vips all (seen_at clock ms) (number + 1) (place_of r) (window_of r) new (skips ++ skip_of (number + 1) (seen_in link (bytes_of r) vips))
    (packets ++ kept_of kept (number + 1) (time_of (seen_at clock ms)) (seen_in link (bytes_of r) vips))
more_in kept vips all clock number place window left new skips packets r ms link at zero so_far is below a = absurd (omega (arith, so_far.room_is, is))
more_in kept vips all clock number place window left new skips packets r ms link at (suc room) so_far is below a = more_at kept vips all clock number place window left new skips packets r ms link at room so_far is a

-- one record more, as the code has it
pub reached_more : {T : Type 0} (kept : Packet → ℕ → T) (vips : List (ℕ × ℕ)) (all : Records) (clock clock' : Clock) (number : ℕ) (place : Place) (window : WindowView) (left new : Option (List ℕ)) (skips skips' : List (ℕ × Skip))
    (packets packets' : List T) (r : CaptureReader) (ms link at time : ℕ) (seen : Seen) (so_far : Reached kept vips all clock number place window left skips packets)
    → number < 4194304 → Arrives ms link at (next_record place so_far.bytes) r new → clock' ≡ seen_at clock ms → time ≡ time_of clock' → seen ≡ seen_in link (bytes_of r) vips
    → skips' ≡ skips ++ skip_of (number + 1) seen → packets' ≡ packets ++ kept_of kept (number + 1) time seen
    → Reached kept vips all clock' (number + 1) (place_of r) (window_of r) new skips' packets'
reached_more kept vips all clock clock' number place window left new skips skips' packets packets' r ms link at time seen so_far below a ticked t sees kept_skips kept_packets =
    subst (λ c. Reached kept vips all c (number + 1) (place_of r) (window_of r) new skips' packets') (sym ticked)
    (subst (λ k. Reached kept vips all (seen_at clock ms) (number + 1) (place_of r) (window_of r) new k packets') (sym (kept_skips ∙ ap (λ s. skips ++ skip_of (number + 1) s) sees))
    (subst (λ k. Reached kept vips all (seen_at clock ms) (number + 1) (place_of r) (window_of r) new (skips ++ skip_of (number + 1) (seen_in link (bytes_of r) vips)) k)
    (sym (kept_packets ∙ ap (λ n. packets ++ kept_of kept (number + 1) n seen) (t ∙ ap time_of ticked) ∙ ap (λ s. packets ++ kept_of kept (number + 1) (time_of (seen_at clock ms)) s) sees))
    (more_in kept vips all clock number place window left new skips packets r ms link at so_far.room so_far refl below a)))

-- after the last record
last_at : {T : Type 0} (kept : Packet → ℕ → T) (vips : List (ℕ × ℕ)) (all : Records) (clock : Clock) (number : ℕ) (place : Place) (window : WindowView) (left new : Option (List ℕ)) (captured : Captured T)
    (ending : Option CaptureRefusal) (so_far : Reached kept vips all clock number place window left captured.skips.items captured.packets.items)
    → records_from so_far.room place so_far.bytes ≡ ended ending → captured.ending ≡ ending → (ending ≡ None → new ≡ Some []) → Keeps kept vips all new captured
last_at kept vips all clock number place window left new captured ending so_far step e none = record {
  skips = sym (append-nil captured.skips.items) ∙ ap (λ (z : Records). captured.skips.items ++ skips_from vips (number + 1) z.frames) (sym step) ∙ so_far.skips_are;
  packets = sym (append-nil captured.packets.items) ∙ ap (λ (z : Records). captured.packets.items ++ kept_from kept vips clock (number + 1) z.frames) (sym step) ∙ so_far.packets_are;
  ending = e ∙ ap (λ (z : Records). z.ending) (sym step) ∙ so_far.ending_is;
  all = λ f. none (sym e ∙ f);
}

-- no further record comes
pub reached_over : {T : Type 0} (kept : Packet → ℕ → T) (vips : List (ℕ × ℕ)) (all : Records) (clock : Clock) (number : ℕ) (place : Place) (window : WindowView) (left new : Option (List ℕ)) (captured : Captured T)
    (r : CaptureReader) (ending : Option CaptureRefusal) (so_far : Reached kept vips all clock number place window left captured.skips.items captured.packets.items)
    → Answers (Over ending) (next_record place so_far.bytes) r new → captured.ending ≡ ending → Keeps kept vips all new captured
reached_over kept vips all clock number place window left new captured r ending so_far answered e =
    last_at kept vips all clock number place window left new captured ending so_far (over_at so_far.room place so_far.bytes ending answered.0) e answered.1

-- no further record may come
pub reached_full : {T : Type 0} (kept : Packet → ℕ → T) (vips : List (ℕ × ℕ)) (all : Records) (clock : Clock) (number : ℕ) (place : Place) (window : WindowView) (left new : Option (List ℕ)) (captured : Captured T)
    (r : CaptureReader) (next : Record) (so_far : Reached kept vips all clock number place window left captured.skips.items captured.packets.items)
    → 4194304 ≤ number → Answers next (next_record place so_far.bytes) r new → EndsWith (Ok captured.ending) next → Keeps kept vips all new captured
reached_full kept vips all clock number place window left new captured r (Whole ms link at) so_far full answered ends =
    last_at kept vips all clock number place window left new captured (Some (TooMany at)) so_far (full_at so_far.room place so_far.bytes _ (omega (arith, so_far.room_is)) answered.same) (cc ends) (λ none. absurd (cc none))
reached_full kept vips all clock number place window left new captured r (Over ending) so_far full answered ends = reached_over kept vips all clock number place window left new captured r ending so_far answered (cc ends)
reached_full kept vips all clock number place window left new captured r Failed so_far full answered ends = absurd (cc ends)

-- ---- the whole capture

capture_begun : (xs : List ℕ) (start : Start) → begin_of xs ≡ Ok start → capture_of xs ≡ Ok (records_from most_records start.place start.rest)
unfolding capture_of
capture_begun xs start e = ap records_after e

capture_refused : (xs : List ℕ) (why : BeginRefusal) → begin_of xs ≡ Err why → capture_of xs ≡ Err why
unfolding capture_of
capture_refused xs why e = ap records_after e

pub reads_from : {T : Type 0} (kept : Packet → ℕ → T) (result : Result (Captured T) BeginRefusal) (vips : List (ℕ × ℕ)) (xs : List ℕ) (r : CaptureReader) (left new : Option (List ℕ)) → (s : Stands xs r left)
    → ReadsOn kept result vips (records_from most_records (place_of r) s.rest) new → Reads kept result vips xs new
reads_from kept (Ok captured) vips xs r left new s kept_on = (_, capture_begun xs _ s.begins, kept_on)
reads_from kept (Err begin.ReadFault) vips xs r left new s kept_on = tt
reads_from kept (Err begin.Memory) vips xs r left new s kept_on = tt
reads_from kept (Err (begin.Truncated offset)) vips xs r left new s kept_on = absurd kept_on
reads_from kept (Err begin.Magic) vips xs r left new s kept_on = absurd kept_on
reads_from kept (Err begin.Major) vips xs r left new s kept_on = absurd kept_on
reads_from kept (Err begin.LinkType) vips xs r left new s kept_on = absurd kept_on

pub reads_not : {T : Type 0} (kept : Packet → ℕ → T) (why : BeginRefusal) (vips : List (ℕ × ℕ)) (xs : List ℕ) (left : Option (List ℕ)) → Begins (Err why) xs left → Reads kept (Err why) vips xs left
reads_not kept (begin.Truncated offset) vips xs left begun = capture_refused xs _ begun
reads_not kept begin.ReadFault vips xs left begun = tt
reads_not kept begin.Magic vips xs left begun = capture_refused xs _ begun
reads_not kept begin.Major vips xs left begun = capture_refused xs _ begun
reads_not kept begin.LinkType vips xs left begun = capture_refused xs _ begun
reads_not kept begin.Memory vips xs left begun = tt
