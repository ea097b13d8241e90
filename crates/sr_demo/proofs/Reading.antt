-- What reading a capture that is made from a number gives.
use Rattle.std.proofs.Common.{◌≡◌, ℕ, ◌≤◌, List, Option, Ok, Err, Result, length, refl, sym, ◌∙◌, subst}
use Rattle.sr_capture.specs.Capture.{Reads, capture_of}
use Rattle.sr_capture.specs.Records.{Records}
use Rattle.sr_capture.specs.declared.captured.Captured.{Captured}
use Rattle.sr_demo.specs.Captured.{IsMade}
use Rattle.sr_gen.specs.Capture.{capture_of as made_of, most_packets}
use Rattle.sr_made.proofs.Made.{made_whole}
use Rattle.sr_pcap.specs.declared.begin_refusal.BeginRefusal.{BeginRefusal}
use Rattle.sr_pcap.specs.declared.begin_refusal.BeginRefusal.TheVariants as begin
use Rattle.sr_played.specs.Captured.{timed}
use Rattle.sr_rounds.specs.declared.timed.Timed.{Timed}

pub made_read : (number packets : ℕ) (vips : List (ℕ × ℕ)) (captured : Captured Timed) (left : Option (List ℕ)) → packets ≤ most_packets
    → Reads timed (Ok captured) vips (made_of number packets) left → IsMade number packets vips captured
made_read number packets vips captured left few (records, taken, keeps) =
    let whole = made_whole number packets few in
    let same : whole.0 ≡ records = let both : ◌≡◌ {A = Result Records BeginRefusal} (Ok whole.0) (Ok records) = sym whole.1 ∙ taken in cc in record {
      records = records;
      taken = taken;
      whole = subst (λ (r : Records). length r.frames ≡ packets) same whole.2;
      skips = keeps.skips;
      packets_kept = keeps.packets;
    }

-- its header isn't refused
not_refused : (number packets : ℕ) (why : BeginRefusal) → packets ≤ most_packets → capture_of (made_of number packets) ≡ Err why → ⊥
not_refused number packets why few refused =
    let whole = made_whole number packets few in
    let both : ◌≡◌ {A = Result Records BeginRefusal} (Ok whole.0) (Err why) = sym whole.1 ∙ refused in cc

pub not_unread : (number packets : ℕ) (vips : List (ℕ × ℕ)) (why : BeginRefusal) (left : Option (List ℕ)) → packets ≤ most_packets
    → (why ≡ begin.ReadFault → ⊥) → (why ≡ begin.Memory → ⊥)
    → Reads timed (Err why) vips (made_of number packets) left → ⊥
not_unread number packets vips (begin.Truncated offset) left few fault memory read = not_refused number packets (begin.Truncated offset) few read
not_unread number packets vips begin.Magic left few fault memory read = not_refused number packets begin.Magic few read
not_unread number packets vips begin.Major left few fault memory read = not_refused number packets begin.Major few read
not_unread number packets vips begin.LinkType left few fault memory read = not_refused number packets begin.LinkType few read
not_unread number packets vips begin.ReadFault left few fault memory read = fault refl
not_unread number packets vips begin.Memory left few fault memory read = memory refl
