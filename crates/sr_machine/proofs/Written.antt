-- What is written is read.
use Rattle.std.proofs.Common.{◌≡◌, ℕ, ◌+◌, ◌<◌, ◌≤◌, ◌^◌, ◌&&◌, nat_lt, nat_le, Bool, true, false, Some, None, refl, ap, ◌∙◌, arith, if◌then◌else◌}
use Rattle.std.proofs.lemmas.Bool.Decides.{nat_tests}
use Rattle.std.proofs.Math.Pow.{pow_mono}
use Rattle.std.proofs.lemmas.Nat.{mod_below}
use Rattle.sr_base.proofs.RoundTrips.{full_trip, head_trip, ring_trip, slot_trip, vip_trip}
use Rattle.sr_base.specs.Key.{KeyView, IsKey, same_key}
use Rattle.sr_base.specs.Layout.{LayoutView, IsLayout}
use Rattle.sr_base.specs.RingWord.{packed_ring, IsRingWord}
use Rattle.sr_base.specs.RowHead.{packed_head, IsRowHead}
use Rattle.sr_base.specs.VipWord.{packed_vip, IsVipWord}
use Rattle.sr_base.specs.declared.place.Place.{Place}
use Rattle.sr_base.specs.declared.place.Place.TheVariants.{Slot, Row}
use Rattle.sr_base.specs.declared.ring_word.RingWord.{RingWord}
use Rattle.sr_base.specs.declared.row_head.RowHead.{RowHead}
use Rattle.sr_base.specs.declared.vip_word.VipWord.{VipWord}
use Rattle.sr_base.specs.declared.full_word.FullWord.TheVariants as full
use Rattle.sr_base.specs.declared.slot_word.SlotWord.TheVariants as slot
use Rattle.sr_hash.specs.Clash.{tells_key}
use Rattle.sr_hash.specs.Keyed.{hash_of}
use Rattle.sr_hash.specs.Uses.{digest_of}
use Rattle.sr_machine.specs.declared.said.Said.TheVariants as said
use Rattle.sr_machine.specs.Reads.{head_in, read_head, read_report, read_server, read_vip, report_in, steady, vip_in, says, live_word, reserved_word, stands_for, cell_says, row_says}

pub vip_read : (l : LayoutView) (w : VipWord) → IsVipWord w → w.cur < l.shape.versions → w.next < l.shape.versions
    → read_vip l (packed_vip w) ≡ w
unfolding read_vip
vip_read l w h a b =
    ap (vip_in l) (vip_trip.unpacks w h) ∙ at (nat_lt w.cur l.shape.versions) (nat_lt w.next l.shape.versions) (grind (arith, nat_tests)) (grind (arith, nat_tests))
  where
    at : (x y : Bool) → x ≡ true → y ≡ true → (if x && y then w else steady 0) ≡ w
    at true true p q = refl
    at true false p q = cc
    at false y p q = cc

no_head : RowHead
no_head = record { size = 1; pool = 0 }

pub head_read : (l : LayoutView) (h : RowHead) → IsRowHead h → h.size ≤ l.shape.pool_max → read_head l (packed_head h) ≡ h
unfolding read_head no_head
head_read l h i a = ap (head_in l) (head_trip.unpacks h i) ∙ at (nat_le h.size l.shape.pool_max) (grind (arith, nat_tests))
  where
    at : (x : Bool) → x ≡ true → (if x then h else no_head) ≡ h
    at true p = refl
    at false p = cc

pub report_read : (l : LayoutView) (w : RingWord) → IsRingWord w → w.key.vip < l.vips → read_report l (packed_ring w) ≡ Some w
unfolding read_report
report_read l w h a = ap (report_in l) (ring_trip.unpacks w h) ∙ at (nat_lt w.key.vip l.vips) (grind (arith, nat_tests))
  where
    at : (x : Bool) → x ≡ true → (if x then Some w else None) ≡ Some w
    at true p = refl
    at false p = cc

pub server_read : (l : LayoutView) (x : ℕ) → x < l.servers → read_server l x ≡ x
unfolding read_server
server_read l x a = at (nat_lt x l.servers) (grind (arith, nat_tests))
  where
    at : (t : Bool) → t ≡ true → (if t then x else 0) ≡ x
    at true p = refl
    at false p = cc

-- a digest has 16 bits
digest_fits : (l : LayoutView) → IsLayout l → (way : ℕ) (key : KeyView) → digest_of way key l.shape.digest_bits < 2 ^ 16
digest_fits l i way key =
    let most : 2 ^ l.shape.digest_bits ≤ 2 ^ 16 = pow_mono i.digest_bits in
    let some : 2 ^ 0 ≤ 2 ^ l.shape.digest_bits = pow_mono {i = 0} {j = l.shape.digest_bits} (omega arith) in
    omega (arith, most, mod_below (hash_of (way + 2) key) (2 ^ l.shape.digest_bits) (omega (arith, some)))

live_if : (t v : Bool) (n : ℕ) → v ≡ true
    → (if t && v then said.Live n else said.Nothing) ≡ (if t then said.Live n else said.Nothing)
live_if true true n e = refl
live_if false v n e = refl
live_if true false n e = cc

-- an entry that is live says so to every key that it is taken for
pub live_says : (l : LayoutView) → IsLayout l → (place : Place) (key other : KeyView) (version : ℕ) → IsKey key
    → version < l.shape.versions
    → says l place other (live_word l place key version) ≡ (if stands_for l place key other then said.Live version else said.Nothing)
unfolding says live_word
live_says l i (Slot way bucket cell) key other version h v =
    let d = digest_fits l i way key in
    ap (cell_says l way other) (slot_trip.unpacks (slot.Live key.vip (digest_of way key l.shape.digest_bits) version) (record { vip = h.vip; parts = (d, omega (arith, v, i.versions.1)) }))
    ∙ live_if (tells_key key.vip (digest_of way key l.shape.digest_bits) way other l.shape.digest_bits) (nat_lt version l.shape.versions) version (grind (arith, nat_tests))
live_says l i (Row row) key other version h v =
    ap (row_says l other) (full_trip.unpacks (full.Live key version) (h, omega (arith, v, i.versions.1)))
    ∙ live_if (same_key other key) (nat_lt version l.shape.versions) version (grind (arith, nat_tests))

-- so does one that is reserved
pub reserved_says : (l : LayoutView) → IsLayout l → (place : Place) (key other : KeyView) → IsKey key
    → says l place other (reserved_word l place key) ≡ (if stands_for l place key other then said.Reserved else said.Nothing)
unfolding says reserved_word
reserved_says l i (Slot way bucket cell) key other h =
    ap (cell_says l way other) (slot_trip.unpacks (slot.Reserved key.vip (digest_of way key l.shape.digest_bits)) (record {
      vip =
          h.vip;
      parts = digest_fits l i way key;
    }))
reserved_says l i (Row row) key other h = ap (row_says l other) (full_trip.unpacks (full.Reserved key) h)

-- an empty place says nothing
pub empty_says : (l : LayoutView) (place : Place) (other : KeyView) → says l place other 0 ≡ said.Nothing
unfolding says
empty_says l (Slot way bucket cell) other = refl
empty_says l (Row row) other = refl
