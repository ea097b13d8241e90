-- What is read of a word is in range, whatever the word is.
use Rattle.std.proofs.Common.{◌≡◌, ℕ, ◌<◌, Bool, true, false, ◌&&◌, if◌then◌else◌, nat_lt, Some, None, Option, sym, refl, subst, arith}
use Rattle.std.proofs.lemmas.Bool.Decides.{nat_tests}
use Rattle.std.proofs.lemmas.Option.{same_Some}
use Rattle.sr_base.proofs.RoundTrips.{ring_trip, vip_trip}
use Rattle.sr_base.specs.FullWord.{unpacked_full}
use Rattle.sr_base.specs.Key.{KeyView, same_key}
use Rattle.sr_base.specs.Layout.{IsLayout, LayoutView}
use Rattle.sr_base.specs.RingWord.{IsRingWord, packed_ring, unpacked_ring}
use Rattle.sr_base.specs.SlotWord.{unpacked_slot}
use Rattle.sr_base.specs.VipWord.{NextFits, unpacked_vip}
use Rattle.sr_base.specs.declared.full_word.FullWord.{FullWord}
use Rattle.sr_base.specs.declared.place.Place.{Place}
use Rattle.sr_base.specs.declared.place.Place.TheVariants.{Slot, Row}
use Rattle.sr_base.specs.declared.ring_word.RingWord.{RingWord}
use Rattle.sr_base.specs.declared.slot_word.SlotWord.{SlotWord}
use Rattle.sr_base.specs.declared.vip_word.VipWord.{VipWord}
use Rattle.sr_hash.specs.Clash.{tells_key}
use Rattle.sr_inv_facts.specs.InShape.{WordFits}
use Rattle.sr_machine.specs.Reads.{cell_says, read_report, read_server, read_vip, report_in, row_says, says, steady, vip_in}
use Rattle.sr_base.specs.declared.full_word.FullWord.TheVariants as full
use Rattle.sr_base.specs.declared.slot_word.SlotWord.TheVariants as slot
use Rattle.sr_machine.specs.declared.said.Said.TheVariants as said

steady_fits : (l : LayoutView) → IsLayout l → WordFits l (steady 0)
steady_fits l i = record { cur = omega (arith, i.versions.0); next = omega (arith, i.versions.0); fits = refl }

-- the word of a virtual address names versions of the layout
pub vip_fits : (l : LayoutView) → IsLayout l → (x : ℕ) → WordFits l (read_vip l x)
unfolding read_vip
vip_fits l i x = at (unpacked_vip x) refl
  where
    by : (w : VipWord) → NextFits w.phase w.cur w.next → (a b : Bool) → nat_lt w.cur l.shape.versions ≡ a
        → nat_lt w.next l.shape.versions ≡ b → WordFits l (if a && b then w else steady 0)
    by w f true true p q = record { cur = grind (arith, nat_tests); next = grind (arith, nat_tests); fits = f }
    by w f true false p q = steady_fits l i
    by w f false b p q = steady_fits l i

    at : (o : Option VipWord) → unpacked_vip x ≡ o → WordFits l (vip_in l o)
    at None e = steady_fits l i
    at (Some w) e =
        by w (vip_trip.packs x w e).0.fits (nat_lt w.cur l.shape.versions) (nat_lt w.next l.shape.versions) refl refl

-- so does a live place
pub said_below : (l : LayoutView) (place : Place) (key : KeyView) (x n : ℕ) → says l place key x ≡ said.Live n → n < l.shape.versions
unfolding says
said_below l (Slot way bucket cell) key x n = at (unpacked_slot x)
  where
    by : (t b : Bool) (m : ℕ) → nat_lt m l.shape.versions ≡ b → (if t && b then said.Live m else said.Nothing) ≡ said.Live n
        → n < l.shape.versions
    by true true m q e = let same : m ≡ n = cc e in grind (arith, nat_tests)
    by true false m q e = cc
    by false b m q e = cc

    two : (t : Bool) → (if t then said.Reserved else said.Nothing) ≡ said.Live n → n < l.shape.versions
    two true e = cc
    two false e = cc

    at : (o : Option SlotWord) → cell_says l way key o ≡ said.Live n → n < l.shape.versions
    at (Some (slot.Reserved vip digest)) e = two (tells_key vip digest way key l.shape.digest_bits) e
    at (Some (slot.Live vip digest m)) e =
        by (tells_key vip digest way key l.shape.digest_bits) (nat_lt m l.shape.versions) m refl e
    at (Some slot.Empty) e = cc
    at None e = cc
said_below l (Row row) key x n = at (unpacked_full x)
  where
    by : (t b : Bool) (m : ℕ) → nat_lt m l.shape.versions ≡ b → (if t && b then said.Live m else said.Nothing) ≡ said.Live n
        → n < l.shape.versions
    by true true m q e = let same : m ≡ n = cc e in grind (arith, nat_tests)
    by true false m q e = cc
    by false b m q e = cc

    two : (t : Bool) → (if t then said.Reserved else said.Nothing) ≡ said.Live n → n < l.shape.versions
    two true e = cc
    two false e = cc

    at : (o : Option FullWord) → row_says l key o ≡ said.Live n → n < l.shape.versions
    at (Some (full.Reserved own)) e = two (same_key key own) e
    at (Some (full.Live own m)) e = by (same_key key own) (nat_lt m l.shape.versions) m refl e
    at (Some full.Empty) e = cc
    at None e = cc

-- a server is one of the layout
pub server_fits : (l : LayoutView) → IsLayout l → (x : ℕ) → read_server l x < l.servers
unfolding read_server
server_fits l i x = at (nat_lt x l.servers) refl
  where
    at : (b : Bool) → nat_lt x l.servers ≡ b → (if b then x else 0) < l.servers
    at true q = grind (arith, nat_tests)
    at false q = omega (arith, i.servers.0)

-- a report is one, of a key of the layout
pub report_fits : (l : LayoutView) (x : ℕ) (w : RingWord) → read_report l x ≡ Some w
    → IsRingWord w × (w.key.vip < l.vips) × (x ≡ packed_ring w)
unfolding read_report
report_fits l x w = at (unpacked_ring x) refl
  where
    by : (u : RingWord) (b : Bool) → unpacked_ring x ≡ Some u → nat_lt u.key.vip l.vips ≡ b
        → (if b then Some u else None) ≡ Some w → IsRingWord w × (w.key.vip < l.vips) × (x ≡ packed_ring w)
    by u true e q g =
        subst (λ r. IsRingWord r × (r.key.vip < l.vips) × (x ≡ packed_ring r)) (same_Some u w g)
        ((ring_trip.packs x u e).0, grind (arith, nat_tests), sym (ring_trip.packs x u e).1)
    by u false e q g = cc

    at : (o : Option RingWord) → unpacked_ring x ≡ o → report_in l o ≡ Some w
        → IsRingWord w × (w.key.vip < l.vips) × (x ≡ packed_ring w)
    at None e g = cc
    at (Some u) e g = by u (nat_lt u.key.vip l.vips) e refl g
