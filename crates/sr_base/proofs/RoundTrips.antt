-- The packings of the words and their unpackings, the other way round of each other.
use Rattle.std.proofs.Common.{◌≡◌, ℕ, Some, arith}
use Rattle.std.proofs.lemmas.Bool.Decides.{nat_tests}
use Rattle.sr_base.specs.Fields.{RoundTrip}
use Rattle.sr_base.specs.FullWord.{packed_full, unpacked_full, IsFullWord}
use Rattle.sr_base.specs.Key.{KeyView, IsKey, key_of, packed}
use Rattle.sr_base.specs.RingWord.{packed_ring, unpacked_ring, IsRingWord}
use Rattle.sr_base.specs.RowHead.{packed_head, unpacked_head, IsRowHead}
use Rattle.sr_base.specs.SlotWord.{packed_slot, unpacked_slot, IsSlotWord}
use Rattle.sr_base.specs.VipWord.{packed_vip, unpacked_vip, IsVipWord}
use Rattle.sr_base.specs.declared.full_word.FullWord.{FullWord}
use Rattle.sr_base.specs.declared.ring_word.RingWord.{RingWord}
use Rattle.sr_base.specs.declared.row_head.RowHead.{RowHead}
use Rattle.sr_base.specs.declared.slot_word.SlotWord.{SlotWord}
use Rattle.sr_base.specs.declared.vip_word.VipWord.{VipWord}

-- a key's parts are those of its number
pub key_of-packed : (k : KeyView) → IsKey k → key_of (packed k) ≡ k
key_of-packed k h = grind arith

ring_unpacks : (w : RingWord) → IsRingWord w → unpacked_ring (packed_ring w) ≡ Some w
ring_unpacks w h = grind (arith, nat_tests)

ring_packs : (n : ℕ) (w : RingWord) → unpacked_ring n ≡ Some w → IsRingWord w × (packed_ring w ≡ n)
ring_packs n w e = grind (arith, nat_tests)

pub ring_trip : RoundTrip packed_ring IsRingWord unpacked_ring
ring_trip = record { unpacks = ring_unpacks; packs = ring_packs }

slot_unpacks : (w : SlotWord) → IsSlotWord w → unpacked_slot (packed_slot w) ≡ Some w
slot_unpacks w h = grind (arith, nat_tests)

slot_packs : (n : ℕ) (w : SlotWord) → unpacked_slot n ≡ Some w → IsSlotWord w × (packed_slot w ≡ n)
slot_packs n w e = grind (arith, nat_tests)

pub slot_trip : RoundTrip packed_slot IsSlotWord unpacked_slot
slot_trip = record { unpacks = slot_unpacks; packs = slot_packs }

full_unpacks : (w : FullWord) → IsFullWord w → unpacked_full (packed_full w) ≡ Some w
full_unpacks w h = grind (arith, nat_tests)

full_packs : (n : ℕ) (w : FullWord) → unpacked_full n ≡ Some w → IsFullWord w × (packed_full w ≡ n)
full_packs n w e = grind (arith, nat_tests)

pub full_trip : RoundTrip packed_full IsFullWord unpacked_full
full_trip = record { unpacks = full_unpacks; packs = full_packs }

vip_unpacks : (w : VipWord) → IsVipWord w → unpacked_vip (packed_vip w) ≡ Some w
vip_unpacks w h = grind (arith, nat_tests)

vip_packs : (n : ℕ) (w : VipWord) → unpacked_vip n ≡ Some w → IsVipWord w × (packed_vip w ≡ n)
vip_packs n w e = grind (arith, nat_tests)

pub vip_trip : RoundTrip packed_vip IsVipWord unpacked_vip
vip_trip = record { unpacks = vip_unpacks; packs = vip_packs }

head_unpacks : (w : RowHead) → IsRowHead w → unpacked_head (packed_head w) ≡ Some w
head_unpacks w h = grind (arith, nat_tests)

head_packs : (n : ℕ) (w : RowHead) → unpacked_head n ≡ Some w → IsRowHead w × (packed_head w ≡ n)
head_packs n w e = grind (arith, nat_tests)

pub head_trip : RoundTrip packed_head IsRowHead unpacked_head
head_trip = record { unpacks = head_unpacks; packs = head_packs }
