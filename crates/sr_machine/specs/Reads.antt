-- How a word is read. Each reading takes in every number: what is no word of its kind, or speaks of what the layout doesn't have,
-- is read as a stated one that is. In a run no actor meets such a word.
use Rattle.std.specs.Prelude.{ℕ, ◌/◌, ◌%◌, ◌^◌, ◌==◌, ◌&&◌, nat_lt, nat_le, Bool, Option, Some, None, if◌then◌else◌}
use Rattle.sr_base.specs.FullWord.{packed_full, unpacked_full}
use Rattle.sr_base.specs.Key.{KeyView, same_key}
use Rattle.sr_base.specs.Layout.{LayoutView}
use Rattle.sr_base.specs.RingWord.{unpacked_ring}
use Rattle.sr_base.specs.RowHead.{unpacked_head}
use Rattle.sr_base.specs.SlotWord.{packed_slot, unpacked_slot}
use Rattle.sr_base.specs.VipWord.{unpacked_vip}
use Rattle.sr_base.specs.declared.full_word.FullWord.{FullWord}
use Rattle.sr_base.specs.declared.full_word.FullWord.TheVariants as full
use Rattle.sr_base.specs.declared.place.Place.{Place}
use Rattle.sr_base.specs.declared.place.Place.TheVariants.{Slot, Row}
use Rattle.sr_base.specs.declared.ring_word.RingWord.{RingWord}
use Rattle.sr_base.specs.declared.row_head.RowHead.{RowHead}
use Rattle.sr_base.specs.declared.slot_word.SlotWord.{SlotWord}
use Rattle.sr_base.specs.declared.slot_word.SlotWord.TheVariants as slot
use Rattle.sr_base.specs.declared.vip_word.Phase.TheVariants.{Steady}
use Rattle.sr_base.specs.declared.vip_word.VipWord.{VipWord}
use Rattle.sr_hash.specs.Clash.{tells_key}
use Rattle.sr_hash.specs.Uses.{digest_of}
use Rattle.sr_machine.specs.declared.said.Said.{Said}
use Rattle.sr_machine.specs.declared.said.Said.TheVariants.{Nothing, Reserved, Live}

-- ---- a virtual address

-- no update, and this version
abbrev pub steady : ℕ → VipWord
steady version = record { phase = Steady; cur = version; next = version }

-- the word, where the layout has its versions, and else no update and version 0
abbrev pub vip_in : LayoutView → Option VipWord → VipWord
vip_in l None = steady 0
vip_in l (Some w) = if nat_lt w.cur l.shape.versions && nat_lt w.next l.shape.versions then w else steady 0

unfoldable pub read_vip : LayoutView → ℕ → VipWord
read_vip l x = vip_in l (unpacked_vip x)

-- ---- an entry

-- what a cell of a way says to a packet of the key
abbrev pub cell_says : LayoutView → ℕ → KeyView → Option SlotWord → Said
cell_says l way key (Some (slot.Reserved vip digest)) =
    if tells_key vip digest way key l.shape.digest_bits then Reserved else Nothing
cell_says l way key (Some (slot.Live vip digest version)) =
    if tells_key vip digest way key l.shape.digest_bits && nat_lt version l.shape.versions then Live version else Nothing
cell_says l way key word = Nothing

-- what a row says to it
abbrev pub row_says : LayoutView → KeyView → Option FullWord → Said
row_says l key (Some (full.Reserved own)) = if same_key key own then Reserved else Nothing
row_says l key (Some (full.Live own version)) =
    if same_key key own && nat_lt version l.shape.versions then Live version else Nothing
row_says l key word = Nothing

-- what the word at a place of the key says to it
unfoldable pub says : LayoutView → Place → KeyView → ℕ → Said
says l (Slot way bucket cell) key x = cell_says l way key (unpacked_slot x)
says l (Row row) key x = row_says l key (unpacked_full x)

-- the word of a place that is reserved for a key
unfoldable pub reserved_word : LayoutView → Place → KeyView → ℕ
reserved_word l (Slot way bucket cell) key = packed_slot (slot.Reserved key.vip (digest_of way key l.shape.digest_bits))
reserved_word l (Row row) key = packed_full (full.Reserved key)

-- the word of a place at which a key is live, with a version
unfoldable pub live_word : LayoutView → Place → KeyView → ℕ → ℕ
live_word l (Slot way bucket cell) key version = packed_slot (slot.Live key.vip (digest_of way key l.shape.digest_bits) version)
live_word l (Row row) key version = packed_full (full.Live key version)

-- the entry of a key at a place is taken for another key's
abbrev pub stands_for : LayoutView → Place → KeyView → KeyView → Bool
stands_for l (Slot way bucket cell) key other =
    tells_key key.vip (digest_of way key l.shape.digest_bits) way other l.shape.digest_bits
stands_for l (Row row) key other = same_key other key

-- ---- a pool

-- the head, where pools may have its size, and else one server and no pool's number
abbrev pub head_in : LayoutView → Option RowHead → RowHead
head_in l None = record { size = 1; pool = 0 }
head_in l (Some h) = if nat_le h.size l.shape.pool_max then h else record { size = 1; pool = 0 }

unfoldable pub read_head : LayoutView → ℕ → RowHead
read_head l x = head_in l (unpacked_head x)

-- the server, or else server 0
unfoldable pub read_server : LayoutView → ℕ → ℕ
read_server l x = if nat_lt x l.servers then x else 0

-- ---- a flag, a bit

-- whether a hit or an outage is told
unfoldable pub read_flag : ℕ → Bool
read_flag x = x == 1

-- the word of the transit filter in which a place stands
abbrev pub filter_word : ℕ → ℕ
filter_word bit = bit / 64

-- the bit of a place in its word
abbrev pub filter_bit : ℕ → ℕ
filter_bit bit = 2 ^ (bit % 64)

-- whether the bit of a place is set in its word
unfoldable pub has_bit : ℕ → ℕ → Bool
has_bit bit x = x / filter_bit bit % 2 == 1

-- ---- a report

-- the report, where the layout has its virtual address
abbrev pub report_in : LayoutView → Option RingWord → Option RingWord
report_in l None = None
report_in l (Some w) = if nat_lt w.key.vip l.vips then Some w else None

unfoldable pub read_report : LayoutView → ℕ → Option RingWord
read_report l x = report_in l (unpacked_ring x)
