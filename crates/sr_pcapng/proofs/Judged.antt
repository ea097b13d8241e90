-- No check of a block answers that the capture ends.
use Rattle.std.proofs.Common.{◌≡◌, ℕ, zero, suc, ◌+◌, ◌-◌, Bool, true, false, cond, List, take, drop, Option, Some, None, Result, Ok, Err, ap, ◌∙◌}
use Rattle.sr_pcapng.specs.declared.endian.Endian.{Endian}
use Rattle.sr_pcapng.specs.declared.front.Front.{Front}
use Rattle.sr_pcapng.specs.declared.front.Front.TheVariants as front
use Rattle.sr_pcapng.specs.declared.interface.Interface.{Interface}
use Rattle.sr_pcapng.specs.declared.option_head.OptionHead.{OptionHead}
use Rattle.sr_pcapng.specs.declared.option_head.OptionHead.TheVariants.{Last, Value}
use Rattle.sr_pcapng.specs.declared.packet_head.PacketHead.{PacketHead}
use Rattle.sr_pcapng.specs.declared.stop.Stop.{Stop}
use Rattle.sr_pcapng.specs.declared.stop.Stop.TheVariants.{End, Truncated, TooLong, Block, Magic, Major, TooMany}
use Rattle.sr_pcapng.specs.Block.{Packet, last_fault, unless, closed, whole, section_with, section_block, interface_with, interface_block, packet_with_head, packet_block, other_block, block_with, block_at}
use Rattle.sr_pcapng.specs.Front.{SectionView, endian_of, front_sized, front_in, front_after, front_of, header_in, header_with, header_of, packet_sized, packet_with, packet_of}
use Rattle.sr_pcapng.specs.Options.{Walked, kept, option_of, option_sized, walk}

pub record IsNoEnd {A : Type 0} (r : Result A Stop) : Type 0 where
  pub sound : r ≡ Err End → ⊥

ok : {A : Type 0} (value : A) → IsNoEnd (Ok value)
ok value = record { sound = λ e. cc e }

truncated : {A : Type 0} (offset : ℕ) → IsNoEnd {A = A} (Err (Truncated offset))
truncated offset = record { sound = λ e. cc e }

too_long : {A : Type 0} (offset size : ℕ) → IsNoEnd {A = A} (Err (TooLong offset size))
too_long offset size = record { sound = λ e. cc e }

block : {A : Type 0} (offset : ℕ) → IsNoEnd {A = A} (Err (Block offset))
block offset = record { sound = λ e. cc e }

magic : {A : Type 0} → IsNoEnd {A = A} (Err Magic)
magic = record { sound = λ e. cc e }

major : {A : Type 0} → IsNoEnd {A = A} (Err Major)
major = record { sound = λ e. cc e }

too_many : {A : Type 0} (offset : ℕ) → IsNoEnd {A = A} (Err (TooMany offset))
too_many offset = record { sound = λ e. cc e }

either : {A : Type 0} (b : Bool) (x y : Result A Stop) → IsNoEnd x → IsNoEnd y → IsNoEnd (cond b x y)
either true x y first second = first
either false x y first second = second

-- an error that is passed on
passed_on : {A B : Type 0} (why : Stop) → IsNoEnd {A = A} (Err why) → IsNoEnd {A = B} (Err why)
passed_on {A} {B} why first = record { sound = λ e. first.sound (let same : why ≡ End = cc e in ap (λ (w : Stop). Err w) same) }

-- ---- the fields at the front of a block

sized : (interfaces offset type size : ℕ) → IsNoEnd (front_sized interfaces offset type size)
unfolding front_sized
sized interfaces offset type size = search (either, ok, block, too_many)

front_within : (endian : Endian) (interfaces offset : ℕ) (bytes : List ℕ) → IsNoEnd (front_in endian interfaces offset bytes)
unfolding front_in
front_within endian interfaces offset bytes = search (either, block, truncated, sized)

front_next : (endian : Option Endian) (interfaces offset : ℕ) (bytes : List ℕ) → IsNoEnd (front_after endian interfaces offset bytes)
front_next None interfaces offset bytes = block offset
front_next (Some endian) interfaces offset bytes = front_within endian interfaces offset bytes

front_judged : (section : SectionView) (offset : ℕ) (bytes : List ℕ) → IsNoEnd (front_of section offset bytes)
unfolding front_of
front_judged section offset bytes = search (either, ok, truncated, front_next)

header_within : (endian : Endian) (offset : ℕ) (size bytes : List ℕ) → IsNoEnd (header_in endian offset size bytes)
unfolding header_in
header_within endian offset size bytes = search (either, ok, block, truncated, major)

header_next : (endian : Option Endian) (offset : ℕ) (size bytes : List ℕ) → IsNoEnd (header_with endian offset size bytes)
header_next None offset size bytes = magic
header_next (Some endian) offset size bytes = header_within endian offset size bytes

header_judged : (offset : ℕ) (size bytes : List ℕ) → IsNoEnd (header_of offset size bytes)
unfolding header_of
header_judged offset size bytes = search (either, truncated, header_next)

packet_within : (offset size captured : ℕ) (interface : Interface) (time : ℕ) → IsNoEnd (packet_sized offset size captured interface time)
unfolding packet_sized
packet_within offset size captured interface time = search (either, ok, block, too_long)

packet_next : (endian : Endian) (offset size : ℕ) (interface : Option Interface) (bytes : List ℕ) → IsNoEnd (packet_with endian offset size interface bytes)
packet_next endian offset size None bytes = block offset
packet_next endian offset size (Some interface) bytes = search (either, truncated, packet_within)

packet_judged : (endian : Endian) (interfaces : List Interface) (offset size : ℕ) (bytes : List ℕ) → IsNoEnd (packet_of endian interfaces offset size bytes)
unfolding packet_of
packet_judged endian interfaces offset size bytes = search (either, truncated, packet_next)

-- ---- the options

option_within : (offset room code size : ℕ) → IsNoEnd (option_sized offset room code size)
unfolding option_sized
option_within offset room code size = search (either, ok, block)

option_judged : (endian : Endian) (offset room : ℕ) (bytes : List ℕ) → IsNoEnd (option_of endian offset room bytes)
unfolding option_of
option_judged endian offset room bytes = search (either, truncated, option_within)

walk_next : (most : ℕ) (endian : Endian) (offset room : ℕ) (resolution : Option ℕ) (bytes : List ℕ) (head : Result OptionHead Stop) → IsNoEnd head
    → ((size : ℕ) (now : Option ℕ) (rest : List ℕ) → IsNoEnd (walk most endian offset (room - (4 + size)) now rest))
    → IsNoEnd {A = Walked} (elim head [
      | Err why ↦ Err why
      | Ok value ↦ elim value [
        | Last ↦ Ok (record { resolution = resolution; more = room - 4; rest = drop 4 bytes })
        | Value size tells ↦ walk most endian offset (room - (4 + size)) (kept resolution tells (drop 4 bytes)) (drop size (drop 4 bytes))
      ]
    ])
walk_next most endian offset room resolution bytes (Err why) judged deeper = passed_on why judged
walk_next most endian offset room resolution bytes (Ok Last) judged deeper = ok _
walk_next most endian offset room resolution bytes (Ok (Value size tells)) judged deeper = deeper size _ _

walk_judged : (most : ℕ) (endian : Endian) (offset room : ℕ) (resolution : Option ℕ) (bytes : List ℕ) → IsNoEnd (walk most endian offset room resolution bytes)
unfolding walk
walk_judged zero endian offset room resolution bytes = ok _
walk_judged (suc most) endian offset room resolution bytes =
    either _ _ _ (ok _)
    (walk_next most endian offset room resolution bytes (option_of endian offset room (take 4 bytes)) (option_judged endian offset room (take 4 bytes))
    (λ size now rest. walk_judged most endian offset (room - (4 + size)) now rest))

-- ---- whole blocks

closed_by : {A : Type 0} (cut same : Bool) (offset : ℕ) (value : A) → IsNoEnd (unless (cond cut (Some (Truncated offset)) (cond same None (Some (Block offset)))) value)
closed_by true same offset value = truncated offset
closed_by false true offset value = ok value
closed_by false false offset value = block offset

closed_judged : (endian : Endian) (offset size more : ℕ) (bytes : List ℕ) → IsNoEnd (closed endian offset size more bytes)
unfolding closed last_fault
closed_judged endian offset size more bytes = closed_by _ _ offset _

whole_judged : (packet : Option Packet) (section : SectionView) (size : ℕ) (rest : Result (List ℕ) Stop) → IsNoEnd rest → IsNoEnd (whole packet section size rest)
whole_judged packet section size (Ok rest) judged = ok _
whole_judged packet section size (Err why) judged = passed_on why judged

section_next : (offset : ℕ) (header : Result (Endian × ℕ) Stop) (bytes : List ℕ) → IsNoEnd header → IsNoEnd (section_with offset header bytes)
section_next offset (Err why) bytes judged = passed_on why judged
section_next offset (Ok h) bytes judged = whole_judged _ _ _ _ (closed_judged _ _ _ _ _)

section_judged : (offset : ℕ) (size bytes : List ℕ) → IsNoEnd (section_block offset size bytes)
unfolding section_block
section_judged offset size bytes = section_next offset _ _ (header_judged offset size (take 16 bytes))

interface_next : (section : SectionView) (offset size link : ℕ) (walked : Result Walked Stop) → IsNoEnd walked → IsNoEnd (interface_with section offset size link walked)
interface_next section offset size link (Err why) judged = passed_on why judged
interface_next section offset size link (Ok walked) judged = whole_judged _ _ _ _ (closed_judged _ _ _ _ _)

interface_judged : (section : SectionView) (offset size : ℕ) (bytes : List ℕ) → IsNoEnd (interface_block section offset size bytes)
unfolding interface_block
interface_judged section offset size bytes =
    either _ _ _ (truncated offset) (interface_next section offset size _ _ (walk_judged (size - 20) (endian_of section) offset (size - 20) None (drop 8 bytes)))

head_next : (section : SectionView) (offset size : ℕ) (head : Result PacketHead Stop) (bytes : List ℕ) → IsNoEnd head → IsNoEnd (packet_with_head section offset size head bytes)
head_next section offset size (Err why) bytes judged = passed_on why judged
head_next section offset size (Ok head) bytes judged = either _ _ _ (truncated offset) (whole_judged _ _ _ _ (closed_judged _ _ _ _ _))

packet_block_judged : (section : SectionView) (offset size : ℕ) (bytes : List ℕ) → IsNoEnd (packet_block section offset size bytes)
unfolding packet_block
packet_block_judged section offset size bytes = head_next section offset size _ _ (packet_judged (endian_of section) section.interfaces offset size (take 20 bytes))

other_judged : (section : SectionView) (offset size : ℕ) (bytes : List ℕ) → IsNoEnd (other_block section offset size bytes)
unfolding other_block
other_judged section offset size bytes = whole_judged _ _ _ _ (closed_judged _ _ _ _ _)

block_next : (section : SectionView) (offset : ℕ) (front : Result Front Stop) (first bytes : List ℕ) → IsNoEnd front → IsNoEnd (block_with section offset front first bytes)
block_next section offset (Err why) first bytes judged = passed_on why judged
block_next section offset (Ok front.Section) first bytes judged = section_judged offset (drop 4 first) bytes
block_next section offset (Ok (front.Interface size)) first bytes judged = interface_judged section offset size bytes
block_next section offset (Ok (front.Packet size)) first bytes judged = packet_block_judged section offset size bytes
block_next section offset (Ok (front.Other size)) first bytes judged = other_judged section offset size bytes

block_judged : (section : SectionView) (offset : ℕ) (bytes : List ℕ) → IsNoEnd (block_at section offset bytes)
unfolding block_at
block_judged section offset bytes = block_next section offset _ _ _ (front_judged section offset (take 8 bytes))

-- why a block isn't whole is no end
pub no_end : (section : SectionView) (offset : ℕ) (bytes : List ℕ) (why : Stop) → block_at section offset bytes ≡ Err why → why ≡ End → ⊥
no_end section offset bytes why e end = let judged = block_judged section offset bytes in judged.sound (e ∙ ap (λ (w : Stop). Err w) end)
