-- What comes next in a capture, read off the bytes that are left.
use Rattle.std.specs.Prelude.{ℕ, zero, suc, ◌+◌, ◌==◌, if◌then◌else◌, List, [], length, Some, None, Result, Ok, Err}
use Rattle.sr_pcapng.specs.declared.stop.Stop.{Stop}
use Rattle.sr_pcapng.specs.declared.stop.Stop.TheVariants.{End, Truncated, TooMany}
use Rattle.sr_pcapng.specs.Block.{Packet, block_at}
use Rattle.sr_pcapng.specs.Front.{SectionView}

-- where a capture is read on: how many more blocks it may have, where the next one begins, and the section that it is in
pub record Place : Type 0 where
  pub room : ℕ
  pub offset : ℕ
  pub section : SectionView

-- the most blocks of a capture
abbrev pub most_blocks : ℕ
most_blocks = 16777216

-- the place of the first byte
abbrev pub front_place : Place
front_place = record { room = most_blocks; offset = 0; section = record { endian = None; interfaces = [] } }

-- the next packet, where its block begins, and the place and the bytes after its block
pub record Arrival : Type 0 where
  pub packet : Packet
  pub offset : ℕ
  pub place : Place
  pub rest : List ℕ

-- what is said where no byte is left: a capture has a block
abbrev pub at_end : SectionView → ℕ → Stop
at_end section offset = elim section.endian [ None ↦ Truncated offset | Some endian ↦ End ]

-- the next packet; blocks before it that carry none are passed over
unfoldable pub next_from : ℕ → ℕ → SectionView → List ℕ → Result Arrival Stop
next_from zero offset section bytes = if length bytes == 0 then Err (at_end section offset) else Err (TooMany offset)
next_from (suc room) offset section bytes =
    if length bytes == 0 then Err (at_end section offset)
    else elim (block_at section offset bytes) [
      | Err why ↦ Err why
      | Ok block ↦ elim block.packet [
        | Some packet ↦ Ok (record {
          packet = packet;
          offset = offset;
          place = record { room = room; offset = offset + block.size; section = block.section };
          rest = block.rest;
        })
        | None ↦ next_from room (offset + block.size) block.section block.rest
      ]
    ]
