-- The head of a version of a pool, as a number.
use Rattle.std.specs.Prelude.{ℕ, ◌+◌, ◌*◌, ◌/◌, ◌^◌, ◌<◌, ◌≤◌, nat_le, nat_lt, ◌&&◌, if◌then◌else◌, Option, Some, None}
use Rattle.sr_base.specs.Fields.{bits}
use Rattle.sr_base.specs.declared.row_head.RowHead.{RowHead}

-- the size above 48 bits, the number of the pool below
abbrev pub packed_head : RowHead → ℕ
packed_head h = h.size * 2 ^ 48 + h.pool

-- it has a server, and the number of its pool is in range
pub record HeadFits (h : RowHead) : Type 0 where
  pub size : 1 ≤ h.size
  pub pool : h.pool < 2 ^ 48

pub record IsRowHead (h : RowHead) : Type 0 where
  pub fits : HeadFits h
  pub size : h.size < 2 ^ 8

-- the head that packs to this number, if there is one
abbrev pub unpacked_head : ℕ → Option RowHead
unpacked_head word =
    if nat_le (2 ^ 48) word && nat_lt word (2 ^ 56) then Some (record { size = word / 2 ^ 48; pool = bits 0 48 word }) else None
