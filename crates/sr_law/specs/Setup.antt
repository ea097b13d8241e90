-- A setup as its numbers and lists.
use Rattle.std.specs.Prelude.{ℕ, List}
use Rattle.sr_base.specs.declared.shape.Shape.{Shape}
use Rattle.sr_base.specs.declared.packet.Packet.{Packet}
use Rattle.sr_law.specs.Pools.{VipPools}

-- what a list of lines is judged for: the shape, the number of servers, the pools, and the packets of the capture in order
pub record SetupView : Type 0 where
  pub shape : Shape
  pub servers : ℕ
  pub pools : List VipPools
  pub packets : List Packet
