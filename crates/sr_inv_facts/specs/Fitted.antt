-- What a machine may be made for, and what may come in on it.
-- its pools are those of some first pools and its changes, and these fit its layout
use Rattle.std.specs.Prelude.{◌≡◌, ℕ, List}
use Rattle.sr_base.specs.Fitting.{FitsLayout}
use Rattle.sr_base.specs.Key.{IsKey}
use Rattle.sr_base.specs.Layout.{IsLayout}
use Rattle.sr_base.specs.declared.packet.Packet.{Packet}
use Rattle.sr_law.specs.Pools.{pools_from}
use Rattle.sr_machine.specs.Config.{Config}

pub record IsFitted (k : Config) : Type 0 where
  pub layout : IsLayout k.layout
  pub first : List (List ℕ)
  pub fits : FitsLayout k.layout first k.changes
  pub pools : k.pools ≡ pools_from 0 first k.changes

-- a packet as every value of its type is: its key's parts are in range
abbrev pub IsPacket : Packet → Type 0
IsPacket packet = IsKey packet.key
