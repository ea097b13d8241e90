-- What a machine is made for: how many words there are, the pools of each virtual address, and the changes that it is to make.
use Rattle.std.specs.Prelude.{List}
use Rattle.sr_base.specs.Layout.{LayoutView}
use Rattle.sr_base.specs.declared.change.Change.{Change}
use Rattle.sr_law.specs.Pools.{VipPools}

pub record Config : Type 0 where
  pub layout : LayoutView
  pub pools : List VipPools
  pub changes : List Change
