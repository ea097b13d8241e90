-- The ranges follow from the layout's invariant.
use Rattle.std.proofs.Common.{subst}
use Rattle.sr_base.specs.Layout.{IsLayout}
use Rattle.sr_base.proofs.Ranges.{layout_ranges}
use Rattle.sr_base.proofs.layout.layout_ranges.Goals as goal

pub returns : goal.returns
returns c = subst IsLayout c.layout.view_is (layout_ranges _ _ _ c.layout.invariant)
