-- What is read and loaded is of the layout.
use Rattle.std.specs.Prelude.{◌<◌}
use Rattle.sr_base.specs.Layout.{LayoutView}
use Rattle.sr_machine.specs.declared.said.Said.{Said}
use Rattle.sr_machine.specs.declared.said.Said.TheVariants.{Nothing, Reserved, Live}

-- a version that a place tells is one of the layout's
abbrev pub SaidFits : LayoutView → Said → Type 0
SaidFits l Nothing = Unit {0}
SaidFits l Reserved = Unit {0}
SaidFits l (Live version) = version < l.shape.versions
