-- What a script is good for: its shape, and how many virtual addresses and servers it has, make a layout, which its pools and changes fit.
use Rattle.std.specs.Prelude.{◌≡◌, length, None}
use Rattle.sr_base.specs.Fitting.{FitsLayout}
use Rattle.sr_base.specs.Layout.{LayoutView}
use Rattle.sr_base.specs.Limit.{limit_of}
use Rattle.sr_script.specs.Spelled.{Spelled}

-- the layout of a script
abbrev pub layout_of : Spelled → LayoutView
layout_of s = record { shape = s.shape; vips = length s.first; servers = length s.servers }

-- no number is outside its range, each virtual address has a first pool, and the first pools and the changes fit the layout
pub record IsFitting (s : Spelled) : Type 0 where
  pub layout : limit_of s.shape (length s.first) (length s.servers) ≡ None
  pub pools : length s.first ≡ length s.vips
  pub fits : FitsLayout (layout_of s) s.first s.changes
