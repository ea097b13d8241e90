-- What the controller knows of versions: their states, the pools that they name, and what the word of each virtual address holds.
use Rattle.std.specs.Prelude.{◌≡◌, ℕ, ◌<◌, List, length}
use Rattle.std.specs.List.{AllByRecursion}
use Rattle.sr_base.specs.Layout.{LayoutView}
use Rattle.sr_base.specs.declared.vip_word.VipWord.{VipWord}
use Rattle.sr_update.specs.Numbers.{NumberRows}

pub record VersionsView : Type 0 where
  pub layout : LayoutView
  pub numbers : NumberRows
  pub named : List (List ℕ)
  pub vips : List VipWord

-- a row for each virtual address, of one for each version
pub record HasRows {X : Type 0} (l : LayoutView) (rows : List (List X)) : Type 0 where
  pub vips : length rows ≡ l.vips
  pub versions : AllByRecursion (λ row. length row ≡ l.shape.versions) rows

-- a virtual address's word tells versions of the layout
pub record FitsVip (l : LayoutView) (w : VipWord) : Type 0 where
  pub cur : w.cur < l.shape.versions
  pub next : w.next < l.shape.versions
