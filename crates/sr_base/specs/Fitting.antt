-- What a list of first pools and a list of changes need to fit a layout.
use Rattle.std.specs.Prelude.{◌≡◌, ℕ, ◌^◌, ◌<◌, ◌≤◌, Bool, false, ◌==◌, List, [], ◌∷◌, length, count_by}
use Rattle.std.specs.List.{AllByRecursion}
use Rattle.sr_base.specs.Layout.{LayoutView}
use Rattle.sr_base.specs.declared.change.Change.{Change}
use Rattle.sr_base.specs.declared.change.What.{What}
use Rattle.sr_base.specs.declared.change.What.TheVariants.{Give, TakeDown}

-- the change takes this server down
abbrev pub takes_down : ℕ → What → Bool
takes_down server (Give vip pool) = false
takes_down server (TakeDown other) = other == server

-- 1 to `pool_max` servers of the layout
pub record IsPoolOf (l : LayoutView) (pool : List ℕ) : Type 0 where
  pub some : 1 ≤ length pool
  pub most : length pool ≤ l.shape.pool_max
  pub servers : AllByRecursion (λ server. server < l.servers) pool

-- what a change names is of the layout: a virtual address and a pool of its servers, or a server
abbrev pub NamesOf : LayoutView → What → Type 0
NamesOf l (Give vip pool) = (vip < l.vips) × IsPoolOf l pool
NamesOf l (TakeDown server) = server < l.servers

-- no change is due before this time, or before the one before it
abbrev pub IsInTime : ℕ → List Change → Type 0
IsInTime from [] = Unit {0}
IsInTime from (change ∷ changes) = (from ≤ change.at_ms) × IsInTime change.at_ms changes

-- The first pools and the changes fit the layout: a pool for each virtual address; fewer than 2^32 changes, whose times never fall; every pool, virtual
-- address and server that they name is of the layout; no server is taken down by two of them.
pub record FitsLayout (l : LayoutView) (first : List (List ℕ)) (changes : List Change) : Type 0 where
  pub vips : length first ≡ l.vips
  pub pools : AllByRecursion (IsPoolOf l) first
  pub few : length changes < 2 ^ 32
  pub in_time : IsInTime 0 changes
  pub names : AllByRecursion (λ change. NamesOf l change.what) changes
  pub once : (server : ℕ) → count_by (λ change. takes_down server change.what) changes ≤ 1
