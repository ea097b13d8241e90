-- The Ending packets of all lines in the order in which they entered, and of those before a cursor the last of each connection.
use Rattle.std.specs.Prelude.{◌≡◌, ◌≤◌, ◌<◌, ℕ, Bool, false, ◌&&◌, nat_lt, List, length, take, Option, Some, None, slice_index_or}
use Rattle.std.specs.BTreeMap.{get}
use Rattle.std.specs.List.{All, list_any}
use Rattle.std.specs.List.Sorted.{IsNonDecreasingBy}
use Rattle.std.specs.Ordering.{nat_cmp}
use Rattle.sr_base.specs.Key.{KeyView, IsKey, packed, same_key}
use Rattle.sr_law.specs.declared.line.Line.{Line}
use Rattle.sr_law.specs.Retire.{endings_of, may_end}
use Rattle.sr_audit.specs.declared.endings.Ending.{Ending}
use Rattle.sr_audit.specs.declared.endings.Endings.{Endings}

-- it is of this connection, and was out after this tick
abbrev pub ends_after : KeyView → ℕ → Ending → Bool
ends_after c retired ending = same_key ending.key c && nat_lt retired ending.out

-- it ends this connection: it entered before the one tick, and was out after the other
abbrev pub ends : KeyView → ℕ → ℕ → Ending → Bool
ends c retired tick ending = same_key ending.key c && nat_lt ending.entered tick && nat_lt retired ending.out

-- these end what the Ending packets of these lines end
abbrev pub AreEndingsOf : List Ending → List Line → Type 0
AreEndingsOf endings all =
    (c : KeyView) (retired tick : ℕ) → list_any (ends c retired tick) endings ≡ list_any (may_end c retired tick) (endings_of all)

-- the greatest tick, if there is one, is after this one
abbrev pub is_after : ℕ → Option ℕ → Bool
is_after tick None = false
is_after tick (Some greatest) = nat_lt tick greatest

-- the index lists the Ending packets of these lines, and tells of those up to its cursor
pub record ListsEndings (index : Endings) (all : List Line) : Type 0 where
  pub same : AreEndingsOf index.list.items all
  pub rise : IsNonDecreasingBy (λ ending. ending.entered) index.list.items
  pub fits : index.next ≤ length index.list.items
  pub each : (c : KeyView) → IsKey c → (tick : ℕ)
      → is_after tick (get nat_cmp index.last (packed c)) ≡ list_any (ends_after c tick) (take index.next index.list.items)

-- those up to the cursor entered before this tick
abbrev pub AreEntered : Endings → ℕ → Type 0
AreEntered index tick = All (λ ending. ending.entered < tick) (take index.next index.list.items)

-- and the one at the cursor, if there is one, didn't
abbrev pub IsAtUnentered : Endings → ℕ → Type 0
IsAtUnentered index tick =
    (d : Ending) → index.next < length index.list.items → tick ≤ (slice_index_or index.list.items index.next d).entered

-- the index tells of the Ending packets of these lines that entered before this tick
pub record TellsEndings (index : Endings) (all : List Line) (tick : ℕ) : Type 0 where
  pub lists : ListsEndings index all
  pub entered : AreEntered index tick
  pub stops : IsAtUnentered index tick
