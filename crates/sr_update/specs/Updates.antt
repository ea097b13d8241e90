-- The changes that give a virtual address another pool and were neither taken nor dropped, and the clock.
use Rattle.std.specs.Prelude.{◌≡◌, ℕ, ◌+◌, ◌<◌, ◌≤◌, Bool, false, ◌==◌, nat_le, Option, Some, None, if◌then◌else◌, MatchOption}
use Rattle.std.specs.Prelude.{List, [], ◌∷◌, ◌++◌, length, slice_index_or, count_by, find}
use Rattle.sr_base.specs.declared.change.Change.{Change}
use Rattle.sr_base.specs.declared.change.What.{What}
use Rattle.sr_base.specs.declared.change.What.TheVariants.{Give, TakeDown}
use Rattle.sr_update.specs.declared.give_change.GiveChange.{GiveChange}
use Rattle.sr_update.specs.declared.begin.Begin.{Begin}
use Rattle.sr_update.specs.declared.begin.Begin.TheVariants.{Started, VersionsFull, EmptyQueue}
use Rattle.sr_update.specs.Numbers.{NumberRows, least_free}

-- the changes in order, and the milliseconds of the clock, which has none before it is set
pub record UpdatesView : Type 0 where
  pub gives : List GiveChange
  pub clock : Option ℕ

-- ---- the list

-- the change gives this virtual address a pool
abbrev pub gives_to : ℕ → What → Bool
gives_to vip (Give to pool) = to == vip
gives_to vip (TakeDown server) = false

-- The number of a pool that a virtual address is given, after these changes. The pool that it begins with has number
-- 1, and each change that gives it one counts, whatever becomes of the change.
abbrev pub next_pool : ℕ → List Change → ℕ
next_pool vip before = count_by (λ change. gives_to vip change.what) before + 2

-- what a change after these gives, where it gives something
abbrev pub give_of : List Change → ℕ → What → List GiveChange
give_of before at_ms (Give vip pool) =
    record { at_ms = at_ms; position = length before; vip = vip; pool = next_pool vip before } ∷ []
give_of before at_ms (TakeDown server) = []

-- what the changes after these give
abbrev pub gives_after : List Change → List Change → List GiveChange
gives_after before [] = []
gives_after before (change ∷ changes) = give_of before change.at_ms change.what ++ gives_after (before ++ change ∷ []) changes

-- a number for each virtual address: that of the next pool it is given
pub record Pooled (pools : List ℕ) (before : List Change) : Type 0 where
  pub size : length pools ≡ 256
  pub next : (vip : ℕ) → vip < 256 → slice_index_or pools vip 0 ≡ next_pool vip before

-- ---- what is due

-- the clock has reached this time
abbrev pub has_come : ℕ → Option ℕ → Bool
has_come at_ms None = false
has_come at_ms (Some ms) = nat_le at_ms ms

-- the change is due
abbrev pub is_due : Option ℕ → GiveChange → Bool
is_due clock give = has_come give.at_ms clock

-- the first one that is due
abbrev pub first_due : UpdatesView → Option GiveChange
first_due u = find (is_due u.clock) u.gives

-- the list without it
abbrev pub without_first : (GiveChange → Bool) → List GiveChange → List GiveChange
without_first test [] = []
without_first test (give ∷ gives) = if test give then gives else give ∷ without_first test gives

-- the first one that is due was taken or dropped
abbrev pub with_first_gone : UpdatesView → UpdatesView
with_first_gone u = record u { gives = without_first (is_due u.clock) u.gives }

-- ---- the beginning of an update

-- the answer for a change, by the least Free number of its virtual address
abbrev pub start_of : GiveChange → Option ℕ → Begin
start_of give None = VersionsFull give.vip
start_of give (Some version) = Started give.vip version give.pool

-- the answer for the first change that is due
abbrev pub begin_of : NumberRows → Option GiveChange → Begin
begin_of rows None = EmptyQueue
begin_of rows (Some give) = start_of give (least_free give.vip rows)

-- what the answer leaves
abbrev pub left_by : Begin → UpdatesView → UpdatesView
left_by (Started vip version pool) u = with_first_gone u
left_by (VersionsFull vip) u = u
left_by EmptyQueue u = u

-- the clock doesn't fall
abbrev pub IsLater : Option ℕ → ℕ → Type 0
IsLater clock ms = MatchOption clock (Unit {0}) (λ before. before ≤ ms)

-- the times of the list never fall, and are no earlier than this one
abbrev pub IsInOrder : ℕ → List GiveChange → Type 0
IsInOrder from [] = Unit {0}
IsInOrder from (give ∷ gives) = (from ≤ give.at_ms) × IsInOrder give.at_ms gives
