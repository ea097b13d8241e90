-- The words at the beginning, as they are written: for one virtual address after another the head and the members of its first pool.
use Rattle.std.specs.Prelude.{ℕ, ◌+◌, ◌==◌, ◌&&◌, nat_lt, List, [], slice_index, slice_index_or, if◌then◌else◌}
use Rattle.sr_base.specs.Layout.{LayoutView}
use Rattle.sr_machine.specs.Opening.{opening_head}
use Rattle.sr_machine.specs.declared.name.Name.{Name}
use Rattle.sr_machine.specs.declared.name.Name.TheVariants.{Tick, Head, Member}

-- so many members of a pool stand under number 0 of the virtual address; the other words are as they were
abbrev pub with_members : (Name → ℕ) → ℕ → List ℕ → ℕ → Name → ℕ
with_members words vip pool n (Member at version index) =
    if (at == vip) && ((version == 0) && nat_lt index n) then slice_index pool index else words (Member at version index)
with_members words vip pool n name = words name

-- the words when the next tick is drawn first, and the first pools of so many virtual addresses were written
abbrev pub first_words : LayoutView → (ℕ → List ℕ) → ℕ → Name → ℕ
first_words l pool_of_vip n Tick = l.vips + 1
first_words l pool_of_vip n (Head vip version) = if nat_lt vip n && (version == 0) then opening_head (pool_of_vip vip) else 0
first_words l pool_of_vip n (Member vip version index) =
    if nat_lt vip n && (version == 0) then slice_index (pool_of_vip vip) index else 0
first_words l pool_of_vip n name = 0

-- the first pool of a virtual address, where they stand in a list
abbrev pub listed : List (List ℕ) → ℕ → List ℕ
listed first vip = slice_index_or first vip []
