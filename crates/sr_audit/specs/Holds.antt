-- What the last Hold line of each virtual address began, and what its update did since.
use Rattle.std.specs.Prelude.{◌≡◌, ℕ, Bool, false, not, ◌==◌, if◌then◌else◌, List, [], ◌∷◌, Option, Some, None, option_map}
use Rattle.std.specs.BTreeMap.{get}
use Rattle.std.specs.Option.{option_or}
use Rattle.std.specs.Ordering.{nat_cmp}
use Rattle.sr_law.specs.declared.line.Line.{Line}
use Rattle.sr_law.specs.declared.line.Line.TheVariants.{Hold, Switched, Finished}
use Rattle.sr_audit.specs.declared.holds.Holding.{Holding}
use Rattle.sr_audit.specs.declared.holds.Holds.{Holds}
use Rattle.sr_audit.specs.Lately.{was_before}

-- it begins at this tick
abbrev pub begun : ℕ → Holding
begun out = record { tick = out; switched = None; finished = None }

-- it was switched, or finished, at this tick, where it wasn't before
abbrev pub switched_at : ℕ → Holding → Holding
switched_at out holding = record { tick = holding.tick; switched = option_or holding.switched (Some out); finished = holding.finished }

abbrev pub finished_at : ℕ → Holding → Holding
finished_at out holding = record { tick = holding.tick; switched = holding.switched; finished = option_or holding.finished (Some out) }

-- what there is after one line more
abbrev pub hold_after : Line → ℕ → Option Holding → Option Holding
hold_after (Hold out to) vip older = if to == vip then Some (begun out) else older
hold_after (Switched out to pool) vip older = if to == vip then option_map (switched_at out) older else older
hold_after (Finished out to) vip older = if to == vip then option_map (finished_at out) older else older
hold_after line vip older = older

-- what there is after these lines
abbrev pub hold_of : List Line → ℕ → Option Holding
hold_of [] vip = None
hold_of (line ∷ before) vip = hold_after line vip (hold_of before vip)

-- it wasn't switched, or finished, before this tick
abbrev pub holds_at : Option Holding → ℕ → Bool
holds_at None start = false
holds_at (Some holding) start = not (was_before holding.switched start)

abbrev pub lasts_at : Option Holding → ℕ → Bool
lasts_at None start = false
lasts_at (Some holding) start = not (was_before holding.finished start)

-- the index is that of these lines
abbrev pub TellsHolds : Holds → List Line → Type 0
TellsHolds index before = (vip : ℕ) → get nat_cmp index.map vip ≡ hold_of before vip
