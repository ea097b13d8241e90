-- When connections used their entries: by the lines that were out when the last sweep began, up to a cursor.
use Rattle.std.specs.Prelude.{◌≡◌, ◌≤◌, ◌<◌, ℕ, Bool, false, ◌&&◌, nat_le, List, [], ◌∷◌, reverse, length, take, drop, Option, Some, None, slice_index_or}
use Rattle.std.specs.BTreeMap.{get}
use Rattle.std.specs.List.{All, list_any}
use Rattle.std.specs.Ordering.{nat_cmp}
use Rattle.sr_base.specs.Key.{KeyView, IsKey, packed, same_key}
use Rattle.sr_law.specs.declared.line.Line.{Line}
use Rattle.sr_law.specs.declared.line.Line.TheVariants.{Packet, Swept}
use Rattle.sr_law.specs.declared.sweep.Sweep.{Sweep}
use Rattle.sr_law.specs.Retire.{last_sweep, uses_between, uses_entry}
use Rattle.sr_law.specs.Ticks.{out_of}
use Rattle.sr_audit.specs.declared.used.Used.{Used}
use Rattle.sr_audit.specs.Greatest.{reaches}
use Rattle.sr_audit.specs.Lately.{Falls}

-- the line is of a packet of this connection that used its entry at this tick or later
abbrev pub uses_from : KeyView → ℕ → Line → Bool
uses_from c low (Packet number entered out pipe key kind verdict) =
    same_key key c && uses_entry kind && nat_le low entered
uses_from c low line = false

-- when a sweep began, or 0
abbrev pub begun : Option Sweep → ℕ
begun None = 0
begun (Some sweep) = sweep.from

-- a sweep's line began at this tick or later
abbrev pub IsBegunFrom : ℕ → Line → Type 0
IsBegunFrom low (Swept number from to at_ms) = low ≤ from
IsBegunFrom low line = Unit {0}

-- no sweep of these lines began before the one before it did
abbrev pub SweepsRise : List Line → Type 0
SweepsRise [] = Unit {0}
SweepsRise (line ∷ before) = IsBegunFrom (begun (last_sweep before)) line × SweepsRise before

-- the cursor stands where it is past the end or at a line, the oldest first, that was out after this tick
abbrev pub IsAtLater : ℕ → ℕ → List Line → Type 0
IsAtLater next tick lines = (d : Line) → next < length lines → tick < out_of (slice_index_or lines next d)

-- of these lines, the oldest first, those up to the cursor were out at this tick or before, and the index is that of them
pub record IsUsedBy (index : Used) (tick : ℕ) (lines : List Line) : Type 0 where
  pub fits : index.next ≤ length lines
  pub seen : All (λ line. out_of line ≤ tick) (take index.next lines)
  pub each : (c : KeyView) → IsKey c → (low : ℕ)
      → reaches low (get nat_cmp index.map (packed c)) ≡ list_any (uses_from c low) (take index.next lines)

-- and no other of these lines, the newest first, is of a packet that used its entry and was out when the last sweep began
pub record IsUsedAtSweep (index : Used) (before : List Line) : Type 0 where
  pub by : IsUsedBy index (begun (last_sweep before)) (reverse before)
  pub rest : (c : KeyView) (low : ℕ) (last : Sweep) → last_sweep before ≡ Some last
      → list_any (uses_between c low last.from) (drop index.next (reverse before)) ≡ false

-- the index is that of these lines
abbrev pub TellsUsed : Used → List Line → Type 0
TellsUsed index before = Falls before → SweepsRise before → IsUsedAtSweep index before
