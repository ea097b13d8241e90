-- The count of a device's faults.
use Rattle.std.specs.Prelude.{◌≡◌, ℕ, ◌+◌, ◌-◌, ◌^◌, ◌≤◌, min}

-- the count has risen, or stands at the end of 64 bits
abbrev pub Rose : ℕ → ℕ → Type 0
Rose before now = min (before + 1) (2 ^ 64 - 1) ≤ now

-- What a call did to the count of its device's faults, where `failed` says that it answered a failure: the count never falls, rose where that
-- was the answer, and stood still with every other answer. So no failure is passed over.
pub record Counts (failed : Type 0) (before now : ℕ) : Type 0 where
  pub never_falls : before ≤ now
  pub rose : failed → Rose before now
  pub still : ¬ failed → now ≡ before
