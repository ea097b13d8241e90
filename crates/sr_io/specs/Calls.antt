-- The calls on an object, of which some are to fail.
use Rattle.std.specs.Prelude.{ℕ, ◌+◌, ◌-◌, ◌^◌, ◌==◌, min, Bool, List}
use Rattle.std.specs.List.{list_any}

-- the numbers, from 1, of the calls that are to fail; how many were made; how many failed
pub record CallsView : Type 0 where
  pub fails : List ℕ
  pub made : ℕ
  pub faults : ℕ

-- one more, up to the end of 64 bits
abbrev pub counted : ℕ → ℕ
counted n = min (n + 1) (2 ^ 64 - 1)

-- the next call is to fail
abbrev pub fails_next : CallsView → Bool
fails_next c = list_any (λ n. n == counted c.made) c.fails

-- one more call was made
abbrev pub after_call : CallsView → CallsView
after_call c = record c { made = counted c.made }

-- one more call was made, and it failed
abbrev pub after_fault : CallsView → CallsView
after_fault c = record c { made = counted c.made; faults = counted c.faults }

-- the call that was made last failed by itself
abbrev pub faulted : CallsView → CallsView
faulted c = record c { faults = counted c.faults }
