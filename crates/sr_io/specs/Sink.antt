-- What is known of a sink, and what a write does to the bytes that it has taken.
use Rattle.std.specs.Prelude.{◌≡◌, ℕ, List, ◌++◌, take, Option, Some, None, Result, Ok, Err}
use Rattle.sr_io.specs.Faults.{Counts}
use Rattle.sr_io.specs.declared.sink.Put.{Put}
use Rattle.sr_io.specs.declared.sink.Put.TheVariants.{All, Failed}

-- the bytes that were taken so far, where the sink tells them, and how often it failed; the count stands still at the end of 64 bits
pub record SinkKnown : Type 0 where
  pub taken : Option (List ℕ)
  pub faults : ℕ

-- the answer that a result stands for
abbrev pub put_of : {V E : Type 0} → Result V E → Put
put_of (Ok v) = All
put_of (Err e) = Failed

-- what was taken before, where it is told, and then these bytes
abbrev pub appended : Option (List ℕ) → List ℕ → Option (List ℕ)
appended None bytes = None
appended (Some before) bytes = Some (before ++ bytes)

-- A sink that tells its bytes afterwards told them before, and took these besides.
pub record Adds (old new : Option (List ℕ)) (bytes : List ℕ) : Type 0 where
  pub told : (all : List ℕ) → new ≡ Some all → appended old bytes ≡ Some all

-- a prefix of these bytes was taken
abbrev pub AddsFront : Option (List ℕ) → Option (List ℕ) → List ℕ → Type 0
AddsFront old new bytes = (n : ℕ) × Adds old new (take n bytes)

-- what the answer says was taken
abbrev pub Puts : Put → Option (List ℕ) → Option (List ℕ) → List ℕ → Type 0
Puts All old new bytes = Adds old new bytes
Puts Failed old new bytes = AddsFront old new bytes

-- These bytes were written, or a prefix of them where the sink failed, which its count tells.
pub record Writes (put : Put) (before now : SinkKnown) (bytes : List ℕ) : Type 0 where
  pub taken : Puts put before.taken now.taken bytes
  pub faults : Counts (put ≡ Failed) before.faults now.faults
