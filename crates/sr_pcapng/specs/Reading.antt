-- What reading from a source does. `left` says of bytes that they are still to be read.
use Rattle.std.specs.Prelude.{◌≡◌, ◌⊎◌, ℕ, Bool, min, List, length, take, drop, Option, Some, None, Result, Ok, Err}
use Rattle.sr_pcapng.specs.declared.option_head.OptionHead.{OptionHead}
use Rattle.sr_pcapng.specs.declared.option_head.OptionHead.TheVariants.{Last, Value}
use Rattle.sr_pcapng.specs.declared.stop.Stop.{Stop}
use Rattle.sr_pcapng.specs.declared.stop.Stop.TheVariants.{ReadFault}
use Rattle.sr_pcapng.specs.Options.{Walked, kept}

-- The first `size` of these bytes, or all where there are fewer, are at the front of the buffer, and the others are left.
abbrev pub Fills : Result ℕ Stop → ℕ → List ℕ → List ℕ → (List ℕ → Type 0) → Type 0
Fills (Ok n) size xs buffer left = (n ≡ min size (length xs)) × (take n buffer ≡ take size xs) × left (drop size xs)
Fills (Err why) size xs buffer left = Unit {0}

-- Some of these bytes were passed over; none only where there is none.
abbrev pub Passes : Result ℕ Stop → List ℕ → (List ℕ → Type 0) → Type 0
Passes (Ok n) xs left = left (drop n xs) × (n ≡ 0 → length xs ≡ 0)
Passes (Err why) xs left = Unit {0}

-- This was read, and these bytes are left.
abbrev pub Keeps : {A : Type 0} → Result A Stop → A → List ℕ → (List ℕ → Type 0) → Type 0
Keeps (Ok value) wanted rest left = (value ≡ wanted) × left rest
Keeps (Err why) wanted rest left = Unit {0}

-- What stands at the front of these bytes was read, and the bytes after it are left; or the source failed.
pub record Follows {A B : Type 0} (view : A → List ℕ → B) (value : A) (definition : Result B Stop) (left : List ℕ → Type 0) : Type 0 where
  pub rest : List ℕ
  pub told : left rest
  pub same : definition ≡ Ok (view value rest)

abbrev pub Gives : {A B : Type 0} → (A → List ℕ → B) → Result A Stop → Result B Stop → (List ℕ → Type 0) → Type 0
Gives view (Ok value) definition left = Follows view value definition left
Gives view (Err why) definition left = (why ≡ ReadFault) ⊎ (definition ≡ Err why)

-- a value of this size was, after which this is the resolution
pub record SteppedOver (size : ℕ) (now : Option ℕ) (head : Result OptionHead Stop) (resolution : Option ℕ) (xs : List ℕ) (left : List ℕ → Type 0) : Type 0 where
  pub tells : Bool
  pub value : head ≡ Ok (Value size tells)
  pub keeps : now ≡ kept resolution tells xs
  pub told : left (drop size xs)

-- An option was walked over.
abbrev pub Steps : Result (Option (ℕ × Option ℕ)) Stop → Result OptionHead Stop → Option ℕ → List ℕ → (List ℕ → Type 0) → Type 0
Steps (Ok None) head resolution xs left = (head ≡ Ok Last) × left xs
Steps (Ok (Some s)) head resolution xs left = SteppedOver s.0 s.1 head resolution xs left
Steps (Err why) head resolution xs left = (why ≡ ReadFault) ⊎ (head ≡ Err why)

-- All options were walked over.
abbrev pub Walks : Result (Option ℕ × ℕ) Stop → Result Walked Stop → (List ℕ → Type 0) → Type 0
Walks result definition left = Gives (λ (r : Option ℕ × ℕ) rest. record { resolution = r.0; more = r.1; rest = rest }) result definition left
