-- Walking over the options of an interface description.
use Rattle.std.proofs.Common.{◌≡◌, ℕ, zero, suc, ◌+◌, ◌-◌, ◌<◌, ◌≤◌, Bool, true, false, List, take, drop, slice_get, is_some, Option, Some, None, Result, Ok, Err, refl, sym, ap, ◌∙◌, arith}
use Rattle.std.proofs.lemmas.Bool.{cond-false, ne_eqb}
use Rattle.sr_pcapng.specs.declared.endian.Endian.{Endian}
use Rattle.sr_pcapng.specs.declared.stop.Stop.{Stop}
use Rattle.sr_pcapng.specs.declared.option_head.OptionHead.TheVariants.{Last, Value}
use Rattle.sr_pcapng.specs.Options.{Walked, option_of, kept, walk}
use Rattle.sr_pcapng.specs.Reading.{SteppedOver}

-- what is left of a walk is the whole walk
pub record WalksOn (endian : Endian) (offset room : ℕ) (resolution : Option ℕ) (left : List ℕ → Type 0) (all : Result Walked Stop) : Type 0 where
  pub most : ℕ
  pub enough : room ≤ most
  pub rest : List ℕ
  pub told : left rest
  pub same : walk most endian offset room resolution rest ≡ all

-- the walk begins
pub walks_all : (endian : Endian) (offset room : ℕ) (xs : List ℕ) (left : List ℕ → Type 0) → left xs → WalksOn endian offset room None left (walk room endian offset room None xs)
walks_all endian offset room xs left told = record { most = room; enough = omega arith; rest = xs; told = told; same = refl }

some_room : (most endian_room : ℕ) → 0 < endian_room → endian_room ≤ most → most ≡ 0 → ⊥
some_room most room some enough none = omega arith

walk_value : (most : ℕ) (endian : Endian) (offset room : ℕ) (resolution : Option ℕ) (xs : List ℕ) (size : ℕ) (tells : Bool) → 0 < room
    → option_of endian offset room (take 4 xs) ≡ Ok (Value size tells)
    → walk (suc most) endian offset room resolution xs ≡ walk most endian offset (room - (4 + size)) (kept resolution tells (drop 4 xs)) (drop size (drop 4 xs))
unfolding walk
walk_value most endian offset room resolution xs size tells some e =
    cond-false _ _ _ (ne_eqb room 0 (λ none. omega arith)) ∙ rw (e) refl

walk_last : (most : ℕ) (endian : Endian) (offset room : ℕ) (resolution : Option ℕ) (xs : List ℕ) → 0 < room → option_of endian offset room (take 4 xs) ≡ Ok Last
    → walk (suc most) endian offset room resolution xs ≡ Ok (record { resolution = resolution; more = room - 4; rest = drop 4 xs })
unfolding walk
walk_last most endian offset room resolution xs some e = cond-false _ _ _ (ne_eqb room 0 (λ none. omega arith)) ∙ rw (e) refl

walk_error : (most : ℕ) (endian : Endian) (offset room : ℕ) (resolution : Option ℕ) (xs : List ℕ) (why : Stop) → 0 < room → option_of endian offset room (take 4 xs) ≡ Err why
    → walk (suc most) endian offset room resolution xs ≡ Err why
unfolding walk
walk_error most endian offset room resolution xs why some e = cond-false _ _ _ (ne_eqb room 0 (λ none. omega arith)) ∙ rw (e) refl

walk_nothing : (most : ℕ) (endian : Endian) (offset room : ℕ) (resolution : Option ℕ) (xs : List ℕ) → room ≡ 0
    → walk most endian offset room resolution xs ≡ Ok (record { resolution = resolution; more = 0; rest = xs })
unfolding walk
walk_nothing zero endian offset room resolution xs none = rw (none) refl
walk_nothing (suc most) endian offset room resolution xs none = rw (none) refl

-- no byte of options is left
pub walks_nothing : (endian : Endian) (offset room : ℕ) (resolution : Option ℕ) (left : List ℕ → Type 0) (all : Result Walked Stop) → (w : WalksOn endian offset room resolution left all) → room ≡ 0
    → all ≡ Ok (record { resolution = resolution; more = 0; rest = w.rest })
walks_nothing endian offset room resolution left all w none = sym w.same ∙ walk_nothing w.most endian offset room resolution w.rest none

value_at : (most : ℕ) (endian : Endian) (offset room : ℕ) (resolution now : Option ℕ) (size : ℕ) (xs : List ℕ) (after : List ℕ → Type 0) (all : Result Walked Stop) → room ≤ most → 0 < room
    → walk most endian offset room resolution xs ≡ all → SteppedOver size now (option_of endian offset room (take 4 xs)) resolution (drop 4 xs) after
    → WalksOn endian offset (room - (4 + size)) now after all
value_at zero endian offset room resolution now size xs after all enough some same step = absurd (omega arith)
value_at (suc most) endian offset room resolution now size xs after all enough some same step = record {
  most = most;
  enough = omega arith;
  rest = drop size (drop 4 xs);
  told = step.told;
  same =
      ap (λ (r : Option ℕ). walk most endian offset (room - (4 + size)) r (drop size (drop 4 xs))) step.keeps
      ∙ sym (walk_value most endian offset room resolution xs size step.tells some step.value) ∙ same;
}

-- an option was walked over
pub walks_value : (endian : Endian) (offset room : ℕ) (resolution now : Option ℕ) (size : ℕ) (left after : List ℕ → Type 0) (all : Result Walked Stop) → (w : WalksOn endian offset room resolution left all) → 0 < room
    → SteppedOver size now (option_of endian offset room (take 4 w.rest)) resolution (drop 4 w.rest) after → WalksOn endian offset (room - (4 + size)) now after all
walks_value endian offset room resolution now size left after all w some step =
    value_at w.most endian offset room resolution now size w.rest after all w.enough some w.same step

last_at : (most : ℕ) (endian : Endian) (offset room : ℕ) (resolution : Option ℕ) (xs : List ℕ) → room ≤ most → 0 < room → option_of endian offset room (take 4 xs) ≡ Ok Last
    → walk most endian offset room resolution xs ≡ Ok (record { resolution = resolution; more = room - 4; rest = drop 4 xs })
last_at zero endian offset room resolution xs enough some e = absurd (omega arith)
last_at (suc most) endian offset room resolution xs enough some e = walk_last most endian offset room resolution xs some e

-- no option follows
pub walks_last : (endian : Endian) (offset room : ℕ) (resolution : Option ℕ) (left : List ℕ → Type 0) (all : Result Walked Stop) → (w : WalksOn endian offset room resolution left all) → 0 < room
    → option_of endian offset room (take 4 w.rest) ≡ Ok Last → all ≡ Ok (record { resolution = resolution; more = room - 4; rest = drop 4 w.rest })
walks_last endian offset room resolution left all w some e = sym w.same ∙ last_at w.most endian offset room resolution w.rest w.enough some e

error_at : (most : ℕ) (endian : Endian) (offset room : ℕ) (resolution : Option ℕ) (xs : List ℕ) (why : Stop) → room ≤ most → 0 < room → option_of endian offset room (take 4 xs) ≡ Err why
    → walk most endian offset room resolution xs ≡ Err why
error_at zero endian offset room resolution xs why enough some e = absurd (omega arith)
error_at (suc most) endian offset room resolution xs why enough some e = walk_error most endian offset room resolution xs why some e

-- an option breaks the format, or is cut
pub walks_error : (endian : Endian) (offset room : ℕ) (resolution : Option ℕ) (left : List ℕ → Type 0) (all : Result Walked Stop) (why : Stop) → (w : WalksOn endian offset room resolution left all) → 0 < room
    → option_of endian offset room (take 4 w.rest) ≡ Err why → all ≡ Err why
walks_error endian offset room resolution left all why w some e = sym w.same ∙ error_at w.most endian offset room resolution w.rest why w.enough some e

-- the resolution that a value gives, where none was given before
pub kept_first : (resolution : Option ℕ) (tells : Bool) (xs : List ℕ) → is_some resolution ≡ false → tells ≡ true → kept resolution tells xs ≡ slice_get (take 4 xs) 0
kept_first (Some resolution) tells xs none first = absurd (cc none)
kept_first None tells xs none first = rw (first) refl
