-- The units of a second, and a time that has fewer units than a second.
use Rattle.std.proofs.Common.{◌≡◌, ℕ, ◌-◌, ◌*◌, ◌/◌, ◌^◌, ◌<◌, ◌≤◌, min, nat_lt, if◌then◌else◌, Bool, true, false, refl, arith}
use Rattle.std.proofs.Math.Nat.{one-le-pow, div-eq_of_lt}
use Rattle.std.proofs.lemmas.Nat.{pow_pos}
use Rattle.sr_pcapng.specs.Interface.{units_of}

either_positive : (b : Bool) (x y : ℕ) → 0 < x → 0 < y → 0 < (if b then x else y)
either_positive true x y first second = first
either_positive false x y first second = second

-- a second has a unit
pub units_positive : (resolution : ℕ) → 0 < units_of resolution
units_positive resolution =
    either_positive (nat_lt resolution 128) (10 ^ resolution) (2 ^ (resolution - 128)) (one-le-pow resolution 10 (omega arith)) (pow_pos (resolution - 128))

-- a time of less than a millisecond
pub time_none : (time units : ℕ) → time < 2 ^ 64 → 2 ^ 128 ≤ units → 0 ≡ min (time * 1000 / units) (2 ^ 53 - 1)
time_none time units fits large = let e : time * 1000 / units ≡ 0 = div-eq_of_lt (omega arith) in rw (e) refl
