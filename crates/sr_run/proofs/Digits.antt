-- A number that is too large stays so, whatever digits follow.
use Rattle.std.proofs.Common.{◌≡◌, ℕ, ◌^◌, ◌≤◌, List, None, arith}
use Rattle.std.proofs.lemmas.Bool.{cond-false, le-ltb}
use Rattle.sr_decimal.specs.Front.{value_from}
use Rattle.sr_decimal.proofs.Decimals.{value_grows}
use Rattle.sr_run.specs.Numbers.{fitting}

pub too_large : (n : ℕ) (digits : List ℕ) → 2 ^ 64 ≤ n → fitting (value_from n digits) ≡ None
too_large n digits large = cond-false _ _ _ (le-ltb (value_from n digits) (2 ^ 64) (omega (arith, value_grows n digits)))
