use Rattle.std.proofs.Common.{◌≡◌, ℕ, ◌<◌, false}
use Rattle.std.specs.List.{slice_get}
use Rattle.sr_update.specs.Numbers.{is_current}
use Rattle.sr_update.specs.Row.{is_state}
use Rattle.sr_update.proofs.row.Row.current.Given as goal

abbrev pub invariant-loop-n : goal.invariant-loop-n
invariant-loop-n l = (k : ℕ) → k < l.n → is_state is_current (slice_get l.self k) ≡ false
