-- The records that are still to be written, one at a time.
use Rattle.std.proofs.Common.{◌≡◌, ℕ, suc, ◌+◌, ◌-◌, ◌<◌, [], ◌++◌, ap, arith}
use Rattle.sr_gen.specs.Capture.{records_from}
use Rattle.sr_gen.specs.Record.{record_of}

pub records_step : (number t packets : ℕ) → t < packets → records_from number t (packets - t) ≡ record_of number t ++ records_from number (t + 1) (packets - (t + 1))
unfolding records_from
records_step number t packets below =
    let left : packets - t ≡ suc (packets - (t + 1)) = omega arith in
    ap (λ n. records_from number t n) left

pub records_none : (number t packets : ℕ) → packets - t ≡ 0 → records_from number t (packets - t) ≡ []
unfolding records_from
records_none number t packets none = ap (λ n. records_from number t n) none
