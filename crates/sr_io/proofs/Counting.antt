-- What several calls do to a count of faults, for every caller.
use Rattle.std.proofs.Common.{◌≡◌, ℕ, refl, subst, arith}
use Rattle.sr_io.specs.Faults.{Counts}

-- no call
pub counts_none : {failed : Type 0} (n : ℕ) → ¬ failed → Counts failed n n
counts_none n sound = record { never_falls = omega arith; rose = λ f. absurd (sound f); still = λ s. refl }

-- calls that left the count as it was, and then one more
pub counts_then : {failed : Type 0} {before now after : ℕ} → now ≡ before → Counts failed now after → Counts failed before after
counts_then {failed} {before} {now} {after} same last = subst (λ n. Counts failed n after) same last

-- the same count, for an answer that is a failure exactly where the other one was
pub counts_as : {these those : Type 0} {before now : ℕ} → (those → these) → (these → those) → Counts these before now → Counts those before now
counts_as back forth counts = record { never_falls = counts.never_falls; rose = λ f. counts.rose (back f); still = λ s. counts.still (λ f. s (forth f)) }
