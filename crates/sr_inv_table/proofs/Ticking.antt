-- Each tick stands once in the views and below the next one.
use Rattle.std.proofs.Common.{◌≡◌, ℕ, ◌<◌, ◌≤◌, Bool, true, false, ◌&&◌, if◌then◌else◌, nat_lt, refl, arith}
use Rattle.std.proofs.lemmas.Bool.Decides.{nat_tests}
use Rattle.sr_inv_facts.specs.InTicks.{below, times}
use Rattle.sr_inv_facts.specs.Invariant.{Invariant}
use Rattle.sr_inv_table.specs.Drawn.{TicksHold}
use Rattle.sr_machine.specs.Core.{Core}
use Rattle.sr_machine.specs.declared.name.Name.TheVariants as name

-- what is counted at most once in the ticks that were drawn is one
drawn_once : (x t next : ℕ) → x ≤ below t next → x ≤ 1
drawn_once x t next h = at (nat_lt 0 t) (nat_lt t next) h
  where
    at : (a b : Bool) → x ≤ (if a && b then 1 else 0) → x ≤ 1
    at true true h = h
    at true false h = omega (arith, h)
    at false b h = omega (arith, h)

drawn_below : (x t next : ℕ) → x ≤ below t next → 1 ≤ x → (1 ≤ t) × (t < next)
drawn_below x t next h some = at (nat_lt 0 t) (nat_lt t next) refl refl h
  where
    at : (a b : Bool) → nat_lt 0 t ≡ a → nat_lt t next ≡ b → x ≤ (if a && b then 1 else 0) → (1 ≤ t) × (t < next)
    at true true p q h = let low : 0 < t = grind (arith, nat_tests) in (omega (arith, low), grind (arith, nat_tests))
    at true false p q h = absurd (omega (arith, h, some))
    at false b p q h = absurd (omega (arith, h, some))

pub ticks : (s : Core) → Invariant s → TicksHold s
ticks s i = record {
  below = λ t some. drawn_below (times t s.pipes s.controller) t (s.words name.Tick) (i.ticks.once t) some;
  differ = λ t. drawn_once (times t s.pipes s.controller) t (s.words name.Tick) (i.ticks.once t);
  noted = i.words.note;
}
