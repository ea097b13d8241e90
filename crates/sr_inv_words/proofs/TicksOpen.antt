-- The ticks at the opening: the Given lines have those from 1 on.
use Rattle.std.proofs.Common.{◌≡◌, ℕ, zero, suc, ◌+◌, ◌*◌, ◌<◌, ◌≤◌, Bool, true, false, ◌&&◌, map, length, if◌then◌else◌, nat_lt, ◌==◌, sum_by, sym, refl, subst, arith}
use Rattle.std.proofs.lemmas.Bool.Decides.{nat_tests}
use Rattle.std.proofs.lemmas.List.Folds.{sum_by-replicate}
use Rattle.std.proofs.lemmas.List.Sums.{sum_by-cons}
use Rattle.std.specs.List.{range_with_len}
use Rattle.sr_inv_facts.proofs.Lists.{ranged_at}
use Rattle.sr_inv_facts.proofs.OpeningLines.{given_all}
use Rattle.sr_inv_facts.specs.InTicks.{InTicks, PipeInTime, Rise, line_times, lines_times, pipe_times}
use Rattle.sr_inv_facts.specs.Laws.{OpensWith}
use Rattle.sr_inv_facts.proofs.Sums.{sum_most}
use Rattle.sr_law.specs.Ticks.{is_controller}
use Rattle.sr_machine.specs.Config.{Config}
use Rattle.sr_machine.specs.Opening.{opening_line, opening_controller, opening_pipes, opening_words}
use Rattle.sr_machine.specs.Pipe.{fresh_pipe}
use Rattle.sr_machine.specs.declared.ring_count.RingCount.{RingCount}

-- ticks in a row stand once each
row_times : (t a n high : ℕ) → high ≡ a + n + 1
    → lines_times t (map opening_line (range_with_len a n)) ≤ (if nat_lt a t && nat_lt t high then 1 else 0)
row_times t a zero high e = omega arith
row_times t a (suc n) high e =
    omega (arith, row_times t (a + 1) n high (omega arith), by (t == (a + 1)) (nat_lt a t) (nat_lt (a + 1) t) (nat_lt t high) refl refl refl refl, sum_by-cons (line_times t) (opening_line a) (map opening_line (range_with_len (a + 1) n)))
  where
    by : (x y z w : Bool) → (t == (a + 1)) ≡ x → nat_lt a t ≡ y → nat_lt (a + 1) t ≡ z → nat_lt t high ≡ w
        → (if x then 1 else 0) + (if z && w then 1 else 0) ≤ (if y && w then 1 else 0)
    by true y true w p q r h = absurd (grind (arith, nat_tests))
    by true true false true p q r h = omega arith
    by true true false false p q r h = absurd (grind (arith, nat_tests))
    by true false false w p q r h = absurd (grind (arith, nat_tests))
    by false true z w p q r h = at z w
      where
        at : (z w : Bool) → 0 + (if z && w then 1 else 0) ≤ (if w then 1 else 0)
        at true true = omega arith
        at true false = omega arith
        at false true = omega arith
        at false false = omega arith
    by false false true w p q r h = absurd (grind (arith, nat_tests))
    by false false false w p q r h = omega arith

row_rises : (low a n : ℕ) → low < a + 1 → Rise low (map opening_line (range_with_len a n))
row_rises low a zero h = tt
row_rises low a (suc n) h = (h, row_rises (a + 1) (a + 1) n (omega arith))

fresh_times : (t : ℕ) (k : Config) → sum_by (pipe_times t) (opening_pipes k) ≡ 0
unfolding opening_pipes
fresh_times t k =
    let none : sum_by (pipe_times t) (opening_pipes k) ≤ length (opening_pipes k) * 0 =
    sum_most (pipe_times t) 0 (opening_pipes k) (λ p v e. subst (λ u. pipe_times t u ≤ 0) (sym (ranged_at fresh_pipe 0 k.layout.shape.pipes p v e)) (omega arith)) in
    omega arith

pub ticks_open : OpensWith InTicks
unfolding opening_controller opening_pipes opening_words
ticks_open k f = record {
  once = λ t. omega (arith, fresh_times t k, row_times t 0 k.layout.vips (k.layout.vips + 1) (omega arith));
  pipes = λ p v e. subst (PipeInTime p) (sym (ranged_at fresh_pipe 0 k.layout.shape.pipes p v e)) (record { own = tt; rise = tt; entered = tt; few = omega arith });
  controller = record {
    own = given_all (λ l. is_controller l ≡ true) (λ vip. refl) 0 k.layout.vips;
    rise = row_rises 0 0 k.layout.vips (omega arith);
    from = tt;
    drawn = omega arith;
    taken = omega (arith, sum_by-replicate (λ (r : RingCount). r.words) k.layout.shape.pipes (record { words = 0; punts = 0 }));
  };
}
