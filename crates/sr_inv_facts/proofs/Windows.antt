-- A ring as a window on the numbers of its reports: a report goes into the cell of its number, and comes out of it.
use Rattle.std.proofs.Common.{◌≡◌, refl, ℕ, ◌+◌, ◌*◌, ◌/◌, ◌%◌, ◌<◌, ◌≤◌, ◌≢◌, ◌⊎◌, Bool, true, false, ◌==◌, if◌then◌else◌, sym, ap, ◌∙◌, subst, inl, inr, arith}
use Rattle.std.proofs.Math.Nat.{add-mod_right, mul-le-mul_right}
use Rattle.std.proofs.lemmas.Bool.{cases_lt}
use Rattle.std.proofs.lemmas.Bool.Decides.{nat_tests}
use Rattle.std.proofs.lemmas.Nat.{div-add-mod'}
use Rattle.sr_base.specs.Layout.{LayoutView}
use Rattle.sr_inv_facts.specs.InWords.{HoldsReports, IsReport}

-- numbers that are less than a ring apart have cells of their own
pub cells_apart : (r a b : ℕ) → a < b → b < a + r → (a % r) ≢ (b % r)
cells_apart r a b less near e = at (cases_lt (a / r) (b / r))
  where
    x : a / r * r + a % r ≡ a
    x = div-add-mod' a r

    y : b / r * r + b % r ≡ b
    y = div-add-mod' b r

    at : (a / r < b / r) ⊎ (b / r ≤ a / r) → ⊥
    at (inl h) = let more : (a / r + 1) * r ≤ b / r * r = mul-le-mul_right r (omega arith) in omega (arith, x, y)
    at (inr h) = let more : b / r * r ≤ a / r * r = mul-le-mul_right r h in omega (arith, x, y)

module _ (l : LayoutView) (ring after : ℕ → ℕ) (taken pushed : ℕ) (holds : HoldsReports l ring taken pushed) where
  -- the same words
  pub reports_same : ((cell : ℕ) → after cell ≡ ring cell) → HoldsReports l after taken pushed
  reports_same same = record {
    least = holds.least;
    most = holds.most;
    there = λ n low high. subst (IsReport l) (sym (same (n % l.shape.ring))) (holds.there n low high);
    empty = λ n low high. same (n % l.shape.ring) ∙ holds.empty n low high;
  }

  -- another word at one cell leaves the other cells
  other_cell : (x at cell : ℕ) → ((c : ℕ) → after c ≡ if at == c then x else ring c) → at ≢ cell → after cell ≡ ring cell
  other_cell x at cell is apart = is cell ∙ by (at == cell) (grind (arith, nat_tests))
    where
      by : (t : Bool) → t ≡ false → (if t then x else ring cell) ≡ ring cell
      by true e = cc
      by false e = refl

  this_cell : (x at cell : ℕ) → ((c : ℕ) → after c ≡ if at == c then x else ring c) → at ≡ cell → after cell ≡ x
  this_cell x at cell is here = is cell ∙ by (at == cell) (grind (arith, nat_tests))
    where
      by : (t : Bool) → t ≡ true → (if t then x else ring cell) ≡ x
      by true e = refl
      by false e = cc

  -- a report is stored in the next cell, which is free
  pub window_push : (x : ℕ) → pushed < taken + l.shape.ring → IsReport l x
      → ((c : ℕ) → after c ≡ if (pushed % l.shape.ring) == c then x else ring c) → HoldsReports l after taken (pushed + 1)
  window_push x room report is = record {
    least = omega (arith, holds.least);
    most = omega (arith, room);
    there = λ n low high. there n low high (cases_lt n pushed);
    empty = λ n low high.
        other_cell x (pushed % l.shape.ring) (n % l.shape.ring) is (cells_apart l.shape.ring pushed n (omega arith) (omega (arith, holds.least)))
        ∙ holds.empty n (omega arith) high;
  }
    where
      there : (n : ℕ) → taken ≤ n → n < pushed + 1 → (n < pushed) ⊎ (pushed ≤ n) → IsReport l (after (n % l.shape.ring))
      there n low high (inl h) =
          let apart : (pushed % l.shape.ring) ≢ (n % l.shape.ring) = λ e. cells_apart l.shape.ring n pushed h (omega arith) (sym e) in
          subst (IsReport l) (sym (other_cell x (pushed % l.shape.ring) (n % l.shape.ring) is apart)) (holds.there n low h)
      there n low high (inr h) =
          let same : pushed % l.shape.ring ≡ n % l.shape.ring = ap (λ m. m % l.shape.ring) (omega arith) in
          subst (IsReport l) (sym (this_cell x (pushed % l.shape.ring) (n % l.shape.ring) is same)) report

  -- where the first cell isn't empty, there is a report
  pub some_left : 0 < l.shape.ring → ring (taken % l.shape.ring) ≢ 0 → taken < pushed
  some_left big full = at (cases_lt taken pushed)
    where
      at : (taken < pushed) ⊎ (pushed ≤ taken) → taken < pushed
      at (inl h) = h
      at (inr h) = absurd (full (holds.empty taken h (omega arith)))

  -- a report is taken from the first cell
  pub window_take : 0 < l.shape.ring → ring (taken % l.shape.ring) ≢ 0
      → ((c : ℕ) → after c ≡ if (taken % l.shape.ring) == c then 0 else ring c) → HoldsReports l after (taken + 1) pushed
  window_take big full is = record {
    least = omega (arith, left);
    most = omega (arith, holds.most);
    there = λ n low high.
        subst (IsReport l)
        (sym (other_cell 0 (taken % l.shape.ring) (n % l.shape.ring) is (cells_apart l.shape.ring taken n (omega arith) (omega (arith, holds.most)))))
        (holds.there n (omega arith) high);
    empty = λ n low high. empty n low high (cases_lt n (taken + l.shape.ring));
  }
    where
      left : taken < pushed
      left = some_left big full

      empty : (n : ℕ) → pushed ≤ n → n < taken + 1 + l.shape.ring → (n < taken + l.shape.ring) ⊎ (taken + l.shape.ring ≤ n)
          → after (n % l.shape.ring) ≡ 0
      empty n low high (inl h) =
          other_cell 0 (taken % l.shape.ring) (n % l.shape.ring) is (cells_apart l.shape.ring taken n (omega (arith, left)) h) ∙ holds.empty n low h
      empty n low high (inr h) =
          let same : taken % l.shape.ring ≡ n % l.shape.ring =
          sym (ap (λ m. m % l.shape.ring) (omega arith) ∙ add-mod_right taken l.shape.ring) in
          this_cell 0 (taken % l.shape.ring) (n % l.shape.ring) is same

  -- an empty first cell stays so
  pub window_kept : ((c : ℕ) → after c ≡ if (taken % l.shape.ring) == c then 0 else ring c) → ring (taken % l.shape.ring) ≡ 0
      → HoldsReports l after taken pushed
  window_kept is none = reports_same (λ c. is c ∙ at c ((taken % l.shape.ring) == c) refl)
    where
      at : (c : ℕ) (t : Bool) → ((taken % l.shape.ring) == c) ≡ t → (if t then 0 else ring c) ≡ ring c
      at c true e = let here : taken % l.shape.ring ≡ c = grind (arith, nat_tests) in sym none ∙ ap ring here
      at c false e = refl
