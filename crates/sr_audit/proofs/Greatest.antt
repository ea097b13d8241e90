-- Steps of the indexes of the greatest numbers.
use Rattle.std.proofs.Common.{◌≡◌, ℕ, false, ◌&&◌, ◌||◌, cond, List, ◌∷◌, Option, None, Some, sym, ap, ◌∙◌, inl, inr, subst, arith}
use Rattle.std.specs.Prelude.{nat_le, nat_eq}
use Rattle.std.specs.BTreeMap.{is_at}
use Rattle.std.specs.List.{list_any}
use Rattle.std.specs.Ordering.{nat_cmp}
use Rattle.std.proofs.lemmas.Bool.{cases_Bool, eqb-true}
use Rattle.std.proofs.lemmas.Bool.Decides.{nat_tests}
use Rattle.std.proofs.lemmas.Grind.{common_steps}
use Rattle.sr_law.specs.Groups.{was_given_past}
use Rattle.sr_law.specs.Order.{refused_past}
use Rattle.sr_law.specs.declared.line.Line.{Line}
use Rattle.sr_law.specs.declared.line.Line.TheVariants.{Given, Refused}
use Rattle.sr_audit.specs.Greatest.{reaches}

-- a greater number takes the place of the greatest
greater : (n new : ℕ) (old : Option ℕ) → reaches new old ≡ false → nat_le n new ≡ (nat_le n new || reaches n old)
greater n new None e = grind (arith, nat_tests)
greater n new (Some x) e = grind (arith, nat_tests)

pub same_number : (to vip : ℕ) → is_at (nat_cmp to) vip ≡ nat_eq to vip
same_number to vip = grind (arith, common_steps, nat_tests)

-- a pool that is greater than those that its virtual address was given
pub given_greater : (old new : ℕ → Option ℕ) (before : List Line) (out to version pool : ℕ) → reaches pool (old to) ≡ false
    → ((q : ℕ) → new q ≡ cond (is_at (nat_cmp to) q) (Some pool) (old q))
    → ((vip n : ℕ) → reaches n (old vip) ≡ list_any (was_given_past vip n) before)
    → (vip n : ℕ) → reaches n (new vip) ≡ list_any (was_given_past vip n) (Given out to version pool ∷ before)
given_greater old new before out to version pool e step h vip n =
    let older = list_any (was_given_past vip n) before in
    ap (reaches n) (step vip ∙ ap (λ b. cond b (Some pool) (old vip)) (same_number to vip))
    ∙ elim (cases_Bool (nat_eq to vip)) [
      | inl t ↦
          let less : reaches pool (old vip) ≡ false = subst (λ v. reaches pool (old v) ≡ false) (eqb-true to vip t) e in
          ap (λ b. reaches n (cond b (Some pool) (old vip))) t ∙ greater n pool (old vip) less ∙ ap (λ b. nat_le n pool || b) (h vip n)
          ∙ sym (ap (λ b. (b && nat_le n pool) || older) t)
      | inr f ↦ ap (λ b. reaches n (cond b (Some pool) (old vip))) f ∙ h vip n ∙ sym (ap (λ b. (b && nat_le n pool) || older) f)
    ]

-- a change that is later than those that were refused
pub refused_greater : (old : Option ℕ) (before : List Line) (out change : ℕ) → reaches change old ≡ false
    → ((n : ℕ) → reaches n old ≡ list_any (refused_past n) before)
    → (n : ℕ) → reaches n (Some change) ≡ list_any (refused_past n) (Refused out change ∷ before)
refused_greater old before out change e h n = greater n change old e ∙ ap (λ b. nat_le n change || b) (h n)
