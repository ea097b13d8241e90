-- What the lines tell of the pool that an update switches to, from its Recorded line on.
use Rattle.std.proofs.Common.{◌≡◌, ℕ, zero, suc, ◌-◌, Bool, true, false, ◌||◌, List, [], ◌∷◌, length, take, if◌then◌else◌, ◌==◌, nat_lt, sym, refl, ap, ◌∙◌, arith}
use Rattle.std.proofs.lemmas.Bool.Decides.{nat_tests}
use Rattle.sr_inv_facts.specs.InCauses.{AllMeet}
use Rattle.sr_inv_flight.proofs.HoldLines.{group_part}
use Rattle.sr_law.specs.Given.{last_given}
use Rattle.sr_law.specs.Groups.{after_gives, last_of_update, was_held, was_recorded}
use Rattle.sr_law.specs.Held.{is_set, recorded_giving, records, sets_place}
use Rattle.sr_law.specs.Order.{meets_order}
use Rattle.sr_law.specs.Retire.{EndingPacket}
use Rattle.sr_law.specs.Setup.{SetupView}
use Rattle.sr_law.specs.declared.line.Line.{Line}
use Rattle.sr_law.specs.declared.line.Line.TheVariants as line

module _ (setup : SetupView) (endings : List EndingPacket) where
  -- a Hold line comes after the Recorded line of its virtual address
  hold_on : (out to : ℕ) (before : List Line) → meets_order setup before (line.Hold out to) ≡ true
      → was_recorded to (last_of_update (after_gives (length setup.pools) before)) ≡ true
  hold_on out to before e =
      at (nat_lt (length before) (length setup.pools)) (group_part setup endings before (line.Hold out to) e)
    where
      at : (b : Bool) → (if b then false else was_recorded to (last_of_update (after_gives (length setup.pools) before))) ≡ true
          → was_recorded to (last_of_update (after_gives (length setup.pools) before)) ≡ true
      at true e = cc
      at false e = e

  -- where the last line of an update is a Recorded line, its pool is the one that was given last
  pub recorded_same : (vip : ℕ) (lines : List Line) (n : ℕ) → was_recorded vip (last_of_update (take n lines)) ≡ true
      → recorded_giving lines vip ≡ last_given lines vip
  recorded_same vip [] zero e = cc
  recorded_same vip [] (suc n) e = cc
  recorded_same vip (l ∷ lines) zero e = cc
  recorded_same vip (line.Recorded out to ∷ lines) (suc n) e = at (to == vip) e
    where
      at : (b : Bool) → b ≡ true → (if b then last_given lines vip else recorded_giving lines vip) ≡ last_given lines vip
      at true e = refl
      at false e = cc
  recorded_same vip (line.Given out to version pool ∷ lines) (suc n) e = cc
  recorded_same vip (line.Hold out to ∷ lines) (suc n) e = cc
  recorded_same vip (line.Switched out to pool ∷ lines) (suc n) e = cc
  recorded_same vip (line.Finished out to ∷ lines) (suc n) e = cc
  recorded_same vip (l ∷ lines) (suc n) e = recorded_same vip lines n e

  -- and where it is the Hold line after that
  pub held_same : (vip : ℕ) (lines : List Line) (n : ℕ) → AllMeet setup endings lines → was_held vip (last_of_update (take n lines)) ≡ true
      → recorded_giving lines vip ≡ last_given lines vip
  held_same vip [] zero a e = cc
  held_same vip [] (suc n) a e = cc
  held_same vip (l ∷ lines) zero a e = cc
  held_same vip (line.Hold out to ∷ lines) (suc n) a e =
      let same : to ≡ vip = grind (arith, nat_tests) in
      recorded_same vip lines (length lines - length setup.pools)
      (ap (λ v. was_recorded v (last_of_update (after_gives (length setup.pools) lines))) (sym same) ∙ hold_on out to lines a.0.order)
  held_same vip (line.Given out to version pool ∷ lines) (suc n) a e = cc
  held_same vip (line.Recorded out to ∷ lines) (suc n) a e = cc
  held_same vip (line.Switched out to pool ∷ lines) (suc n) a e = cc
  held_same vip (line.Finished out to ∷ lines) (suc n) a e = cc
  held_same vip (l ∷ lines) (suc n) a e = held_same vip lines n a.1 e

-- ---- one line more

-- a line that doesn't begin to record leaves what was set
module _ (bits vip bit : ℕ) (l : Line) (lines : List Line) (no : records vip l ≡ false) where
  giving_more : recorded_giving (l ∷ lines) vip ≡ recorded_giving lines vip
  giving_more = ap (λ b. if b then last_given lines vip else recorded_giving lines vip) no

  set_is : is_set bits vip (recorded_giving (l ∷ lines) vip) bit (l ∷ lines)
      ≡ (sets_place bits vip (recorded_giving lines vip) bit l || is_set bits vip (recorded_giving lines vip) bit lines)
  set_is =
      ap (λ g. is_set bits vip g bit (l ∷ lines)) giving_more
      ∙ ap (λ b. if b then false else (sets_place bits vip (recorded_giving lines vip) bit l || is_set bits vip (recorded_giving lines vip) bit lines)) no

  pub set_before : is_set bits vip (recorded_giving lines vip) bit lines ≡ true → is_set bits vip (recorded_giving (l ∷ lines) vip) bit (l ∷ lines) ≡ true
  set_before h = set_is ∙ (ap (λ b. sets_place bits vip (recorded_giving lines vip) bit l || b) h ∙ at (sets_place bits vip (recorded_giving lines vip) bit l))
    where
      at : (b : Bool) → (b || true) ≡ true
      at true = refl
      at false = refl

  pub set_by : sets_place bits vip (recorded_giving lines vip) bit l ≡ true → is_set bits vip (recorded_giving (l ∷ lines) vip) bit (l ∷ lines) ≡ true
  set_by h = set_is ∙ ap (λ b. b || is_set bits vip (recorded_giving lines vip) bit lines) h
