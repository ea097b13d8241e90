-- Events one after another.
use Rattle.std.proofs.Common.{◌≡◌, ℕ, List, [], ◌∷◌, ◌-◌, length, drop, slice_get, slice_range, unwrap_or, Option, Some, None, refl, sym, ap, subst, arith}
use Rattle.std.proofs.lemmas.List.{length-drop, take_all}
use Rattle.std.proofs.lemmas.Option.{same_Some}
use Rattle.sr_core.specs.HeldCore.{HeldCore, Shows, StepsTo, state_of}
use Rattle.sr_core.specs.PlainWords.{ShowsWords}
use Rattle.sr_inv_core.specs.Keeps.{StandsOn, led}
use Rattle.sr_inv_facts.specs.Invariant.{Invariant}
use Rattle.sr_machine.specs.Core.{Core, step_event}
use Rattle.sr_machine.specs.declared.event.Event.{Event}
use Rattle.sr_machine.specs.declared.name.Name.{Name}
use Rattle.sr_machine.specs.declared.stepped.Stepped.{Stepped}
use Rattle.sr_machine.specs.declared.stepped.Stepped.TheVariants.{Made, NotNow, Memory}
use Rattle.sr_picks.specs.Turn.{after}

-- without a first event there is none
pub led_none : (xs : List Event) (s : Core) → slice_get xs 0 ≡ None → led xs s ≡ s
led_none [] s q = refl
led_none (x ∷ xs) s q = absurd cc

pub led_first : (xs : List Event) (e : Event) (s : Core) → slice_get xs 0 ≡ Some e → led xs s ≡ led (drop 1 xs) (after e s)
led_first [] e s q = absurd cc
led_first (x ∷ xs) e s q = ap (λ z. led xs (after z s)) (same_Some x e q)

-- all but the first
pub all_but_first : (xs : List Event) → slice_range xs 1 (length xs) ≡ drop 1 xs
all_but_first xs = take_all (length xs - 1) (drop 1 xs) (omega (arith, length-drop 1 xs))

module _ (old mid new : HeldCore) where
  -- what stands, and then stands on, stands on from the beginning
  pub stands_then : StandsOn old mid → StandsOn mid new → StandsOn old new
  stands_then f g = λ words shown i. let m = f words shown i in g m.1.0 m.1.1 (subst Invariant m.1.2 m.2)

  module _ (rest : List Event) (words : Name → ℕ) (shown : ShowsWords old.config.layout old.words words)
      (goes : (w : Name → ℕ) → ShowsWords mid.config.layout mid.words w → Shows new (led rest (state_of mid w))) where
    by : (r : Stepped) (o : Option Core) → StepsTo r o old mid → (r ≡ Memory → ⊥) → Shows new (led rest (unwrap_or o (state_of old words)))
    by Made (Some t) h m = subst (λ z. Shows new (led rest z)) (sym h.2) (goes h.0 h.1)
    by Made None h m = absurd h
    by NotNow (Some t) h m = absurd h
    by NotNow None h m =
        subst (λ (z : HeldCore). ShowsWords z.config.layout z.words words → Shows new (led rest (state_of z words))) h (goes words) shown
    by Memory o h m = absurd (m refl)

    -- an event that was made, or couldn't be, and the others after it
    pub led_then : (e : Event) (r : Stepped) → StepsTo r (step_event e (state_of old words)) old mid → (r ≡ Memory → ⊥)
        → Shows new (led rest (after e (state_of old words)))
    led_then e r h m = by r (step_event e (state_of old words)) h m
