-- Lines that are drawn put no packet on duty that has entered.
use Rattle.std.proofs.Common.{◌≡◌, ℕ, ◌<◌, Bool, true, false, ◌⊎◌, List, [], ◌∷◌, ◌++◌, if◌then◌else◌, Some, None, Option, sym, refl, ap, ◌∙◌, inl, inr, arith}
use Rattle.std.specs.List.{AllByRecursion}
use Rattle.std.specs.Option.{option_or}
use Rattle.std.proofs.lemmas.Option.{same_Some}
use Rattle.sr_base.specs.Key.{KeyView, same_key}
use Rattle.sr_base.specs.declared.kind.Kind.TheVariants.{Opener}
use Rattle.sr_inv_facts.specs.OnTrack.{IsOnDuty}
use Rattle.sr_law.specs.Opening.{opened, opened_by, opening, retires}
use Rattle.sr_law.specs.Ticks.{out_of}
use Rattle.sr_law.specs.declared.line.Line.{Line}
use Rattle.sr_law.specs.declared.line.Line.TheVariants as line
use Rattle.sr_law.specs.declared.opening.Opening.{Opening}
use Rattle.sr_law.specs.declared.verdict.Verdict.{Verdict}
use Rattle.sr_law.specs.declared.verdict.Verdict.TheVariants.{To}
use Rattle.sr_machine.specs.declared.flight.Flight.{Flight}

opened_out : (out : ℕ) (v : Verdict) (o : Opening) → opened out v ≡ Some o → o.out ≡ out
opened_out out (To server version pool) o e = sym (ap (λ z. z.out) (same_Some _ o e))
opened_out out v o e = cc

opened_if : (b : Bool) (out : ℕ) (v : Verdict) (o : Opening) → (if b then opened out v else None) ≡ Some o → o.out ≡ out
opened_if true out v o e = opened_out out v o e
opened_if false out v o e = cc

-- an opening is out at its line's tick
opened_at : (l : Line) (key : KeyView) (o : Opening) → opened_by l key ≡ Some o → o.out ≡ out_of l
opened_at (line.Packet number entered out pipe own Opener v) key o e = opened_if (same_key own key) out v o e
opened_at (line.Answer out pipe nth own v) key o e = opened_if (same_key own key) out v o e
opened_at l key o e = cc

-- what opens a connection is out at the new line's tick, or opened it before
opened_before : (l : Line) (lines : List Line) (key : KeyView) (o : Opening) → opening (l ∷ lines) key ≡ Some o
    → (opening lines key ≡ Some o) ⊎ (o.out ≡ out_of l)
opened_before l lines key o e = at (retires l key) (opening lines key) refl e
  where
    at : (b : Bool) (p : Option Opening) → opening lines key ≡ p → (if b then None else option_or p (opened_by l key)) ≡ Some o
        → (opening lines key ≡ Some o) ⊎ (o.out ≡ out_of l)
    at true p q e = absurd cc
    at false (Some z) q e = inl (q ∙ e)
    at false None q e = inr (opened_at l key o e)

-- lines of this tick put no packet on duty that entered before it
pub duty_before : (tick : ℕ) (new lines : List Line) (f : Flight) → AllByRecursion (λ l. out_of l ≡ tick) new → f.entered < tick
    → IsOnDuty (new ++ lines) f → IsOnDuty lines f
duty_before tick [] lines f a b d = d
duty_before tick (l ∷ new) lines f a b (inl o) = inl o
duty_before tick (l ∷ new) lines f a b (inr (o, e, less)) =
    at (opened_before l (new ++ lines) f.packet.key o e) (λ d. duty_before tick new lines f a.1 b d)
  where
    at : (opening (new ++ lines) f.packet.key ≡ Some o) ⊎ (o.out ≡ out_of l) → (IsOnDuty (new ++ lines) f → IsOnDuty lines f) → IsOnDuty lines f
    at (inl t) more = more (inr (o, t, less))
    at (inr t) more = absurd (omega (arith, t, a.0))
