-- From one leg of a packet to the next, where the two are named in different ways.
use Rattle.std.proofs.Common.{◌≡◌, ◌∙◌, ℕ, zero, suc, ◌+◌, ◌<◌, Bool, true, false, List, ◌∷◌, drop, slice_index, refl, sym, ap, subst, arith}
use Rattle.sr_base.specs.Key.{KeyView}
use Rattle.sr_base.specs.Layout.{LayoutView}
use Rattle.sr_base.specs.declared.kind.Kind.{Kind}
use Rattle.sr_law.specs.declared.verdict.Verdict.{Verdict}
use Rattle.sr_machine.specs.Stages.{key_bits, last_by, verdict_by}
use Rattle.sr_machine.specs.declared.flight.Flight.{Flight}
use Rattle.sr_machine.specs.declared.leg.Leg.{Leg}
use Rattle.sr_machine.specs.declared.leg.Leg.TheVariants.{Judged}
use Rattle.sr_machine.specs.declared.pipe_view.PipeView.{PipeView}
use Rattle.sr_machine.specs.declared.stage.Stage.TheVariants.{Fly}
use Rattle.sr_pipe.proofs.Leading.{for_then, goes_on}
use Rattle.sr_pipe.specs.Causes.{is_down}
use Rattle.sr_pipe.specs.Known.{Goes, IsFor, Known, staged}

module _ (l : LayoutView) (f : Flight) (leg next : Leg) (e : leg ≡ next) where
  -- the board is ready for the leg under its other name
  pub for_leg : (a b : Known) (v u : PipeView) (room : ℕ) → Goes l a u b (staged v (Fly f leg))
      → IsFor a.fits a.beside (record { layout = l; view = u; room = room })
      → IsFor b.fits b.beside (record { layout = l; view = staged v (Fly f next); room = room })
  for_leg a b v u room g h =
      subst (λ (n : Leg). IsFor b.fits b.beside (record { layout = l; view = staged v (Fly f n); room = room })) e
      (for_then a b (record { layout = l; view = u; room = room })
      (record { layout = l; view = staged v (Fly f leg); room = room }) refl g h)

  -- and goes on from it
  pub leg_on : (a b c : Known) (v u w : PipeView) → Goes l a u b (staged v (Fly f leg)) → Goes l b (staged v (Fly f next)) c w
      → Goes l a u c w
  leg_on a b c v u w g h =
      goes_on l a b c u (staged v (Fly f leg)) w g (subst (λ (n : Leg). Goes l b (staged v (Fly f n)) c w) (sym e) h)

-- one place of the filter after the other
pub bits_at : (l : LayoutView) (key : KeyView) (bits : List ℕ) (i : ℕ) → bits ≡ key_bits l key → i < 3
    → drop i (key_bits l key) ≡ slice_index bits i ∷ drop (i + 1) (key_bits l key)
bits_at l key bits zero e h = ap (λ (bs : List ℕ). slice_index bs 0 ∷ drop 1 (key_bits l key)) (sym e)
bits_at l key bits (suc zero) e h = ap (λ (bs : List ℕ). slice_index bs 1 ∷ drop 2 (key_bits l key)) (sym e)
bits_at l key bits (suc (suc zero)) e h = ap (λ (bs : List ℕ). slice_index bs 2 ∷ drop 3 (key_bits l key)) (sym e)
bits_at l key bits (suc (suc (suc i))) e h = absurd (omega (arith, h))

down_is : (down : Bool) (server version pool : ℕ) → is_down (verdict_by down server version pool) ≡ down
down_is true server version pool = refl
down_is false server version pool = refl

-- what a packet does next is read off its verdict
pub judged_by : (kind : Kind) (down : Bool) (server version pool : ℕ) (u : Verdict) → u ≡ verdict_by down server version pool
    → Judged u (last_by kind (is_down u)) ≡ Judged (verdict_by down server version pool) (last_by kind down)
judged_by kind down server version pool u e =
    ap (λ (w : Verdict). Judged w (last_by kind (is_down w))) e
    ∙ ap (λ (d : Bool). Judged (verdict_by down server version pool) (last_by kind d)) (down_is down server version pool)
