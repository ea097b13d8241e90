-- A packet looks at one place of its key after the other.
use Rattle.std.proofs.Common.{◌≡◌, ◌∙◌, ℕ, zero, suc, ◌+◌, ◌*◌, ◌<◌, ◌≤◌, List, ◌∷◌, refl, sym, ap, subst, arith}
use Rattle.sr_base.specs.Key.{KeyView}
use Rattle.sr_base.specs.Layout.{LayoutView}
use Rattle.sr_base.specs.declared.place.Place.{Place}
use Rattle.sr_base.specs.declared.place.Place.TheVariants.{Row, Slot}
use Rattle.sr_hash.specs.Uses.{bucket_of, group_of}
use Rattle.sr_machine.specs.Boards.{FitsAfter, ShowsAfter}
use Rattle.sr_machine.specs.Reads.{says}
use Rattle.sr_machine.specs.Stages.{looked, looking}
use Rattle.sr_machine.specs.declared.flight.Flight.{Flight}
use Rattle.sr_machine.specs.declared.leg.Leg.{Leg}
use Rattle.sr_machine.specs.declared.leg.Leg.TheVariants.{Look}
use Rattle.sr_machine.specs.declared.name.Name.TheVariants.{Entry}
use Rattle.sr_machine.specs.declared.op.Op.TheVariants.{Loads}
use Rattle.sr_machine.specs.declared.pipe_view.PipeView.{PipeView}
use Rattle.sr_machine.specs.declared.said.Said.{Said}
use Rattle.sr_machine.specs.declared.stage.Stage.TheVariants.{Fly}
use Rattle.sr_pipe.proofs.Leading.{for_then, goes_on, goes_one}
use Rattle.sr_pipe.specs.Choices.{found_leg}
use Rattle.sr_pipe.specs.Known.{Goes, IsFor, Known, staged}
use Rattle.sr_pipe.specs.Places.{places_from}
use Rattle.sr_pipe.specs.declared.found.Found.{Found}
use Rattle.sr_pipe.specs.declared.found.Found.TheVariants as found

-- ---- one place

-- a look at a place, which said this
pub looks : (l m : LayoutView) (a b : Known) (v : PipeView) (f : Flight) (place : Place) (x : ℕ) (s : Said) (here : Found) → m ≡ l
    → s ≡ says m place f.packet.key x
    → ((rest : List Place) → found_leg m f rest here ≡ looked m f place rest s)
    → FitsAfter a.fits (Loads (Entry place)) x b.fits → ShowsAfter a.shows (Loads (Entry place)) x b.shows → b.beside ≡ a.beside
    → (a.rests → b.rests)
    → (rest : List Place) → Goes l a (staged v (Fly f (Look place rest))) b (staged v (Fly f (found_leg l f rest here)))
looks l m a b v f place x s here same told leg fits shows beside rests rest =
    subst (λ (g : Leg). Goes l a (staged v (Fly f (Look place rest))) b (staged v (Fly f g))) (sym there)
    (goes_one l a b (staged v (Fly f (Look place rest))) (Loads (Entry place)) x refl refl fits shows beside rests)
  where
    there : found_leg l f rest here ≡ looked l f place rest (says l place f.packet.key x)
    there =
        subst (λ (k : LayoutView). found_leg k f rest here ≡ looked k f place rest (says k place f.packet.key x)) same
        (leg rest ∙ ap (looked m f place rest) told)

-- where an entry was found, the places after it are of no matter
pub found_same : (l : LayoutView) (f : Flight) (some other : List Place) (here : Found) → (here ≡ found.Nothing → ⊥)
    → found_leg l f some here ≡ found_leg l f other here
found_same l f some other found.Nothing h = absurd (h refl)
found_same l f some other found.Reserved h = refl
found_same l f some other (found.Live place version) h = refl

-- ---- one after the other

pub row_at : (l : LayoutView) (key : KeyView) (first i : ℕ) → first ≡ 4 * group_of key l.shape.full_rows → i < 4
    → places_from l key i ≡ Row (first + i) ∷ places_from l key (i + 1)
row_at l key first zero e h = ap (λ r. Row r ∷ places_from l key 1) (omega (arith, e))
row_at l key first (suc zero) e h = ap (λ r. Row (r + 1) ∷ places_from l key 2) (sym e)
row_at l key first (suc (suc zero)) e h = ap (λ r. Row (r + 2) ∷ places_from l key 3) (sym e)
row_at l key first (suc (suc (suc zero))) e h = ap (λ r. Row (r + 3) ∷ places_from l key 4) (sym e)
row_at l key first (suc (suc (suc (suc i)))) e h = absurd (omega (arith, h))

cell_one : (l : LayoutView) (key : KeyView) (cell : ℕ) → cell < 4
    → places_from l key (4 + cell) ≡ Slot 1 (bucket_of 1 key l.shape.buckets) cell ∷ places_from l key (4 + (cell + 1))
cell_one l key zero h = refl
cell_one l key (suc zero) h = refl
cell_one l key (suc (suc zero)) h = refl
cell_one l key (suc (suc (suc zero))) h = refl
cell_one l key (suc (suc (suc (suc cell)))) h = absurd (omega (arith, h))

cell_two : (l : LayoutView) (key : KeyView) (cell : ℕ) → cell < 4
    → places_from l key (8 + cell) ≡ Slot 2 (bucket_of 2 key l.shape.buckets) cell ∷ places_from l key (8 + (cell + 1))
cell_two l key zero h = refl
cell_two l key (suc zero) h = refl
cell_two l key (suc (suc zero)) h = refl
cell_two l key (suc (suc (suc zero))) h = refl
cell_two l key (suc (suc (suc (suc cell)))) h = absurd (omega (arith, h))

pub cell_at : (l : LayoutView) (key : KeyView) (way bucket cell : ℕ) → 1 ≤ way → way ≤ 2
    → bucket ≡ bucket_of way key l.shape.buckets → cell < 4
    → places_from l key (4 * way + cell) ≡ Slot way bucket cell ∷ places_from l key (4 * way + (cell + 1))
cell_at l key zero bucket cell a b e h = absurd (omega (arith, a))
cell_at l key (suc zero) bucket cell a b e h =
    cell_one l key cell h ∙ ap (λ n. Slot 1 n cell ∷ places_from l key (4 + (cell + 1))) (sym e)
cell_at l key (suc (suc zero)) bucket cell a b e h =
    cell_two l key cell h ∙ ap (λ n. Slot 2 n cell ∷ places_from l key (8 + (cell + 1))) (sym e)
cell_at l key (suc (suc (suc way))) bucket cell a b e h = absurd (omega (arith, b))

module _ (l : LayoutView) (f : Flight) (place : Place) (places rest : List Place) (e : places ≡ place ∷ rest) where
  -- the board is ready for the look at the first of the places left
  pub for_look : (a b : Known) (v u : PipeView) (room : ℕ) → Goes l a u b (staged v (Fly f (looking l f places)))
      → IsFor a.fits a.beside (record { layout = l; view = u; room = room })
      → IsFor b.fits b.beside (record { layout = l; view = staged v (Fly f (Look place rest)); room = room })
  for_look a b v u room g h =
      subst (λ ps. IsFor b.fits b.beside (record { layout = l; view = staged v (Fly f (looking l f ps)); room = room })) e
      (for_then a b (record { layout = l; view = u; room = room })
      (record { layout = l; view = staged v (Fly f (looking l f places)); room = room }) refl g h)

  -- and goes on by it
  pub look_on : (a b c : Known) (v u w : PipeView) → Goes l a u b (staged v (Fly f (looking l f places)))
      → Goes l b (staged v (Fly f (Look place rest))) c w → Goes l a u c w
  look_on a b c v u w g h =
      goes_on l a b c u (staged v (Fly f (looking l f places))) w g
      (subst (λ ps. Goes l b (staged v (Fly f (looking l f ps))) c w) (sym e) h)

-- what was found doesn't depend on what is left to look at
pub found_any : (l : LayoutView) (f : Flight) (some other : List Place) (here : Found) → (here ≡ found.Nothing → ⊥)
    → (a b : Known) (u v : PipeView) → Goes l a u b (staged v (Fly f (found_leg l f some here)))
    → Goes l a u b (staged v (Fly f (found_leg l f other here)))
found_any l f some other here h a b u v g =
    subst (λ (leg : Leg). Goes l a u b (staged v (Fly f leg))) (found_same l f some other here h) g
