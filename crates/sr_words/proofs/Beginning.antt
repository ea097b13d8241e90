-- The rule holds at the beginning.
use Rattle.std.proofs.Common.{◌≡◌, ◌∙◌, ℕ, zero, suc, ◌+◌, ◌≤◌, ◌<◌, ◌==◌, Bool, true, false, List, [], ◌∷◌, length, map, Some, option_map, slice_get, refl, sym, ap, subst, zero-add, arith, if◌then◌else◌}
use Rattle.std.proofs.lemmas.Bool.Decides.{nat_tests}
use Rattle.std.specs.List.{range_with_len}
use Rattle.atomic_table.specs.Table.{opening as opening_table}
use Rattle.sr_acts.specs.Config.{IsFitting}
use Rattle.sr_base.specs.Layout.{IsLayout, LayoutView}
use Rattle.sr_base.specs.WordName.{words_of}
use Rattle.sr_core.specs.PlainWords.{ShowsWords}
use Rattle.sr_base.specs.declared.change.Change.{Change}
use Rattle.sr_law.specs.Pools.{VipPools}
use Rattle.sr_machine.specs.Config.{Config}
use Rattle.sr_machine.specs.Core.{Core, opening}
use Rattle.sr_machine.specs.Opening.{opening_pipes, opening_words}
use Rattle.sr_machine.specs.Pipe.{fresh_pipe}
use Rattle.sr_machine.specs.declared.actor.Actor.{Actor}
use Rattle.sr_machine.specs.declared.actor.Actor.TheVariants.{Pipe, Controller}
use Rattle.sr_machine.specs.declared.view.View.TheVariants.{OfPipe}
use Rattle.sr_inv_facts.specs.Fitted.{IsFitted}
use Rattle.sr_words.specs.Rule.{Ruled}
use Rattle.sr_words.specs.Seats.{AllShown, IsSure, first_seated, first_views, times_in}
use Rattle.sr_words.specs.declared.seated.Seated.{Seated}
use lib.ListN.{get_elem?}
use mathlib.Core.Option.{some, some-injective, some-ne-none}

-- a pipe is among those that have done nothing yet
ranged_here : {Y : Type 0} (f : ℕ → Y) (a n p : ℕ) → p < n → slice_get (map f (range_with_len a n)) p ≡ Some (f (a + p))
ranged_here f a zero p b = absurd (omega arith)
ranged_here f a (suc n) zero b = ap (λ m. Some (f m)) (omega arith)
ranged_here f a (suc n) (suc p) b =
    let step : (a + 1) + p ≡ a + suc p = omega arith in
    ranged_here f (a + 1) n p (omega arith) ∙ ap (λ m. Some (f m)) step

fresh_shown : (s : Core) (a n : ℕ) → ((p : ℕ) → a ≤ p → p < a + n → slice_get s.pipes p ≡ Some (fresh_pipe p))
    → AllShown s (map OfPipe (map fresh_pipe (range_with_len a n)))
fresh_shown s a zero h = tt
fresh_shown s a (suc n) h = (
  ap (option_map OfPipe) (h a (omega arith) (omega arith)),
  fresh_shown s (a + 1) n (λ p b c. h p (omega arith) (omega arith)),
)

fresh_before : (p a n : ℕ) → p < a → times_in (Pipe p) (map OfPipe (map fresh_pipe (range_with_len a n))) ≡ 0
fresh_before p a zero b = refl
fresh_before p a (suc n) b =
    let none : (p == a) ≡ false = grind (arith, nat_tests) in
    let h : times_in (Pipe p) (map OfPipe (map fresh_pipe (range_with_len (a + 1) n))) ≡ 0 = fresh_before p (a + 1) n (omega arith) in
    ap (λ (t : Bool). (if t then 1 else 0) + times_in (Pipe p) (map OfPipe (map fresh_pipe (range_with_len (a + 1) n)))) none
    ∙ zero-add (times_in (Pipe p) (map OfPipe (map fresh_pipe (range_with_len (a + 1) n)))) ∙ h

no_controllers : (a n : ℕ) → times_in Controller (map OfPipe (map fresh_pipe (range_with_len a n))) ≡ 0
no_controllers a zero = refl
no_controllers a (suc n) =
    zero-add (times_in Controller (map OfPipe (map fresh_pipe (range_with_len (a + 1) n)))) ∙ no_controllers (a + 1) n

fresh_times : (b : Actor) (a n : ℕ) → times_in b (map OfPipe (map fresh_pipe (range_with_len a n))) ≤ 1
fresh_times Controller a n = let h = no_controllers a n in omega arith
fresh_times (Pipe p) a zero = omega arith
fresh_times (Pipe p) a (suc n) = by (p == a) refl (fresh_times (Pipe p) (a + 1) n)
  where
    by : (t : Bool) → (p == a) ≡ t → times_in (Pipe p) (map OfPipe (map fresh_pipe (range_with_len (a + 1) n))) ≤ 1
        → (if t then 1 else 0) + times_in (Pipe p) (map OfPipe (map fresh_pipe (range_with_len (a + 1) n))) ≤ 1
    by true e rest =
        let same : p ≡ a = grind (arith, nat_tests) in
        let h : times_in (Pipe p) (map OfPipe (map fresh_pipe (range_with_len (a + 1) n))) ≡ 0 = fresh_before p (a + 1) n (omega arith) in
        omega arith
    by false e rest = omega arith

module _ (k : Config) where
  first_shown : AllShown (opening k) (first_views k)
  unfolding opening_pipes
  first_shown = (refl, fresh_shown (opening k) 0 k.layout.shape.pipes (λ p a b. ranged_here fresh_pipe 0 k.layout.shape.pipes p (omega arith) ∙ ap (λ m. Some (fresh_pipe m)) (zero-add p)))

  first_claims : (a : Actor) → times_in a (first_views k) ≤ 1
  unfolding opening_pipes
  first_claims Controller = let h = no_controllers 0 k.layout.shape.pipes in omega arith
  first_claims (Pipe p) = let h = fresh_times (Pipe p) 0 k.layout.shape.pipes in omega arith

  pub fitted_of : IsLayout k.layout → IsFitting k → IsFitted k
  fitted_of l f = record { layout = l; first = f.0; fits = f.1; pools = f.2 }

  pub ruled_first : (list : List ℕ) → IsFitted k → words_of k.layout ≤ length list → ShowsWords k.layout list (opening_words k)
      → Ruled k (opening_table list [] (first_seated k))
  ruled_first list fitted wide shows = record {
    fitted = fitted;
    state = opening k;
    reached = record { events = []; leads = refl; packets = tt };
    wide = wide;
    words = shows;
    shown = λ id seat e. only id seat e;
    apart = λ a. let h = first_claims a in omega arith;
    sure = λ id seat e. unsure id seat e;
  }
    where
      unsure : (id : ℕ) (seat : Seated) → get_elem? (first_seated k ∷ []) id ≡ some seat
          → IsSure (opening_table list [] (first_seated k)) id seat.words
      unsure zero seat e =
          subst (λ (v : Seated). IsSure (opening_table list [] (first_seated k)) 0 v.words) (some-injective (first_seated k) seat e) tt
      unsure (suc id) seat e = absurd (some-ne-none seat (sym e))

      only : (id : ℕ) (seat : Seated) → get_elem? (first_seated k ∷ []) id ≡ some seat → AllShown (opening k) seat.actors
      only zero seat e = subst (λ (v : Seated). AllShown (opening k) v.actors) (some-injective (first_seated k) seat e) first_shown
      only (suc id) seat e = absurd (some-ne-none seat (sym e))

-- the words as they are made
pub begins : (k : Config) (list words : List ℕ) (l wide : LayoutView) (pools : List VipPools) → IsLayout k.layout → l ≡ k.layout → IsFitting k
    → pools ≡ k.pools → list ≡ words → wide ≡ l → length list ≡ words_of wide
    → ((changes : List Change) → ShowsWords l words (opening_words (record { layout = l; pools = pools; changes = changes })))
    → Ruled k (opening_table list [] (first_seated k))
begins k list words l wide pools is same fits p e w n shows =
    ruled_first k list (fitted_of k is fits)
    (let m : words_of wide ≡ words_of k.layout = ap words_of (w ∙ same) in omega arith)
    (subst (λ (xs : List ℕ). ShowsWords k.layout xs (opening_words k)) (sym e)
    (subst (λ (m : LayoutView). ShowsWords m words (opening_words (record { layout = m; pools = k.pools; changes = k.changes }))) same
    (subst (λ (ps : List VipPools). ShowsWords l words (opening_words (record { layout = l; pools = ps; changes = k.changes }))) p
    (shows k.changes))))
