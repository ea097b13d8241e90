-- What is said of the use of an entry goes on with each step.
use Rattle.std.proofs.Common.{◌≡◌, ℕ, ◌<◌, ◌≤◌, ◌≢◌, ◌⊎◌, inl, inr, ◌||◌, ◌==◌, nat_lt, Bool, true, false, List, [], ◌∷◌, ◌++◌, if◌then◌else◌, slice_get, slice_set, Some, None, Option, sym, refl, ap, ◌∙◌, subst, arith}
use Rattle.std.proofs.lemmas.Bool.Decides.{nat_tests}
use Rattle.std.proofs.lemmas.Option.{same_Some}
use Rattle.std.specs.List.{list_any}
use Rattle.sr_base.proofs.Sameness.{same_place-true}
use Rattle.sr_base.specs.Key.{KeyView}
use Rattle.sr_base.specs.Layout.{LayoutView}
use Rattle.sr_base.specs.Place.{same_place}
use Rattle.sr_base.specs.declared.place.Place.{Place}
use Rattle.sr_base.specs.declared.shape.Shape.{Shape}
use Rattle.sr_inv_facts.proofs.Pipes.{some_else, some_here}
use Rattle.sr_inv_facts.proofs.Printing.{prints}
use Rattle.sr_inv_facts.specs.InSweeps.{sweep_from}
use Rattle.sr_inv_facts.specs.Readings.{hit_words}
use Rattle.sr_inv_order.proofs.Rising.{and_true}
use Rattle.sr_inv_settled.specs.Used.{IsCovered, IsFlyingFor, IsPlacedAfter, IsSince, IsUsed, UsedAt, is_related, stood}
use Rattle.sr_inv_verdicts.proofs.MoreLines.{or_second}
use Rattle.sr_law.specs.Settled.{uses_after}
use Rattle.sr_law.specs.declared.line.Line.{Line}
use Rattle.sr_machine.specs.Ops.{op_words}
use Rattle.sr_machine.specs.Pipe.{pipe_op}
use Rattle.sr_machine.specs.Stages.{stage_after}
use Rattle.sr_machine.specs.declared.flight.Flight.{Flight}
use Rattle.sr_machine.specs.declared.job.Job.{Job}
use Rattle.sr_machine.specs.declared.leg.Leg.TheVariants.{Look, Hit, Filter, Chosen, Judged}
use Rattle.sr_machine.specs.declared.name.Name.{Name}
use Rattle.sr_machine.specs.declared.op.Op.{Op}
use Rattle.sr_machine.specs.declared.pipe_view.PipeView.{PipeView}
use Rattle.sr_machine.specs.declared.stage.Stage.{Stage}
use Rattle.sr_machine.specs.declared.stage.Stage.TheVariants.{Idle, Enter, Note, Vip, Fly, Leave}
use Rattle.sr_machine.specs.declared.leg.Last.TheVariants as last
use Rattle.sr_machine.specs.declared.leg.Load.TheVariants as load

-- ---- what stays

-- what is told of a place, of the sweeps up to this one and of a key's packets stays
pub record Moves (shape : Shape) (pipes more : List PipeView) (lines after : List Line) (sweeps next : ℕ) (j m : Job) (key : KeyView) (place : Place) (gone : ℕ) : Type 0 where
  pub from : (n : ℕ) → n ≤ gone → sweep_from after next m n ≡ sweep_from lines sweeps j n
  pub placed : stood after place ≡ stood lines place
  pub uses : (from n : ℕ) → sweep_from lines sweeps j n ≡ Some from → IsUsed shape pipes lines key from → IsUsed shape more after key from

pub covered_low : (o : Option ℕ) (gone n : ℕ) → IsCovered o gone n → n ≤ gone
covered_low None gone n h = h
covered_low (Some q) gone n h = omega (arith, h.1)

module _ (shape : Shape) (pipes more : List PipeView) (lines after : List Line) (sweeps next : ℕ) (j m : Job) (key : KeyView) (place : Place) (gone : ℕ) (c : Moves shape pipes more lines after sweeps next j m key place gone) where
  pub since_moves : (n : ℕ) → n ≤ gone → IsSince shape pipes lines sweeps j key place n → IsSince shape more after next m key place n
  since_moves n low h from e = let was = sym (c.from n low) ∙ e in at was (h from was)
    where
      at : sweep_from lines sweeps j n ≡ Some from → IsPlacedAfter lines place from ⊎ IsUsed shape pipes lines key from
          → IsPlacedAfter after place from ⊎ IsUsed shape more after key from
      at was (inl p) = inl (record { out = p.out; placed = c.placed ∙ p.placed; later = p.later })
      at was (inr u) = inr (c.uses from n was u)

  pub used_moves : (hits new : Place → ℕ) (quiet : Option ℕ) → (new place ≡ 1 → hits place ≡ 1)
      → UsedAt shape hits pipes lines sweeps j key quiet gone place
      → UsedAt shape new more after next m key quiet gone place
  used_moves hits new quiet same h = record {
    long = λ n v. let low = covered_low quiet gone n v in since_moves n low (h.long n v);
    hit = λ one n low. since_moves n low (h.hit (same one) n low);
  }

-- ---- lines more

list_more : (test : Line → Bool) (xs ys : List Line) → list_any test ys ≡ true → list_any test (xs ++ ys) ≡ true
list_more test [] ys h = h
list_more test (x ∷ xs) ys h = or_second (test x) (list_any test (xs ++ ys)) (list_more test xs ys h)

pub lines_used : (shape : Shape) (pipes : List PipeView) (new lines : List Line) (key : KeyView) (from : ℕ) → IsUsed shape pipes lines key from
    → IsUsed shape pipes (new ++ lines) key from
lines_used shape pipes new lines key from (inl u) = inl (list_more (uses_after shape key from) new lines u)
lines_used shape pipes new lines key from (inr u) = inr u

-- ---- a pipe's step

-- a packet that is under way stays so, or its line tells of the use
flies_on : (shape : Shape) (l : LayoutView) (key : KeyView) (from n tick x : ℕ) (at : Stage) → from < tick → IsFlyingFor shape key at
    → IsFlyingFor shape key (stage_after l at x) ⊎ (list_any (uses_after shape key from) (prints n at tick) ≡ true)
flies_on shape l key from n tick x Idle b h = absurd h
flies_on shape l key from n tick x (Enter packet) b h = absurd h
flies_on shape l key from n tick x (Note packet e) b h = absurd h
flies_on shape l key from n tick x (Vip packet e) b h = absurd h
flies_on shape l key from n tick x (Leave f) b h = absurd h
flies_on shape l key from n tick x (Fly f (Look place rest)) b h = inl h
flies_on shape l key from n tick x (Fly f (Hit place version)) b h = inl h
flies_on shape l key from n tick x (Fly f (Filter bit rest)) b h = inl h
flies_on shape l key from n tick x (Fly f (Chosen version load)) b h = inl h
flies_on shape l key from n tick x (Fly f (Judged v last.Ring)) b h = inl h
flies_on shape l key from n tick x (Fly f (Judged v (last.Mark bit rest))) b h = inl h
flies_on shape l key from n tick x (Fly f (Judged v last.Push)) b h = inl h
flies_on shape l key from n tick x (Fly f (Judged v last.Out)) b h =
    let out : nat_lt from tick ≡ true = grind (arith, nat_tests) in
    inr (ap (λ z. z || false) (and_true (is_related shape key f.packet.key) (nat_lt from tick) h out))

pub pipe_used : (shape : Shape) (l : LayoutView) (pipes : List PipeView) (p : ℕ) (v w : PipeView) (x n tick : ℕ) (lines : List Line) (key : KeyView) (from : ℕ) → slice_get pipes p ≡ Some v
    → w.stage ≡ stage_after l v.stage x → from < tick → IsUsed shape pipes lines key from
    → IsUsed shape (slice_set pipes p w) (prints n v.stage tick ++ lines) key from
pipe_used shape l pipes p v w x n tick lines key from q e b (inl u) = inl (list_more (uses_after shape key from) (prints n v.stage tick) lines u)
pipe_used shape l pipes p v w x n tick lines key from q e b (inr (r, u, g, fly)) = at (r == p) refl
  where
    front : (xs ys : List Line) → list_any (uses_after shape key from) xs ≡ true → list_any (uses_after shape key from) (xs ++ ys) ≡ true
    front [] ys h = cc
    front (z ∷ xs) ys h = two (uses_after shape key from z) h (front xs ys)
      where
        two : (b : Bool) → (b || list_any (uses_after shape key from) xs) ≡ true
            → (list_any (uses_after shape key from) xs ≡ true → list_any (uses_after shape key from) (xs ++ ys) ≡ true)
            → (b || list_any (uses_after shape key from) (xs ++ ys)) ≡ true
        two true h more = refl
        two false h more = more h

    own : IsFlyingFor shape key (stage_after l v.stage x) ⊎ (list_any (uses_after shape key from) (prints n v.stage tick) ≡ true)
        → IsUsed shape (slice_set pipes p w) (prints n v.stage tick ++ lines) key from
    own (inl h) = inr (some_here pipes p v w q (λ p v. IsFlyingFor shape key v.stage) (subst (IsFlyingFor shape key) (sym e) h))
    own (inr h) = inl (front (prints n v.stage tick) lines h)

    at : (t : Bool) → (r == p) ≡ t → IsUsed shape (slice_set pipes p w) (prints n v.stage tick ++ lines) key from
    at true t =
        let same : r ≡ p = grind (arith, nat_tests) in
        let is : u ≡ v = same_Some u v (sym g ∙ (ap (slice_get pipes) same ∙ q)) in
        own (flies_on shape l key from n tick x v.stage b (subst (λ z. IsFlyingFor shape key z.stage) is fly))
    at false t =
        let apart : r ≢ p = grind (arith, nat_tests) in inr (some_else pipes p v w q (λ p v. IsFlyingFor shape key v.stage) r u apart g fly)

-- ---- hits

-- a place that a pipe's step hit is the one that its packet has found; others are as before
abbrev HitBy : Stage → (Name → ℕ) → Place → Op → Type 0
HitBy at words place o =
    hit_words (op_words words o) place ≡ 1 → (hit_words words place ≡ 1) ⊎ ((f : Flight) × (n : ℕ) × (at ≡ Fly f (Hit place n)))

pub stage_hit : (words : Name → ℕ) (l : LayoutView) (v : PipeView) (at : Stage) (place : Place) (o : Op) → pipe_op l v at ≡ Some o → HitBy at words place o
stage_hit words l v Idle place o e = cc
stage_hit words l v (Enter packet) place o e = subst (HitBy (Enter packet) words place) (same_Some _ o e) inl
stage_hit words l v (Note packet n) place o e = subst (HitBy (Note packet n) words place) (same_Some _ o e) inl
stage_hit words l v (Vip packet n) place o e = subst (HitBy (Vip packet n) words place) (same_Some _ o e) inl
stage_hit words l v (Leave f) place o e = subst (HitBy (Leave f) words place) (same_Some _ o e) inl
stage_hit words l v (Fly f (Look p rest)) place o e = subst (HitBy (Fly f (Look p rest)) words place) (same_Some _ o e) inl
stage_hit words l v (Fly f (Hit p n)) place o e = subst (HitBy (Fly f (Hit p n)) words place) (same_Some _ o e) (at (same_place p place) refl)
  where
    at : (b : Bool) → same_place p place ≡ b → (if b then 1 else hit_words words place) ≡ 1
        → (hit_words words place ≡ 1) ⊎ ((g : Flight) × (m : ℕ) × (Fly f (Hit p n) ≡ Fly g (Hit place m)))
    at true q h = inr (f, n, ap (λ z. Fly f (Hit z n)) (same_place-true p place q))
    at false q h = inl h
stage_hit words l v (Fly f (Filter bit rest)) place o e = subst (HitBy (Fly f (Filter bit rest)) words place) (same_Some _ o e) inl
stage_hit words l v (Fly f (Chosen n load.Head)) place o e = subst (HitBy (Fly f (Chosen n load.Head)) words place) (same_Some _ o e) inl
stage_hit words l v (Fly f (Chosen n (load.Member head))) place o e =
    subst (HitBy (Fly f (Chosen n (load.Member head))) words place) (same_Some _ o e) inl
stage_hit words l v (Fly f (Chosen n (load.Down pool server))) place o e =
    subst (HitBy (Fly f (Chosen n (load.Down pool server))) words place) (same_Some _ o e) inl
stage_hit words l v (Fly f (Judged w last.Ring)) place o e = subst (HitBy (Fly f (Judged w last.Ring)) words place) (same_Some _ o e) inl
stage_hit words l v (Fly f (Judged w (last.Mark bit rest))) place o e =
    subst (HitBy (Fly f (Judged w (last.Mark bit rest))) words place) (same_Some _ o e) inl
stage_hit words l v (Fly f (Judged w last.Push)) place o e = subst (HitBy (Fly f (Judged w last.Push)) words place) (same_Some _ o e) inl
stage_hit words l v (Fly f (Judged w last.Out)) place o e = subst (HitBy (Fly f (Judged w last.Out)) words place) (same_Some _ o e) inl
