-- The pipes of a layout, by their numbers.
use Rattle.std.proofs.Common.{◌≡◌, ◌∙◌, ℕ, zero, suc, ◌+◌, ◌<◌, ◌≤◌, ◌&&◌, List, [], ◌∷◌, ◌++◌, length, slice_get, slice_index_or, slice_set, Some, None, refl, sym, ap, subst, arith}
use Rattle.std.proofs.lemmas.List.{map-set}
use Rattle.std.specs.List.{list_all}
use Rattle.sr_base.specs.Layout.{LayoutView}
use Rattle.sr_core.specs.HeldPipe.{HeldPipe}
use Rattle.sr_core.specs.HeldPipes.{views_of}
use Rattle.sr_core.specs.PlainWords.{HeldWords}
use Rattle.sr_machine.specs.Pipe.{fresh_pipe, is_idle}
use Rattle.sr_machine.specs.declared.pipe_view.PipeView.{PipeView}
use Rattle.sr_interleave.specs.Together.{AreOn, ArePipes, IsPipe}

pipe_of : (l : LayoutView) (from : ℕ) (ps : List HeldPipe) (i : ℕ) (d : HeldPipe) → ArePipes l from ps → i < length ps
    → IsPipe l (from + i) (slice_index_or ps i d)
pipe_of l from [] i d are h = absurd (omega arith)
pipe_of l from (p ∷ ps) zero d are h = let none : from ≡ from + 0 = omega arith in subst (λ n. IsPipe l n p) none are.0
pipe_of l from (p ∷ ps) (suc i) d are h =
    let on : from + 1 + i ≡ from + suc i = omega arith in
    subst (λ n. IsPipe l n (slice_index_or ps i d)) on (pipe_of l (from + 1) ps i d are.1 (omega arith))

set_pipe : (l : LayoutView) (from : ℕ) (ps : List HeldPipe) (i : ℕ) (q : HeldPipe) → ArePipes l from ps → IsPipe l (from + i) q
    → ArePipes l from (slice_set ps i q)
set_pipe l from [] i q are h = tt
set_pipe l from (p ∷ ps) zero q are h = let none : from + 0 ≡ from = omega arith in (subst (λ n. IsPipe l n q) none h, are.1)
set_pipe l from (p ∷ ps) (suc i) q are h =
    let on : from + suc i ≡ from + 1 + i = omega arith in
    (are.0, set_pipe l (from + 1) ps i q are.1 (subst (λ n. IsPipe l n q) on h))

length_set : (ps : List HeldPipe) (i : ℕ) (q : HeldPipe) → length (slice_set ps i q) ≡ length ps
length_set [] i q = refl
length_set (p ∷ ps) zero q = refl
length_set (p ∷ ps) (suc i) q = ap suc (length_set ps i q)

module _ (board : HeldWords) (ps : List HeldPipe) (i : ℕ) (d : HeldPipe) (on : AreOn board ps) (h : i < length ps) where
  pub number_at : (slice_index_or ps i d).view.number < board.layout.shape.pipes
  number_at = let is = (pipe_of board.layout 0 ps i d on.each h).number in let n = on.count in omega (arith, h)

  pub layout_at : (slice_index_or ps i d).layout ≡ board.layout
  layout_at = (pipe_of board.layout 0 ps i d on.each h).layout

  pub on_set : (new : HeldWords) (q : HeldPipe) → new.layout ≡ board.layout → IsPipe board.layout (slice_index_or ps i d).view.number q
      → AreOn new (slice_set ps i q)
  on_set new q same is = record {
    count = length_set ps i q ∙ on.count ∙ ap (λ (l : LayoutView). l.shape.pipes) (sym same);
    each =
        set_pipe new.layout 0 ps i q (subst (λ l. ArePipes l 0 ps) (sym same) on.each)
        (subst (λ l. IsPipe l (0 + i) q) (sym same) (subst (λ n. IsPipe board.layout n q) (pipe_of board.layout 0 ps i d on.each h).number is));
  }

pub on_same : (board new : HeldWords) (ps : List HeldPipe) → AreOn board ps → new.layout ≡ board.layout → AreOn new ps
on_same board new ps on same = record {
  count = on.count ∙ ap (λ (l : LayoutView). l.shape.pipes) (sym same);
  each = subst (λ l. ArePipes l 0 ps) (sym same) on.each;
}

-- ---- what the pipes know

pub view_there : (ps : List HeldPipe) (i : ℕ) (d : HeldPipe) → i < length ps → slice_get (views_of ps) i ≡ Some (slice_index_or ps i d).view
view_there [] i d h = absurd (omega arith)
view_there (p ∷ ps) zero d h = refl
view_there (p ∷ ps) (suc i) d h = view_there ps i d (omega arith)

pub view_past : (ps : List HeldPipe) (i : ℕ) → length ps ≤ i → slice_get (views_of ps) i ≡ None
view_past [] i h = refl
view_past (p ∷ ps) zero h = absurd (omega arith)
view_past (p ∷ ps) (suc i) h = view_past ps i (omega arith)

pub views_set : (ps : List HeldPipe) (i : ℕ) (q : HeldPipe) → views_of (slice_set ps i q) ≡ slice_set (views_of ps) i q.view
views_set ps i q = map-set (λ p. p.view) ps i q

set_same : {A : Type 0} → (xs : List A) (i : ℕ) (x : A) → slice_get xs i ≡ Some x → slice_set xs i x ≡ xs
set_same [] i x e = refl
set_same (y ∷ ys) zero x e = let same : x ≡ y = cc e in ap (λ z. z ∷ ys) same
set_same (y ∷ ys) (suc i) x e = ap (λ zs. y ∷ zs) (set_same ys i x e)

-- a pipe that knows what it knew
pub views_same : (ps : List HeldPipe) (i : ℕ) (d q : HeldPipe) → i < length ps → q.view ≡ (slice_index_or ps i d).view
    → views_of (slice_set ps i q) ≡ views_of ps
views_same ps i d q h e =
    views_set ps i q ∙ ap (slice_set (views_of ps) i) e ∙ set_same (views_of ps) i (slice_index_or ps i d).view (view_there ps i d h)

-- whether all are idle
pub all_views : (ps : List HeldPipe) → list_all (λ p. is_idle p.view.stage) ps ≡ list_all (λ v. is_idle v.stage) (views_of ps)
all_views [] = refl
all_views (p ∷ ps) = ap (λ b. is_idle p.view.stage && b) (all_views ps)

-- ---- one pipe more

are_more : (l : LayoutView) (from : ℕ) (ps : List HeldPipe) (q : HeldPipe) → ArePipes l from ps → IsPipe l (from + length ps) q
    → ArePipes l from (ps ++ q ∷ [])
are_more l from [] q are h = let none : from + 0 ≡ from = omega arith in (subst (λ n. IsPipe l n q) none h, tt)
are_more l from (p ∷ ps) q are h =
    let on : from + length (p ∷ ps) ≡ from + 1 + length ps = omega arith in
    (are.0, are_more l (from + 1) ps q are.1 (subst (λ n. IsPipe l n q) on h))

pub fresh_more : (l : LayoutView) (n : ℕ) (ps : List HeldPipe) (q : HeldPipe) → ArePipes l 0 ps → length ps ≡ n → q.layout ≡ l
    → q.view ≡ fresh_pipe n → ArePipes l 0 (ps ++ q ∷ [])
fresh_more l n ps q are many layout view =
    let none : 0 + length ps ≡ n = omega (arith, many) in
    are_more l 0 ps q are (record { layout = layout; number = ap (λ (v : PipeView). v.number) view ∙ sym none })

pub length_more : (ps : List HeldPipe) (q : HeldPipe) → length (ps ++ q ∷ []) ≡ length ps + 1
length_more [] q = refl
length_more (p ∷ ps) q = let rest = length_more ps q in omega (arith, rest)

pub views_more : (ps : List HeldPipe) (q : HeldPipe) → views_of (ps ++ q ∷ []) ≡ views_of ps ++ q.view ∷ []
views_more [] q = refl
views_more (p ∷ ps) q = ap (λ vs. p.view ∷ vs) (views_more ps q)
