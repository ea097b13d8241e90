-- The pipes of a machine as rows of a list.
use Rattle.std.proofs.Common.{◌≡◌, ℕ, zero, suc, ◌<◌, ◌≤◌, ◌&&◌, true, List, [], ◌∷◌, ◌++◌, length, slice_get, slice_set, Option, Some, None, option_and_then, option_map, subst, refl, sym, ◌∙◌, ap, arith, get_or}
use Rattle.std.specs.List.{list_all}
use Rattle.std.proofs.lemmas.List.{map-set}
use Rattle.std.proofs.lemmas.Option.{slice_get-map, slice_get_past, slice_get_read}
use Rattle.sr_base.specs.Layout.{LayoutView}
use Rattle.sr_core.specs.HeldPipe.{HeldPipe}
use Rattle.sr_base.specs.declared.packet.Packet.{Packet}
use Rattle.sr_core.specs.HeldPipes.{AreOf, DoesTo, after_at, entered_at, idle_of, is_idle_at, op_at, views_of}
use Rattle.sr_machine.specs.Pipe.{entered, is_idle, pipe_after, pipe_op}
use Rattle.sr_machine.specs.declared.op.Op.{Op}
use Rattle.sr_machine.specs.declared.stepped.Stepped.{Stepped}
use Rattle.sr_machine.specs.declared.stepped.Stepped.TheVariants.{Made, NotNow, Memory}
use Rattle.sr_machine.specs.declared.pipe_view.PipeView.{PipeView}

pub layout_at : (l : LayoutView) (hs : List HeldPipe) (i : ℕ) (h : HeldPipe) → AreOf l hs → i < length hs → h ≡ get_or hs i h
    → h.layout ≡ l
layout_at l [] i h a b e = absurd (omega (arith, b))
layout_at l (x ∷ xs) zero h a b e = ap (λ y. y.layout) e ∙ a.0
layout_at l (x ∷ xs) (suc i) h a b e = layout_at l xs i h a.1 (omega (arith, b)) e

pub layouts_set : (l : LayoutView) (hs : List HeldPipe) (i : ℕ) (h : HeldPipe) → AreOf l hs → h.layout ≡ l → AreOf l (slice_set hs i h)
layouts_set l [] i h a e = tt
layouts_set l (x ∷ xs) zero h a e = (e, a.1)
layouts_set l (x ∷ xs) (suc i) h a e = (a.0, layouts_set l xs i h a.1 e)

pub layouts_more : (l : LayoutView) (hs : List HeldPipe) (h : HeldPipe) → AreOf l hs → h.layout ≡ l → AreOf l (hs ++ h ∷ [])
layouts_more l [] h a e = (e, tt)
layouts_more l (x ∷ xs) h a e = (a.0, layouts_more l xs h a.1 e)

pub view_at_place : (hs : List HeldPipe) (i : ℕ) (h : HeldPipe) → i < length hs → h ≡ get_or hs i h
    → slice_get (views_of hs) i ≡ Some h.view
view_at_place hs i h b e = slice_get-map (λ x. x.view) hs i ∙ ap (option_map (λ x. x.view)) (slice_get_read hs (length hs) i h refl b e)

pub view_past : (hs : List HeldPipe) (i : ℕ) → length hs ≤ i → slice_get (views_of hs) i ≡ None
view_past hs i b = slice_get-map (λ x. x.view) hs i ∙ ap (option_map (λ x. x.view)) (slice_get_past hs i b)

pub views_set : (hs : List HeldPipe) (i : ℕ) (h : HeldPipe) → views_of (slice_set hs i h) ≡ slice_set (views_of hs) i h.view
views_set hs i h = map-set (λ x. x.view) hs i h

pub set_same : {A : Type 0} → (xs : List A) (i : ℕ) (x : A) → slice_get xs i ≡ Some x → slice_set xs i x ≡ xs
set_same [] i x e = refl
set_same (y ∷ ys) zero x e = let same : x ≡ y = cc e in ap (λ z. z ∷ ys) same
set_same (y ∷ ys) (suc i) x e = ap (λ zs. y ∷ zs) (set_same ys i x e)

-- a pipe of a list, with its layout
module _ (l : LayoutView) (hs : List HeldPipe) (i : ℕ) (h : HeldPipe) (own : AreOf l hs) (within : i < length hs)
    (is : h ≡ get_or hs i h) where
  there : slice_get (views_of hs) i ≡ Some h.view
  there = view_at_place hs i h within is

  pub next_at : (o : Option Op) → o ≡ pipe_op h.layout h.view h.view.stage → o ≡ op_at l i (views_of hs)
  next_at o e =
      e ∙ ap (λ k. pipe_op k h.view h.view.stage) (layout_at l hs i h own within is)
      ∙ sym (ap (option_and_then (λ v. pipe_op l v v.stage)) there)

  pub after_in : (new : HeldPipe) (x : ℕ) → new.view ≡ pipe_after h.layout h.view h.view.stage x
      → after_at l i x (views_of hs) ≡ Some (views_of (slice_set hs i new))
  after_in new x e =
      ap (option_map (λ v. slice_set (views_of hs) i (pipe_after l v v.stage x))) there
      ∙ ap (λ k. Some (slice_set (views_of hs) i (pipe_after k h.view h.view.stage x))) (sym (layout_at l hs i h own within is))
      ∙ ap (λ w. Some (slice_set (views_of hs) i w)) (sym e) ∙ ap Some (sym (views_set hs i new))

  same_view : (new : HeldPipe) → new.view ≡ h.view → views_of (slice_set hs i new) ≡ views_of hs
  same_view new e =
      views_set hs i new ∙ ap (slice_set (views_of hs) i) e ∙ set_same (views_of hs) i h.view there

  entering : (packet : Packet) (o : Option PipeView) → entered l packet h.view ≡ o
      → entered_at l i packet (views_of hs) ≡ option_map (λ w. slice_set (views_of hs) i w) o
  entering packet o e =
      ap (option_and_then (λ v. option_map (λ w. slice_set (views_of hs) i w) (entered l packet v))) there
      ∙ ap (option_map (λ w. slice_set (views_of hs) i w)) e

  enters_by : (packet : Packet) (new : HeldPipe) (made : Stepped) → DoesTo made (entered l packet h.view) h.view new.view
      → DoesTo made (entered_at l i packet (views_of hs)) (views_of hs) (views_of (slice_set hs i new))
  enters_by packet new Made e = entering packet (Some new.view) e ∙ ap Some (sym (views_set hs i new))
  enters_by packet new NotNow e = (entering packet None e.0, same_view new e.1)
  enters_by packet new Memory e = same_view new e

  pub enters_in : (packet : Packet) (new : HeldPipe) (made : Stepped) → DoesTo made (entered h.layout packet h.view) h.view new.view
      → DoesTo made (entered_at l i packet (views_of hs)) (views_of hs) (views_of (slice_set hs i new))
  enters_in packet new made e =
      enters_by packet new made
      (subst (λ k. DoesTo made (entered k packet h.view) h.view new.view) (layout_at l hs i h own within is) e)

pub none_next : (l : LayoutView) (hs : List HeldPipe) (i : ℕ) → length hs ≤ i → None ≡ op_at l i (views_of hs)
none_next l hs i b = sym (ap (option_and_then (λ v. pipe_op l v v.stage)) (view_past hs i b))

pub none_enters : (l : LayoutView) (hs : List HeldPipe) (i : ℕ) (packet : Packet) → length hs ≤ i
    → entered_at l i packet (views_of hs) ≡ None
none_enters l hs i packet b =
    ap (option_and_then (λ v. option_map (λ w. slice_set (views_of hs) i w) (entered l packet v))) (view_past hs i b)

pub views_more : (hs : List HeldPipe) (h : HeldPipe) → views_of (hs ++ h ∷ []) ≡ views_of hs ++ h.view ∷ []
views_more [] h = refl
views_more (x ∷ xs) h = ap (λ r. x.view ∷ r) (views_more xs h)

pub idle_there : (hs : List HeldPipe) (i : ℕ) (h : HeldPipe) → i < length hs → h ≡ get_or hs i h
    → is_idle h.view.stage ≡ is_idle_at i (views_of hs)
idle_there hs i h b e = sym (ap idle_of (view_at_place hs i h b e))

pub idle_past : (hs : List HeldPipe) (i : ℕ) → length hs ≤ i → true ≡ is_idle_at i (views_of hs)
idle_past hs i b = sym (ap idle_of (view_past hs i b))

pub all_views : (hs : List HeldPipe) → list_all (λ h. is_idle h.view.stage) hs ≡ list_all (λ v. is_idle v.stage) (views_of hs)
all_views [] = refl
all_views (h ∷ hs) = ap (λ b. is_idle h.view.stage && b) (all_views hs)
