-- Steps that follow one another.
use Rattle.std.proofs.Common.{◌≡◌, ◌∙◌, ℕ, ◌++◌, false, List, [], ◌∷◌, Option, Some, refl, sym, ap, subst}
use Rattle.sr_base.specs.Layout.{LayoutView}
use Rattle.sr_core.proofs.MoreSteps.{before_more, shows_more}
use Rattle.sr_core.specs.HeldPipe.{HeldPipe}
use Rattle.sr_core.specs.Making.{Made, ShowsSteps, made_before}
use Rattle.sr_machine.specs.Boards.{Beside, FitsAfter, IsNext, ShowsAfter}
use Rattle.sr_machine.specs.Config.{Config}
use Rattle.sr_machine.specs.Pipe.{is_idle, pipe_after, pipe_op}
use Rattle.sr_machine.specs.declared.op.Op.{Op}
use Rattle.sr_machine.specs.declared.pipe_view.PipeView.{PipeView}
use Rattle.sr_machine.specs.declared.view.View.{View}
use Rattle.sr_machine.specs.declared.view.View.TheVariants.{OfPipe}
use Rattle.sr_pipe.specs.Known.{Goes, IsFor, Known}
use Rattle.sr_pipe.specs.Steps.{AreSteps, steps_made, view_after_all}

module _ (l : LayoutView) where
  view_more : (v : PipeView) (xs ys : List ℕ) → view_after_all l v (xs ++ ys) ≡ view_after_all l (view_after_all l v xs) ys
  view_more v [] ys = refl
  view_more v (x ∷ xs) ys = view_more (pipe_after l v v.stage x) xs ys

  steps_more : (v : PipeView) (xs ys : List ℕ)
      → steps_made l v (xs ++ ys) ≡ steps_made l v xs ++ steps_made l (view_after_all l v xs) ys
  steps_more v [] ys = refl
  steps_more v (x ∷ xs) ys =
      ap (made_before (pipe_op l v v.stage) x) (steps_more (pipe_after l v v.stage x) xs ys)
      ∙ before_more (pipe_op l v v.stage) x (steps_made l (pipe_after l v v.stage x) xs)
      (steps_made l (view_after_all l (pipe_after l v v.stage x) xs) ys)

  each_more : (v : PipeView) (xs ys : List ℕ) → AreSteps l v xs → AreSteps l (view_after_all l v xs) ys → AreSteps l v (xs ++ ys)
  each_more v [] ys a b = b
  each_more v (x ∷ xs) ys a b = (a.0, each_more (pipe_after l v v.stage x) xs ys a.1 b)

-- steps and then more of them
pub goes_on : (l : LayoutView) (a b c : Known) (u v w : PipeView) → Goes l a u b v → Goes l b v c w → Goes l a u c w
goes_on l a b c u v w p q = record {
  answers = xs ++ ys;
  leads = record {
    view = view_more l u xs ys ∙ ap (λ (m : PipeView). view_after_all l m ys) p.leads.view ∙ q.leads.view;
    each = each_more l u xs ys p.leads.each (subst (λ (m : PipeView). AreSteps l m ys) (sym p.leads.view) q.leads.each);
    fits = λ k e f. q.leads.fits k e (p.leads.fits k e f);
    words =
        subst (λ (steps : List Made). ShowsSteps a.shows steps c.shows) (sym (steps_more l u xs ys))
        (shows_more a.shows b.shows c.shows (steps_made l u xs) (steps_made l (view_after_all l u xs) ys) p.leads.words
        (subst (λ (m : PipeView). ShowsSteps b.shows (steps_made l m ys) c.shows) (sym p.leads.view) q.leads.words));
  };
  beside = q.beside ∙ p.beside;
  rests = λ r. q.rests (p.rests r);
}
  where
    xs : List ℕ
    xs = p.answers

    ys : List ℕ
    ys = q.answers

-- no step
pub goes_nowhere : (l : LayoutView) (a : Known) (v : PipeView) → Goes l a v a v
goes_nowhere l a v = record {
  answers = [];
  leads = record { view = refl; each = tt; fits = λ k e f. f; words = λ words s. (tt, s) };
  beside = refl;
  rests = λ r. r;
}

-- one step of a board
pub goes_one : (l : LayoutView) (a b : Known) (v : PipeView) (op : Op) (x : ℕ) → pipe_op l v v.stage ≡ Some op
    → is_idle v.stage ≡ false → FitsAfter a.fits op x b.fits → ShowsAfter a.shows op x b.shows → b.beside ≡ a.beside
    → (a.rests → b.rests) → Goes l a v b (pipe_after l v v.stage x)
goes_one l a b v op x e busy fits shows beside rests = record {
  answers = x ∷ [];
  leads = record {
    view = refl;
    each = (busy, tt);
    fits = λ k same f.
        subst (λ (m : LayoutView). b.fits k (OfPipe (pipe_after m v v.stage x))) same
        (fits k (OfPipe v) f (ap (λ (m : LayoutView). pipe_op m v v.stage) same ∙ e));
    words = subst (λ (o : Option Op). ShowsSteps a.shows (made_before o x []) b.shows) (sym e)
        (λ words s. let after = shows words s in ((after.0, tt), after.1));
  };
  beside = beside;
  rests = rests;
}

-- the board is the pipe's still
pub for_then : (a b : Known) (old new : HeldPipe) → new.layout ≡ old.layout → Goes old.layout a old.view b new.view
    → IsFor a.fits a.beside old → IsFor b.fits b.beside new
for_then a b old new e g h = record {
  layout = ap (λ (s : Beside). s.layout) g.beside ∙ h.layout ∙ sym e;
  view = (h.view.0, h.view.1 ∙ sym e, g.leads.fits h.view.0 h.view.1 h.view.2);
}

-- the pipe's next step is one of its board's
pub is_next : (fits : Config → View → Type 0) (beside : Beside) (pipe : HeldPipe) (op : Op) → IsFor fits beside pipe
    → pipe_op pipe.layout pipe.view pipe.view.stage ≡ Some op → IsNext fits op
is_next fits beside pipe op h e =
    (h.view.0, OfPipe pipe.view, h.view.2, ap (λ (m : LayoutView). pipe_op m pipe.view pipe.view.stage) h.view.1 ∙ e)
