-- A plain board in an actor's hands is that actor's, and goes back to where it came from.
use Rattle.std.proofs.Common.{◌≡◌, ◌∙◌, ℕ, [], Some, refl, sym, ap, subst}
use Rattle.std.proofs.lemmas.Option.{same_Some}
use Rattle.sr_base.specs.Layout.{LayoutView}
use Rattle.sr_core.specs.HeldPipe.{HeldPipe}
use Rattle.sr_ctl.specs.SeenController.{IsFor as IsForController, SeenController}
use Rattle.sr_machine.specs.Boards.{Beside}
use Rattle.sr_machine.specs.declared.actor.Actor.{Actor}
use Rattle.sr_machine.specs.declared.actor.Actor.TheVariants.{Controller, Pipe}
use Rattle.sr_machine.specs.declared.view.View.TheVariants.{OfController, OfPipe}
use Rattle.sr_pipe.specs.Known.{IsFor}
use Rattle.sr_plain.specs.Actors.{FitsActor, IsOf}

pub is_for : (l : LayoutView) (a : Actor) (b : Beside) (p : ℕ) (pipe : HeldPipe) → l ≡ pipe.layout → b.layout ≡ l → a ≡ Pipe p
    → pipe.view.number ≡ p → IsFor (FitsActor l a) b pipe
is_for l a b p pipe e f same n = record {
  layout = f ∙ e;
  view = (record { layout = l; pools = []; changes = [] }, e, (refl, subst (λ (m : Actor). IsOf m (OfPipe pipe.view)) (sym same) n));
}

pub is_for_controller : (l : LayoutView) (a : Actor) (b : Beside) (c : SeenController) → c.config.layout ≡ l → b.layout ≡ l → a ≡ Controller
    → IsForController (FitsActor l a) b c
is_for_controller l a b c e f same = record {
  layout = f ∙ sym e;
  view = (e, subst (λ (m : Actor). IsOf m (OfController c.view)) (sym same) tt);
}

-- the reference that a board goes through keeps its name
pub same_name : (a b : Beside) (m n k : ℕ) → a ≡ b → a.name ≡ Some m → b.name ≡ Some n → n ≡ k → k ≡ m
same_name a b m n k e is at on = sym (same_Some m n (sym is ∙ ap (λ (x : Beside). x.name) e ∙ at) ∙ on)
