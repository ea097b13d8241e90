-- A plain board in a pipe's hands is that pipe's.
use Rattle.std.proofs.Common.{◌≡◌, ◌∙◌, ℕ, [], refl, sym, subst}
use Rattle.sr_base.specs.Layout.{LayoutView}
use Rattle.sr_core.specs.HeldPipe.{HeldPipe}
use Rattle.sr_machine.specs.Boards.{Beside}
use Rattle.sr_machine.specs.declared.actor.Actor.{Actor}
use Rattle.sr_machine.specs.declared.actor.Actor.TheVariants.{Pipe}
use Rattle.sr_pipe.specs.Known.{IsFor}
use Rattle.sr_machine.specs.declared.view.View.TheVariants.{OfPipe}
use Rattle.sr_plain.specs.Actors.{FitsActor, IsOf}

pub is_for : (l : LayoutView) (a : Actor) (b : Beside) (p : ℕ) (pipe : HeldPipe) → l ≡ pipe.layout → b.layout ≡ l → a ≡ Pipe p
    → pipe.view.number ≡ p → IsFor (FitsActor l a) b pipe
is_for l a b p pipe e f same n = record {
  layout = f ∙ e;
  view = (record { layout = l; pools = []; changes = [] }, e, (refl, subst (λ (m : Actor). IsOf m (OfPipe pipe.view)) (sym same) n));
}
