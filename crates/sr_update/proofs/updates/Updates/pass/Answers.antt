use Rattle.std.proofs.Common.{sym, subst, refl, IsSome}
use Rattle.sr_update.specs.Updates.{UpdatesView, first_due}
use Rattle.sr_update.proofs.Dues.{pass_kept, pass_view}
use Rattle.sr_update.proofs.updates.Updates.pass.Goals as goal

pub invariant_of-self : goal.invariant_of-self
invariant_of-self c =
    pass_kept _ c.self.inside.next c.self.inside.clock c.self.invariant.1 (subst (λ (u : UpdatesView). IsSome (first_due u)) (sym c.self.view_is) c.requires)

pub returns : goal.returns
returns c = pass_view c.self.inside.gives.items c.self.inside.next c.self.inside.clock _ _ c.args.self.now refl refl c.self.view_is c.self.invariant.1 c.requires
