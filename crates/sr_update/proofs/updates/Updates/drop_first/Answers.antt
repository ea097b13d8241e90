use Rattle.std.proofs.Common.{◌≡◌, ◌+◌, drop, subst, sym, ap, arith}
use Rattle.std.proofs.lemmas.List.{drop-drop}
use Rattle.sr_update.specs.Updates.{IsInOrder, UpdatesView}
use Rattle.sr_update.proofs.Dues.{order_rest}
use Rattle.sr_update.proofs.updates.Updates.drop_first.Goals as goal

pub invariant_of-self : goal.invariant_of-self
invariant_of-self c = (
  omega (arith, c.if-self-len.true),
  subst (IsInOrder 0) (drop-drop 1 c.self.inside.next c.self.inside.gives.items)
      (order_rest 0 (drop c.self.inside.next c.self.inside.gives.items) c.self.invariant.1),
)

pub returns-then-self-len : goal.returns-then-self-len
returns-then-self-len c =
    subst (λ (u : UpdatesView). record { gives = drop (c.self.inside.next + 1) c.self.inside.gives.items; clock = c.self.inside.clock }
    ≡ record u { gives = drop 1 u.gives }) c.self.view_is
    (ap (λ gives. record { gives = gives; clock = c.self.inside.clock }) (sym (drop-drop 1 c.self.inside.next c.self.inside.gives.items)))
