use Rattle.std.proofs.Common.{◌∙◌, ap, arith}
use Rattle.sr_update.specs.Updates.{first_due}
use Rattle.sr_update.proofs.Dues.{none_due, none_off}
use Rattle.sr_update.proofs.updates.Updates.first_due.Goals as goal

pub returns-else-give-ms : goal.returns-else-give-ms
returns-else-give-ms c =
    none_due c.self.inside.gives.items c.self.inside.next c.in-Some.ms c.self.inside.clock c.index-give.result.now (omega arith) c.index-give.ensures c.self.invariant.1 c.in-Some.is
    c.if-give-ms.false ∙ ap first_due c.self.view_is

pub returns-in-None : goal.returns-in-None
returns-in-None c = none_off _ c.self.inside.clock c.in-None.is ∙ ap first_due c.self.view_is
