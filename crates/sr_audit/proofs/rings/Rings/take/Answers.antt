use Rattle.std.proofs.Common.{sym, subst, ◌∙◌}
use Rattle.sr_audit.specs.Rings.{TellsPipe}
use Rattle.sr_audit.proofs.rings.Rings.take.Goals as goal

pub returns-in-None-clause-taken : goal.returns-in-None-clause-taken
returns-in-None-clause-taken c before t =
    subst (TellsPipe c.args.pipe before) (sym c.remove.ensures.value ∙ c.in-None.is) t c.new.result c.new.ensures
