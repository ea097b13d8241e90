use Rattle.std.proofs.Common.{sym, ◌∙◌}
use Rattle.sr_update.proofs.Rows.{one_is_found}
use Rattle.sr_update.proofs.numbers.Numbers.current.Goals as goal

pub unreachable-requires : goal.unreachable-requires
unreachable-requires c =
    one_is_found c.args.self.now c.args.vip c.index.result.now c.requires.within (rw c.self.view_is at c.index.ensures) c.requires.one (sym c.current.ensures.value ∙ c.in-None.is)
