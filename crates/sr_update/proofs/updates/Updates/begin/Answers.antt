use Rattle.std.proofs.Common.{sym, ◌∙◌, ◌<◌, length}
use Rattle.sr_update.specs.declared.give_change.GiveChange.{GiveChange}
use Rattle.sr_update.specs.Updates.{is_due}
use Rattle.sr_update.proofs.Dues.{all_find}
use Rattle.sr_update.proofs.updates.Updates.begin.Goals as goal

pub least_free-requires : goal.least_free-requires
least_free-requires c =
    all_find (λ (give : GiveChange). give.vip < length c.args.numbers.now) (is_due c.args.self.now.clock) c.args.self.now.gives c.in-Some.give c.requires
    (sym c.first_due.ensures ∙ c.in-Some.is)
