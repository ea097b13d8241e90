use Rattle.std.proofs.Common.{None}
use Rattle.sr_update.proofs.States.{told_from}
use Rattle.sr_update.proofs.laws.numbers_are_free_by_release.Goals as goal

pub returns-clause-told : goal.returns-clause-told
returns-clause-told c = λ rows acts vip number start h. told_from rows acts vip number start None h
