use Rattle.sr_update.proofs.States.{both_current, one_drains, one_stays}
use Rattle.sr_update.proofs.laws.replaced_numbers_drain.Goals as goal

pub returns-clause-both : goal.returns-clause-both
returns-clause-both c = λ rows vip number replaced g.
    let h = both_current rows vip number replaced g.free g.current in
    record { one = h.0; two = h.1 }

pub returns-clause-over : goal.returns-clause-over
returns-clause-over c = λ rows vip number replaced g.
    let h = one_drains rows vip number replaced g.free g.current in
    record { one = h.0; two = h.1 }

pub returns-clause-one : goal.returns-clause-one
returns-clause-one c = λ rows vip number replaced g. one_stays rows vip number replaced g.free g.current
