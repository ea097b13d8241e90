use Rattle.std.proofs.Common.{◌≡◌, subst, List}
use Rattle.sr_update.specs.declared.number_state.NumberState.{NumberState}
use Rattle.sr_update.specs.Numbers.{is_free, first_number}
use Rattle.sr_update.proofs.Rows.{marked_first}
use Rattle.sr_update.proofs.row.Row.least_free.Goals as goal

pub returns-clause-value : goal.returns-clause-value
returns-clause-value c =
    subst (λ (row : List NumberState). c.first_from.result ≡ first_number (λ number. is_free) 0 row) c.self.view_is
    (marked_first is_free _ c.self.inside.free _ c.self.invariant.1.most c.self.invariant.1.free c.first_from.ensures)
