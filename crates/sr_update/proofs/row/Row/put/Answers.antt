use Rattle.std.proofs.Common.{subst, Bool}
use Rattle.sr_update.specs.NumberSet.{IsWith}
use Rattle.sr_update.proofs.Rows.{row_put, view_put}
use Rattle.sr_update.proofs.row.Row.put.Goals as goal

pub invariant_of-self : goal.invariant_of-self
invariant_of-self c =
    row_put _ _ _ _ c.args.state c.self.inside.free c.self.inside.draining _ _ c.self.invariant.0 c.self.view_is c.self.invariant.1 c.requires
    (subst (λ (on : Bool). IsWith c.self.inside.free c.args.n on c.with_number-self-inside.result) c.is_free.ensures c.with_number-self-inside.ensures)
    (subst (λ (on : Bool). IsWith c.self.inside.draining c.args.n on c.with_number-self-inside-2.result) c.is_draining.ensures c.with_number-self-inside-2.ensures)

pub returns : goal.returns
returns c = view_put _ _ _ _ c.args.state c.self.view_is c.requires
