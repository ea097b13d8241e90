use Rattle.std.proofs.Common.{arith, sym, ◌∙◌, ap, length}
use Rattle.sr_update.specs.Numbers.{is_current}
use Rattle.sr_update.proofs.Rows.{state_found, state_none}
use Rattle.sr_update.proofs.row.Row.current.Goals as goal

pub get-requires : goal.get-requires
get-requires c = omega (arith, c.self.invariant.0, ap length c.self.view_is, c.loop-n-test.true)

pub returns-then-is_current-clause-value : goal.returns-then-is_current-clause-value
returns-then-is_current-clause-value c = state_found is_current c.args.self.now c.loop-n.n c.get.result c.get.ensures (sym c.is_current.ensures ∙ c.if-is_current.true) c.loop-n.invariant

pub returns-clause-value : goal.returns-clause-value
returns-clause-value c = state_none is_current c.args.self.now (λ j lt. c.loop-n.invariant j (omega (arith, lt, c.self.invariant.0, ap length c.self.view_is, c.loop-n-test.false)))
