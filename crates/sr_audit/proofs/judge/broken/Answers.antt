use Rattle.std.proofs.Common.{None, reverse, sym, ap, ◌∙◌}
use Rattle.sr_law.specs.declared.clause.Clause.TheVariants as C
use Rattle.sr_law.specs.Lawful.{where_met}
use Rattle.sr_law.specs.Retire.{endings_of}
use Rattle.sr_audit.proofs.Falling.{out_in_order}
use Rattle.sr_audit.proofs.Judging.{last_judged}
use Rattle.sr_audit.proofs.judge.broken.Goals as goal

pub returns-then-not-meets_retire : goal.returns-then-not-meets_retire
returns-then-not-meets_retire c all ended =
    let setup = c.args.setup.now in
    let before = reverse c.args.before.now in
    let line = c.args.line.now in
    let order = sym c.meets_order.ensures ∙ c.if-not-meets_order.false in
    ap (λ b. where_met b C.Retire None) (sym c.if-not-meets_retire.true)
    ∙ last_judged setup (endings_of all) before line c.meets_retire.result order (sym c.meets_server.ensures ∙ c.if-not-meets_server.false)
    (sym c.meets_same.ensures ∙ c.if-not-meets_same.false) (sym c.meets_newer.ensures ∙ c.if-not-meets_newer.false)
    (sym c.meets_number.ensures ∙ c.if-not-meets_number.false) (sym c.has_cause.ensures ∙ c.if-not-has_cause.false)
    (c.meets_retire.ensures all (ended (out_in_order setup before line c.requires.falls order)))

pub returns : goal.returns
returns c all ended =
    let setup = c.args.setup.now in
    let before = reverse c.args.before.now in
    let line = c.args.line.now in
    let order = sym c.meets_order.ensures ∙ c.if-not-meets_order.false in
    ap (λ b. where_met b C.Retire None) (sym c.if-not-meets_retire.false)
    ∙ last_judged setup (endings_of all) before line c.meets_retire.result order (sym c.meets_server.ensures ∙ c.if-not-meets_server.false)
    (sym c.meets_same.ensures ∙ c.if-not-meets_same.false) (sym c.meets_newer.ensures ∙ c.if-not-meets_newer.false)
    (sym c.meets_number.ensures ∙ c.if-not-meets_number.false) (sym c.has_cause.ensures ∙ c.if-not-has_cause.false)
    (c.meets_retire.ensures all (ended (out_in_order setup before line c.requires.falls order)))
