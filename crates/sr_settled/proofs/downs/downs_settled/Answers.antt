use Rattle.std.proofs.Common.{◌&&◌, reverse, sym, ap, ◌∙◌}
use Rattle.std.specs.List.{list_all}
use Rattle.sr_law.specs.Settled.{downs_of, due_downs, is_number_as_often}
use Rattle.sr_settled.proofs.Taking.{each_due, each_made}
use Rattle.sr_settled.proofs.downs.downs_settled.Goals as goal

pub returns-then-due : goal.returns-then-due
returns-then-due c =
    let clock = c.args.clock in
    let changes = c.args.changes.now in
    let all = reverse c.args.lines.now in
    let as_often = is_number_as_often (due_downs clock changes) (downs_of all) in
    let due = sym (each_due clock changes as_often) ∙ sym c.all_due_made-due.ensures ∙ c.if-due.true in
    let made = c.all_made_due-made.ensures ∙ each_made all as_often in
    made ∙ sym (ap (λ b. b && list_all as_often (downs_of all)) due)

pub returns-else-due : goal.returns-else-due
returns-else-due c =
    let clock = c.args.clock in
    let changes = c.args.changes.now in
    let all = reverse c.args.lines.now in
    let as_often = is_number_as_often (due_downs clock changes) (downs_of all) in
    let due = sym (each_due clock changes as_often) ∙ sym c.all_due_made-due.ensures ∙ c.if-due.false in
    c.if-due.false ∙ sym (ap (λ b. b && list_all as_often (downs_of all)) due)
