use Rattle.std.proofs.Common.{◌∙◌, ap, sym}
use Rattle.std.specs.Prelude.{option_and_then}
use Rattle.sr_acts.proofs.Asked.{first_put_found, put_of_found}
use Rattle.sr_machine.specs.Starting.{pending_put}
use Rattle.sr_acts.proofs.planned_book.PlannedBook.first_put.Goals as goal

pub returns-in-Some-clause-value : goal.returns-in-Some-clause-value
returns-in-Some-clause-value c =
    let s = c.args.self.now.layout.shape in
    let es = c.args.self.now.book.entries in
    let e = c.in-Some.entry in
    c.planned_put.ensures.value ∙ (sym (put_of_found s es e c.in-Some.ensures.pending)
    ∙ sym (first_put_found s es es ∙ ap (option_and_then (pending_put s es)) (sym c.in-Some.ensures.value)))

pub returns-in-None-clause-value : goal.returns-in-None-clause-value
returns-in-None-clause-value c =
    let s = c.args.self.now.layout.shape in
    let es = c.args.self.now.book.entries in
    sym (first_put_found s es es ∙ ap (option_and_then (pending_put s es)) (sym c.in-None.ensures.value))
