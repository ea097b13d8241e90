use Rattle.std.proofs.Common.{arith, get_or}
use Rattle.sr_run.specs.Parting.{form_of}
use Rattle.sr_run.proofs.Parts.{added, form_added, no_form}
use Rattle.sr_run.proofs.parting.program.Goals as goal

pub loop-form-preserved : goal.loop-form-preserved
loop-form-preserved c =
    let forms = c.as_slice-form-items.result.now in
    form_added _ _ forms c.loop-form.form-index no_form _ c.loop-form.invariant (omega arith)
    (added c.loop-form.program c.in_ok-command.field-0 c.in_ok-program.program (form_of (get_or forms c.loop-form.form-index no_form)) c.in_ok-program.ensures c.in_ok-command.ensures)
