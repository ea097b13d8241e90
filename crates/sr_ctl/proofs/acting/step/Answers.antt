use Rattle.sr_ctl.proofs.Turning.{has_step}
use Rattle.sr_ctl.proofs.acting.step.Goals as goal

pub returns-in_default-clause-made : goal.returns-in_default-clause-made
returns-in_default-clause-made g c =
    absurd (has_step c.args.machine.now.config c.args.machine.now.view c.next.result c.requires.bounds c.next.ensures.value c.in_default.is)
