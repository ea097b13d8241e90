use Rattle.std.proofs.Common.{◌≡◌, drop}
use Rattle.clap.specs.Words.{app_of}
use Rattle.sr_run.specs.Parting.{command_of_form, form_of, texts, with_arguments}
use Rattle.sr_run.proofs.parting.command.Given as goal

-- the command so far, with the arguments that are left, is the whole one
abbrev pub invariant-loop-argument : goal.invariant-loop-argument
invariant-loop-argument l =
    with_arguments (app_of l.command) (texts (drop l.argument-index l.argument-items)) ≡ command_of_form (form_of l.form)
