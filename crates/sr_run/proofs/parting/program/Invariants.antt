use Rattle.std.proofs.Common.{◌≡◌, map, drop}
use Rattle.clap.specs.Words.{app_of}
use Rattle.sr_run.specs.Parting.{form_of, program, with_forms}
use Rattle.sr_run.proofs.parting.program.Given as goal

-- the program so far, with the commands that are left, is the whole one
abbrev pub invariant-loop-form : goal.invariant-loop-form
invariant-loop-form l = with_forms (app_of l.program) (map form_of (drop l.form-index l.form-items)) ≡ program
