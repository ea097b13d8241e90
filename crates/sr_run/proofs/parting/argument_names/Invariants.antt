use Rattle.std.proofs.Common.{◌≡◌, map, drop}
use Rattle.sr_run.specs.Parting.{argument_names, form_of, names_in}
use Rattle.sr_run.proofs.parting.argument_names.Given as goal

-- the command is one of those that are left, if it is one
abbrev pub invariant-loop-form : goal.invariant-loop-form
invariant-loop-form l = names_in (map form_of (drop l.form-index l.form-items)) l.name ≡ argument_names l.name
