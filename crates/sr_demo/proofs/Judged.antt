-- A lawful list breaks nothing.
use Rattle.std.proofs.Common.{◌≡◌, Some, sym, ◌∙◌}
use Rattle.std.proofs.lemmas.Option.{none-some}
use Rattle.sr_law.proofs.Breaches.{breach_of-none}
use Rattle.sr_law.specs.Lawful.{IsLawful, breach_of}
use Rattle.sr_law.specs.Setup.{SetupView}
use Rattle.sr_law.specs.declared.check_refusal.CheckRefusal.{CheckRefusal}
use Rattle.sr_law.specs.declared.line.Line.{Line}
use Rattle.std.proofs.Common.{List}

pub no_breach : (setup : SetupView) (lines : List Line) (refusal : CheckRefusal) → IsLawful setup lines → breach_of setup lines ≡ Some refusal → ⊥
no_breach setup lines refusal lawful named = none-some refusal (sym ((breach_of-none setup lines).1 lawful) ∙ named)
