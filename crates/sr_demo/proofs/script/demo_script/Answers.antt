use Rattle.std.proofs.Common.{Err, subst}
use Rattle.std.specs.Prelude.{IsUtf8}
use Rattle.sr_demo.proofs.Parsed.{no_fault, script_read}
use Rattle.sr_script.specs.Fault.{fault_of}
use Rattle.sr_script.specs.declared.refusal.ParseRefusal.TheVariants.{Script}
use Rattle.sr_script.specs.Script.{IsScriptText, Parses, spelled}
use Rattle.sr_demo.proofs.script.demo_script.Goals as goal

pub returns-in-Ok-clause-script : goal.returns-in-Ok-clause-script
returns-in-Ok-clause-script c =
    script_read (spelled c.in-Ok.script) (subst (λ t. IsScriptText t (spelled c.in-Ok.script)) c.as_bytes.ensures.value c.in-Ok.ensures.walk)

pub unreachable-requires : goal.unreachable-requires
unreachable-requires c =
    let walk = subst (λ r. Parses c.as_bytes.result.now (Err r)) c.in-Err-Script.field-0-is c.in-Err-Script.ensures.walk in
    no_fault (fault_of c.in-Err-Script.field-0-0) (subst IsUtf8 c.as_bytes.ensures.value c.as_bytes.ensures.utf8)
    (subst (λ t. Parses t (Err (Script c.in-Err-Script.field-0-0))) c.as_bytes.ensures.value walk)
