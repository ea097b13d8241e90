use Rattle.std.proofs.Common.{arith}
use Rattle.clap.specs.Words.{found_of}
use Rattle.sr_run.specs.Parting.{texts}
use Rattle.sr_run.proofs.Parts.{value_added}
use Rattle.sr_run.proofs.parting.push_values.Goals as goal

pub loop-name-preserved : goal.loop-name-preserved
loop-name-preserved c =
    value_added (texts c.loop-name.parts.items) (texts c.push_value.new.parts.items) c.args.names.now c.loop-name.name-index _ (found_of c.args.found.now) _
    c.loop-name.invariant (omega arith) c.in_ok-push_value.ensures
