use Rattle.sr_gen.specs.Capture.{capture_of}
use Rattle.sr_io.specs.declared.sink.Put.TheVariants.{Failed}
use Rattle.sr_run.proofs.Writing.{then_flushed}
use Rattle.sr_run.proofs.make_capture.run_make.Goals as goal

pub returns-in-Failed-flush-clause-made : goal.returns-in-Failed-flush-clause-made
returns-in-Failed-flush-clause-made g c = (then_flushed Failed (capture_of c.args.number c.args.packets) c.in-All.ensures c.in-Failed-flush.ensures).taken
