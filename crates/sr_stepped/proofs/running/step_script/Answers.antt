use Rattle.sr_stepped.proofs.WholeRun.{plays_for}
use Rattle.sr_stepped.proofs.running.step_script.Goals as goal

pub returns : goal.returns
returns c = plays_for _ _ _ _ _ _ c.requires c.packets_ranges.ensures c.in_ok-config.ensures c.in_ok-played.ensures
