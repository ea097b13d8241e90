use Rattle.sr_scripted.proofs.Keeps.{plays}
use Rattle.sr_scripted.proofs.played.play_script.Goals as goal

pub returns : goal.returns
returns c = plays _ _ _ _ _ c.requires c.packets_ranges.ensures c.in_ok-played.ensures
