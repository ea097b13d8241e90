use Rattle.sr_scripted.proofs.Keeps.{replays}
use Rattle.sr_scripted.proofs.played.replay_script.Goals as goal

pub returns : goal.returns
returns c = replays _ _ _ _ c.requires c.packets_ranges.ensures c.in_ok-played.ensures
