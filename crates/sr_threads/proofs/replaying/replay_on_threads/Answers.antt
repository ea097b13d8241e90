use Rattle.sr_threads.proofs.Whole.{replays_for}
use Rattle.sr_threads.proofs.replaying.replay_on_threads.Goals as goal

pub returns : goal.returns
returns g c = replays_for _ _ _ _ _ c.requires c.in_ok-config.ensures c.in_ok-played.ensures
