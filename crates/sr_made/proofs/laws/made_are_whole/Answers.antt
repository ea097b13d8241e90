use Rattle.sr_made.proofs.Made.{made_frames, made_long, made_whole}
use Rattle.sr_made.proofs.laws.made_are_whole.Goals as goal

pub returns-clause-long : goal.returns-clause-long
returns-clause-long c = made_long

pub returns-clause-whole : goal.returns-clause-whole
returns-clause-whole c = made_whole

pub returns-clause-frames : goal.returns-clause-frames
returns-clause-frames c = made_frames
