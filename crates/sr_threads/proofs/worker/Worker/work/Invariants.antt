use Rattle.std.proofs.Common.{take}
use Rattle.sr_threads.specs.Working.{Worked, share_in}
use Rattle.sr_threads.proofs.worker.Worker.work.Given as goal

-- the packets so far were looked at
abbrev pub invariant-loop-timed : goal.invariant-loop-timed
invariant-loop-timed g l = Worked l.initial.self (share_in l.layout l.number (take l.timed-index l.packets)) l.self
