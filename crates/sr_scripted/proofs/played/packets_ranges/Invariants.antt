use Rattle.std.proofs.Common.{All, take}
use Rattle.sr_inv_facts.specs.Fitted.{IsPacket}
use Rattle.sr_scripted.proofs.played.packets_ranges.Given as goal

-- the packets before the place are ones
abbrev pub invariant-loop-timed : goal.invariant-loop-timed
invariant-loop-timed l = All (λ t. IsPacket t.packet) (take l.timed-index l.packets)
