use Rattle.std.proofs.Common.{◌≡◌, drop}
use Rattle.sr_frame.specs.Vip.{vip_number}
use Rattle.sr_frame.proofs.vip.number_of.Given as goal

-- the rest, numbered on, has the number that all have
abbrev pub invariant-loop-number : goal.invariant-loop-number
invariant-loop-number l = vip_number l.number l.address l.port (drop l.number l.vips) ≡ vip_number 0 l.address l.port l.vips
