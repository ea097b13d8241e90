use Rattle.std.proofs.Common.{◌≡◌, ◌++◌, take, map}
use Rattle.sr_run.proofs.numbering.numbers_of.Given as goal

abbrev pub invariant-loop-skip : goal.invariant-loop-skip
invariant-loop-skip l = l.numbers.items ≡ map (λ s. s.0) (take l.skip-index l.skips)

abbrev pub invariant-loop-packet : goal.invariant-loop-packet
invariant-loop-packet l = l.numbers.items ≡ map (λ s. s.0) l.skips ++ map (λ p. p.number) (take l.packet-index l.packets)
