use Rattle.std.proofs.Common.{◌≡◌, ◌==◌, filter, map}
use Rattle.std.specs.List.{range_with_len}
use Rattle.sr_hash.specs.Uses.{pipe_number}
use Rattle.sr_picks.specs.Run.{packets_in}
use Rattle.sr_stepped.proofs.sharing.shares.Given as goal

abbrev pub invariant-loop-pipe : goal.invariant-loop-pipe
invariant-loop-pipe l = map (λ v. v.items) l.shares.items
    ≡ map (λ i. filter (λ p. pipe_number p.key l.pipes == i) (packets_in l.packets l.round)) (range_with_len 0 l.pipe)
