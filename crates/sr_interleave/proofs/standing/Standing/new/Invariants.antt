use Rattle.std.proofs.Common.{◌≡◌, map, take}
use Rattle.sr_interleave.proofs.standing.Standing.new.Given as goal

-- the shares so far are those of the pipes before
abbrev pub invariant-loop-share : goal.invariant-loop-share
invariant-loop-share l = l.shares.items ≡ map (λ v. v.items) (take l.share-index l.packets)
