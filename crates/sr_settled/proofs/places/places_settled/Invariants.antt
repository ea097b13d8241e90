use Rattle.std.proofs.Common.{◌≡◌, reverse, take}
use Rattle.std.specs.List.{list_all}
use Rattle.sr_law.specs.Settled.{has_place}
use Rattle.sr_law.specs.Ticks.{key_of}
use Rattle.sr_settled.proofs.places.places_settled.Given as goal

abbrev pub invariant-loop-line : goal.invariant-loop-line
invariant-loop-line l =
    l.settled ≡ list_all (λ line. has_place l.setup (reverse l.lines) (key_of line)) (reverse (take l.line-index l.lines))
