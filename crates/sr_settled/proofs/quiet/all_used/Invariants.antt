use Rattle.std.proofs.Common.{◌≡◌, reverse, take}
use Rattle.std.specs.List.{list_all}
use Rattle.sr_law.specs.Settled.{was_used}
use Rattle.sr_law.specs.Ticks.{key_of}
use Rattle.sr_settled.proofs.quiet.all_used.Given as goal

abbrev pub invariant-loop-line : goal.invariant-loop-line
invariant-loop-line l =
    l.all ≡ list_all (λ line. was_used l.setup (reverse l.lines) l.sweep.from (key_of line)) (reverse (take l.line-index l.lines))
