use Rattle.std.proofs.Common.{◌≡◌, []}
use Rattle.sr_core.specs.FirstPools.{first_words}
use Rattle.sr_core.specs.PlainWords.{ShowsWords}
use Rattle.sr_machine.specs.Opening.{first_pool}
use Rattle.sr_core.proofs.plain_words.PlainWords.opening_of.Given as goal

abbrev pub invariant-loop-vip : goal.invariant-loop-vip
invariant-loop-vip l = (l.words.layout ≡ l.layout)
    × ShowsWords l.layout l.words.words (first_words l.layout (first_pool (record { layout = l.layout; pools = l.pools; changes = [] })) l.vip)
