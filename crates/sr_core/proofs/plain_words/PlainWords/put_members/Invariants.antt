use Rattle.std.proofs.Common.{◌≡◌, ℕ}
use Rattle.sr_core.specs.FirstPools.{with_members}
use Rattle.sr_core.specs.PlainWords.{ShowsWords}
use Rattle.sr_machine.specs.declared.name.Name.{Name as AName}
use Rattle.sr_core.proofs.plain_words.PlainWords.put_members.Given as goal

abbrev pub invariant-loop-index : goal.invariant-loop-index
invariant-loop-index l = (l.self.layout ≡ l.initial.self.layout) × ((words : AName → ℕ)
    → ShowsWords l.initial.self.layout l.initial.self.words words
    → ShowsWords l.self.layout l.self.words (with_members words l.vip l.pool l.index))
