use Rattle.std.proofs.Common.{ℕ}
use Rattle.sr_core.specs.HeldCore.{state_of}
use Rattle.sr_core.specs.PlainWords.{ShowsWords}
use Rattle.sr_machine.specs.declared.name.Name.{Name}
use Rattle.sr_steps.proofs.Settles.{LeadsTo}
use Rattle.sr_steps.proofs.settling.settle.Given as goal

abbrev pub invariant-loop-turn : goal.invariant-loop-turn
invariant-loop-turn l = (words : Name → ℕ) → ShowsWords l.initial.core.config.layout l.initial.core.words words
    → LeadsTo (state_of l.initial.core words) l.core
