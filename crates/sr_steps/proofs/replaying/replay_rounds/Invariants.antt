use Rattle.std.proofs.Common.{ℕ, drop}
use Rattle.sr_core.specs.HeldCore.{state_of}
use Rattle.sr_core.specs.PlainWords.{ShowsWords}
use Rattle.sr_machine.specs.declared.name.Name.{Name}
use Rattle.sr_steps.proofs.Runs.{ActsLeadOn}
use Rattle.sr_steps.proofs.replaying.replay_rounds.Given as goal

abbrev pub invariant-loop-round : goal.invariant-loop-round
invariant-loop-round l = (words : Name → ℕ) → ShowsWords l.initial.core.config.layout l.initial.core.words words
    → ActsLeadOn l.packets l.rounds (state_of l.initial.core words) (drop l.round-index l.rounds) l.core
