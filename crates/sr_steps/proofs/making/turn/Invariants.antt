use Rattle.std.proofs.Common.{◌-◌, ℕ}
use Rattle.sr_core.specs.HeldCore.{state_of}
use Rattle.sr_core.specs.PlainWords.{ShowsWords}
use Rattle.sr_machine.specs.declared.name.Name.{Name}
use Rattle.sr_picks.specs.Turn.{turn_of}
use Rattle.sr_steps.proofs.Plays.{TurnGoes}
use Rattle.sr_steps.proofs.making.turn.Given as goal

abbrev pub invariant-loop-step : goal.invariant-loop-step
invariant-loop-step l = (words : Name → ℕ) → ShowsWords l.initial.core.config.layout l.initial.core.words words
    → TurnGoes (turn_of (state_of l.initial.core words)) (l._step-end - l._step) l.core
