use Rattle.std.proofs.Common.{◌≡◌, ℕ, drop}
use Rattle.sr_core.specs.HeldCore.{state_of}
use Rattle.sr_core.specs.PlainWords.{ShowsWords}
use Rattle.sr_interleave.specs.Together.{AreTogether, held}
use Rattle.sr_machine.specs.declared.name.Name.{Name}
use Rattle.sr_steps.proofs.Runs.{LeadsOn}
use Rattle.sr_stepped.proofs.rounds.play_rounds.Given as goal

abbrev pub invariant-loop-round : goal.invariant-loop-round
invariant-loop-round l =
    AreTogether l.board l.pipes l.controller
    × (l.controller.config ≡ l.initial.controller.config)
    × ((words : Name → ℕ) → ShowsWords l.initial.controller.config.layout l.initial.board.words words
    → LeadsOn l.packets l.rounds l.seed (state_of (held l.initial.board l.initial.pipes l.initial.controller) words) (drop l.round-index l.rounds)
    l.generator (held l.board l.pipes l.controller))
