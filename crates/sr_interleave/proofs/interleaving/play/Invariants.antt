use Rattle.std.proofs.Common.{◌≡◌, ℕ}
use Rattle.sr_core.specs.PlainWords.{ShowsWords}
use Rattle.sr_interleave.proofs.Picks.{HavePicked}
use Rattle.sr_interleave.specs.Standing.{play_of, seen_play}
use Rattle.sr_interleave.specs.Together.{AreTogether, held}
use Rattle.sr_machine.specs.declared.name.Name.{Name}
use Rattle.sr_picks.specs.Left.{left_of}
use Rattle.sr_interleave.proofs.interleaving.play.Given as goal

abbrev pub invariant-loop-actor : goal.invariant-loop-actor
invariant-loop-actor l =
    AreTogether l.board l.pipes l.controller
    × (l.controller.config ≡ l.initial.controller.config)
    × ((words : Name → ℕ) → ShowsWords l.initial.controller.config.layout l.initial.board.words words
    → HavePicked (play_of (held l.initial.board l.initial.pipes l.initial.controller) words l.initial.standing)
    (held l.board l.pipes l.controller) l.standing)

abbrev pub decreases-loop-actor : goal.decreases-loop-actor
decreases-loop-actor l = left_of (seen_play l.pipes l.controller l.standing)
