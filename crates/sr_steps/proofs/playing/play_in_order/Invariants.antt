use Rattle.std.proofs.Common.{◌≡◌, ℕ, List}
use Rattle.sr_core.specs.PlainWords.{ShowsWords}
use Rattle.sr_machine.specs.declared.name.Name.{Name}
use Rattle.sr_picks.specs.Left.{left_of}
use Rattle.sr_picks.specs.Play.{acted}
use Rattle.sr_steps.specs.Standing.{no_words, play_of}
use Rattle.sr_steps.proofs.playing.play_in_order.Given as goal

abbrev pub invariant-loop-actor : goal.invariant-loop-actor
invariant-loop-actor l = (words : Name → ℕ) → ShowsWords l.initial.core.config.layout l.initial.core.words words
    → (actors : List ℕ) × (now : Name → ℕ) × ShowsWords l.core.config.layout l.core.words now
    × (acted actors (play_of l.initial.core words l.initial.standing) ≡ play_of l.core now l.standing)

abbrev pub decreases-loop-actor : goal.decreases-loop-actor
decreases-loop-actor l = left_of (play_of l.core no_words l.standing)
