-- A round that is played on plain words.
use Rattle.std.specs.Prelude.{◌≡◌, ℕ, List}
use Rattle.sr_base.specs.declared.packet.Packet.{Packet}
use Rattle.sr_core.specs.HeldCore.{HeldCore, Shows}
use Rattle.sr_core.specs.PlainWords.{ShowsWords}
use Rattle.sr_interleave.specs.Standing.{StandingView, StandsForPlay, play_of}
use Rattle.sr_machine.specs.declared.name.Name.{Name}
use Rattle.sr_picks.specs.Play.{Play, PlaysTo, played}

-- the picks of the round lead to its end
abbrev pub Plays : HeldCore → StandingView → HeldCore → StandingView → Type 0
Plays old was new is =
    (words : Name → ℕ) → ShowsWords old.config.layout old.words words
    → (q : Play) × PlaysTo (play_of old words was) q × StandsForPlay new is q

-- some whole picks were made
abbrev pub Picks : HeldCore → StandingView → HeldCore → Type 0
Picks old was new =
    (words : Name → ℕ) → ShowsWords old.config.layout old.words words
    → (n : ℕ) × Shows new (played n (play_of old words was)).state

-- the round at its beginning, with these shares
abbrev pub begun : List (List Packet) → ℕ → StandingView
begun shares x = record { shares = shares; turns = 0; waits = 0; generator = x }

-- The machine stands for the state that the picks from a generator lead to, at the end of the round; the generator is this one then.
abbrev pub Interleaves : HeldCore → List (List Packet) → ℕ → HeldCore → ℕ → Type 0
Interleaves old shares x new y =
    (words : Name → ℕ) → ShowsWords old.config.layout old.words words
    → (q : Play) × PlaysTo (play_of old words (begun shares x)) q × Shows new q.state × (y ≡ q.generator)
