-- A whole run of a held machine.
use Rattle.std.specs.Prelude.{◌≡◌, ℕ, List}
use Rattle.sr_core.specs.HeldCore.{HeldCore, Shows, state_of}
use Rattle.sr_core.specs.PlainWords.{ShowsWords}
use Rattle.sr_machine.specs.Config.{Config}
use Rattle.sr_machine.specs.Core.{Core}
use Rattle.sr_machine.specs.declared.name.Name.{Name}
use Rattle.sr_machine.specs.declared.settled.Settled.{Settled}
use Rattle.sr_picks.specs.Play.{ActsTo, Play, PlaysTo}
use Rattle.sr_picks.specs.Run.{Rounds, RoundsByActs, RunsByActs, RunsByPicks, round_begun}
use Rattle.sr_rounds.specs.declared.round.Round.{Round}
use Rattle.sr_rounds.specs.declared.timed.Timed.{Timed}

-- a round leads from what the machine stood for to what it stands for, and from a generator to another
abbrev pub PlaysRound : List Timed → Round → ℕ → ℕ → HeldCore → HeldCore → Type 0
PlaysRound packets r x y old new =
    (words : Name → ℕ) → ShowsWords old.config.layout old.words words
    → (q : Play) × PlaysTo (round_begun packets r x (state_of old words)) q × Shows new q.state × (y ≡ q.generator)

-- so do these rounds
abbrev pub PlaysRounds : List Timed → List Round → ℕ → HeldCore → HeldCore → Type 0
PlaysRounds packets rounds x old new =
    (words : Name → ℕ) → ShowsWords old.config.layout old.words words
    → (y : ℕ) × (t : Core) × Rounds packets rounds x (state_of old words) y t × Shows new t

-- the machine stands for the state that a run by picks ends in
abbrev pub Ran : Config → ℕ → List Timed → Settled → HeldCore → Type 0
Ran k seed packets r h = (t : Core) × RunsByPicks k seed packets r t × Shows h t

-- ---- whoever acts next

-- a round leads from what the machine stood for to what it stands for
abbrev pub ActsRound : List Timed → Round → HeldCore → HeldCore → Type 0
ActsRound packets r old new =
    (words : Name → ℕ) → ShowsWords old.config.layout old.words words
    → (q : Play) × ActsTo (round_begun packets r 0 (state_of old words)) q × Shows new q.state

-- so do these rounds
abbrev pub ActsRounds : List Timed → List Round → HeldCore → HeldCore → Type 0
ActsRounds packets rounds old new =
    (words : Name → ℕ) → ShowsWords old.config.layout old.words words
    → (t : Core) × RoundsByActs packets rounds (state_of old words) t × Shows new t

-- the machine stands for the state that a run round by round ends in
abbrev pub RanByActs : Config → List Timed → Settled → HeldCore → Type 0
RanByActs k packets r h = (t : Core) × RunsByActs k packets r t × Shows h t
