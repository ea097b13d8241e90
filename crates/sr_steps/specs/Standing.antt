-- Where a round stands: the machine as it is held, and what stands beside it.
use Rattle.std.specs.Prelude.{◌≡◌, ℕ, Bool, true, false, List, [], ◌∷◌, Option, None, Some, slice_get, slice_set}
use Rattle.sr_base.specs.declared.packet.Packet.{Packet}
use Rattle.sr_core.specs.HeldCore.{HeldCore, Shows, state_of}
use Rattle.sr_core.specs.PlainWords.{ShowsWords}
use Rattle.sr_machine.specs.Core.{Core, step_event}
use Rattle.sr_machine.specs.Settling.{Settles, follows, refused}
use Rattle.sr_machine.specs.declared.event.Event.{Event}
use Rattle.sr_machine.specs.declared.event.Event.TheVariants.{Refuse}
use Rattle.sr_machine.specs.declared.settled.Settled.{Settled}
use Rattle.sr_machine.specs.declared.name.Name.{Name}
use Rattle.sr_machine.specs.declared.turn.Turn.{Turn}
use Rattle.sr_picks.specs.Play.{ActsTo, Play, PlaysTo, share_of}
use Rattle.sr_picks.specs.Turn.{after, turn_of}

-- what stands beside the machine
pub record StandingView : Type 0 where
  pub shares : List (List Packet)
  pub turns : ℕ
  pub waits : ℕ
  pub generator : ℕ

-- the round, where the machine's words are these
abbrev pub play_of : HeldCore → (Name → ℕ) → StandingView → Play
play_of h words r = record {
  state = state_of h words;
  shares = r.shares;
  turns = r.turns;
  waits = r.waits;
  generator = r.generator;
}

-- for what doesn't ask the words
abbrev pub no_words : Name → ℕ
no_words name = 0

-- the held machine stands for this round, with what stands beside it
abbrev pub StandsForPlay : HeldCore → StandingView → Play → Type 0
StandsForPlay h r p = (words : Name → ℕ) × ShowsWords h.config.layout h.words words × (p ≡ play_of h words r)

-- whatever state the machine stood for, it stands for what an event makes of it
abbrev pub EventMade : Event → HeldCore → HeldCore → Type 0
EventMade e old new =
    (words : Name → ℕ) → ShowsWords old.config.layout old.words words → Shows new (after e (state_of old words))

-- and for what two events make of it, one after the other
abbrev pub EventsMade : Event → Event → HeldCore → HeldCore → Type 0
EventsMade first second old new =
    (words : Name → ℕ) → ShowsWords old.config.layout old.words words → Shows new (after second (after first (state_of old words)))

-- and for what a turn makes of it, which answered this
abbrev pub TurnMade : Option Turn → HeldCore → HeldCore → Type 0
TurnMade answer old new =
    (words : Name → ℕ) → ShowsWords old.config.layout old.words words
    → ((turn_of (state_of old words)).answer ≡ answer) × Shows new (turn_of (state_of old words)).state

-- the round is what a pick makes of what it was
abbrev pub PlayMade : (Play → Play) → HeldCore → StandingView → HeldCore → StandingView → Type 0
PlayMade does old was new is =
    (words : Name → ℕ) → ShowsWords old.config.layout old.words words → StandsForPlay new is (does (play_of old words was))

-- ---- a packet is taken from a share

-- the first of the share of this number, which isn't left any more; none where nothing is left of it
abbrev pub TakesAt : Option Packet → ℕ → List (List Packet) → List (List Packet) → Type 0
TakesAt None pipe old new = (share_of (slice_get old pipe) ≡ []) × (new ≡ old)
TakesAt (Some packet) pipe old new =
    (rest : List Packet) × (share_of (slice_get old pipe) ≡ packet ∷ rest) × (new ≡ slice_set old pipe rest)

-- nothing else changes
abbrev pub TakesFrom : Option Packet → ℕ → StandingView → StandingView → Type 0
TakesFrom packet pipe old new = TakesAt packet pipe old.shares new.shares × (new.turns ≡ old.turns) × (new.waits ≡ old.waits)
    × (new.generator ≡ old.generator)

-- the picks of the round lead to its end
abbrev pub Plays : HeldCore → StandingView → HeldCore → StandingView → Type 0
Plays old was new is =
    (words : Name → ℕ) → ShowsWords old.config.layout old.words words
    → (q : Play) × PlaysTo (play_of old words was) q × StandsForPlay new is q

-- acts lead to its end, whoever is next
abbrev pub Acts : HeldCore → StandingView → HeldCore → StandingView → Type 0
Acts old was new is =
    (words : Name → ℕ) → ShowsWords old.config.layout old.words words
    → (q : Play) × ActsTo (play_of old words was) q × StandsForPlay new is q

-- ---- the turns after the last round

-- whether nothing more follows this answer, and what the machine stands for then: a change was refused, where that could be told
abbrev pub RefusedTo : Bool → Turn → HeldCore → HeldCore → Type 0
RefusedTo true answer old new =
    (words : Name → ℕ) → ShowsWords old.config.layout old.words words
    → (refused (state_of old words) (follows answer) ≡ None) × Shows new (state_of old words)
RefusedTo false answer old new =
    (words : Name → ℕ) → ShowsWords old.config.layout old.words words
    → (u : Core) × (refused (state_of old words) (follows answer) ≡ Some u) × Shows new u

-- the same where a change is to be refused
abbrev pub RefusesTo : Bool → HeldCore → HeldCore → Type 0
RefusesTo true old new =
    (words : Name → ℕ) → ShowsWords old.config.layout old.words words
    → (step_event Refuse (state_of old words) ≡ None) × Shows new (state_of old words)
RefusesTo false old new =
    (words : Name → ℕ) → ShowsWords old.config.layout old.words words
    → (u : Core) × (step_event Refuse (state_of old words) ≡ Some u) × Shows new u

-- the turns end so, in a state that the machine stands for
abbrev pub SettlesTo : Settled → HeldCore → HeldCore → Type 0
SettlesTo r old new =
    (words : Name → ℕ) → ShowsWords old.config.layout old.words words
    → (t : Core) × Settles (state_of old words) r t × Shows new t
