-- Where a round stands: the machine as it is held, and what stands beside it.
use Rattle.std.specs.Prelude.{◌≡◌, ℕ, List, [], ◌∷◌, Option, None, Some, slice_get, slice_set}
use Rattle.sr_base.specs.declared.packet.Packet.{Packet}
use Rattle.sr_core.specs.HeldCore.{HeldCore, state_of}
use Rattle.sr_core.specs.HeldPipe.{HeldPipe}
use Rattle.sr_core.specs.HeldPipes.{views_of}
use Rattle.sr_core.specs.PlainWords.{ShowsWords}
use Rattle.sr_ctl.specs.SeenController.{SeenController}
use Rattle.sr_machine.specs.Core.{Core}
use Rattle.sr_machine.specs.declared.name.Name.{Name}
use Rattle.sr_picks.specs.Play.{Play, share_of}

-- what stands beside the machine
pub record StandingView : Type 0 where
  pub shares : List (List Packet)
  pub turns : ℕ
  pub waits : ℕ
  pub generator : ℕ

-- the round in this state
abbrev pub play_in : Core → StandingView → Play
play_in s r = record { state = s; shares = r.shares; turns = r.turns; waits = r.waits; generator = r.generator }

-- the round, where the machine's words are these
abbrev pub play_of : HeldCore → (Name → ℕ) → StandingView → Play
play_of h words r = play_in (state_of h words) r

-- for what doesn't ask the words
abbrev pub no_words : Name → ℕ
no_words name = 0

-- the round as these pipes and this controller have it
abbrev pub seen_play : List HeldPipe → SeenController → StandingView → Play
seen_play pipes c r =
    play_in (record { config = c.config; words = no_words; pipes = views_of pipes; controller = c.view }) r

-- the held machine stands for this round, with what stands beside it
abbrev pub StandsForPlay : HeldCore → StandingView → Play → Type 0
StandsForPlay h r p = (words : Name → ℕ) × ShowsWords h.config.layout h.words words × (p ≡ play_of h words r)

-- the round is what this makes of what it was
abbrev pub PlayMade : (Play → Play) → HeldCore → StandingView → HeldCore → StandingView → Type 0
PlayMade does old was new is =
    (words : Name → ℕ) → ShowsWords old.config.layout old.words words → StandsForPlay new is (does (play_of old words was))

-- ---- a packet is taken from a share

-- the first of the share of this number, which isn't left any more; none where nothing is left of it
abbrev pub TakesAt : Option Packet → ℕ → List (List Packet) → List (List Packet) → Type 0
TakesAt None pipe old new = (share_of (slice_get old pipe) ≡ []) × (new ≡ old)
TakesAt (Some packet) pipe old new =
    (rest : List Packet) × (share_of (slice_get old pipe) ≡ packet ∷ rest) × (new ≡ slice_set old pipe rest)

-- nothing else changes
abbrev pub TakesFrom : Option Packet → ℕ → StandingView → StandingView → Type 0
TakesFrom packet pipe old new = TakesAt packet pipe old.shares new.shares × (new.turns ≡ old.turns) × (new.waits ≡ old.waits)
    × (new.generator ≡ old.generator)
