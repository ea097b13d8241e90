-- What is proved of the end of a run, however its turns were come to: nothing is left to do, or an update waits for a key, as the turns say; so the lines are settled.
use Rattle.std.specs.Prelude.{◌≡◌, ℕ, true, List, [], ◌∷◌, if◌then◌else◌, None, Option, Some}
use Rattle.sr_base.specs.Key.{KeyView}
use Rattle.sr_base.specs.declared.change.Change.{Change}
use Rattle.sr_inv_facts.specs.Fitted.{IsFitted}
use Rattle.sr_inv_facts.specs.InCauses.{setup_of}
use Rattle.sr_inv_facts.specs.Invariant.{Invariant}
use Rattle.sr_inv_final.specs.Reached.{IsReached}
use Rattle.sr_inv_final.specs.Rest.{AreIdle}
use Rattle.sr_inv_rest.specs.Laws.{AtLeisure}
use Rattle.sr_inv_runs.specs.Runs.{ArePackets}
use Rattle.sr_inv_settled.specs.Laws.{SettledWaiting}
use Rattle.sr_inv_settled.specs.Quiet.{IsQuiet, IsWaiting}
use Rattle.sr_law.specs.Settled.{is_settled}
use Rattle.sr_law.specs.Setup.{SetupView}
use Rattle.sr_law.specs.declared.line.Line.{Line}
use Rattle.sr_machine.specs.Config.{Config}
use Rattle.sr_machine.specs.Core.{Core, lines_of}
use Rattle.sr_machine.specs.Settling.{Settles}
use Rattle.sr_machine.specs.declared.settled.Settled.{Settled}
use Rattle.sr_machine.specs.declared.settled.Settled.TheVariants as settled
use Rattle.sr_picks.specs.Run.{RunsByActs, RunsByPicks}
use Rattle.sr_machine.specs.Telling.{is_no_earlier}
use Rattle.sr_rounds.specs.Rounds.{rounds_of}
use Rattle.sr_rounds.specs.declared.round.Round.{Round}
use Rattle.sr_rounds.specs.declared.timed.Timed.{Timed}

-- the state is as the turns say that they end
abbrev pub EndsAs : Settled → Core → Type 0
EndsAs settled.Quiet t = IsQuiet t
EndsAs (settled.Waiting key) t = IsWaiting t key
EndsAs settled.Memory t = ⊥

-- turns that began with no look at the rings in progress end as they say, if they end with no packet in hand
abbrev pub TurnsEndSo : Type 0
TurnsEndSo = (s t : Core) (r : Settled) → AtLeisure s → Settles s r t → Invariant t → AreIdle t → EndsAs r t

-- A printed list is settled for these changes and this clock; or, where an update waits for a key, but for the changes of pools and the last update.
abbrev pub SettledFor : SetupView → List Change → Option ℕ → Option KeyView → List Line → Type 0
SettledFor setup changes clock None lines = is_settled setup changes clock lines ≡ true
SettledFor setup changes clock (Some key) lines = SettledWaiting setup changes clock lines key

-- the lines of the state are, as the turns say that they end
abbrev pub SettledAs : Config → Settled → Core → Type 0
SettledAs k settled.Quiet t = SettledFor (setup_of k) k.changes t.controller.clock None (lines_of t)
SettledAs k (settled.Waiting key) t = SettledFor (setup_of k) k.changes t.controller.clock (Some key) (lines_of t)
SettledAs k settled.Memory t = ⊥

-- so the lines after such turns are settled as they say, by whatever events they were come to
abbrev pub TurnsSettle : Type 0
TurnsSettle =
    (k : Config) (s t : Core) (r : Settled) → IsFitted k → IsReached k t → AtLeisure s → Settles s r t → AreIdle t → SettledAs k r t

-- those of a run round by round, whoever acts next
abbrev pub ActsSettle : Type 0
ActsSettle =
    (k : Config) (packets : List Timed) (r : Settled) (t : Core) → IsFitted k → ArePackets packets → RunsByActs k packets r t
    → SettledAs k r t

-- and those of a run by picks, whatever the seed picks
abbrev pub PicksSettle : Type 0
PicksSettle =
    (k : Config) (seed : ℕ) (packets : List Timed) (r : Settled) (t : Core) → IsFitted k → ArePackets packets
    → RunsByPicks k seed packets r t
    → SettledAs k r t

-- the clock once these rounds have begun: each tells the time of its beginning, which is taken unless the clock is past it
abbrev pub clock_after : Option ℕ → List Round → Option ℕ
clock_after clock [] = clock
clock_after clock (r ∷ rest) = clock_after (if is_no_earlier clock r.start_ms then Some r.start_ms else clock) rest

-- the clock of the last round of these packets
abbrev pub last_clock : Config → List Timed → Option ℕ
last_clock k packets = clock_after None (rounds_of k.layout.shape.window_ms packets)

-- at the end of a run round by round it is the controller's
abbrev pub ActsTellTime : Type 0
ActsTellTime =
    (k : Config) (packets : List Timed) (r : Settled) (t : Core) → RunsByActs k packets r t → t.controller.clock ≡ last_clock k packets

abbrev pub PicksTellTime : Type 0
PicksTellTime =
    (k : Config) (seed : ℕ) (packets : List Timed) (r : Settled) (t : Core) → RunsByPicks k seed packets r t
    → t.controller.clock ≡ last_clock k packets
