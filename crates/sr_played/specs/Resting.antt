-- Runs whose tables rest while the pipes run: in each round one pipe after another handles its packets, each of them whole, and then
-- the controller makes its turns.
use Rattle.std.specs.Prelude.{◌≡◌, ℕ, ◌≤◌, true, List, [], ◌∷◌, Ok, Option}
use Rattle.std.specs.List.{AllByRecursion}
use Rattle.sr_base.specs.Key.{KeyView}
use Rattle.sr_capture.specs.Capture.{capture_of}
use Rattle.sr_capture.specs.Records.{Records}
use Rattle.sr_inv_runs.specs.Runs.{ArePackets}
use Rattle.sr_machine.specs.Config.{Config}
use Rattle.sr_machine.specs.Core.{Core, lines_of, opening}
use Rattle.sr_machine.specs.Settling.{Settles}
use Rattle.sr_machine.specs.declared.settled.Settled.{Settled}
use Rattle.sr_picks.specs.Play.{Play, acted, is_over}
use Rattle.sr_picks.specs.Run.{round_begun}
use Rattle.sr_played.specs.Captured.{played_packets}
use Rattle.sr_played.specs.Lines.{AreRunLines}
use Rattle.sr_rounds.specs.Rounds.{rounds_of}
use Rattle.sr_rounds.specs.declared.round.Round.{Round}
use Rattle.sr_rounds.specs.declared.timed.Timed.{Timed}
use Rattle.sr_script.specs.Fitting.{IsFitting}
use Rattle.sr_script.specs.Spelled.{Spelled}
use Rattle.sr_scripted.specs.Config.{config_of}
use Rattle.sr_scripted.specs.Played.{settled_for}

-- actors by their numbers: the acts of the first pipe come first, then those of the next, and those of the controller, whose number is
-- the greatest, come last
abbrev pub ByNumber : List ℕ → Type 0
ByNumber [] = Unit {0}
ByNumber (i ∷ rest) = AllByRecursion (λ j. i ≤ j) rest × ByNumber rest

-- acts by number lead to the end of the round, at which every pipe has handled its share; so each has when the next one begins, and all
-- have when the controller does
abbrev pub RestsTo : Play → Play → Type 0
RestsTo p q = (actors : List ℕ) × ByNumber actors × (acted actors p ≡ q) × (is_over q ≡ true)

-- these rounds lead from a state to another
abbrev pub RestingRounds : List Timed → List Round → Core → Core → Type 0
RestingRounds packets [] s t = t ≡ s
RestingRounds packets (r ∷ rest) s t = (q : Play) × RestsTo (round_begun packets r 0 s) q × RestingRounds packets rest q.state t

-- A run of these packets: all rounds, and then turns until they end so, in this state.
pub record RunsResting (k : Config) (packets : List Timed) (r : Settled) (t : Core) : Type 0 where
  pub state : Core
  pub rounds : RestingRounds packets (rounds_of k.layout.shape.window_ms packets) (opening k) state
  pub settles : Settles state r t

-- The lines of such a run over what is kept of a capture are those of a played capture.
abbrev pub RestingRunsHold : Type 0
RestingRunsHold =
    (s : Spelled) (bytes : List ℕ) (records : Records) (t : Core) (awaited : Option KeyView) → IsFitting s → capture_of bytes ≡ Ok records
    → ArePackets (played_packets s records)
    → RunsResting (config_of s) (played_packets s records) (settled_for awaited) t
    → AreRunLines s (played_packets s records) awaited (lines_of t)
