-- A whole run over plain words.
use Rattle.std.proofs.Common.{◌≡◌, ◌∙◌, ℕ, ◌++◌, List, Option, reverse, sym, ap, subst}
use Rattle.sr_base.specs.Key.{KeyView}
use Rattle.sr_core.specs.HeldCore.{Shows}
use Rattle.sr_core.specs.HeldPipe.{HeldPipe}
use Rattle.sr_core.specs.HeldPipes.{views_of}
use Rattle.sr_core.specs.PlainWords.{HeldWords}
use Rattle.sr_ctl.specs.SeenController.{SeenController}
use Rattle.sr_interleave.specs.Together.{held}
use Rattle.sr_inv_runs.specs.Runs.{ArePackets}
use Rattle.sr_law.specs.declared.line.Line.{Line}
use Rattle.sr_machine.specs.Config.{Config}
use Rattle.sr_machine.specs.Core.{Core, newest_first, opening, pipe_lines}
use Rattle.sr_machine.specs.declared.settled.Settled.{Settled}
use Rattle.sr_rounds.specs.Rounds.{rounds_of}
use Rattle.sr_rounds.specs.declared.round.Round.{Round}
use Rattle.sr_rounds.specs.declared.timed.Timed.{Timed}
use Rattle.sr_script.specs.Fitting.{IsFitting}
use Rattle.sr_script.specs.Spelled.{Spelled}
use Rattle.sr_scripted.proofs.Keeps.{plays}
use Rattle.sr_scripted.specs.Config.{config_of}
use Rattle.sr_scripted.specs.Played.{Plays, settled_for}
use Rattle.sr_stepped.proofs.Settled.{settled_so}
use Rattle.sr_stepped.specs.Running.{RunsTo}
use Rattle.sr_stepped.specs.Settling.{SettledOver}
use Rattle.sr_steps.proofs.Runs.{runs}
use Rattle.sr_steps.specs.Running.{PlaysRounds, Ran}

-- all rounds, the turns after them, and the lines of the state where these end
pub runs_to : (k : Config) (seed : ℕ) (packets : List Timed) (rounds : List Round) (board mid new : HeldWords) (ps qs : List HeldPipe)
    (c m d : SeenController) (r : Settled) (awaited : Option KeyView) (lines : List Line) → k ≡ c.config
    → Shows (held board ps c) (opening c.config)
    → rounds ≡ rounds_of c.config.layout.shape.window_ms packets
    → PlaysRounds packets rounds seed (held board ps c) (held mid qs m)
    → SettledOver r mid m new d → r ≡ settled_for awaited
    → lines ≡ reverse (newest_first (pipe_lines (views_of qs) ++ d.view.lines))
    → RunsTo c.config seed packets lines awaited
runs_to k seed packets rounds board mid new ps qs c m d r awaited lines is first cut played settled so all =
    let ran : Ran c.config seed packets (settled_for awaited) (held new qs d) =
    runs c.config seed packets (settled_for awaited) (held board ps c) (held mid qs m) (held new qs d) first
    (subst (λ (rs : List Round). PlaysRounds packets rs seed (held board ps c) (held mid qs m)) cut played)
    (settled_so r awaited mid new m d so settled qs) in record {
      state = ran.0;
      runs = ran.1;
      all = all ∙ ap (λ (s : Core). reverse (newest_first (pipe_lines s.pipes ++ s.controller.lines))) (sym ran.2.2);
    }

-- of a script's machine
pub plays_for : (s : Spelled) (k : Config) (seed : ℕ) (packets : List Timed) (lines : List Line) (awaited : Option KeyView) → IsFitting s
    → ArePackets packets → k ≡ config_of s → RunsTo k seed packets lines awaited → Plays s seed packets lines awaited
plays_for s k seed packets lines awaited f a e h =
    let there : RunsTo (config_of s) seed packets lines awaited = subst (λ (x : Config). RunsTo x seed packets lines awaited) e h in
    plays s seed packets lines awaited f a (record { state = there.state; runs = there.runs; all = there.all })
