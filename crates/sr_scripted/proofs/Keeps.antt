-- What is left of a script's run, with what the lines of every run are.
use Rattle.std.proofs.Common.{◌≡◌, ℕ, List, None, Option, Some, subst, sym, refl}
use Rattle.sr_base.proofs.Ranges.{layout_ranges}
use Rattle.sr_base.specs.Key.{KeyView}
use Rattle.sr_inv_ends.proofs.Clocks.{acts_time}
use Rattle.sr_inv_ends.proofs.Ending.{acts_settle}
use Rattle.sr_inv_ends.specs.Laws.{SettledAs, SettledFor, last_clock}
use Rattle.sr_inv_facts.specs.InCauses.{setup_of}
use Rattle.sr_inv_entered.proofs.Lawful.{acts_lawful, picks_lawful}
use Rattle.sr_inv_entered.specs.Entered.{given}
use Rattle.sr_inv_facts.specs.Fitted.{IsFitted}
use Rattle.sr_inv_final.specs.Rest.{setup_with}
use Rattle.sr_inv_runs.proofs.Picked.{acts_idle}
use Rattle.sr_inv_runs.specs.Runs.{ArePackets}
use Rattle.sr_law.specs.Lawful.{IsLawful}
use Rattle.sr_law.specs.declared.line.Line.{Line}
use Rattle.sr_machine.specs.Core.{Core, lines_of}
use Rattle.sr_picks.proofs.Acts.{run_acts}
use Rattle.sr_picks.specs.Run.{RunsByActs}
use Rattle.sr_rounds.specs.declared.timed.Timed.{Timed}
use Rattle.sr_script.specs.Fitting.{IsFitting}
use Rattle.sr_script.specs.Spelled.{Spelled}
use Rattle.sr_scripted.specs.Config.{config_of}
use Rattle.sr_picks.proofs.Runs.{acts_run_reached, rounds_run_reached}
use Rattle.sr_scripted.specs.Played.{AreSettled, ActsLeadTo, LeadsTo, Plays, Replays, settled_for}

-- a script that is good is for a machine that may run
pub fitted : (s : Spelled) → IsFitting s → IsFitted (config_of s)
fitted s h = record { layout = layout_ranges _ _ _ h.layout; first = s.first; fits = h.fits; pools = refl }

-- the lines of the state that a run round by round ends in are settled as its turns say that they end
settled_so : (s : Spelled) (packets : List Timed) (lines : List Line) (awaited : Option KeyView) (t : Core) → IsFitting s → ArePackets packets
    → RunsByActs (config_of s) packets (settled_for awaited) t → lines ≡ lines_of t
    → AreSettled s packets lines awaited
settled_so s packets lines awaited t f a h all =
    subst (SettledFor (setup_of (config_of s)) s.changes (last_clock (config_of s) packets) awaited) (sym all)
    (subst (λ c. SettledFor (setup_of (config_of s)) s.changes c awaited (lines_of t)) (acts_time (config_of s) packets (settled_for awaited) t h)
    (by awaited (acts_settle (config_of s) packets (settled_for awaited) t (fitted s f) a h)))
  where
    by : (o : Option KeyView) → SettledAs (config_of s) (settled_for o) t
        → SettledFor (setup_of (config_of s)) s.changes t.controller.clock o (lines_of t)
    by None z = z
    by (Some key) z = z

pub plays : (s : Spelled) (seed : ℕ) (packets : List Timed) (lines : List Line) (awaited : Option KeyView) → IsFitting s → ArePackets packets
    → LeadsTo s seed packets lines awaited → Plays s seed packets lines awaited
plays s seed packets lines awaited f a h = record {
  leads = h;
  settled = settled_so s packets lines awaited h.state f a (run_acts (config_of s) seed packets (settled_for awaited) h.state h.runs) h.all;
  lawful = λ may.
      subst (IsLawful (setup_with (config_of s) (given packets))) (sym h.all)
      (picks_lawful (config_of s) seed packets (settled_for awaited) h.state (fitted s f) a may h.runs);
}

pub replays : (s : Spelled) (packets : List Timed) (lines : List Line) (awaited : Option KeyView) → IsFitting s → ArePackets packets
    → ActsLeadTo s packets lines awaited → Replays s packets lines awaited
replays s packets lines awaited f a h =
    let k = config_of s in
    let r = settled_for awaited in record {
      ends = record {
        last = h.runs.state;
        before = rounds_run_reached k packets r h.state h.runs;
        state = h.state;
        turns = h.runs.settles;
        reached = acts_run_reached k packets r h.state h.runs;
        idle = acts_idle k packets r h.state (fitted s f) a h.runs;
        all = h.all;
      };
      settled = settled_so s packets lines awaited h.state f a h.runs h.all;
      lawful = λ may. subst (IsLawful (setup_with k (given packets))) (sym h.all) (acts_lawful k packets r h.state (fitted s f) a may h.runs);
    }
