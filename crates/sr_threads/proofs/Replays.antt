-- A run on threads comes to lines as every run does.
use Rattle.std.proofs.Common.{◌≡◌, ℕ, Bool, true, false, List, Option, None, Some, option_map, sym, subst, if◌then◌else◌}
use Rattle.std.proofs.lemmas.Option.{same_Some}
use Rattle.sr_base.specs.Key.{KeyView}
use Rattle.sr_inv_ends.proofs.Ending.{turns_settle}
use Rattle.sr_inv_ends.specs.Laws.{SettledAs, SettledFor, last_clock}
use Rattle.sr_inv_entered.specs.Entered.{given}
use Rattle.sr_inv_facts.specs.Fitted.{IsPacket}
use Rattle.sr_inv_facts.specs.InCauses.{setup_of}
use Rattle.sr_inv_final.specs.Reached.{IsReached}
use Rattle.sr_inv_final.specs.Rest.{AreIdle, setup_with}
use Rattle.sr_inv_lawful.proofs.Lawful.{settled_lawful}
use Rattle.sr_inv_lawful.proofs.Reached.{reached_more}
use Rattle.sr_inv_runs.proofs.Carried.{settled_keeps}
use Rattle.sr_inv_runs.proofs.Idle.{settled_idle}
use Rattle.sr_law.specs.Lawful.{IsLawful}
use Rattle.sr_law.specs.declared.line.Line.{Line}
use Rattle.sr_machine.specs.Controller.{controller_op}
use Rattle.sr_machine.specs.Core.{Core, lines_of, made, step_event, told}
use Rattle.sr_machine.specs.Keeping.{Brings}
use Rattle.sr_machine.specs.Telling.{may_refuse}
use Rattle.sr_machine.specs.declared.actor.Actor.TheVariants as actor
use Rattle.sr_machine.specs.declared.event.Event.{Event}
use Rattle.sr_machine.specs.declared.event.Event.TheVariants.{Due, Enter, Refuse, Step}
use Rattle.sr_machine.specs.declared.op.Op.{Op}
use Rattle.sr_machine.specs.declared.view.View.TheVariants.{OfController}
use Rattle.sr_rounds.specs.declared.timed.Timed.{Timed}
use Rattle.sr_script.specs.Fitting.{IsFitting}
use Rattle.sr_script.specs.Spelled.{Spelled}
use Rattle.sr_scripted.proofs.Keeps.{fitted}
use Rattle.sr_scripted.specs.Config.{config_of}
use Rattle.sr_scripted.specs.Played.{Replays, settled_for}
use Rattle.sr_threads.specs.Replayed.{RunsOnThreads}

-- ---- turns tell no time

abbrev HasClock : Option ℕ → Core → Type 0
HasClock clock s = s.controller.clock ≡ clock

abbrev IsControllers : Event → Type 0
IsControllers (Step actor.Controller) = Unit {0}
IsControllers Refuse = Unit {0}
IsControllers e = ⊥

timeless : (clock : Option ℕ) (s t : Core) (e : Event) → HasClock clock s → IsControllers e → step_event e s ≡ Some t → HasClock clock t
timeless clock s t (Step actor.Controller) h own q = at (controller_op s.config s.controller) q
  where
    at : (o : Option Op) → option_map (made s actor.Controller (OfController s.controller)) o ≡ Some t → HasClock clock t
    at None g = absurd (cc g)
    at (Some o) g = subst (HasClock clock) (same_Some (made s actor.Controller (OfController s.controller) o) t g) h
timeless clock s t Refuse h own q = at (may_refuse s.controller) q
  where
    at : (b : Bool) → told s (if b then Some (record s.controller { refusing = true }) else None) ≡ Some t → HasClock clock t
    at true g = subst (HasClock clock) (same_Some _ t g) h
    at false g = absurd (cc g)
timeless clock s t (Step (actor.Pipe p)) h own q = absurd own
timeless clock s t (Enter p packet) h own q = absurd own
timeless clock s t (Due ms) h own q = absurd own

-- ---- the whole run

pub replays : (s : Spelled) (packets : List Timed) (lines : List Line) (awaited : Option KeyView) → IsFitting s
    → RunsOnThreads (config_of s) packets lines awaited → Replays s packets lines awaited
replays s packets lines awaited f h = record {
  ends = record {
    last = h.last;
    before = (h.reached.events, h.reached.leads);
    state = h.state;
    turns = h.turns;
    reached = (there.events, there.leads);
    idle = still;
    all = h.all;
  };
  settled =
      subst (SettledFor (setup_of (config_of s)) s.changes (last_clock (config_of s) packets) awaited) (sym h.all)
      (subst (λ c. SettledFor (setup_of (config_of s)) s.changes c awaited (lines_of h.state)) clock
      (by awaited (turns_settle (config_of s) h.last h.state (settled_for awaited) (fitted s f) there h.leisure h.turns still)));
  lawful = λ may.
      subst (IsLawful (setup_with (config_of s) (given packets))) (sym h.all)
      (settled_lawful (config_of s) h.last h.state (settled_for awaited) (given packets) (fitted s f) h.reached h.idle h.leisure (h.handled may) h.turns);
}
  where
    there : IsReached (config_of s) h.state
    there =
        settled_keeps (IsReached (config_of s)) (Brings IsPacket) (reached_more (config_of s)) tt tt h.turns.0 h.last h.state (settled_for awaited) h.reached
        h.turns.1

    still : AreIdle h.state
    still = settled_idle h.turns.0 h.last h.state (settled_for awaited) h.idle h.turns.1

    clock : h.state.controller.clock ≡ last_clock (config_of s) packets
    clock =
        settled_keeps (HasClock (last_clock (config_of s) packets)) IsControllers (timeless (last_clock (config_of s) packets)) tt tt h.turns.0 h.last
        h.state (settled_for awaited) h.clock h.turns.1

    by : (o : Option KeyView) → SettledAs (config_of s) (settled_for o) h.state
        → SettledFor (setup_of (config_of s)) s.changes h.state.controller.clock o (lines_of h.state)
    by None z = z
    by (Some key) z = z
