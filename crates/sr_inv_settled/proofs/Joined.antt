-- The lines of a state that events led to, once nothing is left to do.
use Rattle.std.proofs.Common.{◌≡◌, true, ◌&&◌, sym, ap, ◌∙◌, subst}
use Rattle.std.proofs.lemmas.List.{reverse-reverse}
use Rattle.sr_inv.proofs.Joined.{reached_meets}
use Rattle.sr_inv_facts.specs.Fitted.{IsFitted}
use Rattle.sr_inv_facts.specs.InCauses.{setup_of}
use Rattle.sr_inv_facts.specs.Invariant.{Invariant}
use Rattle.sr_inv_final.specs.Reached.{IsReached}
use Rattle.sr_inv_order.proofs.Rising.{and_true}
use Rattle.sr_inv_settled.proofs.DownsKept.{downs_keep, downs_open}
use Rattle.sr_inv_settled.proofs.Ending.{downs_end, gives_begun, gives_end, reached_holds, sweeps_end, update_end}
use Rattle.sr_inv_settled.proofs.GivesKept.{gives_keep, gives_open}
use Rattle.sr_inv_settled.proofs.Placing.{all_placed}
use Rattle.sr_inv_settled.proofs.Quieting.{none_quiet}
use Rattle.sr_inv_settled.proofs.UsedJobs.{uses_keep, uses_open}
use Rattle.sr_inv_settled.proofs.Waited.{waits_begun, waits_full, waits_open, waits_unplaced}
use Rattle.sr_inv_settled.specs.Laws.{QuietIsSettled, SettledWaiting, WaitingIsSettled, WaitsFor}
use Rattle.sr_inv_settled.specs.Quiet.{HasNothingToDo, IsQuiet}
use Rattle.sr_inv_settled.specs.Told.{DownsKept, GivesKept}
use Rattle.sr_inv_settled.specs.Used.{UsesAreTold}
use Rattle.sr_law.specs.Retire.{last_sweep}
use Rattle.sr_law.specs.Settled.{downs_settled, is_settled, is_settled_waiting, places_settled, quiet_settled, sweeps_settled, update_settled}
use Rattle.sr_machine.proofs.Kept.{reached_config}
use Rattle.sr_machine.specs.Config.{Config}
use Rattle.sr_machine.specs.Core.{Core, lines_of, printed}

module _ (k : Config) (s : Core) (f : IsFitted k) (r : IsReached k s) where
  meets : Invariant s
  meets = reached_meets k f r.events s r.packets r.leads

  same : s.config ≡ k
  same = reached_config k s (r.events, r.leads)

  -- what holds with an update that waits, too
  idle_settled : HasNothingToDo s → is_settled_waiting (setup_of s.config) s.config.changes s.controller.clock (lines_of s) ≡ true
  unfolding is_settled_waiting
  idle_settled h =
      let i = meets in
      let downs = downs_end s i h.free (reached_holds DownsKept downs_keep downs_open k s f r) h.none.outage in
      let quiet = none_quiet s i h (reached_holds UsesAreTold uses_keep uses_open k s f r).used in
      subst (λ all. (downs_settled s.controller.clock s.config.changes all && places_settled (setup_of s.config) all && sweeps_settled (setup_of s.config) s.controller.clock all && quiet_settled (setup_of s.config) all (last_sweep all)) ≡ true)
      (sym (reverse-reverse (printed s)))
      (and_true _ _ (and_true _ _ (and_true _ _ downs (all_placed s i h)) (sweeps_end s i h.none.sweep)) quiet)

  whole_settled : IsQuiet s → is_settled (setup_of s.config) s.config.changes s.controller.clock (lines_of s) ≡ true
  unfolding is_settled
  whole_settled h =
      let i = meets in
      let gives = gives_end s i h.nothing.free (reached_holds GivesKept gives_keep gives_open k s f r) h.later in
      let update = ap (update_settled (setup_of s.config)) (reverse-reverse (printed s)) ∙ update_end s i h.over in
      and_true _ _ (and_true _ _ gives update) (idle_settled h.nothing)

pub quiet : QuietIsSettled
quiet k s f r h =
    subst (λ c. is_settled (setup_of c) c.changes s.controller.clock (lines_of s) ≡ true) (same k s f r) (whole_settled k s f r h)

pub waiting : WaitingIsSettled
waiting k s key f r h =
    let i = meets k s f r in
    subst (λ c. SettledWaiting (setup_of c) c.changes s.controller.clock (lines_of s) key) (same k s f r) (record {
      settled = idle_settled k s f r h.nothing;
      first = gives_begun s i h.nothing.free (reached_holds GivesKept gives_keep gives_open k s f r);
      waits = subst (λ ls. WaitsFor (setup_of s.config) ls key) (sym (reverse-reverse (printed s))) (record {
        begun = waits_begun s i key h;
        opened = waits_open s i key h;
        unplaced = waits_unplaced s i key h;
        full = waits_full s i key h;
      });
    })
