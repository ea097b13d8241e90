-- The lines of a state in which nothing is left to do are settled.
use Rattle.std.proofs.Common.{◌≡◌, ℕ, ◌+◌, ◌&&◌, nat_lt, nat_le, Bool, true, false, List, [], ◌∷◌, ◌++◌, length, map, reverse, Some, None, Option, option_and_then, if◌then◌else◌, append-nil, sym, refl, ap, ◌∙◌, subst, arith}
use Rattle.std.proofs.lemmas.Bool.Decides.{nat_tests}
use Rattle.std.proofs.lemmas.List.{append_cancel_right, map-append}
use Rattle.std.proofs.lemmas.Option.{same_Some}
use Rattle.std.specs.List.{AllByRecursion, list_all}
use Rattle.sr_inv.proofs.Joined.{event_meets, invariant_begun, invariant_open}
use Rattle.sr_inv_facts.proofs.Lists.{all_front}
use Rattle.sr_inv_facts.specs.Fitted.{IsFitted, IsPacket}
use Rattle.sr_inv_facts.specs.InCauses.{setup_of}
use Rattle.sr_inv_facts.specs.InShape.{downing, servers_of}
use Rattle.sr_inv_facts.specs.InSweeps.{IsLastSweep}
use Rattle.sr_inv_facts.specs.InUpdate.{group_by}
use Rattle.sr_inv_facts.specs.Invariant.{Invariant}
use Rattle.sr_inv_facts.specs.Laws.{OpensWith}
use Rattle.sr_inv_final.specs.Reached.{IsReached}
use Rattle.sr_inv_order.proofs.Grouped.{pools_count}
use Rattle.sr_inv_order.proofs.Rising.{and_true}
use Rattle.sr_inv_settled.proofs.DueChanges.{all_often, downs_made, dues_begun, dues_made, none_due}
use Rattle.sr_inv_settled.proofs.GivesKept.{other_taken}
use Rattle.sr_inv_settled.specs.Laws.{FirstSettled}
use Rattle.sr_inv_settled.specs.Told.{DownsKept, GivesKept, IsTaken, due_of}
use Rattle.sr_law.specs.Groups.{after_gives, is_over, last_of_update}
use Rattle.sr_law.specs.Retire.{last_sweep}
use Rattle.sr_law.specs.Settled.{downs_of, downs_settled, due_downs, due_gives, gives_settled, is_number_as_often, sweep_time, sweeps_settled, update_settled}
use Rattle.sr_law.specs.declared.sweep.Sweep.{Sweep}
use Rattle.sr_machine.proofs.Kept.{event_keeps}
use Rattle.sr_machine.specs.Config.{Config}
use Rattle.sr_machine.specs.Core.{Core, lines_of, opening, printed, run, step_event}
use Rattle.sr_machine.specs.Keeping.{Brings, Keeps}
use Rattle.sr_machine.specs.Starting.{outage_act, outage_of, outage_start, sweep_act, sweep_of, with_job}
use Rattle.sr_machine.specs.declared.draw.Draw.TheVariants as draw
use Rattle.sr_machine.specs.Opening.{outages_in}
use Rattle.sr_machine.specs.declared.event.Event.{Event}
use Rattle.sr_machine.specs.declared.job.Job.TheVariants as job
use Rattle.sr_machine.specs.declared.outage.Outage.{Outage}
use Rattle.sr_update.specs.Updates.{has_come}

-- ---- a fact that every event keeps

module _ (Family : Core → Type 0) (keeps : Keeps IsPacket Invariant Family) where
  run_holds : (events : List Event) (s t : Core) → AllByRecursion (Brings IsPacket) events → run events s ≡ Some t → Invariant s → Family s
      → Family t
  run_holds [] s t a q i f = subst Family (same_Some s t q) f
  run_holds (e ∷ rest) s t a q i f = by (step_event e s) refl q (λ u. run_holds rest u t a.1)
    where
      by : (o : Option Core) → step_event e s ≡ o → option_and_then (run rest) o ≡ Some t
          → ((u : Core) → run rest u ≡ Some t → Invariant u → Family u → Family t)
          → Family t
      by None r g more = cc
      by (Some u) r g more =
          more u g (event_meets s u e i a.0 r) (event_keeps IsPacket Invariant Family keeps s u i (invariant_begun s i) f e a.0 r)

  -- it holds of every state that events lead to, where it holds at the opening
  pub reached_holds : OpensWith Family → (k : Config) (s : Core) → IsFitted k → IsReached k s → Family s
  reached_holds opens k s f r = run_holds r.events (opening k) s r.packets r.leads (invariant_open k f) (opens k f)

-- ---- changes of pools

module _ (s : Core) (i : Invariant s) (free : s.controller.job ≡ job.Free) where
  abbrev clock : Option ℕ
  clock = s.controller.clock

  pub gives_end : GivesKept s → AllByRecursion (λ g. has_come g.at_ms clock ≡ false) s.controller.gives
      → gives_settled (setup_of s.config) [] (due_gives clock [] 0 s.config.changes) (lines_of s) ≡ true
  gives_end h later =
      let none : h.taken ≡ [] =
      other_taken s.config s.controller.numbers s.controller.book.entries job.Free h.taken tt
      (subst (λ j. IsTaken s.config s.controller.numbers s.controller.book.entries j h.taken) free h.aim) in
      let whole = h.all ∙ ap (λ t. h.made ++ (t ++ s.controller.gives)) none in
      let come = all_front (λ g. has_come g.at_ms clock ≡ true) h.made h.taken h.due in
      subst (λ ds. gives_settled (setup_of s.config) [] ds (lines_of s) ≡ true) (sym (dues_made clock s.config.changes h.made s.controller.gives whole come later)) h.told

  pub gives_begun : GivesKept s → FirstSettled (setup_of s.config) s.config.changes clock (lines_of s)
  gives_begun h =
      let come = all_front (λ g. has_come g.at_ms clock ≡ true) h.made h.taken h.due in
      let begun = dues_begun clock s.config.changes h.made (h.taken ++ s.controller.gives) h.all come in
      record {
        count = length (map due_of h.made);
        told = subst (λ ds. gives_settled (setup_of s.config) [] ds (lines_of s) ≡ true) (sym begun) h.told;
      }

  -- ---- servers

  abbrev Outages : List Outage
  Outages = s.controller.outages

  first_later : outage_act s.controller ≡ None → (o : Outage) (rest : List Outage) → Outages ≡ o ∷ rest → has_come o.at_ms clock ≡ false
  first_later n o rest q = at (has_come o.at_ms clock) (subst (λ os. outage_of s.controller os ≡ None) q n)
    where
      at : (b : Bool) → (if b then Some (outage_start s.controller o rest) else None) ≡ None → b ≡ false
      at true e = cc
      at false e = refl

  pub downs_end : DownsKept s → outage_act s.controller ≡ None → downs_settled clock s.config.changes (printed s) ≡ true
  downs_end h n =
      let later = none_due clock s.config.changes h.made Outages i.shape.config.fits.in_time h.all (first_later n) in
      let due = downs_made clock s.config.changes h.made Outages h.all h.due later in
      let split : servers_of h.made ++ servers_of Outages ≡ s.controller.down ++ servers_of Outages =
      sym (map-append (λ o. o.server) h.made Outages)
      ∙ (ap servers_of (sym h.all)
      ∙ (subst (λ j. servers_of (outages_in s.config.changes) ≡ (s.controller.down ++ downing j) ++ servers_of Outages) free i.shape.controller.outages
      ∙ ap (λ ss. ss ++ servers_of Outages) (append-nil s.controller.down))) in
      let same : due_downs clock s.config.changes ≡ s.controller.down = due ∙ append_cancel_right _ _ _ split in
      subst (λ ds. (list_all (is_number_as_often ds (downs_of (printed s))) ds && list_all (is_number_as_often ds (downs_of (printed s))) (downs_of (printed s))) ≡ true) (sym same)
      (subst (λ ms. (list_all (is_number_as_often s.controller.down ms) s.controller.down && list_all (is_number_as_often s.controller.down ms) ms) ≡ true) (sym h.told)
      (and_true _ _ (all_often s.controller.down s.controller.down) (all_often s.controller.down (reverse s.controller.down))))

-- ---- updates and sweeps

pub update_end : (s : Core) → Invariant s → s.controller.update ≡ None → update_settled (setup_of s.config) (printed s) ≡ true
update_end s i none =
    ap (λ n. is_over (last_of_update (after_gives n (printed s)))) (pools_count s.config i.shape.config)
    ∙ subst (λ u. group_by u s.controller.vips s.controller.job (last_of_update (after_gives s.config.layout.vips (printed s))) ≡ true) none i.update.changes.group

pub sweeps_end : (s : Core) → Invariant s → sweep_act s.config s.controller ≡ None
    → sweeps_settled (setup_of s.config) s.controller.clock (printed s) ≡ true
sweeps_end s i n = at s.controller.clock n
  where
    time : (o : Option Sweep) → IsLastSweep s.controller.sweeps s.controller.swept_ms o → sweep_time o ≡ s.controller.swept_ms
    time None h = sym h.1
    time (Some w) h = sym h.1

    late : (ms : ℕ) (b : Bool) → nat_le (s.controller.swept_ms + s.config.layout.shape.idle_ms) ms ≡ b
        → (if b then Some (with_job s.controller (job.Draw (draw.From ms))) else None) ≡ None
        → nat_lt ms (sweep_time (last_sweep (printed s)) + s.config.layout.shape.idle_ms) ≡ true
    late ms true q e = cc
    late ms false q e =
        let same = time (last_sweep (printed s)) i.sweeps.sweeps.counted.last in grind (arith, nat_tests, same)

    at : (o : Option ℕ) → sweep_of s.config.layout.shape s.controller o ≡ None
        → sweeps_settled (setup_of s.config) o (printed s) ≡ true
    at None e = refl
    at (Some ms) e = late ms (nat_le (s.controller.swept_ms + s.config.layout.shape.idle_ms) ms) refl e
