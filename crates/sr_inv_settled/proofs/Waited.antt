-- Where an update waits for a key, the lines tell why.
use Rattle.std.proofs.Common.{◌≡◌, ℕ, true, false, ◌⊎◌, inl, inr, List, [], ◌∷◌, is_none, is_some, Some, None, Option, sym, refl, ap, ◌∙◌, subst}
use Rattle.std.proofs.lemmas.Bool.{and_parts}
use Rattle.sr_base.specs.Key.{KeyView}
use Rattle.sr_base.specs.declared.place.Place.{Place}
use Rattle.sr_base.specs.declared.vip_word.Phase.{Phase}
use Rattle.sr_base.specs.declared.vip_word.Phase.TheVariants.{Steady, Recording, Holding, Transit}
use Rattle.sr_inv_facts.proofs.Lists.{all_in}
use Rattle.sr_inv_facts.proofs.Pipes.{idle}
use Rattle.sr_inv_facts.specs.Flying.{IsLeaving}
use Rattle.sr_inv_facts.specs.InCauses.{endings_in, setup_of}
use Rattle.sr_inv_facts.specs.InOpenings.{EntryOpened, IsUnopened}
use Rattle.sr_inv_facts.specs.InUpdate.{group_by, group_of_phase}
use Rattle.sr_inv_facts.specs.Invariant.{Invariant}
use Rattle.sr_inv_facts.specs.Readings.{In}
use Rattle.sr_inv_matching.proofs.Members.{in_found, in_own}
use Rattle.sr_inv_order.proofs.Grouped.{pools_count}
use Rattle.sr_inv_settled.proofs.Placing.{pending_full}
use Rattle.sr_inv_settled.proofs.Quieting.{stands_there}
use Rattle.sr_inv_settled.proofs.Standing.{stands_as}
use Rattle.sr_inv_settled.specs.Quiet.{IsWaiting}
use Rattle.sr_law.specs.Groups.{after_gives, is_over, last_of_update, was_recorded, was_switched}
use Rattle.sr_law.specs.Opening.{is_open, opening}
use Rattle.sr_law.specs.Rows.{is_group_full}
use Rattle.sr_law.specs.Settled.{standing, update_settled}
use Rattle.sr_law.specs.declared.line.Line.{Line}
use Rattle.sr_law.specs.declared.opening.Opening.{Opening}
use Rattle.sr_machine.specs.Core.{Core, printed}
use Rattle.sr_machine.specs.Deciding.{vip_at}
use Rattle.sr_machine.specs.Settling.{awaited_by, awaited_in}
use Rattle.sr_machine.specs.declared.pool_update.PoolUpdate.{PoolUpdate}
use Rattle.sr_shadow.proofs.Finding.{found_passes}
use Rattle.sr_shadow.specs.Book.{entry_for}
use Rattle.sr_shadow.specs.Entry.{is_pending}
use Rattle.sr_shadow.specs.declared.entry.Entry.{Entry}
use Rattle.sr_update.specs.Waits.{recording_waits_for, transit_waits_for}
use Rattle.sr_machine.specs.declared.job.Job.TheVariants as job
use Rattle.sr_law.specs.declared.line.Line.TheVariants as line

-- the last line of an update that was recorded or switched isn't the end of one
recorded_on : (vip : ℕ) (o : Option Line) → was_recorded vip o ≡ true → is_over o ≡ false
recorded_on vip None e = cc
recorded_on vip (Some (line.Recorded out to)) e = refl
recorded_on vip (Some (line.Finished out to)) e = cc
recorded_on vip (Some l) e = cc

switched_on : (vip : ℕ) (o : Option Line) → was_switched vip o ≡ true → is_over o ≡ false
switched_on vip None e = cc
switched_on vip (Some (line.Switched out to pool)) e = refl
switched_on vip (Some (line.Finished out to)) e = cc
switched_on vip (Some l) e = cc

module _ (s : Core) (i : Invariant s) (key : KeyView) (h : IsWaiting s key) where
  abbrev es : List Entry
  es = s.controller.book.entries

  -- the update that waits, in a phase in which keys are placed
  record Waits : Type 0 where
    update : PoolUpdate
    on : s.controller.update ≡ Some update
    phase : ((vip_at s.controller.vips update.vip).phase ≡ Recording) ⊎ ((vip_at s.controller.vips update.vip).phase ≡ Transit)
    pending : is_pending h.entry ≡ true
    member : In h.entry es

  waits : Waits
  waits = at s.controller.update refl h.awaits
    where
      by : (u : PoolUpdate) → s.controller.update ≡ Some u → (p : Phase) → (vip_at s.controller.vips u.vip).phase ≡ p
          → awaited_in s.controller u p ≡ Some h.entry → Waits
      by u q Steady r e = cc
      by u q Holding r e = cc
      by u q Recording r e = record {
        update = u;
        on = q;
        phase = inl r;
        pending = (and_parts _ _ (found_passes (recording_waits_for u.vip s.controller.mark) es h.entry e)).0;
        member = in_found (recording_waits_for u.vip s.controller.mark) es h.entry e;
      }
      by u q Transit r e = record {
        update = u;
        on = q;
        phase = inr r;
        pending = (and_parts _ _ (found_passes (transit_waits_for u.vip u.replaced) es h.entry e)).0;
        member = in_found (transit_waits_for u.vip u.replaced) es h.entry e;
      }

      at : (o : Option PoolUpdate) → s.controller.update ≡ o → awaited_by s.controller o ≡ Some h.entry → Waits
      at None q e = cc
      at (Some u) q e = by u q (vip_at s.controller.vips u.vip).phase refl e

  -- its key's entry
  own : entry_for key es ≡ Some h.entry
  own = ap (λ k. entry_for k es) (sym h.own) ∙ in_own es h.entry i.shape.book.distinct waits.member

  unplaced : h.entry.place ≡ None
  unplaced = at h.entry.place waits.pending
    where
      at : (o : Option Place) → is_none o ≡ true → o ≡ None
      at None e = refl
      at (Some p) e = cc

  pub waits_full : is_group_full s.config.layout.shape (printed s) key ≡ true
  waits_full = pending_full s i h.nothing key h.entry own unplaced

  pub waits_unplaced : standing key [] (printed s) ≡ []
  waits_unplaced = at (standing key [] (printed s)) (λ tick m. none tick m)
    where
      none : (tick : ℕ) → In tick (standing key [] (printed s)) → ⊥
      none tick m =
          let stand = stands_as (setup_of s.config) (endings_in s.pipes (printed s)) (printed s) i.causes.causes.clauses key [] tick m in
          let place : None ≡ Some stand.place = sym unplaced ∙ stands_there s i h.nothing key h.entry own stand.place stand.has in absurd (cc place)

      at : (xs : List ℕ) → ((tick : ℕ) → In tick xs → ⊥) → xs ≡ []
      at [] n = refl
      at (x ∷ xs) n = absurd (n x (inl refl))

  pub waits_open : is_open (printed s) key ≡ true
  waits_open = subst (λ k. is_open (printed s) k ≡ true) h.own (at (opening (printed s) h.entry.key) refl opened)
    where
      opened : EntryOpened s.config s.controller.vips s.controller.named s.controller.down job.Free s.pipes h.entry (opening (printed s) h.entry.key)
      opened = subst (λ j. EntryOpened s.config s.controller.vips s.controller.named s.controller.down j s.pipes h.entry (opening (printed s) h.entry.key)) h.nothing.free
          (all_in (λ e. EntryOpened s.config s.controller.vips s.controller.named s.controller.down s.controller.job s.pipes e (opening (printed s) e.key)) es h.entry i.openings.openings.entry waits.member)

      un : IsUnopened s.config s.controller.vips s.controller.named s.controller.down job.Free s.pipes h.entry → ⊥
      un (inl (p, (n, v, g, leaving))) = subst (IsLeaving h.entry.key h.entry.version) (idle v.stage (h.nothing.idle n v g)) leaving
      un (inr t) = t.awaited

      at : (o : Option Opening) → opening (printed s) h.entry.key ≡ o
          → EntryOpened s.config s.controller.vips s.controller.named s.controller.down job.Free s.pipes h.entry o
          → is_some (opening (printed s) h.entry.key) ≡ true
      at None q t = absurd (un t)
      at (Some o) q t = ap is_some q

  pub waits_begun : update_settled (setup_of s.config) (printed s) ≡ false
  waits_begun =
      ap (λ n. is_over (last_of_update (after_gives n (printed s)))) (pools_count s.config i.shape.config) ∙ at waits.phase
    where
      last : Option Line
      last = last_of_update (after_gives s.config.layout.vips (printed s))

      group : (p : Phase) → (vip_at s.controller.vips waits.update.vip).phase ≡ p
          → group_of_phase waits.update (vip_at s.controller.vips waits.update.vip) job.Free p (last_of_update (after_gives s.config.layout.vips (printed s))) ≡ true
      group p q =
          subst (λ p. group_of_phase waits.update (vip_at s.controller.vips waits.update.vip) job.Free p (last_of_update (after_gives s.config.layout.vips (printed s))) ≡ true) q
          (subst (λ o. group_by o s.controller.vips job.Free (last_of_update (after_gives s.config.layout.vips (printed s))) ≡ true) waits.on
          (subst (λ j. group_by s.controller.update s.controller.vips j (last_of_update (after_gives s.config.layout.vips (printed s))) ≡ true) h.nothing.free i.update.changes.group))

      at : ((vip_at s.controller.vips waits.update.vip).phase ≡ Recording) ⊎ ((vip_at s.controller.vips waits.update.vip).phase ≡ Transit)
          → is_over (last_of_update (after_gives s.config.layout.vips (printed s))) ≡ false
      at (inl r) = recorded_on waits.update.vip _ (group Recording r)
      at (inr r) = switched_on waits.update.vip _ (group Transit r)
