-- The controller's steps keep its lists in range.
use Rattle.std.proofs.Common.{◌≡◌, ℕ, zero, suc, ◌+◌, ◌<◌, Bool, true, false, ◌||◌, List, [], ◌∷◌, length, ◌==◌, slice_index_or, slice_set, Some, None, refl, ◌∙◌, arith}
use Rattle.std.proofs.lemmas.Bool.Decides.{nat_tests}
use Rattle.std.proofs.lemmas.List.{length-set}
use Rattle.std.specs.List.{AllByRecursion}
use Rattle.sr_base.specs.Key.{KeyView}
use Rattle.sr_base.specs.Layout.{IsLayout, LayoutView}
use Rattle.sr_base.specs.declared.vip_word.Phase.{Phase}
use Rattle.sr_base.specs.declared.vip_word.Phase.TheVariants.{Steady, Recording, Holding, Transit}
use Rattle.sr_base.specs.declared.vip_word.VipWord.{VipWord}
use Rattle.sr_inv_facts.specs.InShape.{JobFits, RowsFit, downing}
use Rattle.sr_machine.specs.Config.{Config}
use Rattle.sr_machine.specs.Draws.{cleared_job, phase_job}
use Rattle.sr_machine.specs.Goes.{Goes}
use Rattle.sr_machine.specs.Jobs.{book_next}
use Rattle.sr_machine.specs.Stores.{vip_draw}
use Rattle.sr_machine.specs.Waiting.{all_passed, has_next, is_ring_done, live_job, passed_phase, waited_job, waited_phase}
use Rattle.sr_machine.specs.declared.controller_view.ControllerView.{ControllerView}
use Rattle.sr_machine.specs.declared.job.Job.{Job}
use Rattle.sr_machine.specs.declared.pool_update.PoolUpdate.{PoolUpdate}
use Rattle.sr_machine.specs.declared.put.Aim.{Aim}
use Rattle.sr_machine.specs.declared.put.Put.{Put}
use Rattle.sr_machine.specs.declared.wait.Wait.{Wait}
use Rattle.sr_machine.specs.declared.why.Why.{Why}
use Rattle.sr_shadow.specs.declared.entry.Entry.{Entry}
use Rattle.sr_machine.specs.Goes as go
use Rattle.sr_machine.specs.declared.wait.Wait.TheVariants as wait
use Rattle.sr_machine.specs.declared.why.Why.TheVariants as why
use Rattle.sr_machine.specs.declared.put.Aim.TheVariants as aim
use Rattle.sr_machine.specs.declared.job.Job.TheVariants as job

-- ---- which job follows

module _ (k : Config) (i : IsLayout k.layout) where
  passed_phase_fits : (u : PoolUpdate) (p : Phase) → JobFits k.layout (passed_phase u p)
  passed_phase_fits u Steady = tt
  passed_phase_fits u Recording = (omega (arith, i.pipes.0), omega (arith, i.ring.0), tt)
  passed_phase_fits u Holding = tt
  passed_phase_fits u Transit = (omega (arith, i.pipes.0), omega (arith, i.ring.0), tt)

  all_passed_fits : (w : Wait) → JobFits k.layout (all_passed w)
  all_passed_fits (wait.Judge p) = (omega (arith, i.pipes.0), omega (arith, i.ring.0), tt)
  all_passed_fits (wait.Live p) = (omega (arith, i.pipes.0), omega (arith, i.ring.0), tt)
  all_passed_fits (wait.Retire key) = (omega (arith, i.pipes.0), omega (arith, i.ring.0), tt)
  all_passed_fits (wait.Comes u p) = passed_phase_fits u p
  all_passed_fits (wait.Release vip n) = (omega (arith, i.pipes.0), omega (arith, i.ring.0), tt)

  live_fits : (vips : List VipWord) (entries : List Entry) (p : Put) (a : Aim) → JobFits k.layout (live_job vips entries p a)
  live_fits vips entries p aim.Pending = tt
  live_fits vips entries p (aim.Held h) = tt
  live_fits vips entries p (aim.Move from planned) = tt

  waited_phase_fits : (u : PoolUpdate) (p : Phase) → JobFits k.layout (waited_phase u p)
  waited_phase_fits u Steady = tt
  waited_phase_fits u Recording = tt
  waited_phase_fits u Holding = tt
  waited_phase_fits u Transit = tt

  waited_fits : (vips : List VipWord) (entries : List Entry) (w : Wait) → JobFits k.layout (waited_job vips entries w)
  waited_fits vips entries (wait.Judge p) = tt
  waited_fits vips entries (wait.Live p) = live_fits vips entries p p.aim
  waited_fits vips entries (wait.Retire key) = tt
  waited_fits vips entries (wait.Comes u p) = waited_phase_fits u p
  waited_fits vips entries (wait.Release vip n) = tt

  phase_fits : (u : PoolUpdate) (p : Phase) → JobFits k.layout (phase_job u p)
  phase_fits u Steady = tt
  phase_fits u Recording = tt
  phase_fits u Holding = tt
  phase_fits u Transit = tt

  vip_draw_fits : (u : PoolUpdate) (p : Phase) → JobFits k.layout (job.Draw (vip_draw u p))
  vip_draw_fits u Steady = tt
  vip_draw_fits u Recording = tt
  vip_draw_fits u Holding = tt
  vip_draw_fits u Transit = tt

  cleared_fits : (key : KeyView) (w : Why) → JobFits k.layout (cleared_job key w)
  cleared_fits key (why.Withdrawn None) = tt
  cleared_fits key (why.Withdrawn (Some r)) = tt
  cleared_fits key why.Source = tt
  cleared_fits key (why.Retired n) = tt

  next_below : (pipe : ℕ) → has_next k.layout pipe ≡ true → pipe + 1 < k.layout.shape.pipes
  next_below pipe e = grind (arith, nat_tests)

  count_below : (count x : ℕ) → count < k.layout.shape.ring → is_ring_done k.layout count x ≡ false
      → count + 1 < k.layout.shape.ring
  count_below count x h e = at (x == 0) ((count + 1) == k.layout.shape.ring) refl e
    where
      at : (a b : Bool) → ((count + 1) == k.layout.shape.ring) ≡ b → (a || b) ≡ false → count + 1 < k.layout.shape.ring
      at true b q e = cc
      at false true q e = cc
      at false false q e = grind (arith, nat_tests)

  -- the job that follows is in range
  pub job_fits : (c : ControllerView) (x : ℕ) (j m : Job) → Goes k c x j m → JobFits k.layout j → JobFits k.layout m
  job_fits c x j m go.stays_free h = tt
  job_fits c x j m (go.waits w) h = omega (arith, i.pipes.0)
  job_fits c x j m (go.refused n) h = tt
  job_fits c x j m (go.taken_down n) h = tt
  job_fits c x j m (go.given u) h = tt
  job_fits c x j m (go.comes u p) h = phase_fits u p
  job_fits c x j m (go.reserved p) h = tt
  job_fits c x j m (go.placed p) h = tt
  job_fits c x j m (go.cleared key place w) h = cleared_fits key w
  job_fits c x j m (go.retired key place n) h = tt
  job_fits c x j m (go.answered r) h = tt
  job_fits c x j m (go.sweep_begins ms e place s) h = tt
  job_fits c x j m (go.sweep_empty ms e) h = tt
  job_fits c x j m (go.swept from ms) h = tt
  job_fits c x j m (go.downed n) h = tt
  job_fits c x j m (go.member_next u n e) h = tt
  job_fits c x j m (go.member_last u n e) h = tt
  job_fits c x j m (go.head u) h = tt
  job_fits c x j m (go.phase_stored u p) h = vip_draw_fits u p
  job_fits c x j m (go.filter_next u n e) h = tt
  job_fits c x j m (go.filter_last u n e) h = tt
  job_fits c x j m (go.reserve_stored p) h = tt
  job_fits c x j m (go.judged_live p e) h = tt
  job_fits c x j m (go.judged_withdrawn p e) h = tt
  job_fits c x j m (go.emptied key place w) h = tt
  job_fits c x j m (go.pass_stays g pipe w e) h = h
  job_fits c x j m (go.pass_next g pipe w e n) h = next_below pipe n
  job_fits c x j m (go.pass_last g pipe w e n) h = all_passed_fits w
  job_fits c x j m (go.drain_stays pipe count w e) h = (h.0, count_below count x h.1 e, h.2)
  job_fits c x j m (go.drain_next pipe count w e n) h = (next_below pipe n, omega (arith, i.ring.0), h.2)
  job_fits c x j m (go.drain_last pipe count w e n) h = waited_fits c.vips (book_next k c (job.Drain pipe count w) x).entries w
  job_fits c x j m (go.look_next pipe e n) h = next_below pipe n
  job_fits c x j m (go.look_last pipe e n) h = tt
  job_fits c x j m (go.look_took pipe e) h = tt
  job_fits c x j m (go.hit_next from ms key place n e at s) h = tt
  job_fits c x j m (go.hit_last from ms key place n e) h = tt

-- ---- no other job takes a server down

none_phase : (u : PoolUpdate) (p : Phase) → downing (phase_job u p) ≡ []
none_phase u Steady = refl
none_phase u Recording = refl
none_phase u Holding = refl
none_phase u Transit = refl

none_vip : (u : PoolUpdate) (p : Phase) → downing (job.Draw (vip_draw u p)) ≡ []
none_vip u Steady = refl
none_vip u Recording = refl
none_vip u Holding = refl
none_vip u Transit = refl

none_cleared : (key : KeyView) (w : Why) → downing (cleared_job key w) ≡ []
none_cleared key (why.Withdrawn None) = refl
none_cleared key (why.Withdrawn (Some r)) = refl
none_cleared key why.Source = refl
none_cleared key (why.Retired n) = refl

none_passed_phase : (u : PoolUpdate) (p : Phase) → downing (passed_phase u p) ≡ []
none_passed_phase u Steady = refl
none_passed_phase u Recording = refl
none_passed_phase u Holding = refl
none_passed_phase u Transit = refl

none_passed : (w : Wait) → downing (all_passed w) ≡ []
none_passed (wait.Comes u p) = none_passed_phase u p
none_passed w = refl

none_live : (vips : List VipWord) (entries : List Entry) (p : Put) (a : Aim) → downing (live_job vips entries p a) ≡ []
none_live vips entries p aim.Pending = refl
none_live vips entries p (aim.Held h) = refl
none_live vips entries p (aim.Move from planned) = refl

none_waited_phase : (u : PoolUpdate) (p : Phase) → downing (waited_phase u p) ≡ []
none_waited_phase u Steady = refl
none_waited_phase u Recording = refl
none_waited_phase u Holding = refl
none_waited_phase u Transit = refl

none_waited : (vips : List VipWord) (entries : List Entry) (w : Wait) → downing (waited_job vips entries w) ≡ []
none_waited vips entries (wait.Live p) = none_live vips entries p p.aim
none_waited vips entries (wait.Comes u p) = none_waited_phase u p
none_waited vips entries w = refl

-- only a beginning sets a job that takes a server down
pub none_downed : (k : Config) (c : ControllerView) (x : ℕ) (j m : Job) → Goes k c x j m → downing m ≡ []
none_downed k c x j m (go.comes u p) = none_phase u p
none_downed k c x j m (go.cleared key place w) = none_cleared key w
none_downed k c x j m (go.phase_stored u p) = none_vip u p
none_downed k c x j m (go.pass_last g pipe w e n) = none_passed w
none_downed k c x j m (go.drain_last pipe count w e n) = none_waited c.vips (book_next k c (job.Drain pipe count w) x).entries w
none_downed k c x j m g = refl

-- ---- rows

-- a row of a list of rows keeps its length where one of its elements changes
pub row_set : {X : Type 0} (n : ℕ) (rows : List (List X)) (vip at : ℕ) (x : X) → AllByRecursion (λ row. length row ≡ n) rows
    → AllByRecursion (λ row. length row ≡ n) (slice_set rows vip (slice_set (slice_index_or rows vip []) at x))
row_set n [] vip at x a = tt
row_set n (row ∷ rows) zero at x a = (length-set row at x ∙ a.0, a.1)
row_set n (row ∷ rows) (suc vip) at x a = (a.0, row_set n rows vip at x a.1)

pub rows_set : {X : Type 0} (l : LayoutView) (rows : List (List X)) (vip at : ℕ) (x : X) → RowsFit l rows
    → RowsFit l (slice_set rows vip (slice_set (slice_index_or rows vip []) at x))
rows_set l rows vip at x h = record {
  count = length-set rows vip (slice_set (slice_index_or rows vip []) at x) ∙ h.count;
  each = row_set l.shape.versions rows vip at x h.each;
}
