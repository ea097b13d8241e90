-- Each step keeps the open group of update lines that of its phase.
use Rattle.std.proofs.Common.{◌≡◌, ℕ, ◌+◌, ◌≤◌, Bool, true, false, List, ◌∷◌, ◌++◌, length, if◌then◌else◌, ◌==◌, slice_set, Some, None, Option, option_to_list, sym, refl, ap, ◌∙◌, arith}
use Rattle.std.proofs.lemmas.Bool.Decides.{nat_tests}
use Rattle.sr_base.specs.Key.{KeyView}
use Rattle.sr_base.specs.declared.vip_word.Phase.{Phase}
use Rattle.sr_base.specs.declared.vip_word.Phase.TheVariants.{Steady, Recording, Holding, Transit}
use Rattle.sr_base.specs.declared.vip_word.VipWord.{VipWord}
use Rattle.sr_inv_facts.specs.InShape.{MayDrain}
use Rattle.sr_inv_facts.specs.InUpdate.{AtFirst, AtPhase, JobAt, UpdateFits, group_by, group_first, group_of_phase, group_steady}
use Rattle.sr_inv_update.proofs.Groups.{IsPlainGroup, group_at, group_last, group_more, plain_group}
use Rattle.sr_inv_update.proofs.Phases.{storing, vip_here}
use Rattle.sr_law.specs.Groups.{is_over}
use Rattle.sr_law.specs.declared.line.Line.{Line}
use Rattle.sr_machine.specs.Config.{Config}
use Rattle.sr_machine.specs.Draws.{answer_line, cleared_job, draw_line, phase_job, phase_line}
use Rattle.sr_machine.specs.Reads.{steady}
use Rattle.sr_machine.specs.Stores.{phase_word, vip_draw}
use Rattle.sr_machine.specs.Waiting.{all_passed, live_job, passed_phase, waited_job, waited_phase}
use Rattle.sr_machine.specs.declared.controller_view.ControllerView.{ControllerView}
use Rattle.sr_machine.specs.declared.draw.Draw.{Draw}
use Rattle.sr_machine.specs.declared.job.Job.{Job}
use Rattle.sr_machine.specs.declared.pool_update.PoolUpdate.{PoolUpdate}
use Rattle.sr_machine.specs.declared.put.Aim.{Aim}
use Rattle.sr_machine.specs.declared.put.Put.{Put}
use Rattle.sr_machine.specs.declared.wait.Wait.{Wait}
use Rattle.sr_machine.specs.declared.why.Why.{Why}
use Rattle.sr_shadow.specs.declared.entry.Entry.{Entry}
use Rattle.sr_machine.specs.declared.draw.Draw.TheVariants as draw
use Rattle.sr_machine.specs.declared.store.Store.TheVariants as store
use Rattle.sr_machine.specs.declared.wait.Wait.TheVariants as wait
use Rattle.sr_machine.specs.declared.why.Why.TheVariants as why
use Rattle.sr_machine.specs.declared.put.Aim.TheVariants as aim
use Rattle.sr_machine.specs.declared.job.Job.TheVariants as job
use Rattle.sr_law.specs.declared.line.Line.TheVariants as line

same_number : (n : ℕ) → (n == n) ≡ true
same_number n = grind (arith, nat_tests)

module _ (k : Config) (c : ControllerView) (x : ℕ) (lines : List Line) (enough : k.layout.vips ≤ length lines) where
  -- a line that is no update's
  pub line_group : (d : Draw) → IsPlainGroup (job.Draw d) → ((u : PoolUpdate) → d ≡ draw.Given u → ⊥)
      → group_last k.layout.vips (option_to_list (draw_line k c d x) ++ lines) ≡ group_last k.layout.vips lines
  line_group (draw.Given u) b n = absurd (n u refl)
  line_group (draw.Comes u p) b n = absurd b
  line_group (draw.Grace w) b n = refl
  line_group (draw.From ms) b n = refl
  line_group (draw.Refused i) b n = group_more k.layout.vips (line.Refused x i) lines enough
  line_group (draw.TakenDown i) b n = group_more k.layout.vips (line.TakenDown x i) lines enough
  line_group (draw.Reserved p) b n = group_more k.layout.vips (line.Reserved x p.key p.place) lines enough
  line_group (draw.Placed p) b n = group_more k.layout.vips (line.Placed x p.key p.place) lines enough
  line_group (draw.Cleared key place w) b n = group_more k.layout.vips (line.Cleared x key place) lines enough
  line_group (draw.Retired key place i) b n = group_more k.layout.vips (line.Retired x key) lines enough
  line_group (draw.Answer r) b n = group_more k.layout.vips (answer_line k c r x) lines enough
  line_group (draw.Swept from ms) b n = group_more k.layout.vips (line.Swept (c.sweeps + 1) from x ms) lines enough

  -- ---- the lines of an update

  cur_apart : (u : PoolUpdate) → UpdateFits k u → (u.replaced == u.given) ≡ false
  cur_apart u f = at (u.replaced == u.given) refl
    where
      at : (b : Bool) → (u.replaced == u.given) ≡ b → b ≡ false
      at true q = absurd (f.other (grind (arith, nat_tests)))
      at false q = refl

  pub first_group : (u : PoolUpdate) (j : Job) (o : Option Line) → UpdateFits k u → AtFirst c.update c.vips u
      → group_by c.update c.vips j o ≡ group_first u j o
  first_group u j o f a =
      group_at c.update c.vips u (steady u.replaced) j o a ∙ ap (λ b. (if b then group_steady u j else group_first u j) o) (cur_apart u f)

  pub given_group : (u : PoolUpdate) → UpdateFits k u → AtFirst c.update c.vips u
      → group_by c.update c.vips (job.Draw (draw.Comes u Recording)) (group_last k.layout.vips (line.Given x u.vip u.given u.pool ∷ lines)) ≡ true
  given_group u f a =
      ap (group_by c.update c.vips (job.Draw (draw.Comes u Recording))) (group_more k.layout.vips (line.Given x u.vip u.given u.pool) lines enough)
      ∙ (first_group u (job.Draw (draw.Comes u Recording)) (Some (line.Given x u.vip u.given u.pool)) f a ∙ same_number u.vip)

  pub comes_group : (u : PoolUpdate) (p : Phase) → UpdateFits k u → JobAt k c.update c.vips (job.Draw (draw.Comes u p))
      → group_by c.update c.vips (phase_job u p) (group_last k.layout.vips (phase_line u x p ∷ lines)) ≡ true
  comes_group u Steady f a =
      let same : (u.given == u.given) ≡ true = same_number u.given in
      ap (group_by c.update c.vips (phase_job u Steady)) (group_more k.layout.vips (line.Finished x u.vip) lines enough)
      ∙ (group_at c.update c.vips u (phase_word u Steady) (phase_job u Steady) (Some (line.Finished x u.vip)) a
      ∙ ap (λ b. (if b then group_steady u (phase_job u Steady) else group_first u (phase_job u Steady)) (Some (line.Finished x u.vip))) same)
  comes_group u Recording f a =
      ap (group_by c.update c.vips (phase_job u Recording)) (group_more k.layout.vips (line.Recorded x u.vip) lines enough)
      ∙ (first_group u (phase_job u Recording) (Some (line.Recorded x u.vip)) f a ∙ same_number u.vip)
  comes_group u Holding f a =
      ap (group_by c.update c.vips (phase_job u Holding)) (group_more k.layout.vips (line.Hold x u.vip) lines enough)
      ∙ (group_at c.update c.vips u (phase_word u Recording) (phase_job u Holding) (Some (line.Hold x u.vip)) a ∙ same_number u.vip)
  comes_group u Transit f a =
      ap (group_by c.update c.vips (phase_job u Transit)) (group_more k.layout.vips (line.Switched x u.vip u.pool) lines enough)
      ∙ (group_at c.update c.vips u (phase_word u Transit) (phase_job u Transit) (Some (line.Switched x u.vip u.pool)) a ∙ same_number u.vip)

  -- ---- stores of phases

  pub stored_group : (u : PoolUpdate) (p : Phase) (o : Option Line) → UpdateFits k u → length c.vips ≡ k.layout.vips
      → JobAt k c.update c.vips (job.Store (store.Vip u p))
      → group_by c.update c.vips (job.Store (store.Vip u p)) o ≡ true
      → group_by c.update (slice_set c.vips u.vip (phase_word u p)) (job.Draw (vip_draw u p)) o ≡ true
  stored_group u p o f n a h =
      group_at c.update (slice_set c.vips u.vip (phase_word u p)) u (phase_word u p) (job.Draw (vip_draw u p)) o (storing k c.update c.vips u p a, vip_here c.vips u.vip (phase_word u p) (omega (arith, f.vip, n))) ∙ at p a h
    where
      at : (p : Phase) → JobAt k c.update c.vips (job.Store (store.Vip u p)) → group_by c.update c.vips (job.Store (store.Vip u p)) o ≡ true
          → group_of_phase u (phase_word u p) (job.Draw (vip_draw u p)) (phase_word u p).phase o ≡ true
      at Steady a h =
          ap (λ b. (if b then group_steady u (job.Draw (vip_draw u Steady)) else group_first u (job.Draw (vip_draw u Steady))) o) (same_number u.given)
          ∙ (sym (group_at c.update c.vips u (phase_word u Transit) (job.Store (store.Vip u Steady)) o a) ∙ h)
      at Recording a h = sym (first_group u (job.Store (store.Vip u Recording)) o f a) ∙ h
      at Holding a h = sym (group_at c.update c.vips u (phase_word u Recording) (job.Store (store.Vip u Holding)) o a) ∙ h
      at Transit a h = sym (group_at c.update c.vips u (phase_word u Holding) (job.Store (store.Vip u Transit)) o a) ∙ h

  pub over_group : (u : PoolUpdate) (index : ℕ) (o : Option Line) → AtPhase c.update c.vips u Steady
      → group_by c.update c.vips (job.Store (store.Filter u index)) o ≡ true
      → is_over o ≡ true
  over_group u index o a h =
      sym (group_at c.update c.vips u (phase_word u Steady) (job.Store (store.Filter u index)) o a ∙ ap (λ b. (if b then group_steady u (job.Store (store.Filter u index)) else group_first u (job.Store (store.Filter u index))) o) (same_number u.given)) ∙ h

-- ---- which jobs are plain

pub plain_cleared : (key : KeyView) (w : Why) → IsPlainGroup (cleared_job key w)
plain_cleared key (why.Withdrawn None) = tt
plain_cleared key (why.Withdrawn (Some r)) = tt
plain_cleared key why.Source = tt
plain_cleared key (why.Retired n) = tt

plain_live : (vips : List VipWord) (es : List Entry) (p : Put) (a : Aim) → IsPlainGroup (live_job vips es p a)
plain_live vips es p aim.Pending = tt
plain_live vips es p (aim.Held h) = tt
plain_live vips es p (aim.Move from planned) = tt

-- a step that is no update's leads to a job that is none, but for the last wait before a switch
plain_waited_phase : (u : PoolUpdate) (p : Phase) → MayDrain (wait.Comes u p) → IsPlainGroup (waited_phase u p)
plain_waited_phase u Steady m = absurd m
plain_waited_phase u Recording m = tt
plain_waited_phase u Holding m = absurd m
plain_waited_phase u Transit m = tt

pub plain_waited : (vips : List VipWord) (es : List Entry) (w : Wait) → MayDrain w → IsPlainGroup (waited_job vips es w)
plain_waited vips es (wait.Judge p) m = tt
plain_waited vips es (wait.Live p) m = plain_live vips es p p.aim
plain_waited vips es (wait.Retire key) m = tt
plain_waited vips es (wait.Comes u p) m = plain_waited_phase u p m
plain_waited vips es (wait.Release vip n) m = tt

-- the group after the last pipe has passed: a switch is stored in Holding
module _ (k : Config) (c : ControllerView) (o : Option Line) where
  passed_phase_group : (g pipe : ℕ) (u : PoolUpdate) (p : Phase) → JobAt k c.update c.vips (job.Pass g pipe (wait.Comes u p))
      → group_by c.update c.vips (job.Pass g pipe (wait.Comes u p)) o ≡ true
      → group_by c.update c.vips (passed_phase u p) o ≡ true
  passed_phase_group g pipe u Steady a h = plain_group c.update c.vips (job.Pass g pipe (wait.Comes u Steady)) (passed_phase u Steady) o tt tt ∙ h
  passed_phase_group g pipe u Recording a h = plain_group c.update c.vips (job.Pass g pipe (wait.Comes u Recording)) (passed_phase u Recording) o tt tt ∙ h
  passed_phase_group g pipe u Holding a h =
      group_at c.update c.vips u (phase_word u Holding) (passed_phase u Holding) o a ∙ (sym (group_at c.update c.vips u (phase_word u Holding) (job.Pass g pipe (wait.Comes u Holding)) o a) ∙ h)
  passed_phase_group g pipe u Transit a h = plain_group c.update c.vips (job.Pass g pipe (wait.Comes u Transit)) (passed_phase u Transit) o tt tt ∙ h

  pub passed_group : (g pipe : ℕ) (w : Wait) → JobAt k c.update c.vips (job.Pass g pipe w) → group_by c.update c.vips (job.Pass g pipe w) o ≡ true
      → group_by c.update c.vips (all_passed w) o ≡ true
  passed_group g pipe (wait.Judge p) a h = plain_group c.update c.vips (job.Pass g pipe (wait.Judge p)) (all_passed (wait.Judge p)) o tt tt ∙ h
  passed_group g pipe (wait.Live p) a h = plain_group c.update c.vips (job.Pass g pipe (wait.Live p)) (all_passed (wait.Live p)) o tt tt ∙ h
  passed_group g pipe (wait.Retire key) a h = plain_group c.update c.vips (job.Pass g pipe (wait.Retire key)) (all_passed (wait.Retire key)) o tt tt ∙ h
  passed_group g pipe (wait.Comes u p) a h = passed_phase_group g pipe u p a h
  passed_group g pipe (wait.Release vip n) a h = plain_group c.update c.vips (job.Pass g pipe (wait.Release vip n)) (all_passed (wait.Release vip n)) o tt tt ∙ h
