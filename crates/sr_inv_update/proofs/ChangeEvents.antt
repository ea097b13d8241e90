-- Each event keeps what is said of changes and of the open group of lines; and at the opening no change was made.
use Rattle.std.proofs.Common.{◌≡◌, ℕ, zero, suc, ◌-◌, ◌≤◌, Bool, true, false, ◌&&◌, ◌||◌, List, [], ◌∷◌, ◌++◌, length, take, replicate, nat_le, ◌==◌, Some, None, Option, position, sym, refl, ap, ◌∙◌, subst, true≢false, arith}
use Rattle.std.proofs.lemmas.Bool.Decides.{nat_tests}
use Rattle.std.specs.List.{list_any}
use Rattle.sr_inv_facts.proofs.Beginning.{begun_first}
use Rattle.sr_inv_facts.proofs.Lists.{all_then}
use Rattle.sr_inv_facts.proofs.OpeningLines.{opened_lines, opening_printed}
use Rattle.sr_inv_facts.proofs.Printing.{job_tells, pipe_silent, prints, stage_prints, tells}
use Rattle.sr_inv_facts.specs.Fitted.{IsPacket}
use Rattle.sr_inv_facts.specs.InShape.{JobFits}
use Rattle.sr_inv_facts.specs.InUpdate.{ChangesHold, ChangesKept, IsToCome, OnRefused, OnUngiven, UpdateHolds, group_by}
use Rattle.sr_inv_facts.specs.Invariant.{Invariant}
use Rattle.sr_inv_facts.specs.Laws.{OpensWith}
use Rattle.sr_inv_update.proofs.ChangeBegins.{first_changes, as_job, plain}
use Rattle.sr_inv_update.proofs.Changes.{change_fits}
use Rattle.sr_inv_update.proofs.ChangesKept.{changes_go}
use Rattle.sr_inv_update.proofs.GivesRise.{all_past_first}
use Rattle.sr_inv_update.proofs.Groups.{group_last, group_more}
use Rattle.sr_inv_update.proofs.PhasesKept.{start_phases}
use Rattle.sr_inv_update.proofs.Refusable.{refusable}
use Rattle.sr_law.specs.Groups.{is_over, last_of_update, was_given_past}
use Rattle.sr_law.specs.Order.{refused_past}
use Rattle.sr_law.specs.declared.line.Line.{Line}
use Rattle.sr_law.specs.declared.verdict.Verdict.{Verdict}
use Rattle.sr_machine.specs.Core.{printed, Core, newest_first, pipe_lines}
use Rattle.sr_machine.specs.Jobs.{book_next, job_next, job_op, lines_next, numbers_next, update_next, vips_next}
use Rattle.sr_machine.specs.Keeping.{AfterJob, AfterStage, Keeps, begun_core}
use Rattle.sr_machine.specs.Opening.{opening_controller}
use Rattle.sr_machine.specs.Ops.{op_answer, op_name}
use Rattle.sr_machine.specs.Pipe.{packet_line, pipe_op}
use Rattle.sr_machine.specs.Reads.{steady}
use Rattle.sr_machine.specs.declared.flight.Flight.{Flight}
use Rattle.sr_machine.specs.declared.job.Job.{Job}
use Rattle.sr_machine.specs.declared.op.Op.{Op}
use Rattle.sr_machine.specs.declared.pipe_view.PipeView.{PipeView}
use Rattle.sr_machine.specs.declared.pool_update.PoolUpdate.{PoolUpdate}
use Rattle.sr_machine.specs.declared.stage.Stage.{Stage}
use Rattle.sr_update.specs.Numbers.{opening_rows}
use Rattle.sr_update.specs.Updates.{gives_after}
use Rattle.sr_inv_facts.specs.Putting.{put_core}
use Rattle.sr_machine.specs.declared.put.Put.{Put}
use Rattle.sr_machine.specs.declared.stage.Stage.TheVariants as stage
use Rattle.sr_machine.specs.declared.draw.Draw.TheVariants as draw
use Rattle.sr_machine.specs.declared.job.Job.TheVariants as job
use Rattle.sr_machine.specs.declared.leg.Leg.TheVariants as leg
use Rattle.sr_machine.specs.declared.leg.Last.TheVariants as last
use Rattle.sr_machine.specs.declared.name.Name.TheVariants as name

-- ---- the controller's step

module _ (s : Core) (i : Invariant s) where
  abbrev After : ℕ → Job → List Line → Type 0
  After x j lines =
      ChangesHold s.config lines (update_next s.config s.controller j) (vips_next s.controller j) (numbers_next s.config s.controller j x) (book_next s.config s.controller j x).entries s.controller.gives s.controller.refusing (job_next s.config s.controller j x)

  step : (x : ℕ) (j : Job) → s.controller.job ≡ j → After x j (tells s.config s.controller j x ++ printed s)
  step x j q =
      let c = s.controller in
      changes_go s.config c x (printed s) i.shape.controller j (subst (UpdateHolds s.config c.update c.vips) q i.update.update) (subst (JobFits s.config.layout) q i.shape.controller.job)
      (subst (ChangesHold s.config (printed s) c.update c.vips c.numbers c.book.entries c.gives c.refusing) q i.update.changes)

  lift : (j : Job) (o : Option Op) → ((x : ℕ) → lines_next s.config s.controller j x ≡ s.controller.lines) → ((x : ℕ) → After x j (printed s))
      → AfterJob ChangesKept s j o
  lift j None e h = tt
  lift j (Some o) e h =
      let x = op_answer o (s.words (op_name o)) in
      subst (After x j) (ap (λ ls. newest_first (pipe_lines s.pipes ++ ls)) (sym (e x))) (h x)

  job_kept : (j : Job) → s.controller.job ≡ j → AfterJob ChangesKept s j (job_op s.config s.controller j)
  job_kept (job.Draw d) q =
      subst (After (s.words name.Tick) (job.Draw d)) (sym (job_tells s (job.Draw d) i.ticks)) (step (s.words name.Tick) (job.Draw d) q)
  job_kept j q = lift j (job_op s.config s.controller j) (λ x. refl) (λ x. step x j q)

-- ---- a pipe's step

module _ (s : Core) (h : ChangesKept s) where
  abbrev Now : List Line → Type 0
  Now lines =
      ChangesHold s.config lines s.controller.update s.controller.vips s.controller.numbers s.controller.book.entries s.controller.gives s.controller.refusing s.controller.job

  unrefused_on : (j : Job) (n : ℕ) (f : Flight) (w : Verdict) (x : ℕ) → OnRefused j (λ i. list_any (refused_past i) (printed s) ≡ false)
      → OnRefused j (λ i. list_any (refused_past i) (packet_line n f w x ∷ printed s) ≡ false)
  unrefused_on (job.Draw (draw.Refused i)) n f w x u = u
  unrefused_on j n f w x u = tt

  new_on : (o : Option PoolUpdate) (j : Job) (n : ℕ) (f : Flight) (w : Verdict) (x : ℕ) → OnUngiven o j (λ u. list_any (was_given_past u.vip u.pool) (printed s) ≡ false)
      → OnUngiven o j (λ u. list_any (was_given_past u.vip u.pool) (packet_line n f w x ∷ printed s) ≡ false)
  new_on None j n f w x u = tt
  new_on (Some v) j n f w x u = u

  line_kept : (n : ℕ) (at : Stage) (x : ℕ) → Now (prints n at x ++ printed s)
  line_kept n (stage.Fly f (leg.Judged w last.Out)) x = record {
    may_refuse = h.may_refuse;
    refused = h.refused;
    unrefused = unrefused_on s.controller.job n f w x h.unrefused;
    to_come = all_then (IsToCome (printed s)) (IsToCome (packet_line n f w x ∷ printed s)) (λ g t. record { pool = t.pool; position = t.position }) s.controller.gives h.to_come;
    new = new_on s.controller.update s.controller.job n f w x h.new;
    after = h.after;
    enough = omega (arith, h.enough);
    group = ap (group_by s.controller.update s.controller.vips s.controller.job) (group_more s.config.layout.vips (packet_line n f w x) (printed s) h.enough) ∙ h.group;
  }
  line_kept n at x = h

  stage_kept : (p : ℕ) (v : PipeView) (at : Stage) (now : List Line) (o : Option Op) → Now now → AfterStage (λ t. printed t ≡ now) s p v at o
      → AfterStage ChangesKept s p v at o
  stage_kept p v at now None a e = tt
  stage_kept p v at now (Some o) a e = subst Now (sym e) a

-- ---- all of them

begins_kept : (s : Core) → Invariant s → ChangesKept s → ChangesKept (begun_core s)
begins_kept s i h =
    begun_first s.config s.controller (λ c. ChangesHold s.config (printed s) c.update c.vips c.numbers c.book.entries c.gives c.refusing c.job) h (λ q. first_changes s.config s.controller (printed s) i.shape.config i.shape.controller
    (subst (ChangesHold s.config (printed s) s.controller.update s.controller.vips s.controller.numbers s.controller.book.entries s.controller.gives s.controller.refusing) q h)
    (λ t g. start_phases s.config s.controller i.shape.config i.shape.controller (printed s) i.update.versions q (subst (UpdateHolds s.config s.controller.update s.controller.vips) q i.update.update) t g))

pub changes_put : (s : Core) (p : Put) → s.controller.job ≡ job.Free → s.controller.refusing ≡ false → Invariant s
    → ChangesKept (put_core s p)
changes_put s p free calm i =
    let c = s.controller in
    let was = subst (ChangesHold s.config (printed s) c.update c.vips c.numbers c.book.entries c.gives c.refusing) free i.update.changes in
    as_job s.config c (printed s) i.shape.config i.shape.controller was calm (job.Draw (draw.Reserved p)) tt refl
    (plain s.config c (printed s) i.shape.config i.shape.controller was calm (job.Draw (draw.Reserved p)) tt)

pub changes_keep : Keeps IsPacket Invariant ChangesKept
changes_keep = record {
  stages = λ s p v at q e i h.
      stage_kept s h p v at (prints v.number at (s.words name.Tick) ++ printed s) (pipe_op s.config.layout v at) (line_kept s h v.number at (s.words name.Tick)) (stage_prints s p v at i.ticks q);
  begins = begins_kept;
  jobs = λ s j q b i h. job_kept s i j q;
  enters = λ s p v packet q r u n a i h. subst (Now s h) (sym (pipe_silent s p v (record v { stage = stage.Enter packet }) q refl s.words)) h;
  clocks = λ s ms q i h. h;
  refusals = λ s q i h. record {
    may_refuse = λ t.
        refusable s.config s.controller i.shape.controller (λ g rest r. (change_fits s.config i.shape.config g rest s.controller.gives i.shape.controller.gives r).0) q;
    refused = h.refused;
    unrefused = h.unrefused;
    to_come = h.to_come;
    new = h.new;
    after = h.after;
    enough = h.enough;
    group = h.group;
  };
}

-- ---- the opening

opened_length : (n : ℕ) → length (opened_lines n) ≡ n
opened_length zero = refl
opened_length (suc n) = ap suc (opened_length n)

-- the first pools are numbered 1
first_below : (n vip pool : ℕ) → 2 ≤ pool → list_any (was_given_past vip pool) (opened_lines n) ≡ false
first_below zero vip pool h = refl
first_below (suc n) vip pool h =
    let less : nat_le pool 1 ≡ false = grind (arith, nat_tests) in
    at (n == vip) less (first_below n vip pool h)
  where
    at : (b : Bool) → nat_le pool 1 ≡ false → list_any (was_given_past vip pool) (opened_lines n) ≡ false
        → ((b && nat_le pool 1) || list_any (was_given_past vip pool) (opened_lines n)) ≡ false
    at true l r = ap (λ c. c || list_any (was_given_past vip pool) (opened_lines n)) l ∙ r
    at false l r = r

none_refused : (n position : ℕ) → list_any (refused_past position) (opened_lines n) ≡ false
none_refused zero position = refl
none_refused (suc n) position = none_refused n position

no_group : (n : ℕ) → group_last n (opened_lines n) ≡ None
no_group n =
    let rest : length (opened_lines n) - n ≡ 0 = omega (arith, opened_length n) in
    ap (λ m. last_of_update (take m (opened_lines n))) rest ∙ none (opened_lines n)
  where
    none : (ls : List Line) → last_of_update (take 0 ls) ≡ None
    none [] = refl
    none (l ∷ ls) = refl

pub changes_open : OpensWith ChangesKept
unfolding opening_controller
changes_open k f =
    subst (λ ls. ChangesHold k ls None (replicate k.layout.vips (steady 0)) (opening_rows k.layout) [] (gives_after [] k.changes) false job.Free) (sym (opening_printed k)) (record {
      may_refuse =
          λ t. absurd (true≢false (sym t));
      refused = tt;
      unrefused = tt;
      to_come = all_then (λ g. 2 ≤ g.pool) (IsToCome (opened_lines k.layout.vips)) (λ g a. record { pool = first_below k.layout.vips g.vip g.pool a; position = none_refused k.layout.vips g.position }) (gives_after [] k.changes) (all_past_first k.changes);
      new = tt;
      after = tt;
      enough = omega (arith, opened_length k.layout.vips);
      group = ap is_over (no_group k.layout.vips);
    })
