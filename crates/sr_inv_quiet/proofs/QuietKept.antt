-- Each event keeps which entries were quiet.
use Rattle.sr_base.specs.Key.{KeyView}
use Rattle.sr_base.specs.declared.place.Place.{Place}
use Rattle.sr_inv_facts.proofs.Beginning.{begun_by}
use Rattle.sr_inv_facts.proofs.Lists.{all_in, all_to_in}
use Rattle.sr_inv_facts.proofs.Printing.{job_tells, pipe_silent, tells}
use Rattle.sr_inv_facts.specs.Fitted.{IsPacket}
use Rattle.sr_inv_facts.specs.InSweeps.{EntryQuiet, QuietAre, UnplacedFresh, sweep_from}
use Rattle.sr_inv_facts.specs.Invariant.{Invariant}
use Rattle.sr_inv_facts.specs.Laws.{OpensWith}
use Rattle.sr_inv_facts.specs.Readings.{In}
use Rattle.sr_inv_quiet.proofs.HitQuiet.{from_running, from_told, hit_next_job, hit_quiet}
use Rattle.sr_inv_quiet.proofs.Placed.{past_first}
use Rattle.sr_inv_quiet.proofs.QuietJobs.{quiet_off, quiet_stage}
use Rattle.sr_inv_quiet.proofs.QuietTurns.{Carries, NoSweep, carries_silent, entry_turns, none_quiet}
use Rattle.sr_law.specs.Retire.{numbered_sweep}
use Rattle.sr_machine.specs.Begins.{Begins}
use Rattle.sr_machine.specs.Core.{Core, printed}
use Rattle.sr_machine.specs.Draws.{sweeping}
use Rattle.sr_machine.specs.Jobs.{job_op}
use Rattle.sr_machine.specs.Keeping.{AfterJob, Keeps}
use Rattle.sr_machine.specs.Opening.{opening_controller}
use Rattle.sr_machine.specs.Reads.{read_flag}
use Rattle.sr_machine.specs.Starting.{Start}
use Rattle.sr_machine.specs.declared.draw.Draw.{Draw}
use Rattle.sr_machine.specs.declared.job.Job.{Job}
use Rattle.sr_shadow.specs.Book.{with_changed}
use Rattle.sr_shadow.specs.Entry.{swept}
use Rattle.sr_shadow.specs.declared.entry.Entry.{Entry}
use Rattle.std.proofs.Common.{Bool, List, None, Option, Some, ap, arith, false, if◌then◌else◌, inl, inr, is_some, option_map, refl, subst, sym, true, ℕ, ◌+◌, ◌<◌, ◌==◌, ◌∙◌, ◌∷◌, ◌≡◌, ◌≢◌, ◌≤◌, ◌⊎◌}
use Rattle.std.proofs.lemmas.Bool.{cases_eq}
use Rattle.std.proofs.lemmas.Bool.Decides.{nat_tests}
use Rattle.std.specs.List.{AllByRecursion}
use Rattle.std.specs.Option.{option_or}
use Rattle.sr_inv_facts.specs.Putting.{put_core}
use Rattle.sr_machine.specs.declared.put.Put.{Put}
use Rattle.sr_machine.specs.declared.draw.Draw.TheVariants as draw
use Rattle.sr_machine.specs.declared.job.Job.TheVariants as job
use Rattle.sr_machine.specs.declared.stage.Stage.TheVariants as stage
use Rattle.sr_machine.specs.declared.name.Name.TheVariants as name
use Rattle.sr_law.specs.declared.line.Line.TheVariants as line
use Rattle.sr_machine.specs.Begins as begin

-- nothing that a controller begins is under way as a sweep yet
pub begins_none : (s : Core) (start : Start) → Begins s.config s.controller start → NoSweep start.job
begins_none s start (begin.refuses g rest r e) = record { running = refl; past = λ n. refl }
begins_none s start (begin.takes_down o rest e d) = record { running = refl; past = λ n. refl }
begins_none s start (begin.holds u e p w) = record { running = refl; past = λ n. refl }
begins_none s start (begin.finishes u e p w) = record { running = refl; past = λ n. refl }
begins_none s start (begin.changes g rest number u e d f) = record { running = refl; past = λ n. refl }
begins_none s start (begin.answers o rest e r f) = record { running = refl; past = λ n. refl }
begins_none s start (begin.places_held o rest p r f g) = record { running = refl; past = λ n. refl }
begins_none s start (begin.has_no_place o rest r f g) = record { running = refl; past = λ n. refl }
begins_none s start (begin.places e p r f g) = record { running = refl; past = λ n. refl }
begins_none s start (begin.retires e place r f) = record { running = refl; past = λ n. refl }
begins_none s start (begin.sweeps ms r f) = record { running = refl; past = λ n. refl }
begins_none s start (begin.releases vip m r) = record { running = refl; past = λ n. refl }
begins_none s start (begin.looks r) = record { running = refl; past = λ n. refl }

module _ (s : Core) (i : Invariant s) where
  abbrev es : List Entry
  es = s.controller.book.entries

  before : (j : Job) → s.controller.job ≡ j → (e : Entry) → In e es → EntryQuiet (printed s) s.controller.sweeps j e
  before j q e m =
      subst (λ z. EntryQuiet (printed s) s.controller.sweeps z e) q (all_in (EntryQuiet (printed s) s.controller.sweeps s.controller.job) es e i.sweeps.sweeps.quiet m)

  -- ---- a sweep begins

  from_quiet : (ms x : ℕ) → s.controller.job ≡ job.Draw (draw.From ms)
      → AllByRecursion (EntryQuiet (printed s) s.controller.sweeps (sweeping es x ms 0)) es
  from_quiet ms x q = all_to_in _ es (λ e m. at e m e.place refl)
    where
      at : (e : Entry) → In e es → (o : Option Place) → e.place ≡ o → EntryQuiet (printed s) s.controller.sweeps (sweeping es x ms 0) e
      at e m None n = none_quiet (printed s) s.controller.sweeps (sweeping es x ms 0) e (all_in UnplacedFresh es e i.sweeps.sweeps.unplaced m n)
      at e m (Some place) n =
          entry_turns (printed s) (printed s) s.controller.sweeps s.controller.sweeps (job.Draw (draw.From ms)) (sweeping es x ms 0) e
          (ap (λ b. if b then s.controller.sweeps + 1 else s.controller.sweeps) (past_first s.controller.book.taken x ms es i.shape.book.rising e m (ap is_some n)))
          (record {
            placed = refl;
            moved = refl;
            from = λ n h. from_told (printed s) s.controller.sweeps (sweeping es x ms 0) n h ∙ sym (from_told (printed s) s.controller.sweeps (job.Draw (draw.From ms)) n h);
            to = λ n h. refl;
            uses = λ to from n e h. h;
          }) (before (job.Draw (draw.From ms)) q e m)

  -- ---- a sweep ends

  pub swept_carries : (from ms x : ℕ) (key : KeyView)
      → Carries (printed s) (line.Swept (s.controller.sweeps + 1) from x ms ∷ printed s) s.controller.sweeps (s.controller.sweeps + 1) (job.Draw (draw.Swept from ms)) job.Free key (s.controller.sweeps + 1)
  swept_carries from ms x key = record {
    placed = refl;
    moved = refl;
    from = λ n h. begins n h (cases_eq n (s.controller.sweeps + 1));
    to = λ n h. ap (option_map (λ w. w.to)) (lower n h);
    uses = λ to from n e h. h;
  }
    where
      lower : (n : ℕ) → n < s.controller.sweeps + 1
          → numbered_sweep (line.Swept (s.controller.sweeps + 1) from x ms ∷ printed s) n ≡ numbered_sweep (printed s) n
      lower n h = at ((s.controller.sweeps + 1) == n) (grind (arith, nat_tests))
        where
          at : (b : Bool) → b ≡ false
              → option_or (if b then Some (record { number = s.controller.sweeps + 1; from = from; to = x; at_ms = ms }) else None) (numbered_sweep (printed s) n) ≡ numbered_sweep (printed s) n
          at true e = cc
          at false e = refl

      this : (n : ℕ) → n ≡ s.controller.sweeps + 1
          → option_map (λ w. w.from) (numbered_sweep (line.Swept (s.controller.sweeps + 1) from x ms ∷ printed s) n) ≡ Some from
      this n h = at ((s.controller.sweeps + 1) == n) (grind (arith, nat_tests))
        where
          at : (b : Bool) → b ≡ true
              → option_map (λ w. w.from) (option_or (if b then Some (record { number = s.controller.sweeps + 1; from = from; to = x; at_ms = ms }) else None) (numbered_sweep (printed s) n)) ≡ Some from
          at true e = refl
          at false e = cc

      begins : (n : ℕ) → n ≤ s.controller.sweeps + 1 → (n ≡ s.controller.sweeps + 1) ⊎ (n ≢ s.controller.sweeps + 1)
          → sweep_from (line.Swept (s.controller.sweeps + 1) from x ms ∷ printed s) (s.controller.sweeps + 1) job.Free n
          ≡ sweep_from (printed s) s.controller.sweeps (job.Draw (draw.Swept from ms)) n
      begins n h (inl e) =
          from_told (line.Swept (s.controller.sweeps + 1) from x ms ∷ printed s) (s.controller.sweeps + 1) job.Free n h
          ∙ (this n e ∙ sym (from_running (printed s) s.controller.sweeps (job.Draw (draw.Swept from ms)) n e))
      begins n h (inr e) =
          from_told (line.Swept (s.controller.sweeps + 1) from x ms ∷ printed s) (s.controller.sweeps + 1) job.Free n h
          ∙ (ap (option_map (λ w. w.from)) (lower n (omega arith)) ∙ sym (from_told (printed s) s.controller.sweeps (job.Draw (draw.Swept from ms)) n (omega arith)))

  swept_quiet : (from ms x : ℕ) → s.controller.job ≡ job.Draw (draw.Swept from ms)
      → AllByRecursion (EntryQuiet (line.Swept (s.controller.sweeps + 1) from x ms ∷ printed s) (s.controller.sweeps + 1) job.Free) es
  swept_quiet from ms x q =
      all_to_in _ es (λ e m. entry_turns (printed s) (line.Swept (s.controller.sweeps + 1) from x ms ∷ printed s) s.controller.sweeps (s.controller.sweeps + 1) (job.Draw (draw.Swept from ms)) job.Free e refl
      (swept_carries from ms x e.key) (before (job.Draw (draw.Swept from ms)) q e m))

  -- ---- each job

  quiet_job : (j : Job) → s.controller.job ≡ j → AfterJob QuietAre s j (job_op s.config s.controller j)
  quiet_job (job.Draw (draw.From ms)) q =
      subst (λ ls. AllByRecursion (EntryQuiet ls s.controller.sweeps (sweeping es (s.words name.Tick) ms 0)) es) (sym (job_tells s (job.Draw (draw.From ms)) i.ticks)) (from_quiet ms (s.words name.Tick) q)
  quiet_job (job.Draw (draw.Swept from ms)) q =
      subst (λ ls. AllByRecursion (EntryQuiet ls (s.controller.sweeps + 1) job.Free) es) (sym (job_tells s (job.Draw (draw.Swept from ms)) i.ticks)) (swept_quiet from ms (s.words name.Tick) q)
  quiet_job (job.Hit from ms key place number) q =
      subst (λ ls. AllByRecursion (EntryQuiet ls s.controller.sweeps (hit_next_job s i from ms key place number q)) (with_changed (swept (read_flag (s.words (name.Hit place)))) key es))
      (sym (job_tells s (job.Hit from ms key place number) i.ticks)) (hit_quiet s i from ms key place number q)
  quiet_job (job.Draw d) q = by d q
    where
      by : (d : Draw) → s.controller.job ≡ job.Draw d → AfterJob QuietAre s (job.Draw d) (job_op s.config s.controller (job.Draw d))
      by (draw.From ms) q =
          subst (λ ls. AllByRecursion (EntryQuiet ls s.controller.sweeps (sweeping es (s.words name.Tick) ms 0)) es) (sym (job_tells s (job.Draw (draw.From ms)) i.ticks)) (from_quiet ms (s.words name.Tick) q)
      by (draw.Swept from ms) q =
          subst (λ ls. AllByRecursion (EntryQuiet ls (s.controller.sweeps + 1) job.Free) es) (sym (job_tells s (job.Draw (draw.Swept from ms)) i.ticks)) (swept_quiet from ms (s.words name.Tick) q)
      by d q =
          quiet_off s i (job.Draw d) (job_op s.config s.controller (job.Draw d)) q tt refl (λ x e. ap (tells s.config s.controller (job.Draw d)) e) (job_tells s (job.Draw d) i.ticks)
  quiet_job job.Free q = tt
  quiet_job j q = quiet_off s i j (job_op s.config s.controller j) q tt refl (λ x e. refl) (job_tells s j i.ticks)

  -- ---- what it begins

  quiet_begins : s.controller.job ≡ job.Free → (start : Start) → Begins s.config s.controller start
      → AllByRecursion (EntryQuiet (printed s) s.controller.sweeps start.job) es
  quiet_begins free start b =
      all_to_in _ es (λ e m. entry_turns (printed s) (printed s) s.controller.sweeps s.controller.sweeps job.Free start.job e
      (ap (λ b. if b then s.controller.sweeps + 1 else s.controller.sweeps) ((begins_none s start b).past e.taken))
      (carries_silent (printed s) s.controller.sweeps job.Free start.job (begins_none s start b).running e.key s.controller.sweeps) (before job.Free free e m))

pub quiet_put : (s : Core) (p : Put) → s.controller.job ≡ job.Free → Invariant s → QuietAre (put_core s p)
quiet_put s p free i =
    let m : Job = job.Draw (draw.Reserved p) in
    all_to_in _ s.controller.book.entries (λ e inside. entry_turns (printed s) (printed s) s.controller.sweeps s.controller.sweeps job.Free m e refl
    (carries_silent (printed s) s.controller.sweeps job.Free m refl e.key s.controller.sweeps) (before s i job.Free free e inside))

pub quiet_keep : Keeps IsPacket Invariant QuietAre
quiet_keep = record {
  stages = λ s p v a q e i f. quiet_stage s i p v q a;
  begins = λ s i f.
      begun_by s.config s.controller (λ c. AllByRecursion (EntryQuiet (printed s) c.sweeps c.job) c.book.entries) f
      (λ free start b. quiet_begins s i free start b);
  jobs = λ s j q b i f. quiet_job s i j q;
  enters = λ s p v packet q r u n a i f.
      subst (λ ls. AllByRecursion (EntryQuiet ls s.controller.sweeps s.controller.job) s.controller.book.entries)
      (sym (pipe_silent s p v (record v { stage = stage.Enter packet }) q refl s.words)) f;
  clocks = λ s ms q i f. f;
  refusals = λ s q i f. f;
}

pub quiet_part : (s : Core) → Invariant s → QuietAre s
quiet_part s i = i.sweeps.sweeps.quiet

pub quiet_open : OpensWith QuietAre
unfolding opening_controller
quiet_open k f = tt
