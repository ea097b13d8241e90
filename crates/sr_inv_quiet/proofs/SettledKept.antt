-- Each event keeps that packets of a settled entry find it, and left a hit that no sweep has taken.
use Rattle.sr_base.proofs.Sameness.{same_place-true}
use Rattle.sr_base.specs.Key.{KeyView}
use Rattle.sr_base.specs.Place.{same_place}
use Rattle.sr_base.specs.declared.packet.Packet.{Packet}
use Rattle.sr_base.specs.declared.place.Place.{Place}
use Rattle.sr_inv_facts.proofs.Beginning.{begun_by}
use Rattle.sr_inv_facts.proofs.Books.{changed_all}
use Rattle.sr_inv_facts.proofs.Lists.{all_filtered, all_in, all_then, all_to_in, of_some}
use Rattle.sr_inv_facts.proofs.Pipes.{each_set}
use Rattle.sr_inv_facts.proofs.Printing.{job_tells, pipe_silent, tells}
use Rattle.sr_inv_facts.specs.Fitted.{IsPacket}
use Rattle.sr_inv_facts.specs.Flying.{OnLeg}
use Rattle.sr_inv_facts.specs.InSweeps.{EntryQuiet, EntrySettled, FlightSettled, IsFrom, QuietHolds, SettledAre, SettledAt, base_by, base_of, rounds, since, sweep_to}
use Rattle.sr_inv_facts.specs.Invariant.{Invariant}
use Rattle.sr_inv_facts.specs.Laws.{OpensWith}
use Rattle.sr_inv_facts.specs.Readings.{In, hit_words}
use Rattle.sr_inv_matching.proofs.Members.{in_own}
use Rattle.sr_inv_matching.proofs.Saying.{at_held, holder_found}
use Rattle.sr_inv_quiet.proofs.HitQuiet.{Counts, counts, counts_on, gone_after, gone_before, hit_entry, hit_next_job, hit_past, hit_stands, starts_over}
use Rattle.sr_inv_quiet.proofs.Placed.{past_first}
use Rattle.sr_inv_quiet.proofs.QuietKept.{begins_none}
use Rattle.sr_inv_quiet.proofs.SettledJobs.{draw_goes, emptied_goes, entry_goes, judged_goes, silent_goes, still_goes, take_goes, twin_self}
use Rattle.sr_inv_quiet.proofs.SettledStages.{settled_stage}
use Rattle.sr_inv_quiet.proofs.SettledTurns.{base_same}
use Rattle.sr_inv_quiet.proofs.SweepTicks.{next_untold, sweeps_rise, told_sweep}
use Rattle.sr_inv_sweeps.proofs.ClosingJobs.{AtOp}
use Rattle.sr_law.specs.Retire.{numbered_sweep}
use Rattle.sr_law.specs.declared.line.Line.{Line}
use Rattle.sr_law.specs.declared.sweep.Sweep.{Sweep}
use Rattle.sr_machine.specs.Begins.{Begins}
use Rattle.sr_machine.specs.Core.{Core, printed}
use Rattle.sr_machine.specs.Deciding.{is_withdrawn, version_for}
use Rattle.sr_machine.specs.Draws.{sweeping}
use Rattle.sr_machine.specs.Jobs.{book_next, job_next, job_op, sweeps_next}
use Rattle.sr_machine.specs.Keeping.{AfterJob, Keeps}
use Rattle.sr_machine.specs.Opening.{opening_controller}
use Rattle.sr_machine.specs.Ops.{op_answer, op_name, op_words}
use Rattle.sr_machine.specs.Reads.{read_flag}
use Rattle.sr_machine.specs.Starting.{Start}
use Rattle.sr_machine.specs.Taking.{ended_by}
use Rattle.sr_machine.specs.declared.draw.Draw.{Draw}
use Rattle.sr_machine.specs.declared.job.Job.{Job}
use Rattle.sr_machine.specs.declared.op.Op.{Op}
use Rattle.sr_machine.specs.declared.pipe_view.PipeView.{PipeView}
use Rattle.sr_shadow.proofs.Finding.{found_passes}
use Rattle.sr_shadow.specs.Book.{entry_for, holder_entry, with_changed}
use Rattle.sr_shadow.specs.Entry.{is_of, quiet_after, swept}
use Rattle.sr_shadow.specs.declared.entry.Entry.{Entry}
use Rattle.std.proofs.Common.{Bool, IfSome, List, None, Option, Some, [], ap, arith, false, if◌then◌else◌, inl, inr, is_some, min, not, option_map, refl, slice_get, slice_set, subst, sym, true, true≢false, ℕ, ◌++◌, ◌+◌, ◌-◌, ◌<◌, ◌==◌, ◌∙◌, ◌∷◌, ◌≡◌, ◌≢◌, ◌≤◌, ◌⊎◌}
use Rattle.std.proofs.lemmas.Bool.{cases_eq}
use Rattle.std.proofs.lemmas.Bool.Decides.{nat_tests}
use Rattle.std.proofs.lemmas.Option.{same_Some}
use Rattle.std.specs.List.{AllByRecursion}
use Rattle.std.specs.Option.{option_or}
use Rattle.sr_inv_facts.specs.Putting.{put_core}
use Rattle.sr_machine.specs.declared.put.Put.{Put}
use Rattle.sr_machine.specs.declared.draw.Draw.TheVariants as draw
use Rattle.sr_machine.specs.declared.store.Store.TheVariants as store
use Rattle.sr_machine.specs.declared.job.Job.TheVariants as job
use Rattle.sr_machine.specs.declared.stage.Stage.TheVariants as stage
use Rattle.sr_machine.specs.declared.name.Name.TheVariants as name
use Rattle.sr_law.specs.declared.line.Line.TheVariants as line

module _ (s : Core) (i : Invariant s) where
  abbrev es : List Entry
  es = s.controller.book.entries

  -- ---- a sweep begins

  from_settled : (ms x : ℕ) → s.controller.job ≡ job.Draw (draw.From ms)
      → AllByRecursion (EntrySettled (hit_words s.words) s.pipes (printed s) s.controller.sweeps (sweeping es x ms 0)) es
  from_settled ms x q =
      all_to_in _ es (λ e m. entry_goes s i (hit_words s.words) [] s.controller.sweeps (job.Draw (draw.From ms)) (sweeping es x ms 0) q e e m refl refl refl refl refl refl (λ base place. tt)
      (λ place d n low h b. h (subst (λ z. IsFrom z n) (same e m place d) b)))
    where
      same : (e : Entry) → In e es → (place : Place) → e.place ≡ Some place
          → base_of (printed s) s.controller.sweeps (sweeping es x ms 0) e ≡ base_of (printed s) s.controller.sweeps (job.Draw (draw.From ms)) e
      same e m place d =
          base_same (printed s) (printed s) s.controller.sweeps (job.Draw (draw.From ms)) (sweeping es x ms 0) e
          (ap (λ b. if b then s.controller.sweeps + 1 else s.controller.sweeps) (past_first s.controller.book.taken x ms es i.shape.book.rising e m (ap is_some d))) (λ n. refl)

  -- ---- a sweep ends

  swept_settled : (from ms : ℕ) → s.controller.job ≡ job.Draw (draw.Swept from ms)
      → AllByRecursion (EntrySettled (hit_words s.words) s.pipes (line.Swept (s.controller.sweeps + 1) from (s.words name.Tick) ms ∷ printed s) (s.controller.sweeps + 1) job.Free) es
  swept_settled from ms q =
      all_to_in _ es (λ e m. entry_goes s i (hit_words s.words) (line.Swept (s.controller.sweeps + 1) from (s.words name.Tick) ms ∷ []) (s.controller.sweeps + 1) (job.Draw (draw.Swept from ms)) job.Free q e e m refl refl refl refl refl refl
      (λ base place. (tt, tt)) (λ place d n low h b. turn (s.words (name.Hit place) ≡ 1) e n low h b))
    where
      lower : (n : ℕ) → n < s.controller.sweeps + 1
          → numbered_sweep (line.Swept (s.controller.sweeps + 1) from (s.words name.Tick) ms ∷ printed s) n ≡ numbered_sweep (printed s) n
      lower n h = at ((s.controller.sweeps + 1) == n) (grind (arith, nat_tests))
        where
          at : (b : Bool) → b ≡ false
              → option_or (if b then Some (record { number = s.controller.sweeps + 1; from = from; to = s.words name.Tick; at_ms = ms }) else None) (numbered_sweep (printed s) n) ≡ numbered_sweep (printed s) n
          at true e = cc
          at false e = refl

      this : (n : ℕ) → n ≡ s.controller.sweeps + 1
          → option_map (λ w. w.to) (numbered_sweep (line.Swept (s.controller.sweeps + 1) from (s.words name.Tick) ms ∷ printed s) n) ≡ Some (s.words name.Tick)
      this n h = at ((s.controller.sweeps + 1) == n) (grind (arith, nat_tests))
        where
          at : (b : Bool) → b ≡ true
              → option_map (λ w. w.to) (option_or (if b then Some (record { number = s.controller.sweeps + 1; from = from; to = s.words name.Tick; at_ms = ms }) else None) (numbered_sweep (printed s) n)) ≡ Some (s.words name.Tick)
          at true e = refl
          at false e = cc

      turn : (P : Type 0) (e : Entry) (n : ℕ) → n < s.words name.Tick
          → (IsFrom (base_of (printed s) s.controller.sweeps (job.Draw (draw.Swept from ms)) e) n → P)
          → IsFrom (base_of (line.Swept (s.controller.sweeps + 1) from (s.words name.Tick) ms ∷ printed s) (s.controller.sweeps + 1) job.Free e) n → P
      turn P e n low h b = at e.quiet h b
        where
          at : (o : Option ℕ) → (IsFrom (base_by (printed s) (s.controller.sweeps + 1) o) n → P)
              → IsFrom (base_by (line.Swept (s.controller.sweeps + 1) from (s.words name.Tick) ms ∷ printed s) (s.controller.sweeps + 1) o) n → P
          at None h b = h b
          at (Some c) h b = two (cases_eq c 0)
            where
              two : (c ≡ 0) ⊎ (c ≢ 0) → P
              two (inl zero_is) =
                  let late : s.words name.Tick ≤ n = subst (λ z. IsFrom z n) (this (s.controller.sweeps + 1 - c) (omega arith)) b in absurd (omega arith)
              two (inr some) = h (subst (λ z. IsFrom z n) (ap (option_map (λ w. w.to)) (lower (s.controller.sweeps + 1 - c) (omega arith))) b)

  -- ---- a sweep goes by an entry

  module _ (from ms : ℕ) (key : KeyView) (place : Place) (number : ℕ) (q : s.controller.job ≡ job.Hit from ms key place number) where
    abbrev after : Place → ℕ
    after p = if same_place place p then 0 else s.words (name.Hit p)

    abbrev m : Job
    m = hit_next_job s i from ms key place number q

    -- the ticks from which on hits aren't swept, where nothing hit the entry
    own_bases : (e : Entry) → In e es → is_of key e ≡ true → (c : ℕ) → e.quiet ≡ Some c
        → (u : Sweep) × (w : Sweep) × (base_of (printed s) s.controller.sweeps (job.Hit from ms key place number) e ≡ Some u.to)
        × (sweep_to (printed s) (s.controller.sweeps + 1 - min 255 (c + 1)) ≡ Some w.to) × (u.to ≤ w.to)
    own_bases e inside t c g =
        let gone = gone_before s i from ms key place number q e inside t in
        let quiet_so : EntryQuiet (printed s) s.controller.sweeps (job.Hit from ms key place number) e =
        subst (λ z. EntryQuiet (printed s) s.controller.sweeps z e) q (all_in (EntryQuiet (printed s) s.controller.sweeps s.controller.job) es e i.sweeps.sweeps.quiet inside) in
        let before = of_some (QuietHolds (printed s) s.controller.sweeps (job.Hit from ms key place number) e.key (rounds s.controller.sweeps (job.Hit from ms key place number) e.taken)) e.quiet c quiet_so g in
        let less : c < s.controller.sweeps = subst (λ n. c < n) gone before.less in
        let a = told_sweep s i (s.controller.sweeps - c) (omega arith) (omega arith) in
        let b = told_sweep s i (s.controller.sweeps + 1 - min 255 (c + 1)) (omega arith) (omega arith) in (
          a.0,
          b.0,
          ap (base_by (printed s) (rounds s.controller.sweeps (job.Hit from ms key place number) e.taken)) g ∙ (ap (λ n. sweep_to (printed s) (n - c)) gone ∙ ap (option_map (λ w. w.to)) a.1),
          ap (option_map (λ w. w.to)) b.1,
          (sweeps_rise s i (s.controller.sweeps - c) (s.controller.sweeps + 1 - min 255 (c + 1)) a.0 b.0 a.1 b.1 (omega arith)).1,
        )

    own_turn : (e : Entry) → In e es → is_of key e ≡ true → (n : ℕ) → Counts (read_flag (s.words (name.Hit place))) e.quiet n → (entered : ℕ)
        → (IsFrom (base_of (printed s) s.controller.sweeps (job.Hit from ms key place number) e) entered → s.words (name.Hit place) ≡ 1)
        → IsFrom (sweep_to (printed s) (s.controller.sweeps + 1 - n)) entered → ⊥
    unfolding read_flag
    own_turn e inside t n starts_over entered h b =
        subst (λ o. IsFrom (option_map (λ w. w.to) o) entered) (next_untold s i (s.controller.sweeps + 1 - 0) (omega arith)) b
    own_turn e inside t n (counts_on c none was) entered h b =
        let z = own_bases e inside t c was in
        let late : z.1.to ≤ entered = subst (λ o. IsFrom o entered) z.3 b in
        let hit : s.words (name.Hit place) ≡ 1 = h (subst (λ o. IsFrom o entered) (sym z.2) (omega (arith, z.4))) in
        true≢false (sym (ap (λ y. y == 1) hit) ∙ none)

    hit_settled : AllByRecursion (EntrySettled after s.pipes (printed s) s.controller.sweeps m) (with_changed (swept (read_flag (s.words (name.Hit place)))) key es)
    hit_settled =
        changed_all (λ e. In e es) (EntrySettled after s.pipes (printed s) s.controller.sweeps m) (swept (read_flag (s.words (name.Hit place)))) key own other es
        (all_to_in (λ e. In e es) es (λ e inside. inside))
      where
        own : (e : Entry) → is_of key e ≡ true → In e es
            → EntrySettled (λ p. if same_place place p then 0 else s.words (name.Hit p)) s.pipes (printed s) s.controller.sweeps (hit_next_job s i from ms key place number q) (swept (read_flag (s.words (name.Hit place))) e)
        own e t inside =
            entry_goes s i after [] s.controller.sweeps (job.Hit from ms key place number) m q e (swept (read_flag (s.words (name.Hit place))) e) inside refl refl refl refl refl refl (λ base p. tt)
            (λ p d n low h b. absurd (own_turn e inside t (quiet_after (read_flag (s.words (name.Hit place))) e.quiet) (counts (read_flag (s.words (name.Hit place))) e.quiet) n
            (λ y. subst (λ z. s.words (name.Hit z) ≡ 1) (same_here e t inside p d) (h y))
            (subst (λ gone. IsFrom (sweep_to (printed s) (gone - quiet_after (read_flag (s.words (name.Hit place))) e.quiet)) n) (gone_after s i from ms key place number q e inside t) b)))
          where
            same_here : (e : Entry) → is_of key e ≡ true → In e es → (p : Place) → e.place ≡ Some p → p ≡ place
            same_here e t inside p d =
                same_Some p place (sym d ∙ (ap (λ z. z.place) (sym (hit_entry s i from ms key place number q e inside t)) ∙ (hit_stands s i from ms key place number q).2))

        -- no other entry stands there
        elsewhere : (e : Entry) → is_of key e ≡ false → In e es → (p : Place) → e.place ≡ Some p → same_place place p ≡ false
        elsewhere e t inside p d = at (same_place place p) refl
          where
            w : Entry
            w = (hit_stands s i from ms key place number q).0

            found : entry_for key es ≡ Some w
            found = (hit_stands s i from ms key place number q).1

            at : (b : Bool) → same_place place p ≡ b → b ≡ false
            at true g =
                let same : place ≡ p = same_place-true place p g in
                let one : holder_entry place es ≡ Some w =
                holder_found es key place w i.shape.book.distinct i.jobs.holds.once found (at_held place w (hit_stands s i from ms key place number q).2) in
                let two : holder_entry place es ≡ Some e =
                holder_found es e.key place e i.shape.book.distinct i.jobs.holds.once (in_own es e i.shape.book.distinct inside) (at_held place e (d ∙ ap Some (sym same))) in
                let is : w ≡ e = same_Some w e (sym one ∙ two) in
                absurd (true≢false (sym (found_passes (is_of key) es w found) ∙ (ap (is_of key) is ∙ t)))
            at false g = refl

        other : (e : Entry) → is_of key e ≡ false → In e es
            → EntrySettled (λ p. if same_place place p then 0 else s.words (name.Hit p)) s.pipes (printed s) s.controller.sweeps (hit_next_job s i from ms key place number q) e
        other e t inside =
            entry_goes s i after [] s.controller.sweeps (job.Hit from ms key place number) m q e e inside refl refl refl refl refl refl (λ base p. tt)
            (λ p d n low h b. ap (λ z. if z then 0 else s.words (name.Hit p)) (elsewhere e t inside p d) ∙ h (subst (λ z. IsFrom z n) (same e t inside p d) b))
          where
            same : (e : Entry) → is_of key e ≡ false → In e es → (p : Place) → e.place ≡ Some p
                → base_of (printed s) s.controller.sweeps (hit_next_job s i from ms key place number q) e ≡ base_of (printed s) s.controller.sweeps (job.Hit from ms key place number) e
            same e t inside p d =
                base_same (printed s) (printed s) s.controller.sweeps (job.Hit from ms key place number) (hit_next_job s i from ms key place number q) e
                (ap (λ b. if b then s.controller.sweeps + 1 else s.controller.sweeps) (hit_past s i from ms key place number q e inside t (ap is_some d))) (λ n. refl)

  -- ---- each job

  settled_list : (j : Job) (o : Option Op) (now : List Line) → AtOp o (λ o. hit_words (op_words s.words o) ≡ hit_words s.words)
      → AtOp o (λ o. AllByRecursion (EntrySettled (hit_words s.words) s.pipes now (sweeps_next s.controller j) (job_next s.config s.controller j (op_answer o (s.words (op_name o)))))
      (book_next s.config s.controller j (op_answer o (s.words (op_name o)))).entries)
      → AfterJob (λ t. printed t ≡ now) s j o → AfterJob SettledAre s j o
  settled_list j None now same h lines = tt
  settled_list j (Some o) now same h lines =
      let x = op_answer o (s.words (op_name o)) in
      subst (λ ls. AllByRecursion (EntrySettled (hit_words (op_words s.words o)) s.pipes ls (sweeps_next s.controller j) (job_next s.config s.controller j x)) (book_next s.config s.controller j x).entries) (sym lines)
      (subst (λ hs. AllByRecursion (EntrySettled hs s.pipes now (sweeps_next s.controller j) (job_next s.config s.controller j x)) (book_next s.config s.controller j x).entries) (sym same) h)

  -- whatever the step answers
  settled_any : (j : Job) (o : Option Op) (now : List Line) → AtOp o (λ o. hit_words (op_words s.words o) ≡ hit_words s.words)
      → ((x : ℕ) → AllByRecursion (EntrySettled (hit_words s.words) s.pipes now (sweeps_next s.controller j) (job_next s.config s.controller j x)) (book_next s.config s.controller j x).entries)
      → AfterJob (λ t. printed t ≡ now) s j o → AfterJob SettledAre s j o
  settled_any j None now same h lines = tt
  settled_any j (Some o) now same h lines = settled_list j (Some o) now same (h (op_answer o (s.words (op_name o)))) lines

  settled_draw : (d : Draw) → s.controller.job ≡ job.Draw d → AfterJob SettledAre s (job.Draw d) (job_op s.config s.controller (job.Draw d))
  settled_draw (draw.From ms) q =
      settled_list (job.Draw (draw.From ms)) (job_op s.config s.controller (job.Draw (draw.From ms))) (printed s) refl (from_settled ms (s.words name.Tick) q) (job_tells s (job.Draw (draw.From ms)) i.ticks)
  settled_draw (draw.Swept from ms) q =
      settled_list (job.Draw (draw.Swept from ms)) (job_op s.config s.controller (job.Draw (draw.Swept from ms))) (line.Swept (s.controller.sweeps + 1) from (s.words name.Tick) ms ∷ printed s) refl (swept_settled from ms q)
      (job_tells s (job.Draw (draw.Swept from ms)) i.ticks)
  settled_draw (draw.Retired key place version) q =
      settled_list (job.Draw (draw.Retired key place version)) (job_op s.config s.controller (job.Draw (draw.Retired key place version))) _ refl
      (all_filtered _ (λ e. not (is_of key e)) es (draw_goes s i (draw.Retired key place version) q tt)) (job_tells s (job.Draw (draw.Retired key place version)) i.ticks)
  settled_draw d q =
      settled_list (job.Draw d) (job_op s.config s.controller (job.Draw d)) (tells s.config s.controller (job.Draw d) (s.words name.Tick) ++ printed s) refl (draw_goes s i d q tt) (job_tells s (job.Draw d) i.ticks)

  settled_job : (j : Job) → s.controller.job ≡ j → AfterJob SettledAre s j (job_op s.config s.controller j)
  settled_job job.Free q = tt
  settled_job (job.Draw d) q = settled_draw d q
  settled_job (job.Hit from ms key place number) q =
      subst (λ ls. AllByRecursion (EntrySettled (λ p. if same_place place p then 0 else s.words (name.Hit p)) s.pipes ls s.controller.sweeps (hit_next_job s i from ms key place number q)) (with_changed (swept (read_flag (s.words (name.Hit place)))) key es))
      (sym (job_tells s (job.Hit from ms key place number) i.ticks)) (hit_settled from ms key place number q)
  settled_job (job.Store (store.Judge p)) q =
      settled_list (job.Store (store.Judge p)) (job_op s.config s.controller (job.Store (store.Judge p))) (printed s) refl
      (judged_goes s i p (is_withdrawn s.config s.controller p) (version_for s.controller.vips es p.key) q) (job_tells s (job.Store (store.Judge p)) i.ticks)
  settled_job (job.Store (store.Empty key place w)) q =
      settled_list (job.Store (store.Empty key place w)) (job_op s.config s.controller (job.Store (store.Empty key place w))) (printed s) refl (emptied_goes s i key place w q) (job_tells s (job.Store (store.Empty key place w)) i.ticks)
  settled_job (job.Drain pipe count w) q =
      settled_list (job.Drain pipe count w) (job_op s.config s.controller (job.Drain pipe count w)) (printed s) refl
      (take_goes s i (job.Drain pipe count w) _ (ended_by (job.Drain pipe count w)) pipe _ q tt (λ key. refl)) (job_tells s (job.Drain pipe count w) i.ticks)
  settled_job (job.Look pipe) q =
      settled_list (job.Look pipe) (job_op s.config s.controller (job.Look pipe)) (printed s) refl (take_goes s i (job.Look pipe) _ None pipe _ q tt (λ key. refl)) (job_tells s (job.Look pipe) i.ticks)
  settled_job j q =
      settled_any j (job_op s.config s.controller j) (printed s) refl (λ x. still_goes s i j x q tt (λ key. refl)) (job_tells s j i.ticks)

  -- ---- what it begins

  settled_begins : s.controller.job ≡ job.Free → (start : Start) → Begins s.config s.controller start
      → AllByRecursion (EntrySettled (hit_words s.words) s.pipes (printed s) s.controller.sweeps start.job) es
  settled_begins free start b =
      all_to_in _ es (λ e inside. silent_goes s i job.Free start.job free (record { running = refl; past = λ n. refl }) (begins_none s start b) e e inside (twin_self e) refl)

  -- ---- a packet enters

  settled_enter : (p : ℕ) (v : PipeView) (packet : Packet) → slice_get s.pipes p ≡ Some v
      → SettledAre (record s { pipes = slice_set s.pipes p (record v { stage = stage.Enter packet }) })
  settled_enter p v packet q =
      subst (λ ls. AllByRecursion (EntrySettled (hit_words s.words) (slice_set s.pipes p (record v { stage = stage.Enter packet })) ls s.controller.sweeps s.controller.job) es)
      (sym (pipe_silent s p v (record v { stage = stage.Enter packet }) q refl s.words))
      (all_then (EntrySettled (hit_words s.words) s.pipes (printed s) s.controller.sweeps s.controller.job) _ (λ e h also still. at e (base_of (printed s) s.controller.sweeps s.controller.job e) e.place (h also still)) es i.sweeps.sweeps.settled)
    where
      at : (e : Entry) (base : Option ℕ) (o : Option Place) → IfSome o (SettledAt (hit_words s.words) s.pipes (printed s) base e)
          → IfSome o (SettledAt (hit_words s.words) (slice_set s.pipes p (record v { stage = stage.Enter packet })) (printed s) base e)
      at e base None h = tt
      at e base (Some place) h = record {
        flights = each_set s.pipes p v (record v { stage = stage.Enter packet }) q (λ n u. OnLeg u.stage (FlightSettled (hit_words s.words) base (since (printed s) e.key) place e)) h.flights tt;
        told = h.told;
      }

pub settled_put : (s : Core) (p : Put) → s.controller.job ≡ job.Free → Invariant s → SettledAre (put_core s p)
settled_put s p free i =
    let m : Job = job.Draw (draw.Reserved p) in
    all_to_in _ s.controller.book.entries (λ e inside. silent_goes s i job.Free m free (record { running = refl; past = λ n. refl })
    (record { running = refl; past = λ n. refl }) e e inside (twin_self e) refl)

pub settled_keep : Keeps IsPacket Invariant SettledAre
settled_keep = record {
  stages = λ s p v a q e i f. settled_stage s i p v q a e;
  begins = λ s i f.
      begun_by s.config s.controller (λ c. AllByRecursion (EntrySettled (hit_words s.words) s.pipes (printed s) c.sweeps c.job) c.book.entries) f
      (λ free start b. settled_begins s i free start b);
  jobs = λ s j q b i f. settled_job s i j q;
  enters = λ s p v packet q r u n a i f. settled_enter s i p v packet q;
  clocks = λ s ms q i f. f;
  refusals = λ s q i f. f;
}

pub settled_part : (s : Core) → Invariant s → SettledAre s
settled_part s i = i.sweeps.sweeps.settled

pub settled_open : OpensWith SettledAre
unfolding opening_controller
settled_open k f = tt
