-- Steps of pipes, and of a controller that is no part of a sweep, keep which entries were quiet.
use Rattle.sr_base.proofs.Sameness.{same_place-self}
use Rattle.sr_base.specs.Key.{KeyView, same_key}
use Rattle.sr_base.specs.declared.place.Place.{Place}
use Rattle.sr_base.specs.declared.vip_word.Phase.{Phase}
use Rattle.sr_base.specs.declared.vip_word.Phase.TheVariants.{Holding, Recording, Steady, Transit}
use Rattle.sr_inv_facts.proofs.Books.{changed_all}
use Rattle.sr_inv_facts.proofs.Lists.{all_filtered, all_in, all_more, all_then, all_to_in}
use Rattle.sr_inv_facts.proofs.Printing.{prints, stage_prints, tells}
use Rattle.sr_inv_facts.proofs.Taking.{TakesBook, takes}
use Rattle.sr_inv_facts.specs.InJobs.{JobHolds, book_taking, job_taking, seen}
use Rattle.sr_inv_facts.specs.InSweeps.{EntryQuiet, QuietAre, is_fresh, is_live_taking, is_unsettled, last_moved, rounds, since}
use Rattle.sr_inv_facts.specs.Invariant.{Invariant}
use Rattle.sr_inv_facts.specs.Readings.{In}
use Rattle.sr_inv_matching.proofs.Members.{member_other}
use Rattle.sr_inv_quiet.proofs.QuietTurns.{Carries, IsCalm, IsOffSweep, NoSweep, carries_calm, carries_silent, entry_turns, goes_none, none_quiet, off_none, rounds_none}
use Rattle.sr_inv_quiet.proofs.SweepTicks.{from_drawn}
use Rattle.sr_inv_sweeps.proofs.ClosingJobs.{AtOp}
use Rattle.sr_law.specs.Retire.{last_placed, uses_between, uses_entry}
use Rattle.sr_law.specs.Taken.{taken}
use Rattle.sr_law.specs.Ticks.{is_controller, out_of}
use Rattle.sr_law.specs.declared.line.Line.{Line}
use Rattle.sr_law.specs.declared.verdict.Verdict.{Verdict}
use Rattle.sr_machine.proofs.Following.{goes}
use Rattle.sr_machine.specs.Core.{Core, printed}
use Rattle.sr_machine.specs.Deciding.{is_withdrawn, version_for}
use Rattle.sr_machine.specs.Draws.{answer_line, draw_line, phase_line}
use Rattle.sr_machine.specs.Jobs.{book_next, job_next, judged_book, sweeps_next}
use Rattle.sr_machine.specs.Keeping.{AfterJob, AfterStage}
use Rattle.sr_machine.specs.Ops.{op_answer, op_name}
use Rattle.sr_machine.specs.Pipe.{packet_line, pipe_op}
use Rattle.sr_machine.specs.Taking.{ended_by, taking}
use Rattle.sr_machine.specs.declared.draw.Draw.{Draw}
use Rattle.sr_machine.specs.declared.flight.Flight.{Flight}
use Rattle.sr_machine.specs.declared.job.Job.{Job}
use Rattle.sr_machine.specs.declared.op.Op.{Op}
use Rattle.sr_machine.specs.declared.pipe_view.PipeView.{PipeView}
use Rattle.sr_machine.specs.declared.pool_update.PoolUpdate.{PoolUpdate}
use Rattle.sr_machine.specs.declared.put.Put.{Put}
use Rattle.sr_machine.specs.declared.reply.Reply.{Reply}
use Rattle.sr_machine.specs.declared.stage.Stage.{Stage}
use Rattle.sr_machine.specs.declared.why.Why.{Why}
use Rattle.sr_shadow.specs.Book.{is_registered, with_taken}
use Rattle.sr_shadow.specs.Entry.{closed, fresh, is_of, left_other, settled}
use Rattle.sr_shadow.specs.declared.book.Book.{Book}
use Rattle.sr_shadow.specs.declared.entry.Entry.{Entry}
use Rattle.std.proofs.Common.{Bool, List, None, Option, Some, [], ap, arith, false, if◌then◌else◌, inl, inr, max, nat_le, not, option_to_list, refl, slice_get, subst, sym, true, true≢false, unwrap_or, ℕ, ◌&&◌, ◌++◌, ◌<◌, ◌||◌, ◌∙◌, ◌∷◌, ◌≡◌, ◌≤◌, ◌⊎◌}
use Rattle.std.proofs.lemmas.Bool.Decides.{nat_tests}
use Rattle.std.proofs.lemmas.Option.{same_Some}
use Rattle.std.specs.List.{AllByRecursion, list_any}
use Rattle.std.specs.Option.{option_or}
use Rattle.sr_machine.specs.declared.draw.Draw.TheVariants as draw
use Rattle.sr_machine.specs.declared.store.Store.TheVariants as store
use Rattle.sr_machine.specs.declared.why.Why.TheVariants as why
use Rattle.sr_machine.specs.declared.job.Job.TheVariants as job
use Rattle.sr_machine.specs.declared.leg.Leg.TheVariants as leg
use Rattle.sr_machine.specs.declared.leg.Last.TheVariants as last
use Rattle.sr_machine.specs.declared.stage.Stage.TheVariants as stage
use Rattle.sr_machine.specs.declared.name.Name.TheVariants as name
use Rattle.sr_law.specs.declared.line.Line.TheVariants as line
use Rattle.sr_inv_facts.proofs.Taking as takes_book

-- since the line the entry stands where it stands, and no sweep went by it yet
pub record IsNewly (l : Line) (before : List Line) (e : Entry) : Type 0 where
  pub fresh_so : e.quiet ≡ None
  pub late : out_of l ≤ since (l ∷ before) e.key

-- or the line tells nothing of where it stands
pub record IsStill (j : Job) (l : Line) (before : List Line) (e : Entry) : Type 0 where
  pub calm : IsCalm l before e.key
  pub settled_so : is_unsettled j e.key ≡ false

-- the line of a job does one of these
pub record IsTold (j : Job) (l : Line) (before : List Line) (e : Entry) : Type 0 where
  pub own : is_controller l ≡ true
  pub told : IsNewly l before e ⊎ IsStill j l before e

module _ (s : Core) (i : Invariant s) where
  abbrev es : List Entry
  es = s.controller.book.entries

  abbrev Quiet : Entry → Type 0
  Quiet e = EntryQuiet (printed s) s.controller.sweeps s.controller.job e

  was_fresh : (j : Job) → s.controller.job ≡ j → (e : Entry) → In e es → is_fresh j e.key ≡ true → e.quiet ≡ None
  was_fresh j q e m =
      subst (λ z. is_fresh z e.key ≡ true → e.quiet ≡ None) q (all_in (λ e. is_fresh s.controller.job e.key ≡ true → e.quiet ≡ None) es e i.sweeps.sweeps.counted.fresh m)

  -- ---- a pipe's step

  module _ (p : ℕ) (v : PipeView) (q : slice_get s.pipes p ≡ Some v) where
    -- the line of a packet is out after every sweep began
    packet_carries : (f : Flight) (w : Verdict) (key : KeyView) (gone : ℕ)
        → Carries (printed s) (packet_line v.number f w (s.words name.Tick) ∷ printed s) s.controller.sweeps s.controller.sweeps s.controller.job s.controller.job key gone
    packet_carries f w key gone = record {
      placed = refl;
      moved = refl;
      from = λ n h. refl;
      to = λ n h. refl;
      uses = λ to from n e h. unused to from (from_drawn s i n from e) ∙ h;
    }
      where
        unused : (to from : ℕ) → from < s.words name.Tick
            → (uses_between key to from (packet_line v.number f w (s.words name.Tick)) || list_any (uses_between key to from) (printed s)) ≡ list_any (uses_between key to from) (printed s)
        unused to from h =
            at (same_key f.packet.key key && uses_entry f.packet.kind && nat_le to f.entered) (nat_le (s.words name.Tick) from) (grind (arith, nat_tests))
          where
            at : (a b : Bool) → b ≡ false → ((a && b) || list_any (uses_between key to from) (printed s)) ≡ list_any (uses_between key to from) (printed s)
            at true b e = ap (λ z. z || list_any (uses_between key to from) (printed s)) e
            at false b e = refl

    calm_stage : (a : Stage) (o : Option Op) (lines : List Line) → AfterStage (λ t. printed t ≡ lines) s p v a o
        → AllByRecursion (EntryQuiet lines s.controller.sweeps s.controller.job) es → AfterStage QuietAre s p v a o
    calm_stage a None lines e h = tt
    calm_stage a (Some o) lines e h = subst (λ ls. AllByRecursion (EntryQuiet ls s.controller.sweeps s.controller.job) es) (sym e) h

    stage_lines : (a : Stage) → AllByRecursion (EntryQuiet (prints v.number a (s.words name.Tick) ++ printed s) s.controller.sweeps s.controller.job) es
    stage_lines (stage.Fly f (leg.Judged w last.Out)) =
        all_then Quiet _ (λ e h. entry_turns (printed s) (packet_line v.number f w (s.words name.Tick) ∷ printed s) s.controller.sweeps s.controller.sweeps s.controller.job s.controller.job e refl
        (packet_carries f w e.key (rounds s.controller.sweeps s.controller.job e.taken)) h) es i.sweeps.sweeps.quiet
    stage_lines a = i.sweeps.sweeps.quiet

    pub quiet_stage : (a : Stage) → AfterStage QuietAre s p v a (pipe_op s.config.layout v a)
    quiet_stage a =
        calm_stage a (pipe_op s.config.layout v a) (prints v.number a (s.words name.Tick) ++ printed s) (stage_prints s p v a i.ticks q) (stage_lines a)

  -- ---- what a job tells

  module _ (x : ℕ) where
    calm_line : (j : Job) (l m : Line) (e : Entry) → l ≡ m → is_controller l ≡ true → IsCalm l (printed s) e.key → is_unsettled j e.key ≡ false
        → IsTold j m (printed s) e
    calm_line j l m e q own c u =
        subst (λ z. IsTold j z (printed s) e) q (record { own = own; told = inr (record { calm = c; settled_so = u }) })

    phase_told : (u : PoolUpdate) (p : Phase) (l : Line) (e : Entry) → phase_line u x p ≡ l → IsTold (job.Draw (draw.Comes u p)) l (printed s) e
    phase_told u Steady l e q = calm_line (job.Draw (draw.Comes u Steady)) (line.Finished x u.vip) l e q refl (record { placed = refl; moved = refl; sweep = refl }) refl
    phase_told u Recording l e q = calm_line (job.Draw (draw.Comes u Recording)) (line.Recorded x u.vip) l e q refl (record { placed = refl; moved = refl; sweep = refl }) refl
    phase_told u Holding l e q = calm_line (job.Draw (draw.Comes u Holding)) (line.Hold x u.vip) l e q refl (record { placed = refl; moved = refl; sweep = refl }) refl
    phase_told u Transit l e q = calm_line (job.Draw (draw.Comes u Transit)) (line.Switched x u.vip u.pool) l e q refl (record { placed = refl; moved = refl; sweep = refl }) refl

    -- an entry whose place is given up wasn't live there
    withdrawn_moves : (key : KeyView) (place : Place) (r : Option Reply) → s.controller.job ≡ job.Draw (draw.Cleared key place (why.Withdrawn r))
        → is_live_taking (taken (printed s) place) ≡ false
    withdrawn_moves key place r q =
        ap is_live_taking (i.jobs.holds.places place
        ∙ (ap (λ j. option_or (job_taking j place) (book_taking es place)) q
        ∙ ap (λ b. option_or (if b then Some (record { key = key; placed = false }) else None) (book_taking es place)) (same_place-self place)))

    -- and one that has moved was
    source_moves : (key : KeyView) (place : Place) → s.controller.job ≡ job.Draw (draw.Cleared key place why.Source)
        → is_live_taking (taken (printed s) place) ≡ true
    source_moves key place q =
        ap is_live_taking (i.jobs.holds.places place
        ∙ (ap (λ j. option_or (job_taking j place) (book_taking es place)) q
        ∙ ap (λ b. option_or (if b then Some (record { key = key; placed = true }) else None) (book_taking es place)) (same_place-self place)))

    cleared_told : (key : KeyView) (place : Place) (w : Why) → s.controller.job ≡ job.Draw (draw.Cleared key place w) → (e : Entry) → In e es
        → IsTold (job.Draw (draw.Cleared key place w)) (line.Cleared x key place) (printed s) e
    cleared_told key place w q e m = at w q (same_key key e.key) refl
      where
        apart : same_key key e.key ≡ false → IsCalm (line.Cleared x key place) (printed s) e.key
        apart t = record {
          placed = refl;
          moved = ap (λ b. if b && is_live_taking (taken (printed s) place) then Some x else None) t;
          sweep = refl;
        }

        later : (a b : ℕ) (z : Bool) → z ≡ true → x ≤ max a (unwrap_or (if z then Some x else None) b)
        later a b true f = omega arith
        later a b false f = cc

        and_none : (b : Bool) → (b && false) ≡ false
        and_none true = refl
        and_none false = refl

        at : (w : Why) → s.controller.job ≡ job.Draw (draw.Cleared key place w) → (b : Bool) → same_key key e.key ≡ b
            → IsTold (job.Draw (draw.Cleared key place w)) (line.Cleared x key place) (printed s) e
        at why.Source q true t = record {
          own = refl;
          told = inl (record {
            fresh_so = was_fresh (job.Draw (draw.Cleared key place why.Source)) q e m t;
            late = later (unwrap_or (last_placed (printed s) e.key) 0) (last_moved (printed s) e.key) (same_key key e.key && is_live_taking (taken (printed s) place))
                (cc (t, source_moves key place q));
          });
        }
        at (why.Retired version) q true t =
            let none : is_registered key es ≡ false = (subst (JobHolds s.config (seen s.controller) (printed s)) q i.jobs.holds.stands).1 in
            absurd (true≢false (sym t ∙ member_other key es e none m))
        at (why.Withdrawn r) q b t = record {
          own = refl;
          told = inr (record {
            calm = record {
              placed = refl;
              moved = ap (λ z. if same_key key e.key && z then Some x else None) (withdrawn_moves key place r q) ∙ ap (λ z. if z then Some x else None) (and_none (same_key key e.key));
              sweep = refl;
            };
            settled_so = refl;
          });
        }
        at why.Source q false t = record { own = refl; told = inr (record { calm = apart t; settled_so = t }) }
        at (why.Retired version) q false t = record { own = refl; told = inr (record { calm = apart t; settled_so = refl }) }

    placed_told_so : (p : Put) → s.controller.job ≡ job.Draw (draw.Placed p) → (e : Entry) → In e es
        → IsTold (job.Draw (draw.Placed p)) (line.Placed x p.key p.place) (printed s) e
    placed_told_so p q e m = at (same_key p.key e.key) refl
      where
        later : (o : Option ℕ) (b : ℕ) (z : Bool) → z ≡ true → x ≤ max (unwrap_or (option_or (if z then Some x else None) o) 0) b
        later o b true f = omega arith
        later o b false f = cc

        at : (b : Bool) → same_key p.key e.key ≡ b → IsTold (job.Draw (draw.Placed p)) (line.Placed x p.key p.place) (printed s) e
        at true t = record {
          own = refl;
          told = inl (record {
            fresh_so = was_fresh (job.Draw (draw.Placed p)) q e m t;
            late = later (last_placed (printed s) e.key) (last_moved (printed s) e.key) (same_key p.key e.key) t;
          });
        }
        at false t = record {
          own = refl;
          told = inr (record { calm = record { placed = ap (λ b. if b then Some x else None) t; moved = refl; sweep = refl }; settled_so = t });
        }

    pub draw_told : (d : Draw) → s.controller.job ≡ job.Draw d → IsOffSweep (job.Draw d) → (l : Line) → draw_line s.config s.controller d x ≡ Some l
        → (e : Entry) → In e es → IsTold (job.Draw d) l (printed s) e
    draw_told (draw.Grace w) q off l g e m = cc
    draw_told (draw.From ms) q off l g e m = absurd off
    draw_told (draw.Swept from ms) q off l g e m = absurd off
    draw_told (draw.Comes u p) q off l g e m = phase_told u p l e (same_Some (phase_line u x p) l g)
    draw_told (draw.Cleared key place w) q off l g e m =
        subst (λ z. IsTold (job.Draw (draw.Cleared key place w)) z (printed s) e) (same_Some (line.Cleared x key place) l g) (cleared_told key place w q e m)
    draw_told (draw.Placed p) q off l g e m =
        subst (λ z. IsTold (job.Draw (draw.Placed p)) z (printed s) e) (same_Some (line.Placed x p.key p.place) l g) (placed_told_so p q e m)
    draw_told (draw.Refused n) q off l g e m =
        calm_line (job.Draw (draw.Refused n)) (line.Refused x n) l e (same_Some (line.Refused x n) l g) refl (record { placed = refl; moved = refl; sweep = refl }) refl
    draw_told (draw.TakenDown n) q off l g e m =
        calm_line (job.Draw (draw.TakenDown n)) (line.TakenDown x n) l e (same_Some (line.TakenDown x n) l g) refl (record { placed = refl; moved = refl; sweep = refl }) refl
    draw_told (draw.Given u) q off l g e m =
        calm_line (job.Draw (draw.Given u)) (line.Given x u.vip u.given u.pool) l e (same_Some (line.Given x u.vip u.given u.pool) l g) refl (record { placed = refl; moved = refl; sweep = refl }) refl
    draw_told (draw.Reserved p) q off l g e m =
        calm_line (job.Draw (draw.Reserved p)) (line.Reserved x p.key p.place) l e (same_Some (line.Reserved x p.key p.place) l g) refl (record { placed = refl; moved = refl; sweep = refl }) refl
    draw_told (draw.Retired key place n) q off l g e m =
        calm_line (job.Draw (draw.Retired key place n)) (line.Retired x key) l e (same_Some (line.Retired x key) l g) refl (record { placed = refl; moved = refl; sweep = refl }) refl
    draw_told (draw.Answer r) q off l g e m =
        calm_line (job.Draw (draw.Answer r)) (answer_line s.config s.controller r x) l e (same_Some (answer_line s.config s.controller r x) l g) refl (record { placed = refl; moved = refl; sweep = refl }) refl

  -- ---- a job that is no part of a sweep

  -- each entry as it stood, after the job's line
  turn_off : (j : Job) → s.controller.job ≡ j → IsOffSweep j → (x : ℕ)
      → AllByRecursion (EntryQuiet (tells s.config s.controller j x ++ printed s) s.controller.sweeps (job_next s.config s.controller j x)) es
  turn_off j q off x = all_to_in _ es (λ e m. at j q off e m)
    where
      now : (j : Job) → IsOffSweep j → NoSweep (job_next s.config s.controller j x)
      now j off = goes_none s.config s.controller x j (job_next s.config s.controller j x) (goes s.config s.controller x j) off

      before : (j : Job) → s.controller.job ≡ j → (e : Entry) → In e es → EntryQuiet (printed s) s.controller.sweeps j e
      before j q e m = subst (λ z. EntryQuiet (printed s) s.controller.sweeps z e) q (all_in Quiet es e i.sweeps.sweeps.quiet m)

      same : (j : Job) (e : Entry) → IsOffSweep j → rounds s.controller.sweeps (job_next s.config s.controller j x) e.taken ≡ rounds s.controller.sweeps j e.taken
      same j e off =
          rounds_none s.controller.sweeps e.taken (job_next s.config s.controller j x) (now j off) ∙ sym (rounds_none s.controller.sweeps e.taken j (off_none j off))

      silent : (j : Job) → s.controller.job ≡ j → IsOffSweep j → (e : Entry) → In e es
          → EntryQuiet (printed s) s.controller.sweeps (job_next s.config s.controller j x) e
      silent j q off e m =
          entry_turns (printed s) (printed s) s.controller.sweeps s.controller.sweeps j (job_next s.config s.controller j x) e (same j e off)
          (carries_silent (printed s) s.controller.sweeps j (job_next s.config s.controller j x) ((now j off).running ∙ sym (off_none j off).running) e.key (rounds s.controller.sweeps j e.taken)) (before j q e m)

      line : (d : Draw) → s.controller.job ≡ job.Draw d → IsOffSweep (job.Draw d) → (e : Entry) → In e es → (l : Line) → IsTold (job.Draw d) l (printed s) e
          → EntryQuiet (l ∷ printed s) s.controller.sweeps (job_next s.config s.controller (job.Draw d) x) e
      line d q off e m l t = two t.told
        where
          two : IsNewly l (printed s) e ⊎ IsStill (job.Draw d) l (printed s) e → EntryQuiet (l ∷ printed s) s.controller.sweeps (job_next s.config s.controller (job.Draw d) x) e
          two (inl n) = none_quiet (l ∷ printed s) s.controller.sweeps (job_next s.config s.controller (job.Draw d) x) e n.fresh_so
          two (inr c) =
              let j = job.Draw d in
              let m2 = job_next s.config s.controller j x in
              entry_turns (printed s) (l ∷ printed s) s.controller.sweeps s.controller.sweeps j m2 e (same j e off)
              (carries_calm (printed s) l s.controller.sweeps j m2 t.own ((now j off).running ∙ sym (off_none j off).running) e.key (rounds s.controller.sweeps j e.taken) c.calm) (before j q e m)

      at : (j : Job) → s.controller.job ≡ j → IsOffSweep j → (e : Entry) → In e es
          → EntryQuiet (tells s.config s.controller j x ++ printed s) s.controller.sweeps (job_next s.config s.controller j x) e
      at (job.Draw d) q off e m = by (draw_line s.config s.controller d x) refl
        where
          by : (o : Option Line) → draw_line s.config s.controller d x ≡ o
              → EntryQuiet (option_to_list o ++ printed s) s.controller.sweeps (job_next s.config s.controller (job.Draw d) x) e
          by None g = silent (job.Draw d) q off e m
          by (Some l) g = line d q off e m l (draw_told x d q off l g e m)
      at job.Free q off e m = silent job.Free q off e m
      at (job.Store w) q off e m = silent (job.Store w) q off e m
      at (job.Pass g n w) q off e m = silent (job.Pass g n w) q off e m
      at (job.Drain n c w) q off e m = silent (job.Drain n c w) q off e m
      at (job.Look n) q off e m = silent (job.Look n) q off e m
      at (job.Hit from ms key place number) q off e m = absurd off

  -- and the book after it
  quiet_book : (j : Job) (x : ℕ) (lines : List Line) (m : Job) → IsOffSweep j → AllByRecursion (EntryQuiet lines s.controller.sweeps m) es
      → AllByRecursion (EntryQuiet lines s.controller.sweeps m) (book_next s.config s.controller j x).entries
  quiet_book j x lines m off a = at j off
    where
      P : Entry → Type 0
      P e = EntryQuiet lines s.controller.sweeps m e

      take : (ended : Option KeyView) (pipe : ℕ) → AllByRecursion (EntryQuiet lines s.controller.sweeps m) (taking s.config s.controller ended pipe x).book.entries
      take ended pipe = by _ (takes s.config s.controller ended pipe x).book
        where
          by : (d : Book) → TakesBook s.config.layout s.controller.numbers ended x s.controller.book d → AllByRecursion (EntryQuiet lines s.controller.sweeps m) d.entries
          by d (takes_book.same_book u) = a
          by d (takes_book.learned_book w r k t n) = all_more (EntryQuiet lines s.controller.sweeps m) es (fresh w.key w.version s.controller.book.taken ∷ []) a (tt, tt)
          by d (takes_book.closed_book w r k t) =
              changed_all (EntryQuiet lines s.controller.sweeps m) (EntryQuiet lines s.controller.sweeps m) closed w.key (λ e g h. h) (λ e g h. h) es a

      judged : (p : Put) (version : ℕ) (b : Bool) → AllByRecursion (EntryQuiet lines s.controller.sweeps m) (judged_book b p version s.controller.book).entries
      judged p version true = a
      judged p version false =
          changed_all (EntryQuiet lines s.controller.sweeps m) (EntryQuiet lines s.controller.sweeps m) (settled p.place) p.key (λ e g h. tt) (λ e g h. h) (with_taken p.key version s.controller.book).entries
          (by (is_registered p.key es))
        where
          by : (b : Bool) → AllByRecursion (EntryQuiet lines s.controller.sweeps m) (if b then es else (es ++ fresh p.key version s.controller.book.taken ∷ []))
          by true = a
          by false = all_more (EntryQuiet lines s.controller.sweeps m) es (fresh p.key version s.controller.book.taken ∷ []) a (tt, tt)

      at : (j : Job) → IsOffSweep j → AllByRecursion (EntryQuiet lines s.controller.sweeps m) (book_next s.config s.controller j x).entries
      at (job.Draw (draw.Retired key place version)) off = all_filtered (EntryQuiet lines s.controller.sweeps m) (λ e. not (is_of key e)) es a
      at (job.Store (store.Judge p)) off = judged p (version_for s.controller.vips es p.key) (is_withdrawn s.config s.controller p)
      at (job.Store (store.Empty key place w)) off =
          changed_all (EntryQuiet lines s.controller.sweeps m) (EntryQuiet lines s.controller.sweeps m) left_other key (λ e g h. h) (λ e g h. h) es a
      at (job.Drain pipe count w) off = take (ended_by (job.Drain pipe count w)) pipe
      at (job.Look pipe) off = take None pipe
      at (job.Hit from ms key place number) off = absurd off
      at j off = a

  pub quiet_off : (j : Job) (o : Option Op) → s.controller.job ≡ j → IsOffSweep j → sweeps_next s.controller j ≡ s.controller.sweeps
      → AtOp o (λ o. (x : ℕ) → x ≡ op_answer o (s.words (op_name o)) → tells s.config s.controller j x ≡ tells s.config s.controller j (s.words name.Tick))
      → AfterJob (λ t. printed t ≡ tells s.config s.controller j (s.words name.Tick) ++ printed s) s j o → AfterJob QuietAre s j o
  quiet_off j None q off count same lines = tt
  quiet_off j (Some o) q off count same lines =
      let x = op_answer o (s.words (op_name o)) in
      let m = job_next s.config s.controller j x in
      let fs = (book_next s.config s.controller j x).entries in
      subst (λ ls. AllByRecursion (EntryQuiet ls (sweeps_next s.controller j) m) fs) (ap (λ ls. ls ++ printed s) (same x refl) ∙ sym lines)
      (subst (λ n. AllByRecursion (EntryQuiet (tells s.config s.controller j x ++ printed s) n m) fs) (sym count)
      (quiet_book j x (tells s.config s.controller j x ++ printed s) m off (turn_off j q off x)))
