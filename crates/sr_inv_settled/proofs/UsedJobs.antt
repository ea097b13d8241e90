-- Every event keeps what is said of the use of entries.
use Rattle.std.proofs.Common.{◌≡◌, ℕ, ◌+◌, ◌≤◌, ◌≢◌, ◌⊎◌, inl, inr, ◌==◌, not, Bool, true, false, List, [], ◌∷◌, ◌++◌, if◌then◌else◌, is_some, slice_get, slice_set, Some, None, Option, IfSome, option_map, option_to_list, sym, refl, ap, ◌∙◌, subst, true≢false, arith}
use Rattle.std.proofs.lemmas.Bool.Decides.{nat_tests}
use Rattle.std.proofs.lemmas.Option.{same_Some}
use Rattle.std.specs.List.{AllByRecursion}
use Rattle.std.specs.Option.{option_or}
use Rattle.sr_base.proofs.Sameness.{same_key-self, same_key-true, same_place-self, same_place-true}
use Rattle.sr_base.specs.Key.{KeyView, same_key}
use Rattle.sr_base.specs.Place.{same_place}
use Rattle.sr_base.specs.declared.place.Place.{Place}
use Rattle.sr_base.specs.declared.shape.Shape.{Shape}
use Rattle.sr_base.specs.declared.vip_word.Phase.TheVariants.{Steady, Recording, Holding, Transit}
use Rattle.sr_inv_facts.proofs.Beginning.{begun_by}
use Rattle.sr_inv_facts.proofs.Books.{changed_all, found_key}
use Rattle.sr_inv_facts.proofs.Lists.{all_filtered, all_in, all_more, all_then, all_to_in, of_some}
use Rattle.sr_inv_facts.proofs.Pipes.{idle, some_else, some_here}
use Rattle.sr_inv_facts.proofs.Printing.{job_tells, pipe_silent, prints, stage_prints, tells}
use Rattle.sr_inv_facts.proofs.Taking.{TakesBook, takes}
use Rattle.sr_inv_facts.specs.Fitted.{IsPacket}
use Rattle.sr_inv_facts.specs.InJobs.{JobHolds, seen}
use Rattle.sr_inv_facts.specs.InSweeps.{rounds, sweep_from}
use Rattle.sr_inv_facts.specs.Invariant.{Invariant}
use Rattle.sr_inv_facts.specs.Laws.{OpensWith}
use Rattle.sr_inv_facts.specs.Readings.{In, hit_words}
use Rattle.sr_inv_matching.proofs.Members.{in_own}
use Rattle.sr_inv_matching.proofs.Saying.{at_held, holder_found}
use Rattle.sr_inv_quiet.proofs.HitQuiet.{from_told, gone_after, gone_before, hit_entry, hit_next_job, hit_past, hit_running, hit_stands}
use Rattle.sr_inv_quiet.proofs.Placed.{past_first}
use Rattle.sr_inv_quiet.proofs.QuietKept.{begins_none, swept_carries}
use Rattle.sr_inv_quiet.proofs.QuietTurns.{IsOffSweep, NoSweep, from_same, goes_none, if_some_then, off_none, rounds_none}
use Rattle.sr_inv_quiet.proofs.SweepTicks.{from_drawn}
use Rattle.sr_inv_settled.proofs.Finding.{found_keep, found_open}
use Rattle.sr_inv_settled.proofs.Using.{Moves, covered_low, lines_used, pipe_used, since_moves, stage_hit, used_moves}
use Rattle.sr_inv_settled.specs.Used.{EntryUsed, FoundKept, IsCovered, IsFlyingFor, IsSince, IsUsed, StageFound, UsedAt, UsedKept, UsesAreTold, is_untold, stood}
use Rattle.sr_law.specs.Retire.{numbered_sweep, sweep_by, of_number}
use Rattle.sr_law.specs.declared.line.Line.{Line}
use Rattle.sr_machine.proofs.Following.{goes}
use Rattle.sr_machine.specs.Begins.{Begins}
use Rattle.sr_machine.specs.Config.{Config}
use Rattle.sr_machine.specs.Core.{Core, printed}
use Rattle.sr_machine.specs.Deciding.{dead_reply, is_withdrawn, version_for}
use Rattle.sr_machine.specs.Draws.{draw_line, sweeping}
use Rattle.sr_machine.specs.Jobs.{book_next, job_next, job_op, judged_book, sweeps_next}
use Rattle.sr_machine.specs.Keeping.{AfterJob, AfterStage, Keeps}
use Rattle.sr_machine.specs.Opening.{opening_controller}
use Rattle.sr_machine.specs.Ops.{op_answer, op_name, op_words}
use Rattle.sr_machine.specs.Pipe.{pipe_after, pipe_op}
use Rattle.sr_machine.specs.Reads.{read_flag}
use Rattle.sr_machine.specs.Stages.{stage_after}
use Rattle.sr_machine.specs.Starting.{Start}
use Rattle.sr_machine.specs.Stores.{judged_draw, store_name, store_value}
use Rattle.sr_machine.specs.Taking.{ended_by, taking}
use Rattle.sr_machine.specs.declared.controller_view.ControllerView.{ControllerView}
use Rattle.sr_machine.specs.declared.draw.Draw.{Draw}
use Rattle.sr_machine.specs.declared.flight.Flight.{Flight}
use Rattle.sr_machine.specs.declared.job.Job.{Job}
use Rattle.sr_machine.specs.declared.leg.Leg.TheVariants.{Hit, Judged}
use Rattle.sr_machine.specs.declared.name.Name.{Name}
use Rattle.sr_machine.specs.declared.op.Op.{Op}
use Rattle.sr_machine.specs.declared.op.Op.TheVariants.{Stores, Swaps}
use Rattle.sr_machine.specs.declared.pipe_view.PipeView.{PipeView}
use Rattle.sr_machine.specs.declared.put.Put.{Put}
use Rattle.sr_machine.specs.declared.stage.Stage.{Stage}
use Rattle.sr_machine.specs.declared.stage.Stage.TheVariants.{Enter, Fly, Idle}
use Rattle.sr_machine.specs.declared.store.Store.{Store}
use Rattle.sr_machine.specs.declared.why.Why.{Why}
use Rattle.sr_shadow.specs.Book.{entry_for, holder_entry, holder_of, is_registered, with_changed, with_taken}
use Rattle.sr_shadow.specs.Entry.{closed, fresh, is_of, left_other, quiet_after, settled, swept}
use Rattle.sr_shadow.specs.declared.book.Book.{Book}
use Rattle.sr_shadow.specs.declared.entry.Entry.{Entry}
use Rattle.sr_inv_facts.proofs.Taking as takes_book
use Rattle.sr_machine.specs.declared.draw.Draw.TheVariants as draw
use Rattle.sr_machine.specs.declared.job.Job.TheVariants as job
use Rattle.sr_machine.specs.declared.leg.Last.TheVariants as last
use Rattle.sr_machine.specs.declared.name.Name.TheVariants as name
use Rattle.sr_machine.specs.declared.store.Store.TheVariants as store
use Rattle.sr_machine.specs.declared.wait.Wait.TheVariants as wait
use Rattle.sr_law.specs.declared.line.Line.TheVariants as line

some_of : {X : Type 0} (o : Option X) (P : X → Type 0) → ((x : X) → o ≡ Some x → P x) → IfSome o P
some_of None P h = tt
some_of (Some x) P h = h x refl

-- ---- the line of a packet

prints_sweep : (n : ℕ) (at : Stage) (x : ℕ) (lines : List Line) (m : ℕ) → numbered_sweep (prints n at x ++ lines) m ≡ numbered_sweep lines m
prints_sweep n (Fly f (Judged v last.Out)) x lines m = refl
prints_sweep n at x lines m = refl

prints_stood : (n : ℕ) (at : Stage) (x : ℕ) (lines : List Line) (place : Place) → stood (prints n at x ++ lines) place ≡ stood lines place
prints_stood n (Fly f (Judged v last.Out)) x lines place = refl
prints_stood n at x lines place = refl

-- ---- a controller's step leaves no hit, and but for a sweep's takes none

abbrev SameHits : (Name → ℕ) → Op → Type 0
SameHits words o = (place : Place) → hit_words (op_words words o) place ≡ hit_words words place

abbrev NoHit : Job → Type 0
NoHit (job.Hit from ms key place number) = ⊥
NoHit j = Unit {0}

store_hits : (words : Name → ℕ) (k : Config) (c : ControllerView) (w : Store) → SameHits words (Stores (store_name w) (store_value k c w))
store_hits words k c (store.Down server) place = refl
store_hits words k c (store.Member u index) place = refl
store_hits words k c (store.Head u) place = refl
store_hits words k c (store.Vip u p) place = refl
store_hits words k c (store.Filter u index) place = refl
store_hits words k c (store.Reserved p) place = refl
store_hits words k c (store.Judge p) place = refl
store_hits words k c (store.Empty key at w) place = refl

job_hits : (words : Name → ℕ) (k : Config) (c : ControllerView) (j : Job) (o : Op) → NoHit j → job_op k c j ≡ Some o → SameHits words o
job_hits words k c job.Free o n e = cc
job_hits words k c (job.Draw d) o n e = subst (SameHits words) (same_Some _ o e) (λ place. refl)
job_hits words k c (job.Store w) o n e = subst (SameHits words) (same_Some _ o e) (store_hits words k c w)
job_hits words k c (job.Pass g pipe w) o n e = subst (SameHits words) (same_Some _ o e) (λ place. refl)
job_hits words k c (job.Drain pipe count w) o n e = subst (SameHits words) (same_Some _ o e) (λ place. refl)
job_hits words k c (job.Look pipe) o n e = subst (SameHits words) (same_Some _ o e) (λ place. refl)
job_hits words k c (job.Hit from ms key place number) o n e = absurd n

module _ (s : Core) (i : Invariant s) (h : UsesAreTold s) where
  abbrev es : List Entry
  es = s.controller.book.entries

  abbrev shape : Shape
  shape = s.config.layout.shape

  abbrev sweeps : ℕ
  sweeps = s.controller.sweeps

  abbrev hits : Place → ℕ
  hits = hit_words s.words

  -- what is known of an entry that stands at a place
  known : (j : Job) → s.controller.job ≡ j → (e : Entry) → In e es → (place : Place) → e.place ≡ Some place → is_untold j e.key ≡ false
      → UsedAt shape hits s.pipes (printed s) sweeps j e.key e.quiet (rounds sweeps j e.taken) place
  known j q e m place d t =
      let all = all_in (EntryUsed shape hits s.pipes (printed s) sweeps s.controller.job) es e h.used m in
      of_some (UsedAt shape hits s.pipes (printed s) sweeps j e.key e.quiet (rounds sweeps j e.taken)) e.place place
      (subst (λ z. EntryUsed shape hits s.pipes (printed s) sweeps z e) q all t) d

  -- who stands at a place holds it
  holder : (e : Entry) → In e es → (place : Place) → e.place ≡ Some place → holder_entry place es ≡ Some e
  holder e m place d =
      holder_found es e.key place e i.shape.book.distinct i.jobs.holds.once (in_own es e i.shape.book.distinct m) (at_held place e d)

  -- ---- a pipe's step

  module _ (p : ℕ) (v : PipeView) (q : slice_get s.pipes p ≡ Some v) (o : Op) (g : pipe_op s.config.layout v v.stage ≡ Some o) where
    abbrev x : ℕ
    x = op_answer o (s.words (op_name o))

    abbrev w : PipeView
    w = pipe_after s.config.layout v v.stage x

    abbrev more : List Line
    more = prints v.number v.stage (s.words name.Tick) ++ printed s

    stage_moves : (key : KeyView) (place : Place) (gone : ℕ)
        → Moves shape s.pipes (slice_set s.pipes p w) (printed s) more sweeps sweeps s.controller.job s.controller.job key place gone
    stage_moves key place gone = record {
      from = λ n low. from_same (printed s) more sweeps s.controller.job s.controller.job refl (prints_sweep v.number v.stage (s.words name.Tick) (printed s)) n;
      placed = prints_stood v.number v.stage (s.words name.Tick) (printed s) place;
      uses = λ from n e u.
          pipe_used shape s.config.layout s.pipes p v w x v.number (s.words name.Tick) (printed s) key from q refl (from_drawn s i n from e) u;
    }

    entry_stage : (e : Entry) → In e es → EntryUsed shape (hit_words (op_words s.words o)) (slice_set s.pipes p w) more sweeps s.controller.job e
    entry_stage e m t = some_of e.place _ (λ place d. at place d (known s.controller.job refl e m place d t))
      where
        flying : (place : Place) → e.place ≡ Some place → (f : Flight) (n : ℕ) → v.stage ≡ Fly f (Hit place n)
            → IsFlyingFor shape e.key w.stage
        flying place d f n r =
            let found : StageFound shape es s.controller.job p (Fly f (Hit place n)) = subst (StageFound shape es s.controller.job p) r (h.found p v q) in
            subst (λ z. IsFlyingFor shape e.key (stage_after s.config.layout z x)) (sym r) (found.own e m d)

        at : (place : Place) → e.place ≡ Some place
            → UsedAt shape hits s.pipes (printed s) sweeps s.controller.job e.key e.quiet (rounds sweeps s.controller.job e.taken) place
            → UsedAt shape (hit_words (op_words s.words o)) (slice_set s.pipes p w) more sweeps s.controller.job e.key e.quiet (rounds sweeps s.controller.job e.taken) place
        at place d u =
            let c = stage_moves e.key place (rounds sweeps s.controller.job e.taken) in
            record {
              long = (used_moves shape s.pipes (slice_set s.pipes p w) (printed s) more sweeps sweeps s.controller.job s.controller.job e.key place _ c hits hits e.quiet (λ z. z) u).long;
              hit = λ one n low. two c n low (stage_hit s.words s.config.layout v v.stage place o g one);
            }
          where
            two : Moves shape s.pipes (slice_set s.pipes p w) (printed s) more sweeps sweeps s.controller.job s.controller.job e.key place (rounds sweeps s.controller.job e.taken)
                → (n : ℕ) → n ≤ rounds sweeps s.controller.job e.taken
                → (hits place ≡ 1) ⊎ ((f : Flight) × (n : ℕ) × (v.stage ≡ Fly f (Hit place n)))
                → IsSince shape (slice_set s.pipes p w) more sweeps s.controller.job e.key place n
            two c n low (inl one) =
                since_moves shape s.pipes (slice_set s.pipes p w) (printed s) more sweeps sweeps s.controller.job s.controller.job e.key place _ c n low (u.hit one n low)
            two c n low (inr (f, k, r)) = λ from z.
                inr (inr (some_here s.pipes p v w q (λ p v. IsFlyingFor shape e.key v.stage) (flying place d f k r)))

  stage_used : (p : ℕ) (v : PipeView) → slice_get s.pipes p ≡ Some v → (o : Option Op) → pipe_op s.config.layout v v.stage ≡ o
      → AfterStage (λ t. printed t ≡ prints v.number v.stage (s.words name.Tick) ++ printed s) s p v v.stage o
      → AfterStage UsedKept s p v v.stage o
  stage_used p v q None g lines = tt
  stage_used p v q (Some o) g lines =
      subst (λ ls. AllByRecursion (EntryUsed shape (hit_words (op_words s.words o)) (slice_set s.pipes p (w p v q o g)) ls sweeps s.controller.job) es) (sym lines)
      (all_to_in _ es (λ e m. entry_stage p v q o g e m))

  -- ---- a packet enters

  enter_used : (p : ℕ) (v w : PipeView) → slice_get s.pipes p ≡ Some v → v.stage ≡ Idle
      → AllByRecursion (EntryUsed shape hits (slice_set s.pipes p w) (printed s) sweeps s.controller.job) es
  enter_used p v w q r = all_to_in _ es (λ e m t. some_of e.place _ (λ place d.
      used_moves shape s.pipes (slice_set s.pipes p w) (printed s) (printed s) sweeps sweeps s.controller.job s.controller.job e.key place _ (record {
        from = λ n low. refl;
        placed = refl;
        uses = λ from n z u. stays e.key from u;
      }) hits hits e.quiet (λ z. z) (known s.controller.job refl e m place d t)))
    where
      stays : (key : KeyView) (from : ℕ) → IsUsed shape s.pipes (printed s) key from → IsUsed shape (slice_set s.pipes p w) (printed s) key from
      stays key from (inl u) = inl u
      stays key from (inr (n, u, g, fly)) = at (n == p) refl
        where
          at : (b : Bool) → (n == p) ≡ b → IsUsed shape (slice_set s.pipes p w) (printed s) key from
          at true t =
              let same : n ≡ p = grind (arith, nat_tests) in
              let is : u ≡ v = same_Some u v (sym g ∙ (ap (slice_get s.pipes) same ∙ q)) in
              absurd (subst (IsFlyingFor shape key) r (subst (λ z. IsFlyingFor shape key z.stage) is fly))
          at false t =
              let apart : n ≢ p = grind (arith, nat_tests) in
              inr (some_else s.pipes p v w q (λ p v. IsFlyingFor shape key v.stage) n u apart g fly)

  -- ---- a line of a job that is no part of a sweep

  stands_now : (j : Job) → s.controller.job ≡ j → JobHolds s.config (seen s.controller) (printed s) j
  stands_now j q = subst (JobHolds s.config (seen s.controller) (printed s)) q i.jobs.holds.stands

  -- it tells of no sweep, and nothing of the place
  record IsAside (l : Line) (place : Place) : Type 0 where
    sweep : sweep_by l ≡ None
    placed : stood (l ∷ printed s) place ≡ stood (printed s) place

  aside_from : (l m : Line) (place : Place) → l ≡ m → sweep_by l ≡ None → stood (l ∷ printed s) place ≡ stood (printed s) place → IsAside m place
  aside_from l m place e a b = subst (λ z. IsAside z place) e (record { sweep = a; placed = b })

  module _ (e : Entry) (m : In e es) (place : Place) (d : e.place ≡ Some place) where
    -- the key that is being placed is the one that stands there
    placing_own : (p : Put) → s.controller.job ≡ job.Draw (draw.Placed p) → p.place ≡ place → same_key p.key e.key ≡ true
    placing_own p q same =
        let stands = (stands_now (job.Draw (draw.Placed p)) q).1.stands in
        let there : holder_entry place es ≡ Some stands.0 =
        holder_found es p.key place stands.0 i.shape.book.distinct i.jobs.holds.once stands.1 (at_held place stands.0 (stands.2 ∙ ap Some same)) in
        let is : stands.0 ≡ e = same_Some stands.0 e (sym there ∙ holder e m place d) in
        ap (same_key p.key) (sym (found_key p.key es stands.0 stands.1 ∙ ap (λ z. z.key) is)) ∙ same_key-self p.key

    -- and where the key is the entry's, that is its place
    placing_here : (p : Put) → s.controller.job ≡ job.Draw (draw.Placed p) → same_key p.key e.key ≡ true → p.place ≡ place
    placing_here p q t =
        let stands = (stands_now (job.Draw (draw.Placed p)) q).1.stands in
        let mine : entry_for p.key es ≡ Some e = ap (λ k. entry_for k es) (same_key-true p.key e.key t) ∙ in_own es e i.shape.book.distinct m in
        let is : stands.0 ≡ e = same_Some stands.0 e (sym stands.1 ∙ mine) in
        same_Some p.place place (sym stands.2 ∙ (ap (λ z. z.place) is ∙ d))

    -- nobody holds a place that is cleared
    cleared_apart : (key : KeyView) (at : Place) (w : Why) → s.controller.job ≡ job.Draw (draw.Cleared key at w) → same_place at place ≡ false
    cleared_apart key at w q = two (same_place at place) refl
      where
        two : (b : Bool) → same_place at place ≡ b → b ≡ false
        two false t = refl
        two true t =
            let free = (stands_now (job.Draw (draw.Cleared key at w)) q).0.free in
            let held : holder_of place es ≡ Some e.key = ap (option_map (λ z. z.key)) (holder e m place d) in
            let none : None ≡ Some e.key = sym free ∙ (ap (λ z. holder_of z es) (same_place-true at place t) ∙ held) in absurd (cc none)

    draw_aside : (d : Draw) → s.controller.job ≡ job.Draw d → IsOffSweep (job.Draw d) → (x : ℕ) (l : Line) → draw_line s.config s.controller d x ≡ Some l
        → is_untold (job.Draw d) e.key ≡ false
        → IsAside l place
    draw_aside (draw.Grace w) q off x l g t = cc
    draw_aside (draw.From ms) q off x l g t = absurd off
    draw_aside (draw.Swept from ms) q off x l g t = absurd off
    draw_aside (draw.Comes u Steady) q off x l g t = aside_from (line.Finished x u.vip) l place (same_Some _ l g) refl refl
    draw_aside (draw.Comes u Recording) q off x l g t = aside_from (line.Recorded x u.vip) l place (same_Some _ l g) refl refl
    draw_aside (draw.Comes u Holding) q off x l g t = aside_from (line.Hold x u.vip) l place (same_Some _ l g) refl refl
    draw_aside (draw.Comes u Transit) q off x l g t = aside_from (line.Switched x u.vip u.pool) l place (same_Some _ l g) refl refl
    draw_aside (draw.Refused n) q off x l g t = aside_from (line.Refused x n) l place (same_Some _ l g) refl refl
    draw_aside (draw.TakenDown n) q off x l g t = aside_from (line.TakenDown x n) l place (same_Some _ l g) refl refl
    draw_aside (draw.Given u) q off x l g t = aside_from (line.Given x u.vip u.given u.pool) l place (same_Some _ l g) refl refl
    draw_aside (draw.Reserved p) q off x l g t = aside_from (line.Reserved x p.key p.place) l place (same_Some _ l g) refl refl
    draw_aside (draw.Retired key at n) q off x l g t = aside_from (line.Retired x key) l place (same_Some _ l g) refl refl
    draw_aside (draw.Answer r) q off x l g t = aside_from _ l place (same_Some _ l g) refl refl
    draw_aside (draw.Cleared key at w) q off x l g t =
        aside_from (line.Cleared x key at) l place (same_Some _ l g) refl
        (ap (λ b. if b then None else stood (printed s) place) (cleared_apart key at w q))
    draw_aside (draw.Placed p) q off x l g t = aside_from (line.Placed x p.key p.place) l place (same_Some _ l g) refl (two (same_place p.place place) refl)
      where
        two : (b : Bool) → same_place p.place place ≡ b → (if b then Some x else stood (printed s) place) ≡ stood (printed s) place
        two false r = refl
        two true r = absurd (true≢false (sym (placing_own p q (same_place-true p.place place r)) ∙ t))

  -- ---- a job that is no part of a sweep

  module _ (j : Job) (q : s.controller.job ≡ j) (off : IsOffSweep j) (x : ℕ) where
    abbrev m : Job
    m = job_next s.config s.controller j x

    now : NoSweep m
    now = goes_none s.config s.controller x j m (goes s.config s.controller x j) off

    was : NoSweep j
    was = off_none j off

    same_rounds : (n : ℕ) → rounds sweeps m n ≡ rounds sweeps j n
    same_rounds n = rounds_none sweeps n m now ∙ sym (rounds_none sweeps n j was)

    -- lines that tell nothing of the place
    aside_moves : (new : List Line) (key : KeyView) (place : Place) (gone : ℕ)
        → ((n : ℕ) → numbered_sweep (new ++ printed s) n ≡ numbered_sweep (printed s) n)
        → stood (new ++ printed s) place ≡ stood (printed s) place
        → Moves shape s.pipes s.pipes (printed s) (new ++ printed s) sweeps sweeps j m key place gone
    aside_moves new key place gone numbered placed = record {
      from = λ n low. from_same (printed s) (new ++ printed s) sweeps j m (now.running ∙ sym was.running) numbered n;
      placed = placed;
      uses = λ from n e u. lines_used shape s.pipes new (printed s) key from u;
    }

    aside_used : (new : List Line) (e : Entry) → In e es → (place : Place) → e.place ≡ Some place → is_untold j e.key ≡ false
        → ((n : ℕ) → numbered_sweep (new ++ printed s) n ≡ numbered_sweep (printed s) n)
        → stood (new ++ printed s) place ≡ stood (printed s) place
        → UsedAt shape hits s.pipes (new ++ printed s) sweeps m e.key e.quiet (rounds sweeps m e.taken) place
    aside_used new e y place d t numbered placed =
        subst (λ gone. UsedAt shape hits s.pipes (new ++ printed s) sweeps m e.key e.quiet gone place) (sym (same_rounds e.taken))
        (used_moves shape s.pipes s.pipes (printed s) (new ++ printed s) sweeps sweeps j m e.key place (rounds sweeps j e.taken)
        (aside_moves new e.key place (rounds sweeps j e.taken) numbered placed) hits hits e.quiet (λ z. z) (known j q e y place d t))

  -- a job without a line
  silent_used : (j : Job) → s.controller.job ≡ j → IsOffSweep j → ((key : KeyView) → is_untold j key ≡ false) → (x : ℕ)
      → AllByRecursion (EntryUsed shape hits s.pipes (printed s) sweeps (job_next s.config s.controller j x)) es
  silent_used j q off told x = all_to_in _ es (λ e y t. some_of e.place _ (λ place d.
      aside_used j q off x [] e y place d (told e.key) (λ n. refl) refl))

  draw_used : (d : Draw) → s.controller.job ≡ job.Draw d → IsOffSweep (job.Draw d)
      → AllByRecursion (EntryUsed shape hits s.pipes (tells s.config s.controller (job.Draw d) (s.words name.Tick) ++ printed s) sweeps (job_next s.config s.controller (job.Draw d) (s.words name.Tick))) es
  draw_used d q off = all_to_in _ es (λ e y t. some_of e.place _ (λ place r. at d q off e y place r (draw_line s.config s.controller d (s.words name.Tick)) refl))
    where
      tick : ℕ
      tick = s.words name.Tick

      -- the entry that is placed now
      newly : (p : Put) → s.controller.job ≡ job.Draw (draw.Placed p) → (e : Entry) → In e es → (place : Place) → e.place ≡ Some place
          → same_key p.key e.key ≡ true
          → UsedAt shape hits s.pipes (line.Placed (s.words name.Tick) p.key p.place ∷ printed s) sweeps (job.Draw (draw.Grace (wait.Live p))) e.key e.quiet (rounds sweeps (job.Draw (draw.Grace (wait.Live p))) e.taken) place
      newly p q e y place d t = record { long = λ n v. since n; hit = λ one n low. since n }
        where
          here : stood (line.Placed (s.words name.Tick) p.key p.place ∷ printed s) place ≡ Some (s.words name.Tick)
          here = ap (λ b. if b then Some (s.words name.Tick) else stood (printed s) place)
              (ap (same_place p.place) (sym (placing_here e y place d p q t)) ∙ same_place-self p.place)

          since : (n : ℕ)
              → IsSince shape s.pipes (line.Placed (s.words name.Tick) p.key p.place ∷ printed s) sweeps (job.Draw (draw.Grace (wait.Live p))) e.key place n
          since n from z = inl (record {
            out = s.words name.Tick;
            placed = here;
            later = from_drawn s i n from (subst (λ k. sweep_from (printed s) sweeps k n ≡ Some from) (sym q) z);
          })

      other : (d : Draw) → s.controller.job ≡ job.Draw d → IsOffSweep (job.Draw d) → (e : Entry) → In e es → (place : Place) → e.place ≡ Some place
          → (o : Option Line) → draw_line s.config s.controller d (s.words name.Tick) ≡ o
          → is_untold (job.Draw d) e.key ≡ false
          → UsedAt shape hits s.pipes (option_to_list o ++ printed s) sweeps (job_next s.config s.controller (job.Draw d) (s.words name.Tick)) e.key e.quiet (rounds sweeps (job_next s.config s.controller (job.Draw d) (s.words name.Tick)) e.taken) place
      other d q off e y place r None g t = aside_used (job.Draw d) q off (s.words name.Tick) [] e y place r t (λ n. refl) refl
      other d q off e y place r (Some l) g t =
          let a = draw_aside e y place r d q off (s.words name.Tick) l g t in
          aside_used (job.Draw d) q off (s.words name.Tick) (l ∷ []) e y place r t
          (λ n. ap (λ o. option_or (of_number n o) (numbered_sweep (printed s) n)) a.sweep) a.placed

      at : (d : Draw) → s.controller.job ≡ job.Draw d → IsOffSweep (job.Draw d) → (e : Entry) → In e es → (place : Place) → e.place ≡ Some place
          → (o : Option Line) → draw_line s.config s.controller d (s.words name.Tick) ≡ o
          → UsedAt shape hits s.pipes (option_to_list o ++ printed s) sweeps (job_next s.config s.controller (job.Draw d) (s.words name.Tick)) e.key e.quiet (rounds sweeps (job_next s.config s.controller (job.Draw d) (s.words name.Tick)) e.taken) place
      at (draw.Placed p) q off e y place r o g = two (same_key p.key e.key) refl
        where
          two : (b : Bool) → same_key p.key e.key ≡ b
              → UsedAt shape hits s.pipes (option_to_list o ++ printed s) sweeps (job.Draw (draw.Grace (wait.Live p))) e.key e.quiet (rounds sweeps (job.Draw (draw.Grace (wait.Live p))) e.taken) place
          two true t =
              subst (λ z. UsedAt shape hits s.pipes (option_to_list z ++ printed s) sweeps (job.Draw (draw.Grace (wait.Live p))) e.key e.quiet (rounds sweeps (job.Draw (draw.Grace (wait.Live p))) e.taken) place) g
              (newly p q e y place r t)
          two false t = other (draw.Placed p) q off e y place r o g t
      at d q off e y place r o g = other d q off e y place r o g refl

  -- ---- the book after it

  book_used : (j : Job) (x : ℕ) (lines : List Line) (m : Job) → IsOffSweep j
      → ((p : Put) → j ≡ job.Store (store.Judge p) → is_withdrawn s.config s.controller p ≡ false → m ≡ job.Draw (draw.Placed p))
      → AllByRecursion (EntryUsed shape hits s.pipes lines sweeps m) es
      → AllByRecursion (EntryUsed shape hits s.pipes lines sweeps m) (book_next s.config s.controller j x).entries
  book_used j x lines m off placing a = at j off placing
    where
      P : Entry → Type 0
      P e = EntryUsed shape hits s.pipes lines sweeps m e

      take : (ended : Option KeyView) (pipe : ℕ)
          → AllByRecursion (EntryUsed shape hits s.pipes lines sweeps m) (taking s.config s.controller ended pipe x).book.entries
      take ended pipe = by _ (takes s.config s.controller ended pipe x).book
        where
          by : (d : Book) → TakesBook s.config.layout s.controller.numbers ended x s.controller.book d
              → AllByRecursion (EntryUsed shape hits s.pipes lines sweeps m) d.entries
          by d (takes_book.same_book u) = a
          by d (takes_book.learned_book w r k t n) =
              all_more (EntryUsed shape hits s.pipes lines sweeps m) es (fresh w.key w.version s.controller.book.taken ∷ []) a (λ z. tt, tt)
          by d (takes_book.closed_book w r k t) =
              changed_all (EntryUsed shape hits s.pipes lines sweeps m) (EntryUsed shape hits s.pipes lines sweeps m) closed w.key (λ e g h. h) (λ e g h. h) es a

      judged : (p : Put) (version : ℕ) (b : Bool) → (b ≡ false → m ≡ job.Draw (draw.Placed p))
          → AllByRecursion (EntryUsed shape hits s.pipes lines sweeps m) (judged_book b p version s.controller.book).entries
      judged p version true next = a
      judged p version false next =
          changed_all (EntryUsed shape hits s.pipes lines sweeps m) (EntryUsed shape hits s.pipes lines sweeps m) (settled p.place) p.key
          (λ e g h t. absurd (true≢false (sym g ∙ subst (λ k. is_untold k e.key ≡ false) (next refl) t))) (λ e g h. h) (with_taken p.key version s.controller.book).entries
          (by (is_registered p.key es))
        where
          by : (b : Bool) → AllByRecursion (EntryUsed shape hits s.pipes lines sweeps m) (if b then es else (es ++ fresh p.key version s.controller.book.taken ∷ []))
          by true = a
          by false =
              all_more (EntryUsed shape hits s.pipes lines sweeps m) es (fresh p.key version s.controller.book.taken ∷ []) a (λ z. tt, tt)

      at : (j : Job) → IsOffSweep j
          → ((p : Put) → j ≡ job.Store (store.Judge p) → is_withdrawn s.config s.controller p ≡ false → m ≡ job.Draw (draw.Placed p))
          → AllByRecursion (EntryUsed shape hits s.pipes lines sweeps m) (book_next s.config s.controller j x).entries
      at (job.Draw (draw.Retired key place version)) off next = all_filtered (EntryUsed shape hits s.pipes lines sweeps m) (λ e. not (is_of key e)) es a
      at (job.Store (store.Judge p)) off next =
          judged p (version_for s.controller.vips es p.key) (is_withdrawn s.config s.controller p) (next p refl)
      at (job.Store (store.Empty key place w)) off next =
          changed_all (EntryUsed shape hits s.pipes lines sweeps m) (EntryUsed shape hits s.pipes lines sweeps m) left_other key (λ e g h. h) (λ e g h. h) es a
      at (job.Drain pipe count w) off next = take (ended_by (job.Drain pipe count w)) pipe
      at (job.Look pipe) off next = take None pipe
      at (job.Hit from ms key place number) off next = absurd off
      at j off next = a

  -- the job after a key was made live
  judge_next : (j : Job) (x : ℕ) (p : Put) → j ≡ job.Store (store.Judge p) → is_withdrawn s.config s.controller p ≡ false
      → job_next s.config s.controller j x ≡ job.Draw (draw.Placed p)
  judge_next j x p e t =
      ap (λ z. job_next s.config s.controller z x) e
      ∙ ap (λ b. job.Draw (judged_draw b p (dead_reply s.config s.controller p.aim))) t

  -- hits as they were
  with_hits : (new : Place → ℕ) (lines : List Line) (n : ℕ) (m : Job) (fs : List Entry) → ((place : Place) → new place ≡ hits place)
      → AllByRecursion (EntryUsed shape hits s.pipes lines n m) fs
      → AllByRecursion (EntryUsed shape new s.pipes lines n m) fs
  with_hits new lines n m fs same a =
      all_then (EntryUsed shape hits s.pipes lines n m) (EntryUsed shape new s.pipes lines n m) (λ e h t.
      if_some_then e.place _ _ (λ place d u. record { long = u.long; hit = λ one. u.hit (sym (same place) ∙ one) }) (h t)) fs a

  silent_off : (j : Job) (o : Option Op) → s.controller.job ≡ j → IsOffSweep j → job_op s.config s.controller j ≡ o → NoHit j
      → ((key : KeyView) → is_untold j key ≡ false) → sweeps_next s.controller j ≡ sweeps
      → AfterJob (λ t. printed t ≡ printed s) s j o → AfterJob UsedKept s j o
  silent_off j None q off e n told count lines = tt
  silent_off j (Some o) q off e n told count lines =
      let x = op_answer o (s.words (op_name o)) in
      let m = job_next s.config s.controller j x in
      let fs = (book_next s.config s.controller j x).entries in
      subst (λ ls. AllByRecursion (EntryUsed shape (hit_words (op_words s.words o)) s.pipes ls (sweeps_next s.controller j) m) fs) (sym lines)
      (subst (λ c. AllByRecursion (EntryUsed shape (hit_words (op_words s.words o)) s.pipes (printed s) c m) fs) (sym count)
      (with_hits (hit_words (op_words s.words o)) (printed s) sweeps m fs (job_hits s.words s.config s.controller j o n e)
      (book_used j x (printed s) m off (judge_next j x) (silent_used j q off told x))))

  -- ---- a sweep

  from_used : (ms x : ℕ) → s.controller.job ≡ job.Draw (draw.From ms)
      → AllByRecursion (EntryUsed shape hits s.pipes (printed s) sweeps (sweeping es x ms 0)) es
  from_used ms x q = all_to_in _ es (λ e y t. some_of e.place _ (λ place d.
      subst (λ gone. UsedAt shape hits s.pipes (printed s) sweeps (sweeping es x ms 0) e.key e.quiet gone place)
      (sym (ap (λ b. if b then sweeps + 1 else sweeps) (past_first s.controller.book.taken x ms es i.shape.book.rising e y (ap is_some d))))
      (used_moves shape s.pipes s.pipes (printed s) (printed s) sweeps sweeps (job.Draw (draw.From ms)) (sweeping es x ms 0) e.key place sweeps (record {
        from = λ n low. from_told (printed s) sweeps (sweeping es x ms 0) n low ∙ sym (from_told (printed s) sweeps (job.Draw (draw.From ms)) n low);
        placed = refl;
        uses = λ from n z u. u;
      }) hits hits e.quiet (λ z. z) (known (job.Draw (draw.From ms)) q e y place d refl))))

  swept_used : (from ms x : ℕ) → s.controller.job ≡ job.Draw (draw.Swept from ms)
      → AllByRecursion (EntryUsed shape hits s.pipes (line.Swept (sweeps + 1) from x ms ∷ printed s) (sweeps + 1) job.Free) es
  swept_used from ms x q = all_to_in _ es (λ e y t. some_of e.place _ (λ place d.
      used_moves shape s.pipes s.pipes (printed s) (line.Swept (sweeps + 1) from x ms ∷ printed s) sweeps (sweeps + 1) (job.Draw (draw.Swept from ms)) job.Free e.key place (sweeps + 1) (record {
        from = (swept_carries s i from ms x e.key).from;
        placed = refl;
        uses = λ from n z u. lines_used shape s.pipes (line.Swept (sweeps + 1) from x ms ∷ []) (printed s) e.key from u;
      }) hits hits e.quiet (λ z. z) (known (job.Draw (draw.Swept from ms)) q e y place d refl)))

  module _ (from ms : ℕ) (key : KeyView) (at : Place) (number : ℕ) (q : s.controller.job ≡ job.Hit from ms key at number) where
    abbrev found : ℕ
    found = s.words (name.Hit at)

    abbrev hit_job : Job
    hit_job = job.Hit from ms key at number

    abbrev next : Job
    next = hit_next_job s i from ms key at number q

    abbrev swept_words : Place → ℕ
    swept_words = hit_words (op_words s.words (Swaps (name.Hit at) 0))

    hit_moves : (of : KeyView) (place : Place) (gone : ℕ) → Moves shape s.pipes s.pipes (printed s) (printed s) sweeps sweeps hit_job next of place gone
    hit_moves of place gone = record {
      from = λ n low. from_same (printed s) (printed s) sweeps hit_job next (hit_running s i from ms key at number q) (λ n. refl) n;
      placed = refl;
      uses = λ from n z u. u;
    }

    -- a place that is hit after it was before
    hit_before : (place : Place) → swept_words place ≡ 1 → hits place ≡ 1
    hit_before place one = two (same_place at place) one
      where
        two : (b : Bool) → (if b then 0 else hits place) ≡ 1 → hits place ≡ 1
        two true e = cc
        two false e = e

    -- the place that the sweep goes by isn't
    hit_taken : (place : Place) → at ≡ place → swept_words place ≡ 1 → ⊥
    hit_taken place same one = two (same_place at place) (ap (same_place at) (sym same) ∙ same_place-self at) one
      where
        two : (b : Bool) → b ≡ true → (if b then 0 else hits place) ≡ 1 → ⊥
        two true t e = cc
        two false t e = cc

    -- the sweeps that are covered then were covered before, or the place was hit
    covered_before : (b : Bool) → read_flag found ≡ b → (o : Option ℕ) (n : ℕ) → IsCovered (Some (quiet_after b o)) (sweeps + 1) n
        → IsCovered o sweeps n ⊎ ((found ≡ 1) × (n ≤ sweeps))
    unfolding read_flag
    covered_before b t None n (low, less) = inl (omega (arith, less))
    covered_before true t (Some c) n (low, less) = inr (grind (arith, nat_tests), omega (arith, less))
    covered_before false t (Some c) n (low, less) = inl (omega (arith, low), omega (arith, less, low))

    own_used : (e : Entry) → is_of key e ≡ true → In e es → EntryUsed shape swept_words s.pipes (printed s) sweeps next (swept (read_flag found) e)
    own_used e t y u = some_of e.place _ (λ place d.
        let mine = hit_entry s i from ms key at number q e y t in
        let stands = hit_stands s i from ms key at number q in
        let same : at ≡ place = same_Some at place (sym stands.2 ∙ (ap (λ z. z.place) mine ∙ d)) in
        let old = subst (λ gone. UsedAt shape hits s.pipes (printed s) sweeps hit_job e.key e.quiet gone place) (gone_before s i from ms key at number q e y t)
        (known hit_job q e y place d refl) in
        subst (λ gone. UsedAt shape swept_words s.pipes (printed s) sweeps next e.key (Some (quiet_after (read_flag found) e.quiet)) gone place)
        (sym (gone_after s i from ms key at number q e y t)) (record {
          long = λ n v. now place same old n (covered_before (read_flag found) refl e.quiet n v);
          hit = λ one n low. absurd (hit_taken place same one);
        }))
      where
        now : (place : Place) → at ≡ place → UsedAt shape hits s.pipes (printed s) sweeps hit_job e.key e.quiet sweeps place → (n : ℕ)
            → IsCovered e.quiet sweeps n ⊎ ((s.words (name.Hit at) ≡ 1) × (n ≤ sweeps))
            → IsSince shape s.pipes (printed s) sweeps (hit_next_job s i from ms key at number q) e.key place n
        now place same old n (inl v) =
            since_moves shape s.pipes s.pipes (printed s) (printed s) sweeps sweeps (job.Hit from ms key at number) (hit_next_job s i from ms key at number q) e.key place sweeps (hit_moves e.key place sweeps) n (covered_low e.quiet sweeps n v) (old.long n v)
        now place same old n (inr (one, low)) =
            since_moves shape s.pipes s.pipes (printed s) (printed s) sweeps sweeps (job.Hit from ms key at number) (hit_next_job s i from ms key at number q) e.key place sweeps (hit_moves e.key place sweeps) n low
            (old.hit (subst (λ z. hits z ≡ 1) same one) n low)

    other_used : (e : Entry) → is_of key e ≡ false → In e es → EntryUsed shape swept_words s.pipes (printed s) sweeps next e
    other_used e t y u = some_of e.place _ (λ place d.
        subst (λ gone. UsedAt shape swept_words s.pipes (printed s) sweeps next e.key e.quiet gone place)
        (sym (ap (λ b. if b then sweeps + 1 else sweeps) (hit_past s i from ms key at number q e y t (ap is_some d))))
        (used_moves shape s.pipes s.pipes (printed s) (printed s) sweeps sweeps hit_job next e.key place (rounds sweeps hit_job e.taken)
        (hit_moves e.key place (rounds sweeps hit_job e.taken)) hits swept_words e.quiet (hit_before place) (known hit_job q e y place d refl)))

    hit_used : AllByRecursion (EntryUsed shape swept_words s.pipes (printed s) sweeps next) (with_changed (swept (read_flag found)) key es)
    hit_used =
        changed_all (λ e. In e es) (EntryUsed shape swept_words s.pipes (printed s) sweeps next) (swept (read_flag found)) key
        (λ e g y. own_used e g y) (λ e g y. other_used e g y) es (all_to_in (λ e. In e es) es (λ e y. y))

  -- ---- each job

  told_job : (j : Job) → s.controller.job ≡ j → AfterJob UsedKept s j (job_op s.config s.controller j)
  told_job (job.Draw (draw.From ms)) q =
      subst (λ ls. AllByRecursion (EntryUsed shape hits s.pipes ls sweeps (sweeping es (s.words name.Tick) ms 0)) es) (sym (job_tells s (job.Draw (draw.From ms)) i.ticks))
      (from_used ms (s.words name.Tick) q)
  told_job (job.Draw (draw.Swept from ms)) q =
      subst (λ ls. AllByRecursion (EntryUsed shape hits s.pipes ls (sweeps + 1) job.Free) es) (sym (job_tells s (job.Draw (draw.Swept from ms)) i.ticks))
      (swept_used from ms (s.words name.Tick) q)
  told_job (job.Draw d) q = by d q
    where
      by : (d : Draw) → s.controller.job ≡ job.Draw d → AfterJob UsedKept s (job.Draw d) (job_op s.config s.controller (job.Draw d))
      by (draw.From ms) q =
          subst (λ ls. AllByRecursion (EntryUsed shape hits s.pipes ls sweeps (sweeping es (s.words name.Tick) ms 0)) es) (sym (job_tells s (job.Draw (draw.From ms)) i.ticks))
          (from_used ms (s.words name.Tick) q)
      by (draw.Swept from ms) q =
          subst (λ ls. AllByRecursion (EntryUsed shape hits s.pipes ls (sweeps + 1) job.Free) es) (sym (job_tells s (job.Draw (draw.Swept from ms)) i.ticks))
          (swept_used from ms (s.words name.Tick) q)
      by d q =
          subst (λ ls. AllByRecursion (EntryUsed shape hits s.pipes ls sweeps (job_next s.config s.controller (job.Draw d) (s.words name.Tick))) (book_next s.config s.controller (job.Draw d) (s.words name.Tick)).entries)
          (sym (job_tells s (job.Draw d) i.ticks))
          (book_used (job.Draw d) (s.words name.Tick) (tells s.config s.controller (job.Draw d) (s.words name.Tick) ++ printed s) (job_next s.config s.controller (job.Draw d) (s.words name.Tick)) tt (λ p e t. absurd (cc e)) (draw_used d q tt))
  told_job (job.Hit from ms key place number) q = hit_used from ms key place number q
  told_job job.Free q = tt
  told_job j q = silent_off j (job_op s.config s.controller j) q tt refl tt (λ key. refl) refl (job_tells s j i.ticks)

  -- ---- what it begins

  begins_used : s.controller.job ≡ job.Free → (t : Start) → Begins s.config s.controller t
      → AllByRecursion (EntryUsed shape hits s.pipes (printed s) sweeps t.job) es
  begins_used free t b = all_to_in _ es (λ e y u. some_of e.place _ (λ place d.
      let none = begins_none s t b in
      subst (λ gone. UsedAt shape hits s.pipes (printed s) sweeps t.job e.key e.quiet gone place)
      (sym (ap (λ b. if b then sweeps + 1 else sweeps) (none.past e.taken)))
      (used_moves shape s.pipes s.pipes (printed s) (printed s) sweeps sweeps job.Free t.job e.key place sweeps (record {
        from = λ n low. from_same (printed s) (printed s) sweeps job.Free t.job none.running (λ n. refl) n;
        placed = refl;
        uses = λ from n z w. w;
      }) hits hits e.quiet (λ z. z) (known job.Free free e y place d refl))))

-- ---- both facts

both_stage : (A B : Core → Type 0) (s : Core) (p : ℕ) (v : PipeView) (at : Stage) (o : Option Op) → AfterStage A s p v at o → AfterStage B s p v at o
    → ((t : Core) → A t → B t → UsesAreTold t)
    → AfterStage UsesAreTold s p v at o
both_stage A B s p v at None a b f = tt
both_stage A B s p v at (Some o) a b f = f _ a b

both_job : (A B : Core → Type 0) (s : Core) (j : Job) (o : Option Op) → AfterJob A s j o → AfterJob B s j o
    → ((t : Core) → A t → B t → UsesAreTold t)
    → AfterJob UsesAreTold s j o
both_job A B s j None a b f = tt
both_job A B s j (Some o) a b f = f _ a b

both : (t : Core) → FoundKept t → UsedKept t → UsesAreTold t
both t a b = record { found = a; used = b }

pub uses_keep : Keeps IsPacket Invariant UsesAreTold
uses_keep = record {
  stages = λ s p v at q e i h.
      both_stage FoundKept UsedKept s p v at (pipe_op s.config.layout v at) (found_keep.stages s p v at q e i h.found)
      (subst (λ z. AfterStage UsedKept s p v z (pipe_op s.config.layout v z)) e
      (stage_used s i h p v q (pipe_op s.config.layout v v.stage) refl (stage_prints s p v v.stage i.ticks q))) both;
  begins = λ s i h. record {
    found = found_keep.begins s i h.found;
    used = begun_by s.config s.controller
        (λ c. AllByRecursion (EntryUsed s.config.layout.shape (hit_words s.words) s.pipes (printed s) c.sweeps c.job) c.book.entries) h.used
        (λ free t b. begins_used s i h free t b);
  };
  jobs = λ s j q b i h.
      both_job FoundKept UsedKept s j (job_op s.config s.controller j) (found_keep.jobs s j q b i h.found) (told_job s i h j q) both;
  enters = λ s p v packet q r u n a i h. record {
    found = found_keep.enters s p v packet q r u n a i h.found;
    used = subst (λ ls. AllByRecursion (EntryUsed s.config.layout.shape (hit_words s.words) (slice_set s.pipes p (record v { stage = Enter packet })) ls s.controller.sweeps s.controller.job) s.controller.book.entries)
        (sym (pipe_silent s p v (record v { stage = Enter packet }) q refl s.words))
        (enter_used s i h p v (record v { stage = Enter packet }) q (idle v.stage r));
  };
  clocks = λ s ms q i h. record { found = h.found; used = h.used };
  refusals = λ s q i h. record { found = h.found; used = h.used };
}

pub uses_open : OpensWith UsesAreTold
unfolding opening_controller
uses_open k f = record { found = found_open k f; used = tt }
