-- Each event keeps the ticks.
use Rattle.std.proofs.Common.{◌≡◌, ℕ, ◌+◌, ◌%◌, ◌^◌, ◌<◌, ◌≤◌, Bool, true, false, ◌&&◌, List, [], ◌∷◌, length, nat_lt, slice_get, slice_set, Some, None, Option, sym, refl, ap, subst, arith, length-append}
use Rattle.std.proofs.lemmas.Bool.Decides.{nat_tests}
use Rattle.std.specs.List.{AllByRecursion}
use Rattle.sr_base.specs.declared.packet.Packet.{Packet}
use Rattle.sr_base.specs.declared.place.Place.{Place}
use Rattle.sr_inv_facts.proofs.Beginning.{begun_by}
use Rattle.sr_inv_facts.proofs.Lists.{all_front, all_more, all_back}
use Rattle.sr_inv_facts.proofs.Pipes.{each_set, idle}
use Rattle.sr_inv_facts.proofs.Plain.{plain_cleared, plain_phase}
use Rattle.sr_inv_facts.proofs.Printing.{all_out, line_out}
use Rattle.sr_inv_facts.proofs.Sums.{sum_at}
use Rattle.sr_inv_facts.specs.Fitted.{IsPacket}
use Rattle.sr_inv_facts.specs.Flying.{OnEntered}
use Rattle.sr_inv_facts.specs.InTicks.{same, AllOutBefore, ControllerInTime, IsOfPipe, PipeInTime, below, pipe_times, stage_times, times, InTicks, OnSweep, Rise, job_times, lines_times}
use Rattle.sr_inv_facts.specs.InWords.{is_busy}
use Rattle.sr_inv_facts.specs.Invariant.{Invariant}
use Rattle.sr_inv_facts.specs.Readings.{EachPipe}
use Rattle.sr_inv_words.proofs.Counted.{grows, line_more, IsDraw, draw_times, goes_times}
use Rattle.sr_inv_words.proofs.OtherJobs.{AtOp}
use Rattle.sr_inv_words.proofs.PipeTicks.{next_tick, tick_room}
use Rattle.sr_inv_words.proofs.Rising.{lines_among, rise_more, goes_sweep, line_own, none_sweeps, take_more}
use Rattle.sr_law.specs.Ticks.{out_of, is_controller}
use Rattle.sr_law.specs.declared.line.Line.{Line}
use Rattle.sr_machine.proofs.Following.{goes}
use Rattle.sr_machine.specs.Begins.{Begins}
use Rattle.sr_machine.specs.Config.{Config}
use Rattle.sr_machine.specs.Core.{Core, pipe_lines}
use Rattle.sr_machine.specs.Deciding.{in_bounds, words_taken}
use Rattle.sr_machine.specs.Draws.{draw_job, draw_line, hit_job, sweep_job, sweeping, with_line}
use Rattle.sr_machine.specs.Jobs.{lines_next, drawn_next, job_after, job_next, job_op, rings_next}
use Rattle.sr_machine.specs.Keeping.{AfterJob, AfterStage, Keeps, begun_core}
use Rattle.sr_machine.specs.Ops.{op_words, op_answer, op_name}
use Rattle.sr_machine.specs.Pipe.{packet_line, pipe_op, is_idle}
use Rattle.sr_machine.specs.Starting.{Start, with_start}
use Rattle.sr_machine.specs.Taking.{ended_by}
use Rattle.sr_machine.specs.declared.controller_view.ControllerView.{ControllerView}
use Rattle.sr_machine.specs.declared.draw.Draw.{Draw}
use Rattle.sr_machine.specs.declared.job.Job.{Job}
use Rattle.sr_machine.specs.declared.leg.Leg.TheVariants.{Chosen, Judged}
use Rattle.sr_machine.specs.declared.op.Op.{Op}
use Rattle.sr_machine.specs.declared.pipe_view.PipeView.{PipeView}
use Rattle.sr_machine.specs.declared.stage.Stage.{Stage}
use Rattle.sr_machine.specs.declared.stage.Stage.TheVariants.{Idle, Enter, Note, Vip, Fly, Leave}
use Rattle.sr_shadow.specs.Book.{placed_from}
use Rattle.sr_shadow.specs.declared.entry.Entry.{Entry}
use Rattle.sr_inv_facts.specs.Putting.{put_core}
use Rattle.sr_machine.specs.declared.put.Put.{Put}
use Rattle.sr_machine.specs.declared.leg.Last.TheVariants as last
use Rattle.sr_machine.specs.declared.leg.Load.TheVariants as load
use Rattle.sr_machine.specs.declared.name.Name.TheVariants as name
use Rattle.sr_machine.specs.Begins as begin
use Rattle.sr_machine.specs.declared.draw.Draw.TheVariants as draw
use Rattle.sr_machine.specs.declared.store.Store.TheVariants as store
use Rattle.sr_machine.specs.declared.job.Job.TheVariants as job

-- ---- how often a tick stands in the views

abbrev TicksOnce : Core → Type 0
TicksOnce s = (t : ℕ) → times t s.pipes s.controller ≤ below t (s.words name.Tick)

abbrev PipesTimed : Core → Type 0
PipesTimed s = EachPipe PipeInTime s.pipes

abbrev ControllerTimed : Core → Type 0
ControllerTimed s = ControllerInTime s.controller

-- the tick word isn't 0
tick_some : (s : Core) → Invariant s → 1 ≤ s.words name.Tick
tick_some s i = omega (arith, i.words.tick)

-- a draw
drawn_once : (s : Core) → Invariant s → (t now : ℕ) → now ≤ times t s.pipes s.controller + same t (s.words name.Tick)
    → now ≤ below t ((s.words name.Tick + 1) % 2 ^ 64)
drawn_once s i t now h =
    let next : below t ((s.words name.Tick + 1) % 2 ^ 64) ≡ below t (s.words name.Tick + 1) =
    ap (below t) (next_tick (s.words name.Tick) (tick_room s i)) in
    omega (arith, h, next, i.ticks.once t, grows t (s.words name.Tick) (tick_some s i))

module _ (s : Core) (i : Invariant s) (p : ℕ) (v : PipeView) (q : slice_get s.pipes p ≡ Some v) where
  once_more : (w : PipeView) → ((t : ℕ) → pipe_times t w ≤ pipe_times t v + same t (s.words name.Tick)) → (t : ℕ)
      → times t (slice_set s.pipes p w) s.controller ≤ below t ((s.words name.Tick + 1) % 2 ^ 64)
  once_more w more t =
      drawn_once s i t (times t (slice_set s.pipes p w) s.controller) (omega (arith, more t, sum_at (pipe_times t) s.pipes p v w q))

  once_same : (w : PipeView) → ((t : ℕ) → pipe_times t w ≤ pipe_times t v) → (t : ℕ)
      → times t (slice_set s.pipes p w) s.controller ≤ below t (s.words name.Tick)
  once_same w same t = omega (arith, same t, sum_at (pipe_times t) s.pipes p v w q, i.ticks.once t)

  own_times : (a : Stage) → v.stage ≡ a → (t : ℕ) → stage_times t v.stage ≡ stage_times t a
  own_times a e t = ap (stage_times t) e

  once_stage : (a : Stage) → v.stage ≡ a → AfterStage TicksOnce s p v a (pipe_op s.config.layout v a)
  once_stage Idle e = tt
  once_stage (Enter packet) e = once_more _ (λ t. omega (arith, own_times (Enter packet) e t))
  once_stage (Note packet entered) e = once_same _ (λ t. omega (arith, own_times (Note packet entered) e t))
  once_stage (Vip packet entered) e = once_same _ (λ t. omega (arith, own_times (Vip packet entered) e t))
  once_stage (Fly f (Judged w last.Out)) e =
      once_more _ (λ t.
      omega (arith, own_times (Fly f (Judged w last.Out)) e t, line_more t v.lines (packet_line v.number f w (s.words name.Tick))))
  once_stage (Fly f (Chosen n load.Head)) e = once_same _ (λ t. omega (arith, own_times (Fly f (Chosen n load.Head)) e t))
  once_stage (Fly f leg) e = once_same _ (λ t. omega (arith, own_times (Fly f leg) e t))
  once_stage (Leave f) e = once_same _ (λ t. omega (arith, own_times (Leave f) e t))

  -- ---- a pipe's own ticks

  timed_set : (w : PipeView) → PipeInTime p w → EachPipe PipeInTime (slice_set s.pipes p w)
  timed_set w h = each_set s.pipes p v w q PipeInTime i.ticks.pipes h

  was : PipeInTime p v
  was = i.ticks.pipes p v q

  -- its lines are out before the next tick
  out_before : AllOutBefore (s.words name.Tick) v.lines
  out_before =
      lines_among (λ l. out_of l < s.words name.Tick) s.pipes p v q
      (all_front (λ l. out_of l < s.words name.Tick) (pipe_lines s.pipes) s.controller.lines (all_out s i.ticks))

  entered_at : (a : Stage) → v.stage ≡ a → OnEntered a (λ tick. AllOutBefore tick v.lines)
  entered_at a e = subst (λ z. OnEntered z (λ tick. AllOutBefore tick v.lines)) e was.entered

  busy_at : (a : Stage) → v.stage ≡ a → length v.lines + is_busy a < 2 ^ 32
  busy_at a e = subst (λ z. length v.lines + is_busy z < 2 ^ 32) e was.few

  timed_stage : (a : Stage) → v.stage ≡ a → AfterStage PipesTimed s p v a (pipe_op s.config.layout v a)
  timed_stage Idle e = tt
  timed_stage (Enter packet) e = timed_set _ (record { own = was.own; rise = was.rise; entered = out_before; few = busy_at (Enter packet) e })
  timed_stage (Note packet entered) e =
      timed_set _ (record { own = was.own; rise = was.rise; entered = entered_at (Note packet entered) e; few = busy_at (Note packet entered) e })
  timed_stage (Vip packet entered) e =
      timed_set _ (record { own = was.own; rise = was.rise; entered = entered_at (Vip packet entered) e; few = busy_at (Vip packet entered) e })
  timed_stage (Fly f (Judged w last.Out)) e =
      timed_set _ (record {
        own = all_more (IsOfPipe p) v.lines (packet_line v.number f w (s.words name.Tick) ∷ []) was.own (i.shape.pipes.number p v q, tt);
        rise = rise_more 0 v.lines (packet_line v.number f w (s.words name.Tick)) was.rise out_before (omega (arith, tick_some s i));
        entered = tt;
        few = omega (arith, busy_at (Fly f (Judged w last.Out)) e, length-append {A = Line});
      })
  timed_stage (Fly f (Chosen n load.Head)) e =
      timed_set _ (record { own = was.own; rise = was.rise; entered = entered_at (Fly f (Chosen n load.Head)) e; few = busy_at (Fly f (Chosen n load.Head)) e })
  timed_stage (Fly f leg) e =
      timed_set _ (record { own = was.own; rise = was.rise; entered = entered_at (Fly f leg) e; few = busy_at (Fly f leg) e })
  timed_stage (Leave f) e = timed_set _ (record { own = was.own; rise = was.rise; entered = tt; few = busy_at (Leave f) e })

-- ---- the controller's step

rings_more : (k : Config) (c : ControllerView) (j : Job) (x : ℕ) → words_taken (rings_next k c j x) ≤ words_taken c.rings + 1
rings_more k c (job.Drain pipe count w) x = take_more k c (ended_by (job.Drain pipe count w)) pipe x
rings_more k c (job.Look pipe) x = take_more k c None pipe x
rings_more k c j x = omega arith

-- a sweep's tick, where it begins
sweep_on : (P : ℕ → Type 0) (es : List Entry) (from ms n : ℕ) → P from → OnSweep (sweeping es from ms n) P
sweep_on P es from ms n h = at (placed_from n es)
  where
    by : (e : Entry) (o : Option Place) → OnSweep (hit_job from ms e o) P
    by e None = h
    by e (Some place) = h

    at : (o : Option Entry) → OnSweep (sweep_job from ms o) P
    at None = h
    at (Some e) = by e e.place

module _ (s : Core) (i : Invariant s) where
  once_after : (j : Job) (o : Option Op) → s.controller.job ≡ j → (IsDraw j → ⊥)
      → ((x : ℕ) → lines_next s.config s.controller j x ≡ s.controller.lines)
      → AtOp o (λ o. op_words s.words o name.Tick ≡ s.words name.Tick) → AfterJob TicksOnce s j o
  once_after j None e off lines words = tt
  once_after j (Some o) e off lines words = λ t.
      let x = op_answer o (s.words (op_name o)) in
      let m = job_next s.config s.controller j x in
      let fewer : job_times t m ≤ job_times t j = goes_times t s.config s.controller x j m (goes s.config s.controller x j) off in
      let now : job_times t s.controller.job ≡ job_times t j = ap (job_times t) e in
      let same_lines : lines_times t (lines_next s.config s.controller j x) ≡ lines_times t s.controller.lines = ap (lines_times t) (lines x) in
      subst (λ n. times t s.pipes (job_after s.config s.controller j x) ≤ below t n) (sym words)
      (omega (arith, fewer, now, same_lines, i.ticks.once t))

  once_job : (j : Job) → s.controller.job ≡ j → AfterJob TicksOnce s j (job_op s.config s.controller j)
  once_job job.Free e = tt
  once_job (job.Draw d) e = λ t.
      let now : job_times t s.controller.job ≡ job_times t (job.Draw d) = ap (job_times t) e in
      drawn_once s i t _ (omega (arith, now, draw_times t s.config s.controller (s.words name.Tick) d))
  once_job (job.Store (store.Down server)) e = once_after (job.Store (store.Down server)) (job_op s.config s.controller (job.Store (store.Down server))) e (λ z. z) (λ x. refl) refl
  once_job j e = once_after j (job_op s.config s.controller j) e (λ z. z) (λ x. refl) refl

  -- ---- the controller's own ticks

  out_all : AllOutBefore (s.words name.Tick) s.controller.lines
  out_all = all_back (λ l. out_of l < s.words name.Tick) (pipe_lines s.pipes) s.controller.lines (all_out s i.ticks)

  drawn_lines : (d : Draw) (o : Option Line) → draw_line s.config s.controller d (s.words name.Tick) ≡ o
      → AllByRecursion (λ l. is_controller l ≡ true) (with_line s.controller.lines o) × Rise 0 (with_line s.controller.lines o)
  drawn_lines d None h = (i.ticks.controller.own, i.ticks.controller.rise)
  drawn_lines d (Some l) h =
      let out = line_out s.config s.controller d (s.words name.Tick) l h in (
        all_more (λ l. is_controller l ≡ true) s.controller.lines (l ∷ []) i.ticks.controller.own (line_own s.config s.controller d (s.words name.Tick) l h, tt),
        rise_more 0 s.controller.lines l i.ticks.controller.rise (subst (λ n. AllOutBefore n s.controller.lines) (sym out) out_all) (omega (arith, out, tick_some s i)),
      )

  drawn_from : (d : Draw) → (P : List Line → ℕ → Type 0) → P s.controller.lines (s.words name.Tick)
      → OnSweep (draw_job s.controller d (s.words name.Tick)) (P (with_line s.controller.lines (draw_line s.config s.controller d (s.words name.Tick))))
  drawn_from (draw.Comes u p) P h = plain_phase (λ j. OnSweep j _) (none_sweeps _) u p
  drawn_from (draw.Cleared key place w) P h = plain_cleared (λ j. OnSweep j _) (none_sweeps _) key w
  drawn_from (draw.From ms) P h = sweep_on _ s.controller.book.entries (s.words name.Tick) ms 0 h
  drawn_from d P h = tt

  bounds : in_bounds s.controller ≡ true → (s.controller.drawn < 2 ^ 56) × (words_taken s.controller.rings < 2 ^ 56)
  bounds b = at (nat_lt s.controller.drawn (2 ^ 56)) (nat_lt (words_taken s.controller.rings) (2 ^ 56)) refl refl b
    where
      at : (a z : Bool) → nat_lt s.controller.drawn (2 ^ 56) ≡ a → nat_lt (words_taken s.controller.rings) (2 ^ 56) ≡ z → (a && z) ≡ true
          → (s.controller.drawn < 2 ^ 56) × (words_taken s.controller.rings < 2 ^ 56)
      at true true p q h = (grind (arith, nat_tests), grind (arith, nat_tests))
      at true false p q h = cc
      at false z p q h = cc

  timed_after : (j : Job) (o : Option Op) → s.controller.job ≡ j → in_bounds s.controller ≡ true → (IsDraw j → ⊥)
      → ((x : ℕ) → lines_next s.config s.controller j x ≡ s.controller.lines) → drawn_next s.controller j ≡ s.controller.drawn
      → AfterJob ControllerTimed s j o
  timed_after j None e b off lines drawn = tt
  timed_after j (Some o) e b off lines drawn =
      let x = op_answer o (s.words (op_name o)) in
      let m = job_next s.config s.controller j x in
      let was = i.ticks.controller in
      record {
        own = subst (AllByRecursion (λ l. is_controller l ≡ true)) (sym (lines x)) was.own;
        rise = subst (Rise 0) (sym (lines x)) was.rise;
        from =
            subst (λ ls. OnSweep m (λ tick. AllOutBefore tick ls)) (sym (lines x))
            (goes_sweep s.config s.controller x (λ tick. AllOutBefore tick s.controller.lines) j m (goes s.config s.controller x j) (λ d. absurd (off d))
            (subst (λ a. OnSweep a (λ tick. AllOutBefore tick s.controller.lines)) e was.from));
        drawn = omega (arith, drawn, was.drawn);
        taken = omega (arith, (bounds b).1, rings_more s.config s.controller j x);
      }

  timed_job : (j : Job) → s.controller.job ≡ j → in_bounds s.controller ≡ true
      → AfterJob ControllerTimed s j (job_op s.config s.controller j)
  timed_job job.Free e b = tt
  timed_job (job.Draw d) e b =
      let lines = drawn_lines d (draw_line s.config s.controller d (s.words name.Tick)) refl in
      record {
        own = lines.0;
        rise = lines.1;
        from = drawn_from d (λ ls tick. AllOutBefore tick ls) out_all;
        drawn = omega (arith, (bounds b).0);
        taken = i.ticks.controller.taken;
      }
  timed_job (job.Store (store.Down server)) e b = timed_after (job.Store (store.Down server)) (job_op s.config s.controller (job.Store (store.Down server))) e b (λ z. z) (λ x. refl) refl
  timed_job j e b = timed_after j (job_op s.config s.controller j) e b (λ z. z) (λ x. refl) refl

-- ---- all of them

stage_all : (s : Core) (p : ℕ) (v : PipeView) (a : Stage) (o : Option Op) → Invariant s → AfterStage TicksOnce s p v a o
    → AfterStage PipesTimed s p v a o → AfterStage InTicks s p v a o
stage_all s p v a None i once pipes = tt
stage_all s p v a (Some o) i once pipes = record { once = once; pipes = pipes; controller = i.ticks.controller }

job_all : (s : Core) (j : Job) (o : Option Op) → Invariant s → AfterJob TicksOnce s j o → AfterJob ControllerTimed s j o
    → AfterJob InTicks s j o
job_all s j None i once controller = tt
job_all s j (Some o) i once controller = record { once = once; pipes = i.ticks.pipes; controller = controller }

-- what the controller begins has no tick yet
begun_ticks : (k : Config) (c : ControllerView) (n : ℕ) → c.job ≡ job.Free → ControllerInTime c → (s : Start) → Begins k c s
    → (job_times n s.job ≡ 0) × ControllerInTime (with_start c s)
begun_ticks k c n free h s b = at s b
  where
    set : (s : Start) → job_times n s.job ≡ 0 → OnSweep s.job (λ tick. AllOutBefore tick c.lines)
        → (job_times n s.job ≡ 0) × ControllerInTime (with_start c s)
    set s none from = (none, record { own = h.own; rise = h.rise; from = from; drawn = h.drawn; taken = h.taken })

    at : (s : Start) → Begins k c s → (job_times n s.job ≡ 0) × ControllerInTime (with_start c s)
    at s (begin.refuses g rest r e) = set _ refl tt
    at s (begin.takes_down o rest e d) = set _ refl tt
    at s (begin.holds u e p w) = set _ refl tt
    at s (begin.finishes u e p w) = set _ refl tt
    at s (begin.changes g rest number u e d f) = set _ refl tt
    at s (begin.answers o rest e r f) = set _ refl tt
    at s (begin.places_held o rest p r f g) = set _ refl tt
    at s (begin.has_no_place o rest r f g) = set _ refl tt
    at s (begin.places e p r f g) = set _ refl tt
    at s (begin.retires e place r f) = set _ refl tt
    at s (begin.sweeps ms r f) = set _ refl tt
    at s (begin.releases vip m r) = set _ refl tt
    at s (begin.looks r) = set _ refl tt

begins_kept : (s : Core) → InTicks s → InTicks (begun_core s)
begins_kept s f = record {
  once = λ t.
      begun_by s.config s.controller (λ c. times t s.pipes c ≤ below t (s.words name.Tick)) (f.once t) (λ free start b.
      let none : job_times t start.job ≡ 0 = (begun_ticks s.config s.controller t free f.controller start b).0 in
      let was : job_times t s.controller.job ≡ 0 = ap (job_times t) free in
      omega (arith, none, was, f.once t));
  pipes = f.pipes;
  controller = begun_by s.config s.controller ControllerInTime f.controller (λ free start b. (begun_ticks s.config s.controller 0 free f.controller start b).1);
}

pub ticks_put : (s : Core) (p : Put) → s.controller.job ≡ job.Free → InTicks s → InTicks (put_core s p)
ticks_put s p free f = record {
  once = λ t.
      let none : job_times t (job.Draw (draw.Reserved p)) ≡ 0 = refl in
      let was : job_times t s.controller.job ≡ 0 = ap (job_times t) free in
      omega (arith, none, was, f.once t);
  pipes = f.pipes;
  controller = record {
    own = f.controller.own;
    rise = f.controller.rise;
    from = tt;
    drawn = f.controller.drawn;
    taken = f.controller.taken;
  };
}

enter_kept : (s : Core) (p : ℕ) (v : PipeView) (packet : Packet) → slice_get s.pipes p ≡ Some v → is_idle v.stage ≡ true
    → nat_lt (length v.lines + 1) (2 ^ 32) ≡ true → Invariant s
    → InTicks (record s { pipes = slice_set s.pipes p (record v { stage = Enter packet }) })
enter_kept s p v packet q r n i =
    let stage = idle v.stage r in
    let was = i.ticks.pipes p v q in
    record {
      once = once_same s i p v q (record v { stage = Enter packet }) (λ t.
          let none : stage_times t v.stage ≡ 0 = ap (stage_times t) stage in omega (arith, none));
      pipes = timed_set s i p v q (record v { stage = Enter packet }) (record { own = was.own; rise = was.rise; entered = tt; few = grind (arith, nat_tests) });
      controller = i.ticks.controller;
    }

same_ticks : (s : Core) (clock : Option ℕ) (refusing : Bool) → InTicks s
    → InTicks (record s { controller = record s.controller { clock = clock; refusing = refusing } })
same_ticks s clock refusing f = record {
  once = f.once;
  pipes = f.pipes;
  controller = record {
    own = f.controller.own;
    rise = f.controller.rise;
    from = f.controller.from;
    drawn = f.controller.drawn;
    taken = f.controller.taken;
  };
}

pub ticks_keep : Keeps IsPacket Invariant InTicks
ticks_keep = record {
  stages = λ s p v a q e i f.
      stage_all s p v a (pipe_op s.config.layout v a) i (once_stage s i p v q a e) (timed_stage s i p v q a e);
  begins = λ s i f. begins_kept s f;
  jobs = λ s j q b i f. job_all s j (job_op s.config s.controller j) i (once_job s i j q) (timed_job s i j q b);
  enters = λ s p v packet q r u n a i f. enter_kept s p v packet q r n i;
  clocks = λ s ms q i f. same_ticks s (Some ms) s.controller.refusing f;
  refusals = λ s q i f. same_ticks s s.controller.clock true f;
}
