-- Each event keeps how sweeps are counted.
use Rattle.std.proofs.Common.{◌≡◌, ℕ, ◌+◌, ◌≤◌, Bool, true, false, ◌⊎◌, List, [], ◌∷◌, ◌++◌, is_some, if◌then◌else◌, ◌==◌, Some, None, Option, option_to_list, sym, refl, ap, ◌∙◌, subst, inl, inr, true≢false, arith}
use Rattle.std.proofs.lemmas.Bool.Decides.{nat_tests}
use Rattle.std.proofs.lemmas.Option.{same_Some}
use Rattle.std.specs.List.{AllByRecursion}
use Rattle.std.specs.Option.{option_or}
use Rattle.sr_base.specs.Key.{KeyView}
use Rattle.sr_base.specs.declared.vip_word.Phase.{Phase}
use Rattle.sr_base.specs.declared.vip_word.Phase.TheVariants.{Steady, Recording, Holding, Transit}
use Rattle.sr_inv_facts.proofs.Beginning.{begun_by}
use Rattle.sr_inv_facts.proofs.Lists.{all_of, all_then}
use Rattle.sr_inv_facts.proofs.OpeningLines.{opening_all}
use Rattle.sr_inv_facts.proofs.Plain.{OfPlain, plain_cleared, plain_passed, plain_phase, plain_vip, plain_waited}
use Rattle.sr_inv_facts.proofs.Printing.{prints, job_tells, stage_prints, tells, pipe_silent}
use Rattle.sr_inv_facts.specs.Fitted.{IsPacket}
use Rattle.sr_inv_facts.specs.InSweeps.{IsLastSweep, OnSwept, SweepsAreCounted, SweepsCounted, is_fresh}
use Rattle.sr_inv_facts.specs.Invariant.{Invariant}
use Rattle.sr_inv_facts.specs.Laws.{OpensWith}
use Rattle.sr_inv_sweeps.proofs.Freshly.{FreshAre, IsOffJudge, book_fresh, judged_fresh, Judges, goes_fresh}
use Rattle.sr_law.specs.Retire.{last_sweep, numbered_sweep, of_number, sweep_by}
use Rattle.sr_law.specs.declared.line.Line.{Line}
use Rattle.sr_law.specs.declared.sweep.Sweep.{Sweep}
use Rattle.sr_machine.proofs.Following.{goes}
use Rattle.sr_machine.specs.Begins.{Begins}
use Rattle.sr_machine.specs.Config.{Config}
use Rattle.sr_machine.specs.Core.{opening, Core, printed}
use Rattle.sr_machine.specs.Deciding.{dead_reply, is_withdrawn, version_for}
use Rattle.sr_machine.specs.Draws.{answer_line, draw_line, phase_line}
use Rattle.sr_machine.specs.Goes.{Goes}
use Rattle.sr_machine.specs.Jobs.{book_next, job_next, judged_book, job_op, sweeps_next, swept_next}
use Rattle.sr_machine.specs.Keeping.{AfterJob, AfterStage, Keeps, begun_core}
use Rattle.sr_machine.specs.Opening.{opening_controller}
use Rattle.sr_machine.specs.Ops.{op_answer, op_name}
use Rattle.sr_machine.specs.Pipe.{packet_line, pipe_op}
use Rattle.sr_machine.specs.Starting.{Start}
use Rattle.sr_machine.specs.Stores.{judged_draw}
use Rattle.sr_machine.specs.declared.controller_view.ControllerView.{ControllerView}
use Rattle.sr_machine.specs.declared.draw.Draw.{Draw}
use Rattle.sr_machine.specs.declared.job.Job.{Job}
use Rattle.sr_machine.specs.declared.leg.Leg.TheVariants.{Judged}
use Rattle.sr_machine.specs.declared.op.Op.{Op}
use Rattle.sr_machine.specs.declared.pipe_view.PipeView.{PipeView}
use Rattle.sr_machine.specs.declared.pool_update.PoolUpdate.{PoolUpdate}
use Rattle.sr_machine.specs.declared.stage.Stage.{Stage}
use Rattle.sr_machine.specs.declared.stage.Stage.TheVariants.{Fly, Enter}
use Rattle.sr_shadow.specs.Entry.{swept}
use Rattle.sr_shadow.specs.declared.entry.Entry.{Entry}
use Rattle.sr_inv_facts.specs.Putting.{put_core}
use Rattle.sr_machine.specs.declared.put.Put.{Put}
use Rattle.sr_machine.specs.Goes as go
use Rattle.sr_machine.specs.declared.draw.Draw.TheVariants as draw
use Rattle.sr_machine.specs.declared.store.Store.TheVariants as store
use Rattle.sr_machine.specs.declared.job.Job.TheVariants as job
use Rattle.sr_machine.specs.declared.leg.Last.TheVariants as last
use Rattle.sr_law.specs.declared.line.Line.TheVariants as line
use Rattle.sr_machine.specs.Begins as begin
use Rattle.sr_machine.specs.declared.name.Name.TheVariants as name

-- ---- lines

-- a line that tells of no sweep
counted_more : (k : Config) (sweeps ms : ℕ) (es : List Entry) (j : Job) (l : Line) (lines : List Line) → sweep_by l ≡ None
    → SweepsCounted k sweeps ms es j lines → SweepsCounted k sweeps ms es j (l ∷ lines)
counted_more k sweeps ms es j l lines none h = record {
  idle = h.idle;
  last = subst (IsLastSweep sweeps ms) (ap (λ o. option_or o (last_sweep lines)) (sym none)) h.last;
  each = λ n low high. ap (λ o. is_some (option_or (of_number n o) (numbered_sweep lines n))) none ∙ h.each n low high;
  fresh = h.fresh;
}

-- the line of a packet
counted_prints : (k : Config) (sweeps ms : ℕ) (es : List Entry) (j : Job) (n : ℕ) (a : Stage) (x : ℕ) (lines : List Line)
    → SweepsCounted k sweeps ms es j lines → SweepsCounted k sweeps ms es j (prints n a x ++ lines)
counted_prints k sweeps ms es j n (Fly f (Judged v last.Out)) x lines h = counted_more k sweeps ms es j (packet_line n f v x) lines refl h
counted_prints k sweeps ms es j n a x lines h = h

-- ---- a pipe's step

stage_counted : (s : Core) (p : ℕ) (v : PipeView) (a : Stage) (o : Option Op) (lines : List Line)
    → AfterStage (λ t. printed t ≡ lines) s p v a o
    → SweepsCounted s.config s.controller.sweeps s.controller.swept_ms s.controller.book.entries s.controller.job lines
    → AfterStage SweepsAreCounted s p v a o
stage_counted s p v a None lines e h = tt
stage_counted s p v a (Some o) lines e h =
    subst (SweepsCounted s.config s.controller.sweeps s.controller.swept_ms s.controller.book.entries s.controller.job) (sym e) h

-- ---- the controller's step

none_swept : (P : ℕ → Type 0) → OfPlain (λ j. OnSwept j P)
none_swept P = record {
  free = tt;
  comes = λ u p. tt;
  coming = λ u p. tt;
  retiring = λ key. tt;
  answer = λ r. tt;
  phase = λ u p. tt;
  filter = λ u. tt;
  source = λ key from. tt;
  judge = λ p. tt;
  drain = λ w. tt;
}

module _ (k : Config) (c : ControllerView) (x : ℕ) (P : ℕ → Type 0) where
  -- a sweep keeps its time
  goes_swept : (j m : Job) → Goes k c x j m → OnSwept j P → OnSwept m P
  goes_swept j m (go.comes u p) h = plain_phase (λ j. OnSwept j P) (none_swept P) u p
  goes_swept j m (go.cleared key place w) h = plain_cleared (λ j. OnSwept j P) (none_swept P) key w
  goes_swept j m (go.sweep_begins ms e place s) h = h
  goes_swept j m (go.sweep_empty ms e) h = h
  goes_swept j m (go.phase_stored u p) h = plain_vip (λ j. OnSwept j P) (none_swept P) u p
  goes_swept j m (go.pass_last g pipe w a b) h = plain_passed (λ j. OnSwept j P) (none_swept P) w
  goes_swept j m (go.drain_last pipe count w a b) h = plain_waited (λ j. OnSwept j P) (none_swept P) c.vips _ w
  goes_swept j m (go.hit_next from ms key place n e at s) h = h
  goes_swept j m (go.hit_last from ms key place n e) h = h
  goes_swept j m g h = tt

-- jobs that end no sweep
abbrev IsOffSwept : Job → Type 0
IsOffSwept (job.Draw (draw.Swept from ms)) = ⊥
IsOffSwept j = Unit {0}

phase_unswept : (u : PoolUpdate) (p : Phase) (x : ℕ) → sweep_by (phase_line u x p) ≡ None
phase_unswept u Steady x = refl
phase_unswept u Recording x = refl
phase_unswept u Holding x = refl
phase_unswept u Transit x = refl

line_unswept : (k : Config) (c : ControllerView) (d : Draw) (x : ℕ) (l : Line) → IsOffSwept (job.Draw d) → draw_line k c d x ≡ Some l
    → sweep_by l ≡ None
line_unswept k c (draw.Grace w) x l off e = cc
line_unswept k c (draw.From ms) x l off e = cc
line_unswept k c (draw.Swept from ms) x l off e = absurd off
line_unswept k c (draw.Comes u p) x l off e = ap sweep_by (sym (same_Some (phase_line u x p) l e)) ∙ phase_unswept u p x
line_unswept k c (draw.Answer r) x l off e = ap sweep_by (sym (same_Some (answer_line k c r x) l e))
line_unswept k c (draw.Refused n) x l off e = ap sweep_by (sym (same_Some (line.Refused x n) l e))
line_unswept k c (draw.TakenDown n) x l off e = ap sweep_by (sym (same_Some (line.TakenDown x n) l e))
line_unswept k c (draw.Given u) x l off e = ap sweep_by (sym (same_Some (line.Given x u.vip u.given u.pool) l e))
line_unswept k c (draw.Reserved p) x l off e = ap sweep_by (sym (same_Some (line.Reserved x p.key p.place) l e))
line_unswept k c (draw.Placed p) x l off e = ap sweep_by (sym (same_Some (line.Placed x p.key p.place) l e))
line_unswept k c (draw.Cleared key place w) x l off e = ap sweep_by (sym (same_Some (line.Cleared x key place) l e))
line_unswept k c (draw.Retired key place n) x l off e = ap sweep_by (sym (same_Some (line.Retired x key) l e))

module _ (s : Core) (i : Invariant s) where
  was : SweepsAreCounted s
  was = i.sweeps.sweeps.counted

  before : (j : Job) → s.controller.job ≡ j
      → SweepsCounted s.config s.controller.sweeps s.controller.swept_ms s.controller.book.entries j (printed s)
  before j e = subst (λ m. SweepsCounted s.config s.controller.sweeps s.controller.swept_ms s.controller.book.entries m (printed s)) e was

  off_judges : (j : Job) (key : KeyView) → IsOffJudge j → Judges j key → ⊥
  off_judges (job.Store (store.Judge p)) key off h = off
  off_judges j key off h = h

  fresh_off : (j : Job) (x : ℕ) → s.controller.job ≡ j → IsOffJudge j
      → FreshAre (job_next s.config s.controller j x) (book_next s.config s.controller j x).entries
  fresh_off j x e off =
      let m = job_next s.config s.controller j x in
      all_then (λ n. is_fresh j n.key ≡ true → n.quiet ≡ None) (λ n. is_fresh m n.key ≡ true → n.quiet ≡ None)
      (λ n h f. at n h (goes_fresh n.key s.config s.controller x j m (goes s.config s.controller x j) f))
      (book_next s.config s.controller j x).entries (book_fresh s.config s.controller j x off (before j e).fresh)
    where
      at : (n : Entry) → (is_fresh j n.key ≡ true → n.quiet ≡ None) → (is_fresh j n.key ≡ true) ⊎ Judges j n.key → n.quiet ≡ None
      at n h (inl f) = h f
      at n h (inr f) = absurd (off_judges j n.key off f)

  -- the entries that are fresh after it
  fresh_after : (j : Job) (x : ℕ) → s.controller.job ≡ j → FreshAre (job_next s.config s.controller j x) (book_next s.config s.controller j x).entries
  fresh_after (job.Store (store.Judge p)) x e = by (is_withdrawn s.config s.controller p)
    where
      version : ℕ
      version = version_for s.controller.vips s.controller.book.entries p.key

      by : (b : Bool) → FreshAre (job.Draw (judged_draw b p (dead_reply s.config s.controller p.aim))) (judged_book b p version s.controller.book).entries
      by true = all_of (λ e. false ≡ true → e.quiet ≡ None) (λ e f. absurd (true≢false (sym f))) s.controller.book.entries
      by false = judged_fresh p version s.controller.book
  fresh_after j x e = fresh_off j x e tt

  -- the lines that it draws
  counted_tells : (j : Job) (sweeps ms : ℕ) (es : List Entry) (m : Job) → IsOffSwept j → SweepsCounted s.config sweeps ms es m (printed s)
      → SweepsCounted s.config sweeps ms es m (tells s.config s.controller j (s.words name.Tick) ++ printed s)
  counted_tells (job.Draw d) sweeps ms es m off h = at (draw_line s.config s.controller d (s.words name.Tick)) refl
    where
      at : (o : Option Line) → draw_line s.config s.controller d (s.words name.Tick) ≡ o
          → SweepsCounted s.config sweeps ms es m (option_to_list o ++ printed s)
      at None e = h
      at (Some l) e = counted_more s.config sweeps ms es m l (printed s) (line_unswept s.config s.controller d (s.words name.Tick) l off e) h
  counted_tells j sweeps ms es m off h = h

  job_counted : (j : Job) (o : Option Op) → s.controller.job ≡ j → IsOffSwept j → sweeps_next s.controller j ≡ s.controller.sweeps
      → swept_next s.controller j ≡ s.controller.swept_ms
      → AfterJob (λ t. printed t ≡ tells s.config s.controller j (s.words name.Tick) ++ printed s) s j o → AfterJob SweepsAreCounted s j o
  job_counted j None e off sweeps swept lines = tt
  job_counted j (Some o) e off sweeps swept lines =
      let x = op_answer o (s.words (op_name o)) in
      let m = job_next s.config s.controller j x in
      let es = (book_next s.config s.controller j x).entries in
      subst (SweepsCounted s.config (sweeps_next s.controller j) (swept_next s.controller j) es m) (sym lines)
      (subst (λ n. SweepsCounted s.config n (swept_next s.controller j) es m (tells s.config s.controller j (s.words name.Tick) ++ printed s)) (sym sweeps)
      (subst (λ n. SweepsCounted s.config s.controller.sweeps n es m (tells s.config s.controller j (s.words name.Tick) ++ printed s)) (sym swept)
      (counted_tells j s.controller.sweeps s.controller.swept_ms es m off (record {
        idle =
            goes_swept s.config s.controller x (λ ms. s.controller.swept_ms + s.config.layout.shape.idle_ms ≤ ms) j m (goes s.config s.controller x j) (before j e).idle;
        last = was.last;
        each = was.each;
        fresh = fresh_after j x e;
      }))))

  -- a sweep ends
  swept_counted : (from ms : ℕ) → s.controller.job ≡ job.Draw (draw.Swept from ms)
      → AfterJob SweepsAreCounted s (job.Draw (draw.Swept from ms)) (job_op s.config s.controller (job.Draw (draw.Swept from ms)))
  swept_counted from ms e =
      let end = line.Swept (s.controller.sweeps + 1) from (s.words name.Tick) ms in
      subst (SweepsCounted s.config (s.controller.sweeps + 1) ms s.controller.book.entries job.Free)
      (sym (job_tells s (job.Draw (draw.Swept from ms)) i.ticks)) (record {
        idle = tt;
        last = (refl, refl);
        each = λ n low high. at n ((s.controller.sweeps + 1) == n) refl low high;
        fresh = fresh_after (job.Draw (draw.Swept from ms)) (s.words name.Tick) e;
      })
    where
      sweep : Sweep
      sweep = record { number = s.controller.sweeps + 1; from = from; to = s.words name.Tick; at_ms = ms }

      at : (n : ℕ) (t : Bool) → ((s.controller.sweeps + 1) == n) ≡ t → 1 ≤ n → n ≤ s.controller.sweeps + 1
          → is_some (option_or (if t then Some sweep else None) (numbered_sweep (printed s) n)) ≡ true
      at n true q low high = refl
      at n false q low high = was.each n low (grind (arith, nat_tests))

  job_kept : (j : Job) → s.controller.job ≡ j → AfterJob SweepsAreCounted s j (job_op s.config s.controller j)
  job_kept (job.Draw (draw.Swept from ms)) e = swept_counted from ms e
  job_kept j e = job_counted j (job_op s.config s.controller j) e tt refl refl (job_tells s j i.ticks)

-- ---- what it begins

begins_counted : (s : Core) → SweepsAreCounted s → SweepsAreCounted (begun_core s)
begins_counted s h =
    begun_by s.config s.controller (λ c. SweepsCounted s.config c.sweeps c.swept_ms c.book.entries c.job (printed s)) h (λ free start b. at start b)
  where
    set : (j : Job) → OnSwept j (λ ms. s.controller.swept_ms + s.config.layout.shape.idle_ms ≤ ms) → ((key : KeyView) → is_fresh j key ≡ false)
        → SweepsCounted s.config s.controller.sweeps s.controller.swept_ms s.controller.book.entries j (printed s)
    set j in_time none = record {
      idle = in_time;
      last = h.last;
      each = h.each;
      fresh = all_of (λ e. is_fresh j e.key ≡ true → e.quiet ≡ None) (λ e f. absurd (true≢false (sym f ∙ none e.key))) s.controller.book.entries;
    }

    at : (start : Start) → Begins s.config s.controller start
        → SweepsCounted s.config s.controller.sweeps s.controller.swept_ms s.controller.book.entries start.job (printed s)
    at start (begin.refuses g rest r e) = set _ tt (λ key. refl)
    at start (begin.takes_down o rest e d) = set _ tt (λ key. refl)
    at start (begin.holds u e p w) = set _ tt (λ key. refl)
    at start (begin.finishes u e p w) = set _ tt (λ key. refl)
    at start (begin.changes g rest number u e d f) = set _ tt (λ key. refl)
    at start (begin.answers o rest e r f) = set _ tt (λ key. refl)
    at start (begin.places_held o rest p r f g) = set _ tt (λ key. refl)
    at start (begin.has_no_place o rest r f g) = set _ tt (λ key. refl)
    at start (begin.places e p r f g) = set _ tt (λ key. refl)
    at start (begin.retires e place r f) = set _ tt (λ key. refl)
    at start (begin.sweeps ms r f) = set _ (grind (arith, nat_tests)) (λ key. refl)
    at start (begin.releases vip m r) = set _ tt (λ key. refl)
    at start (begin.looks r) = set _ tt (λ key. refl)

pub counts_put : (s : Core) (p : Put) → SweepsAreCounted s → SweepsAreCounted (put_core s p)
counts_put s p h = record {
  idle = tt;
  last = h.last;
  each = h.each;
  fresh =
      all_of (λ e. is_fresh (job.Draw (draw.Reserved p)) e.key ≡ true → e.quiet ≡ None) (λ e f. absurd (true≢false (sym f))) s.controller.book.entries;
}

pub counts_keep : Keeps IsPacket Invariant SweepsAreCounted
counts_keep = record {
  stages = λ s p v a q e i f.
      stage_counted s p v a (pipe_op s.config.layout v a) (prints v.number a (s.words name.Tick) ++ printed s) (stage_prints s p v a i.ticks q)
      (counted_prints s.config s.controller.sweeps s.controller.swept_ms s.controller.book.entries s.controller.job v.number a (s.words name.Tick) (printed s) f);
  begins = λ s i f. begins_counted s f;
  jobs = λ s j q b i f. job_kept s i j q;
  enters = λ s p v packet q r u n a i f.
      subst (SweepsCounted s.config s.controller.sweeps s.controller.swept_ms s.controller.book.entries s.controller.job)
      (sym (pipe_silent s p v (record v { stage = Enter packet }) q refl s.words)) f;
  clocks = λ s ms q i f. f;
  refusals = λ s q i f. f;
}

-- ---- the opening

given_counted : (k : Config) (es : List Entry) (lines : List Line) → AllByRecursion (λ l. sweep_by l ≡ None) lines → AllByRecursion (λ e. false ≡ true → e.quiet ≡ None) es
    → SweepsCounted k 0 0 es job.Free lines
given_counted k es [] a f = record { idle = tt; last = (refl, refl); each = λ n low high. absurd (omega arith); fresh = f }
given_counted k es (l ∷ lines) a f = counted_more k 0 0 es job.Free l lines a.0 (given_counted k es lines a.1 f)

pub counts_open : OpensWith SweepsAreCounted
unfolding opening_controller
counts_open k f = given_counted k [] (printed (opening k)) (opening_all (λ l. sweep_by l ≡ None) (λ vip. refl) k) tt
