-- Each event keeps what jobs stand on, and who has which place.
use Rattle.std.proofs.Common.{◌≡◌, ℕ, ◌+◌, Bool, ◌&&◌, ◌||◌, List, ◌∷◌, ◌++◌, drop, if◌then◌else◌, nat_le, ◌==◌, Some, None, Option, option_map, sym, refl, ap, ◌∙◌, subst}
use Rattle.std.specs.Option.{option_or}
use Rattle.sr_base.specs.Key.{KeyView}
use Rattle.sr_base.specs.Place.{same_place}
use Rattle.sr_base.specs.declared.place.Place.{Place}
use Rattle.sr_base.specs.declared.vip_word.Phase.TheVariants.{Recording}
use Rattle.sr_inv_facts.proofs.Beginning.{begun_by}
use Rattle.sr_inv_facts.proofs.Books.{changed_all, distinct_mapped, field_kept}
use Rattle.sr_inv_facts.proofs.Entries.{succeeds_changed, swept_same}
use Rattle.sr_inv_facts.proofs.Lists.{all_then}
use Rattle.sr_inv_facts.proofs.Printing.{job_tells, pipe_silent, prints, stage_prints}
use Rattle.sr_inv_facts.proofs.Taking.{takes}
use Rattle.sr_inv_facts.specs.Fitted.{IsPacket}
use Rattle.sr_inv_facts.specs.InJobs.{InJobs, JobHolds, JobsHold, Seen, book_taking, job_taking, leaving, seen, PutHolds}
use Rattle.sr_inv_facts.specs.InShape.{BookFits, JobFits}
use Rattle.sr_inv_facts.specs.Invariant.{Invariant}
use Rattle.sr_inv_jobs.proofs.JobBegins.{start_holds, begins_as}
use Rattle.sr_inv_jobs.proofs.JobGoes.{as_placed, goes_on, moved, reserved_tells, placed_tells, down_more}
use Rattle.sr_inv_jobs.proofs.JobSteps.{After, Before, comes, cleared, retired, phase_stored, judged_live, judged_withdrawn, emptied, passed_on, last_down}
use Rattle.sr_inv_jobs.proofs.JobTakes.{drain_on, look_on, waited_on}
use Rattle.sr_inv_jobs.proofs.Standing.{stands_held}
use Rattle.sr_law.specs.Taken.{now_placed, taken}
use Rattle.sr_law.specs.declared.line.Line.{Line}
use Rattle.sr_law.specs.declared.verdict.Verdict.{Verdict}
use Rattle.sr_machine.proofs.Following.{goes}
use Rattle.sr_machine.specs.Config.{Config}
use Rattle.sr_machine.specs.Core.{Core, newest_first, pipe_lines, printed}
use Rattle.sr_machine.specs.Deciding.{with_named}
use Rattle.sr_machine.specs.Draws.{answer_line}
use Rattle.sr_machine.specs.Goes.{Goes, SweepsTo}
use Rattle.sr_machine.specs.Jobs.{job_after, job_next, job_op, lines_next}
use Rattle.sr_machine.specs.Keeping.{AfterJob, AfterStage, Keeps, begun_core}
use Rattle.sr_machine.specs.Ops.{op_answer, op_name}
use Rattle.sr_machine.specs.Pipe.{packet_line, pipe_op}
use Rattle.sr_machine.specs.Reads.{read_flag}
use Rattle.sr_machine.specs.Taking.{ended_by, taking}
use Rattle.sr_machine.specs.declared.controller_view.ControllerView.{ControllerView}
use Rattle.sr_machine.specs.declared.flight.Flight.{Flight}
use Rattle.sr_machine.specs.declared.job.Job.{Job}
use Rattle.sr_machine.specs.declared.op.Op.{Op}
use Rattle.sr_machine.specs.declared.pipe_view.PipeView.{PipeView}
use Rattle.sr_machine.specs.declared.stage.Stage.{Stage}
use Rattle.sr_shadow.proofs.Holding.{found_own}
use Rattle.sr_shadow.specs.Book.{DistinctKeys, entry_for, holder_of, placed_from, with_changed}
use Rattle.sr_shadow.specs.Entry.{swept, is_of, is_placed}
use Rattle.sr_shadow.specs.declared.entry.Entry.{Entry}
use Rattle.sr_inv_facts.specs.Putting.{put_core}
use Rattle.sr_machine.specs.declared.put.Put.{Put}
use Rattle.sr_machine.specs.Goes as go
use Rattle.sr_machine.specs.declared.draw.Draw.TheVariants as draw
use Rattle.sr_machine.specs.declared.store.Store.TheVariants as store
use Rattle.sr_machine.specs.declared.wait.Wait.TheVariants as wait
use Rattle.sr_machine.specs.declared.job.Job.TheVariants as job
use Rattle.sr_law.specs.declared.line.Line.TheVariants as line
use Rattle.sr_machine.specs.declared.name.Name.TheVariants as name
use Rattle.sr_machine.specs.declared.stage.Stage.TheVariants as stage
use Rattle.sr_machine.specs.declared.leg.Leg.TheVariants as leg
use Rattle.sr_machine.specs.declared.leg.Last.TheVariants as last

-- ---- the controller's step

module _ (k : Config) (c : ControllerView) (b : BookFits k.layout c.book) (x : ℕ) (lines : List Line) where
  -- a sweep comes to an entry that stands at its place
  hit_stands : (es : List Entry) (from : ℕ) (e : Entry) (place : Place) → DistinctKeys es → SweepsTo e place (placed_from from es)
      → (f : Entry) × (entry_for e.key es ≡ Some f) × (f.place ≡ Some place) × (f.taken ≡ e.taken)
  hit_stands es from e place d s =
      (e, found_own (λ e. nat_le from e.taken && is_placed e) es e d s.found, s.stands, refl)

  -- what a swap of a hit leaves of the book
  hit_seen : Bool → KeyView → Seen
  hit_seen hit key = record (seen c) { entries = with_changed (swept hit) key c.book.entries }

  swept_distinct : (hit : Bool) (key : KeyView) → DistinctKeys (with_changed (swept hit) key c.book.entries)
  swept_distinct hit key =
      distinct_mapped (λ e. if is_of key e then swept hit e else e) (field_kept (λ e. e.key) (swept hit) (λ e. refl) key) (field_kept (λ e. e.taken) (swept hit) (λ e. refl) key) c.book.entries b.distinct

  hit_on : (from ms : ℕ) (key : KeyView) (place : Place) (n : ℕ) (hit : Bool) (m : Job) → Before k c b x lines (job.Hit from ms key place n)
      → ((z : KeyView) → leaving m z ≡ None)
      → JobHolds k (record (seen c) { entries = with_changed (swept hit) key c.book.entries }) lines m
      → ((q : Place) → job_taking m q ≡ None)
      → JobsHold k (record (seen c) { entries = with_changed (swept hit) key c.book.entries }) m lines
  hit_on from ms key place n hit m h leave stands none =
      let f = succeeds_changed (swept hit) (swept_same hit) key c.book.entries in
      record {
        once = f.once h.once;
        also = all_then (λ e. e.also ≡ None) (λ e. e.also ≡ leaving m e.key) (λ e a. a ∙ sym (leave e.key)) (with_changed (swept hit) key c.book.entries) (changed_all (λ e. e.also ≡ None) (λ e. e.also ≡ None) (swept hit) key (λ e q a. a) (λ e q a. a) c.book.entries h.also);
        stands = stands;
        places = λ q. h.places q ∙ (ap as_placed (sym (f.holders q)) ∙ sym (ap (λ o. option_or o (book_taking (with_changed (swept hit) key c.book.entries) q)) (none q)));
        downs = h.downs;
      }

  job_goes : (j m : Job) → Goes k c x j m → JobFits k.layout j → Before k c b x lines j → After k c b x lines j m
  job_goes j m go.stays_free f h = h
  job_goes j m (go.waits w) f h = goes_on k (seen c) lines (job.Draw (draw.Grace w)) (job.Pass x 0 w) h (λ z. refl) h.stands (λ q. refl)
  job_goes j m (go.refused n) f h =
      moved k (seen c) lines (job.Draw (draw.Refused n)) job.Free c.held c.vips c.named (line.Refused x n ∷ lines) h (λ z. refl) (tt, tt) h.places (λ s. refl)
  job_goes j m (go.taken_down n) f h = record {
    once = h.once;
    also = h.also;
    stands = (last_down c.down n, refl);
    places = h.places;
    downs = λ s. ap (λ r. (n == s) || r) (h.downs s) ∙ down_more c.down n s;
  }
  job_goes j m (go.given u) f h =
      moved k (seen c) lines (job.Draw (draw.Given u)) (job.Draw (draw.Comes u Recording)) c.held c.vips (with_named u.vip u.given u.pool c.named) (line.Given x u.vip u.given u.pool ∷ lines) h (λ z. refl) (tt, tt) h.places (λ s. refl)
  job_goes j m (go.comes u p) f h = comes k c b x lines u p h
  job_goes j m (go.reserved p) f h =
      moved k (seen c) lines (job.Draw (draw.Reserved p)) (job.Store (store.Reserved p)) c.held c.vips c.named (line.Reserved x p.key p.place ∷ lines) h (λ z. refl) h.stands
      (λ q. reserved_tells p.place p.key (taken lines q) (book_taking c.book.entries q) q (h.places q)) (λ s. refl)
  job_goes j m (go.placed p) f h =
      moved k (seen c) lines (job.Draw (draw.Placed p)) (job.Draw (draw.Grace (wait.Live p))) c.held c.vips c.named (line.Placed x p.key p.place ∷ lines) h (λ z. refl) h.stands
      (λ q. ap (λ o. if same_place p.place q then option_map now_placed o else o) (h.places q) ∙ placed_tells p.place p.key (λ z. holder_of z c.book.entries) q (stands_held c.book.entries p.key p.place b.distinct h.once h.stands.1.stands)) (λ s. refl)
  job_goes j m (go.cleared key place w) f h = cleared k c b x lines key place w h
  job_goes j m (go.retired key place n) f h = retired k c b x lines key place n h
  job_goes j m (go.answered r) f h =
      moved k (seen c) lines (job.Draw (draw.Answer r)) job.Free (drop 1 c.held) c.vips c.named (answer_line k c r x ∷ lines) h (λ z. refl) (tt, tt) h.places (λ s. refl)
  job_goes j m (go.sweep_begins ms e place s) f h =
      goes_on k (seen c) lines (job.Draw (draw.From ms)) (job.Hit x ms e.key place e.taken) h (λ z. refl) (hit_stands c.book.entries 0 e place b.distinct s) (λ q. refl)
  job_goes j m (go.sweep_empty ms e) f h =
      goes_on k (seen c) lines (job.Draw (draw.From ms)) (job.Draw (draw.Swept x ms)) h (λ z. refl) (tt, tt) (λ q. refl)
  job_goes j m (go.swept from ms) f h =
      moved k (seen c) lines (job.Draw (draw.Swept from ms)) job.Free c.held c.vips c.named (line.Swept (c.sweeps + 1) from x ms ∷ lines) h (λ z. refl) (tt, tt) h.places (λ s. refl)
  job_goes j m (go.downed n) f h = goes_on k (seen c) lines (job.Store (store.Down n)) job.Free h (λ z. refl) (tt, tt) (λ q. refl)
  job_goes j m (go.member_next u n e) f h =
      goes_on k (seen c) lines (job.Store (store.Member u n)) (job.Store (store.Member u (n + 1))) h (λ z. refl) (tt, tt) (λ q. refl)
  job_goes j m (go.member_last u n e) f h =
      goes_on k (seen c) lines (job.Store (store.Member u n)) (job.Store (store.Head u)) h (λ z. refl) (tt, tt) (λ q. refl)
  job_goes j m (go.head u) f h = goes_on k (seen c) lines (job.Store (store.Head u)) (job.Draw (draw.Given u)) h (λ z. refl) (tt, tt) (λ q. refl)
  job_goes j m (go.phase_stored u p) f h = phase_stored k c b x lines u p h
  job_goes j m (go.filter_next u n e) f h =
      goes_on k (seen c) lines (job.Store (store.Filter u n)) (job.Store (store.Filter u (n + 1))) h (λ z. refl) (tt, tt) (λ q. refl)
  job_goes j m (go.filter_last u n e) f h = goes_on k (seen c) lines (job.Store (store.Filter u n)) job.Free h (λ z. refl) (tt, tt) (λ q. refl)
  job_goes j m (go.reserve_stored p) f h =
      goes_on k (seen c) lines (job.Store (store.Reserved p)) (job.Draw (draw.Grace (wait.Judge p))) h (λ z. refl) h.stands (λ q. refl)
  job_goes j m (go.judged_live p e) f h = judged_live k c b x lines p e h
  job_goes j m (go.judged_withdrawn p e) f h = judged_withdrawn k c b x lines p e h
  job_goes j m (go.emptied key place w) f h = emptied k c b x lines key place w f h
  job_goes j m (go.pass_stays g pipe w e) f h = h
  job_goes j m (go.pass_next g pipe w e n) f h =
      goes_on k (seen c) lines (job.Pass g pipe w) (job.Pass g (pipe + 1) w) h (λ z. refl) h.stands (λ q. refl)
  job_goes j m (go.pass_last g pipe w e n) f h = passed_on k c b x lines g pipe w h
  job_goes j m (go.drain_stays pipe count w e) f h =
      let t = takes k c (ended_by (job.Drain pipe count w)) pipe x in
      let u = drain_on k c x lines (ended_by (job.Drain pipe count w)) pipe (taking k c (ended_by (job.Drain pipe count w)) pipe x) t count w h in
      goes_on k (seen (job_after k c (job.Drain pipe count w) x)) lines (job.Drain pipe count w) (job.Drain pipe (count + 1) w) u (λ z. refl) u.stands (λ q. refl)
  job_goes j m (go.drain_next pipe count w e n) f h =
      let t = takes k c (ended_by (job.Drain pipe count w)) pipe x in
      let u = drain_on k c x lines (ended_by (job.Drain pipe count w)) pipe (taking k c (ended_by (job.Drain pipe count w)) pipe x) t count w h in
      goes_on k (seen (job_after k c (job.Drain pipe count w) x)) lines (job.Drain pipe count w) (job.Drain (pipe + 1) 0 w) u (λ z. refl) u.stands (λ q. refl)
  job_goes j m (go.drain_last pipe count w e n) f h =
      let t = takes k c (ended_by (job.Drain pipe count w)) pipe x in
      let u = drain_on k c x lines (ended_by (job.Drain pipe count w)) pipe (taking k c (ended_by (job.Drain pipe count w)) pipe x) t count w h in
      waited_on k (seen (job_after k c (job.Drain pipe count w) x)) lines pipe count w u
  job_goes j m (go.look_next pipe e n) f h =
      let u = look_on k c x lines None pipe (taking k c None pipe x) (takes k c None pipe x) pipe h in
      goes_on k (seen (job_after k c (job.Look pipe) x)) lines (job.Look pipe) (job.Look (pipe + 1)) u (λ z. refl) (tt, tt) (λ q. refl)
  job_goes j m (go.look_last pipe e n) f h =
      let u = look_on k c x lines None pipe (taking k c None pipe x) (takes k c None pipe x) pipe h in
      goes_on k (seen (job_after k c (job.Look pipe) x)) lines (job.Look pipe) job.Free u (λ z. refl) (tt, tt) (λ q. refl)
  job_goes j m (go.look_took pipe e) f h =
      let u = look_on k c x lines None pipe (taking k c None pipe x) (takes k c None pipe x) pipe h in
      goes_on k (seen (job_after k c (job.Look pipe) x)) lines (job.Look pipe) job.Free u (λ z. refl) (tt, tt) (λ q. refl)
  job_goes j m (go.hit_next from ms key place n e at s) f h =
      hit_on from ms key place n (read_flag x) (job.Hit from ms e.key at e.taken) h (λ z. refl)
      (hit_stands (with_changed (swept (read_flag x)) key c.book.entries) (n + 1) e at (swept_distinct (read_flag x) key) s) (λ q. refl)
  job_goes j m (go.hit_last from ms key place n e) f h =
      hit_on from ms key place n (read_flag x) (job.Draw (draw.Swept from ms)) h (λ z. refl) (tt, tt) (λ q. refl)

-- no step but a draw prints
lift : (s : Core) (j : Job) (o : Option Op) → ((x : ℕ) → lines_next s.config s.controller j x ≡ s.controller.lines)
    → ((x : ℕ) → JobsHold s.config (seen (job_after s.config s.controller j x)) (job_next s.config s.controller j x) (printed s))
    → AfterJob InJobs s j o
lift s j None e h = tt
lift s j (Some o) e h =
    let x = op_answer o (s.words (op_name o)) in
    record {
      holds = subst (JobsHold s.config (seen (job_after s.config s.controller j x)) (job_next s.config s.controller j x)) (ap (λ ls. newest_first (pipe_lines s.pipes ++ ls)) (sym (e x))) (h x);
    }

old : (s : Core) (i : Invariant s) (j : Job) → s.controller.job ≡ j → JobsHold s.config (seen s.controller) j (printed s)
old s i j q = subst (λ m. JobsHold s.config (seen s.controller) m (printed s)) q i.jobs.holds

fits : (s : Core) (i : Invariant s) (j : Job) → s.controller.job ≡ j → JobFits s.config.layout j
fits s i j q = subst (JobFits s.config.layout) q i.shape.controller.job

job_kept : (s : Core) (i : Invariant s) (j : Job) → s.controller.job ≡ j → AfterJob InJobs s j (job_op s.config s.controller j)
job_kept s i (job.Draw d) q =
    let k = s.config in
    let c = s.controller in
    let x = s.words name.Tick in
    record {
      holds = subst (JobsHold k (seen (job_after k c (job.Draw d) x)) (job_next k c (job.Draw d) x)) (sym (job_tells s (job.Draw d) i.ticks)) (job_goes k c i.shape.book x (printed s) (job.Draw d) (job_next k c (job.Draw d) x) (goes k c x (job.Draw d)) (fits s i (job.Draw d) q) (old s i (job.Draw d) q));
    }
job_kept s i j q =
    lift s j (job_op s.config s.controller j) (λ x. refl) (λ x. job_goes s.config s.controller i.shape.book x (printed s) j (job_next s.config s.controller j x) (goes s.config s.controller x j) (fits s i j q) (old s i j q))

-- ---- a pipe's step

packet_seen : (k : Config) (c : Seen) (lines : List Line) (n : ℕ) (f : Flight) (w : Verdict) (x : ℕ) (j : Job) → JobHolds k c lines j
    → JobHolds k c (packet_line n f w x ∷ lines) j
packet_seen k c lines n f w x (job.Store (store.Down server)) h = h
packet_seen k c lines n f w x j h = h

line_seen : (k : Config) (c : Seen) (lines : List Line) (j : Job) (n : ℕ) (at : Stage) (x : ℕ) → JobsHold k c j lines
    → JobsHold k c j (prints n at x ++ lines)
line_seen k c lines j n (stage.Fly f (leg.Judged w last.Out)) x h = record {
  once = h.once;
  also = h.also;
  stands = packet_seen k c lines n f w x j h.stands;
  places = h.places;
  downs = h.downs;
}
line_seen k c lines j n at x h = h

stage_kept : (s : Core) (p : ℕ) (v : PipeView) (at : Stage) (now : List Line) (o : Option Op)
    → JobsHold s.config (seen s.controller) s.controller.job now
    → AfterStage (λ t. printed t ≡ now) s p v at o
    → AfterStage InJobs s p v at o
stage_kept s p v at now None h e = tt
stage_kept s p v at now (Some o) h e =
    record { holds = subst (JobsHold s.config (seen s.controller) s.controller.job) (sym e) h }

-- ---- all of them

begins_kept : (s : Core) → Invariant s → InJobs s → InJobs (begun_core s)
begins_kept s i f =
    begun_by s.config s.controller (λ c. InJobs (record s { controller = c })) (record { holds = f.holds }) (λ q t g. record {
      holds =
          start_holds s.config s.controller (printed s) i.shape.book.distinct (subst (λ m. JobsHold s.config (seen s.controller) m (printed s)) q f.holds) t g;
    })

-- a put begins whose place is one of its key and held by nobody, and whose aim stands in the book
pub jobs_put : (s : Core) (p : Put) → s.controller.job ≡ job.Free
    → PutHolds s.config.layout.shape s.controller.book.entries s.controller.held p → Invariant s
    → InJobs (put_core s p)
jobs_put s p free put i = record {
  holds =
      begins_as s.config s.controller (printed s) i.shape.book.distinct
      (subst (λ m. JobsHold s.config (seen s.controller) m (printed s)) free i.jobs.holds) (job.Draw (draw.Reserved p)) (λ z. refl) (put, tt)
      (λ q. refl);
}

pub jobs_keep : Keeps IsPacket Invariant InJobs
jobs_keep = record {
  stages = λ s p v at q e i f.
      stage_kept s p v at (prints v.number at (s.words name.Tick) ++ printed s) (pipe_op s.config.layout v at) (line_seen s.config (seen s.controller) (printed s) s.controller.job v.number at (s.words name.Tick) f.holds) (stage_prints s p v at i.ticks q);
  begins = begins_kept;
  jobs = λ s j q b i f. job_kept s i j q;
  enters = λ s p v packet q r u n a i f. record {
    holds = subst (JobsHold s.config (seen s.controller) s.controller.job) (sym (pipe_silent s p v (record v { stage = stage.Enter packet }) q refl s.words)) f.holds;
  };
  clocks = λ s ms q i f. record { holds = f.holds };
  refusals = λ s q i f. record { holds = f.holds };
}
