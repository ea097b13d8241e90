-- Behind the drain of a phase the reports tell keys as the phase asks.
use Rattle.std.proofs.Common.{◌≡◌, ℕ, ◌+◌, ◌%◌, ◌<◌, true, ◌≢◌, ◌⊎◌, List, slice_get, Some, None, Option, sym, refl, ap, ◌∙◌, subst, inl, inr, arith}
use Rattle.sr_base.specs.Layout.{LayoutView}
use Rattle.sr_base.specs.declared.ring_word.RingWord.{RingWord}
use Rattle.sr_base.specs.declared.vip_word.Phase.{Phase}
use Rattle.sr_base.specs.declared.vip_word.Phase.TheVariants.{Steady, Recording, Holding, Transit}
use Rattle.sr_inv_facts.proofs.Beginning.{begun_by}
use Rattle.sr_inv_facts.proofs.DrainedRings.{behind_next, behind_stays}
use Rattle.sr_inv_facts.proofs.Filters.{SetsMore, marked_more, set_more}
use Rattle.sr_inv_facts.proofs.Lists.{of_some}
use Rattle.sr_inv_facts.proofs.Plain.{OfPlain, plain_cleared, plain_passed, plain_phase, plain_vip, plain_waited}
use Rattle.sr_inv_facts.specs.Fitted.{IsPacket}
use Rattle.sr_inv_facts.specs.InFilter.{BehindPhase, Drained, DrainedKept}
use Rattle.sr_inv_facts.specs.InFlight.{ChoosesBy, HasWord}
use Rattle.sr_inv_facts.specs.InUpdate.{AtPhase, JobAt, UpdateFits}
use Rattle.sr_inv_facts.specs.Invariant.{Invariant}
use Rattle.sr_inv_facts.specs.Laws.{OpensWith}
use Rattle.sr_inv_facts.specs.Readings.{EachBehind, IsBehind, bit_words, is_marked, ring_words}
use Rattle.sr_inv_filter.proofs.FilterSteps.{step_bits}
use Rattle.sr_inv_filter.proofs.Sent.{sent_choice, sent_marked, sent_word}
use Rattle.sr_inv_flight.proofs.Steps.{OnOp}
use Rattle.sr_inv_matching.proofs.Reports.{RingsAre, Stores, if_learn, own_report, rings_stage}
use Rattle.sr_machine.proofs.Following.{goes}
use Rattle.sr_machine.specs.Begins.{Begins}
use Rattle.sr_machine.specs.Core.{Core}
use Rattle.sr_machine.specs.Deciding.{ring_count, vip_at}
use Rattle.sr_machine.specs.Goes.{Goes}
use Rattle.sr_machine.specs.Jobs.{book_next, job_next, job_op, rings_next}
use Rattle.sr_machine.specs.Keeping.{AfterJob, AfterStage, Keeps, begun_core}
use Rattle.sr_machine.specs.Names.{rewritten}
use Rattle.sr_machine.specs.Opening.{opening_controller}
use Rattle.sr_machine.specs.Ops.{op_answer, op_name, op_words}
use Rattle.sr_machine.specs.Pipe.{pipe_op}
use Rattle.sr_machine.specs.Reads.{filter_bit, filter_word, read_report}
use Rattle.sr_machine.specs.Stages.{ring_cell}
use Rattle.sr_machine.specs.Starting.{Start}
use Rattle.sr_machine.specs.Stores.{phase_word}
use Rattle.sr_machine.specs.declared.flight.Flight.{Flight}
use Rattle.sr_machine.specs.declared.job.Job.{Job}
use Rattle.sr_machine.specs.declared.leg.Leg.TheVariants.{Judged}
use Rattle.sr_machine.specs.declared.name.Name.{Name}
use Rattle.sr_machine.specs.declared.op.Op.{Op}
use Rattle.sr_machine.specs.declared.pipe_view.PipeView.{PipeView}
use Rattle.sr_machine.specs.declared.pool_update.PoolUpdate.{PoolUpdate}
use Rattle.sr_machine.specs.declared.ring_count.RingCount.{RingCount}
use Rattle.sr_machine.specs.declared.stage.Stage.{Stage}
use Rattle.sr_machine.specs.declared.stage.Stage.TheVariants.{Fly}
use Rattle.sr_machine.specs.declared.wait.Wait.{Wait}
use Rattle.sr_machine.specs.Begins as begin
use Rattle.sr_machine.specs.Goes as go
use Rattle.sr_machine.specs.declared.job.Job.TheVariants as job
use Rattle.sr_machine.specs.declared.leg.Last.TheVariants as last
use Rattle.sr_machine.specs.declared.name.Name.TheVariants as name
use Rattle.sr_machine.specs.declared.op.Op.TheVariants as op
use Rattle.sr_machine.specs.declared.wait.Wait.TheVariants as wait

-- ---- a drain that isn't a phase's, or has nothing behind it

-- another job drains for no phase
none_behind : (l : LayoutView) (bits : ℕ → ℕ) (rings : List RingCount) (ring : ℕ → ℕ → ℕ) (w : Wait) → Drained l bits rings ring (job.Drain 0 0 w)
none_behind l bits rings ring (wait.Comes u p) = λ n k b d behind r read. absurd (none n k d behind)
  where
    none : (n k : ℕ) → k < l.shape.ring → IsBehind l 0 0 n k → ⊥
    none n k d (inl h) = omega arith
    none n k d (inr h) = omega (arith, h.1, d)
none_behind l bits rings ring (wait.Judge y) = tt
none_behind l bits rings ring (wait.Live y) = tt
none_behind l bits rings ring (wait.Retire y) = tt
none_behind l bits rings ring (wait.Release y z) = tt

plain : (l : LayoutView) (bits : ℕ → ℕ) (rings : List RingCount) (ring : ℕ → ℕ → ℕ) → OfPlain (Drained l bits rings ring)
plain l bits rings ring = record {
  free = tt;
  comes = λ u p. tt;
  coming = λ u p. tt;
  retiring = λ key. tt;
  answer = λ r. tt;
  phase = λ u p. tt;
  filter = λ u. tt;
  source = λ key from. tt;
  judge = λ p. tt;
  drain = none_behind l bits rings ring;
}

-- jobs that drain for a phase
abbrev IsDrain : Job → Type 0
IsDrain (job.Drain pipe count (wait.Comes u p)) = Unit {0}
IsDrain j = ⊥

drain_kept : (l : LayoutView) (bits : ℕ → ℕ) (rings : List RingCount) (ring : ℕ → ℕ → ℕ) (pipe count other more : ℕ) (w : Wait) → (IsDrain (job.Drain pipe count w) → ⊥)
    → Drained l bits rings ring (job.Drain other more w)
drain_kept l bits rings ring pipe count other more (wait.Comes u p) n = absurd (n tt)
drain_kept l bits rings ring pipe count other more (wait.Judge y) n = tt
drain_kept l bits rings ring pipe count other more (wait.Live y) n = tt
drain_kept l bits rings ring pipe count other more (wait.Retire y) n = tt
drain_kept l bits rings ring pipe count other more (wait.Release y z) n = tt

module _ (s : Core) (i : Invariant s) where
  abbrev l : LayoutView
  l = s.config.layout

  -- ---- a pipe's step

  module _ (pipe count : ℕ) (u : PoolUpdate) (y : Phase) (e : s.controller.job ≡ job.Drain pipe count (wait.Comes u y)) where
    -- an opener that was sent has loaded the present word
    sent_present : (p : ℕ) (f : Flight) → HasWord s.controller.vips s.controller.job p f → f.packet.key.vip ≡ u.vip → f.vip ≡ phase_word u y
    sent_present p f w own = at (subst (λ j. HasWord s.controller.vips j p f) e w)
      where
        at : HasWord s.controller.vips (job.Drain pipe count (wait.Comes u y)) p f → f.vip ≡ phase_word u y
        at (inl h) =
            let a : AtPhase s.controller.update s.controller.vips u y = subst (JobAt s.config s.controller.update s.controller.vips) e i.update.update.phase in
            h ∙ (ap (vip_at s.controller.vips) own ∙ a.1)
        at (inr h) = absurd h

    sent_behind : (z : Phase) → y ≡ z → (p : ℕ) (v : PipeView) (q : slice_get s.pipes p ≡ Some v) (n c x : ℕ) (r : RingWord) → Stores s i p v q n c x
        → read_report l x ≡ Some r
        → BehindPhase l (bit_words s.words) u z r
    sent_behind Steady t p v q n c x r st read = tt
    sent_behind Holding t p v q n c x r st read = tt
    sent_behind Recording t p v q n c x r st read =
        own_report s i p v q n c x r st read (λ key version. key.vip ≡ u.vip → is_marked l (bit_words s.words) key ≡ true)
        (λ f server version pool at o own.
        sent_marked s i p v q f server version pool at o
        (ap (λ w. w.phase) (sent_present p f (sent_word s i p v q f server version pool at o) own ∙ ap (phase_word u) t)))
    sent_behind Transit t p v q n c x r st read =
        own_report s i p v q n c x r st read (λ key version. key.vip ≡ u.vip → version ≢ u.replaced)
        (λ f server version pool at o own same.
        let word : f.vip ≡ phase_word u Transit = sent_present p f (sent_word s i p v q f server version pool at o) own ∙ ap (phase_word u) t in
        let given : version ≡ u.given = (subst (λ w. ChoosesBy w version) word (sent_choice s i p v q f server version pool at o)).0 in
        (of_some (UpdateFits s.config) s.controller.update u i.update.update.fits (subst (JobAt s.config s.controller.update s.controller.vips) e i.update.update.phase).0).other
        (sym same ∙ given))

    behind_more : (after : ℕ → ℕ) → SetsMore (bit_words s.words) after → (z : Phase) (r : RingWord) → BehindPhase l (bit_words s.words) u z r
        → BehindPhase l after u z r
    behind_more after more Steady r h = tt
    behind_more after more Holding r h = tt
    behind_more after more Recording r h =
        if_learn r.kind (r.key.vip ≡ u.vip → is_marked l (bit_words s.words) r.key ≡ true) (r.key.vip ≡ u.vip → is_marked l after r.key ≡ true)
        (λ t own. marked_more (bit_words s.words) after more l r.key (t own)) h
    behind_more after more Transit r h = h

  stage_behind : (p : ℕ) (v : PipeView) (q : slice_get s.pipes p ≡ Some v) (t : ℕ → ℕ → ℕ) (after : ℕ → ℕ) → SetsMore (bit_words s.words) after
      → ((n c : ℕ) → (t n c ≡ s.words (name.Ring n c)) ⊎ Stores s i p v q n c (t n c)) → (j : Job) → s.controller.job ≡ j
      → Drained l (bit_words s.words) s.controller.rings (ring_words s.words) j
      → Drained l after s.controller.rings t j
  stage_behind p v q t after more are (job.Drain pipe count (wait.Comes u y)) e h = λ n m b c behind r read.
      at n (((ring_count s.controller.rings n).words + m) % l.shape.ring) r read (h n m b c behind r) (are n (((ring_count s.controller.rings n).words + m) % l.shape.ring))
    where
      at : (n c : ℕ) (r : RingWord) → read_report l (t n c) ≡ Some r → (read_report l (s.words (name.Ring n c)) ≡ Some r → BehindPhase l (bit_words s.words) u y r)
          → (t n c ≡ s.words (name.Ring n c)) ⊎ Stores s i p v q n c (t n c) → BehindPhase l after u y r
      at n c r read old (inl same) = behind_more pipe count u y e after more y r (old (ap (read_report l) (sym same) ∙ read))
      at n c r read old (inr st) = behind_more pipe count u y e after more y r (sent_behind pipe count u y e y refl p v q n c (t n c) r st read)
  stage_behind p v q t after more are j e h = tt

  stage_frame : (p : ℕ) (v : PipeView) (q : slice_get s.pipes p ≡ Some v) (at : Stage) (o : Option Op) → OnOp o (λ o. bit_words (op_words s.words o) ≡ bit_words s.words)
      → AfterStage (RingsAre s i p v q) s p v at o
      → AfterStage DrainedKept s p v at o
  stage_frame p v q at None b h = tt
  stage_frame p v q at (Some o) b h =
      subst (λ bits. Drained l bits s.controller.rings (ring_words (op_words s.words o)) s.controller.job) (sym b)
      (stage_behind p v q (ring_words (op_words s.words o)) (bit_words s.words) (λ place e. e) h s.controller.job refl i.filter.filter.drained)

  stage_kept : (p : ℕ) (v : PipeView) (q : slice_get s.pipes p ≡ Some v) (at : Stage) → v.stage ≡ at → AfterStage DrainedKept s p v at (pipe_op l v at)
  stage_kept p v q (Fly f (Judged w (last.Mark bit rest))) e =
      stage_behind p v q (ring_words s.words) (bit_words (op_words s.words (op.Ors (name.Filter (filter_word bit)) (filter_bit bit)))) (set_more (bit_words s.words) bit)
      (λ n c. inl refl) s.controller.job refl i.filter.filter.drained
  stage_kept p v q at e = stage_frame p v q at (pipe_op l v at) (step_bits s v at (λ n. n)) (rings_stage s i p v q at e)

  -- ---- the controller's step

  goes_plain : (bits : ℕ → ℕ) (rings : List RingCount) (ring : ℕ → ℕ → ℕ) (x : ℕ) (j m : Job) → Goes s.config s.controller x j m → (IsDrain j → ⊥)
      → Drained l bits rings ring m
  goes_plain bits rings ring x j m (go.comes u p) n = plain_phase (Drained l bits rings ring) (plain l bits rings ring) u p
  goes_plain bits rings ring x j m (go.cleared key place w) n = plain_cleared (Drained l bits rings ring) (plain l bits rings ring) key w
  goes_plain bits rings ring x j m (go.phase_stored u p) n = plain_vip (Drained l bits rings ring) (plain l bits rings ring) u p
  goes_plain bits rings ring x j m (go.pass_last g pipe w a b) n = plain_passed (Drained l bits rings ring) (plain l bits rings ring) w
  goes_plain bits rings ring x j m (go.drain_stays pipe count w a) n = drain_kept l bits rings ring pipe count pipe (count + 1) w n
  goes_plain bits rings ring x j m (go.drain_next pipe count w a b) n = drain_kept l bits rings ring pipe count (pipe + 1) 0 w n
  goes_plain bits rings ring x j m (go.drain_last pipe count w a b) n = plain_waited (Drained l bits rings ring) (plain l bits rings ring) s.controller.vips _ w
  goes_plain bits rings ring x j m g n = tt

  frame : (j : Job) (o : Option Op) → (IsDrain j → ⊥) → AfterJob DrainedKept s j o
  frame j None n = tt
  frame j (Some o) n =
      let x = op_answer o (s.words (op_name o)) in
      goes_plain (bit_words (op_words s.words o)) (rings_next s.config s.controller j x) (ring_words (op_words s.words o)) x j (job_next s.config s.controller j x)
      (goes s.config s.controller x j) n

  module _ (pipe count : ℕ) (u : PoolUpdate) (y : Phase) (e : s.controller.job ≡ job.Drain pipe count (wait.Comes u y)) where
    abbrev cell : Name
    cell = ring_cell l pipe (ring_count s.controller.rings pipe).words

    old : EachBehind l s.controller.rings (ring_words s.words) pipe count (BehindPhase l (bit_words s.words) u y)
    old = subst (Drained l (bit_words s.words) s.controller.rings (ring_words s.words)) e i.filter.filter.drained

    drains : (m : Job) → Goes s.config s.controller (s.words cell) (job.Drain pipe count (wait.Comes u y)) m
        → Drained l (bit_words s.words) (rings_next s.config s.controller (job.Drain pipe count (wait.Comes u y)) (s.words cell)) (ring_words (rewritten s.words cell 0)) m
    drains m (go.drain_stays d c w a) = behind_stays s i pipe count (wait.Comes u y) e (BehindPhase l (bit_words s.words) u y) old
    drains m (go.drain_next d c w a b) = behind_next s i pipe count (wait.Comes u y) e (BehindPhase l (bit_words s.words) u y) old a
    drains m (go.drain_last d c w a b) =
        plain_waited (Drained l (bit_words s.words) (rings_next s.config s.controller (job.Drain pipe count (wait.Comes u y)) (s.words cell)) (ring_words (rewritten s.words cell 0)))
        (plain l (bit_words s.words) (rings_next s.config s.controller (job.Drain pipe count (wait.Comes u y)) (s.words cell)) (ring_words (rewritten s.words cell 0)))
        s.controller.vips (book_next s.config s.controller (job.Drain pipe count (wait.Comes u y)) (s.words cell)).entries (wait.Comes u y)

  job_kept : (j : Job) → s.controller.job ≡ j → AfterJob DrainedKept s j (job_op s.config s.controller j)
  job_kept (job.Drain pipe count (wait.Comes u y)) e =
      drains pipe count u y e (job_next s.config s.controller (job.Drain pipe count (wait.Comes u y)) (s.words (cell pipe count u y e)))
      (goes s.config s.controller (s.words (cell pipe count u y e)) (job.Drain pipe count (wait.Comes u y)))
  job_kept j e = frame j (job_op s.config s.controller j) (λ n. n)

  begins_kept : DrainedKept (begun_core s)
  begins_kept =
      begun_by s.config s.controller (λ c. Drained l (bit_words s.words) c.rings (ring_words s.words) c.job) i.filter.filter.drained (λ q t g. by t g)
    where
      by : (t : Start) → Begins s.config s.controller t → Drained l (bit_words s.words) s.controller.rings (ring_words s.words) t.job
      by t (begin.refuses g rest a b) = tt
      by t g = tt

-- ---- every event

pub drained_keep : Keeps IsPacket Invariant DrainedKept
drained_keep = record {
  stages = λ s p v at q e i h. stage_kept s i p v q at e;
  begins = λ s i h. begins_kept s i;
  jobs = λ s j q b i h. job_kept s i j q;
  enters = λ s p v packet q r u n a i h. h;
  clocks = λ s ms q i h. h;
  refusals = λ s q i h. h;
}

pub drained_part : (s : Core) → Invariant s → DrainedKept s
drained_part s i = i.filter.filter.drained

pub drained_open : OpensWith DrainedKept
unfolding opening_controller
drained_open k f = tt
