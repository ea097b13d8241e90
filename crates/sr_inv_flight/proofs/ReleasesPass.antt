-- A packet of a pipe that a release has passed hasn't the version that it is to free.
use Rattle.std.proofs.Common.{◌≡◌, ℕ, ◌+◌, ◌<◌, ◌≤◌, Bool, true, false, ◌&&◌, nat_lt, ◌≢◌, ◌⊎◌, List, if◌then◌else◌, slice_get, Some, None, Option, sym, refl, ap, ◌∙◌, subst, inl, inr, arith}
use Rattle.std.proofs.lemmas.Bool.{cases_eq, cases_lt}
use Rattle.std.proofs.lemmas.Bool.Decides.{nat_tests}
use Rattle.std.proofs.lemmas.Option.{slice_get_within}
use Rattle.sr_base.specs.Key.{KeyView}
use Rattle.sr_base.specs.declared.vip_word.Phase.{Phase}
use Rattle.sr_base.specs.declared.vip_word.Phase.TheVariants.{Steady, Recording, Holding, Transit}
use Rattle.sr_base.specs.declared.vip_word.VipWord.{VipWord}
use Rattle.sr_inv_facts.proofs.Beginning.{begun_by}
use Rattle.sr_inv_facts.proofs.Lists.{ranged_at}
use Rattle.sr_inv_facts.proofs.Pipes.{each_set}
use Rattle.sr_inv_facts.specs.Doing.{OnRelease, OnReleased}
use Rattle.sr_inv_facts.specs.Fitted.{IsPacket}
use Rattle.sr_inv_facts.specs.Flying.{OnLeg, OnNumber}
use Rattle.sr_inv_facts.specs.InFlight.{LegHolds, ReleasesPassed, Unreleased}
use Rattle.sr_inv_facts.specs.InTicks.{below, job_times, same}
use Rattle.sr_inv_facts.specs.Invariant.{Invariant}
use Rattle.sr_inv_facts.specs.Laws.{OpensWith}
use Rattle.sr_inv_facts.specs.Readings.{EachPipe, bit_words}
use Rattle.sr_inv_flight.proofs.LoadedWords.{entered_drawn, noted, tick_of}
use Rattle.sr_inv_flight.proofs.Steps.{OnOp, leg_then}
use Rattle.sr_inv_flight.proofs.UsedNumbers.{numbers_step}
use Rattle.sr_machine.proofs.Following.{goes}
use Rattle.sr_machine.specs.Begins.{Begins}
use Rattle.sr_machine.specs.Config.{Config}
use Rattle.sr_machine.specs.Core.{Core, opening}
use Rattle.sr_machine.specs.Draws.{cleared_job, phase_job}
use Rattle.sr_machine.specs.Goes.{Goes}
use Rattle.sr_machine.specs.Jobs.{book_next, job_next, job_op}
use Rattle.sr_machine.specs.Keeping.{AfterJob, AfterStage, Keeps, begun_core}
use Rattle.sr_machine.specs.Opening.{opening_pipes}
use Rattle.sr_machine.specs.Ops.{op_answer, op_name}
use Rattle.sr_machine.specs.Pipe.{fresh_pipe, pipe_after, pipe_op}
use Rattle.sr_machine.specs.Stages.{stage_after}
use Rattle.sr_machine.specs.Starting.{Start}
use Rattle.sr_machine.specs.Stores.{vip_draw}
use Rattle.sr_machine.specs.Waiting.{all_passed, is_under_way, live_job, waited_job}
use Rattle.sr_machine.specs.declared.controller_view.ControllerView.{ControllerView}
use Rattle.sr_machine.specs.declared.flight.Flight.{Flight}
use Rattle.sr_machine.specs.declared.job.Job.{Job}
use Rattle.sr_machine.specs.declared.leg.Leg.{Leg}
use Rattle.sr_machine.specs.declared.leg.Leg.TheVariants.{Hit, Chosen, Judged}
use Rattle.sr_machine.specs.declared.op.Op.{Op}
use Rattle.sr_machine.specs.declared.pipe_view.PipeView.{PipeView}
use Rattle.sr_machine.specs.declared.pool_update.PoolUpdate.{PoolUpdate}
use Rattle.sr_machine.specs.declared.put.Aim.{Aim}
use Rattle.sr_machine.specs.declared.put.Put.{Put}
use Rattle.sr_machine.specs.declared.stage.Stage.{Stage}
use Rattle.sr_machine.specs.declared.stage.Stage.TheVariants.{Idle, Enter, Note, Vip, Fly, Leave}
use Rattle.sr_machine.specs.declared.wait.Wait.{Wait}
use Rattle.sr_machine.specs.declared.why.Why.{Why}
use Rattle.sr_shadow.specs.declared.entry.Entry.{Entry}
use Rattle.sr_inv_facts.specs.Putting.{put_core}
use Rattle.sr_law.specs.declared.verdict.Verdict.TheVariants as verdict
use Rattle.sr_machine.specs.Begins as begin
use Rattle.sr_machine.specs.Goes as go
use Rattle.sr_machine.specs.declared.draw.Draw.TheVariants as draw
use Rattle.sr_machine.specs.declared.job.Job.TheVariants as job
use Rattle.sr_machine.specs.declared.name.Name.TheVariants as name
use Rattle.sr_machine.specs.declared.put.Aim.TheVariants as aim
use Rattle.sr_machine.specs.declared.stage.Stage.TheVariants as stage
use Rattle.sr_machine.specs.declared.wait.Wait.TheVariants as wait
use Rattle.sr_machine.specs.declared.why.Why.TheVariants as why

-- ---- what is said of a release

-- what holds of every number holds of the one that is released
any_released : (P : ℕ → ℕ → Type 0) (j : Job) (p entered : ℕ) → ((vip version : ℕ) → P vip version) → OnReleased j p entered P
any_released P (job.Pass grace pipe (wait.Release vip version)) p e h = λ c. h vip version
any_released P (job.Drain pipe count (wait.Release vip version)) p e h = h vip version
any_released P j p e h = tt

-- what is known of the number from the beginning of the wait on
known_released : (P : ℕ → ℕ → Type 0) (j : Job) (p entered : ℕ) → OnRelease j P → OnReleased j p entered P
known_released P (job.Pass grace pipe (wait.Release vip version)) p e h = λ c. h
known_released P (job.Drain pipe count (wait.Release vip version)) p e h = h
known_released P j p e h = tt

-- of the packet's version, from outside and from inside
released_in : (j : Job) (p : ℕ) (f : Flight) (leg : Leg) → Unreleased j p f leg
    → OnNumber leg (λ n. OnReleased j p f.entered (λ vip version. f.packet.key.vip ≡ vip → n ≢ version))
released_in j p f (Hit place n) h = h
released_in j p f (Chosen n next) h = h
released_in j p f (Judged (verdict.To server n pool) next) h = h
released_in j p f (Judged (verdict.Down server n pool) next) h = h
released_in j p f (Judged v next) h = tt
released_in j p f leg h = tt

released_out : (j : Job) (p : ℕ) (f : Flight) (leg : Leg)
    → OnNumber leg (λ n. OnReleased j p f.entered (λ vip version. f.packet.key.vip ≡ vip → n ≢ version)) → Unreleased j p f leg
released_out j p f (Hit place n) h = h
released_out j p f (Chosen n next) h = h
released_out j p f (Judged (verdict.To server n pool) next) h = h
released_out j p f (Judged (verdict.Down server n pool) next) h = h
released_out j p f (Judged v next) h =
    any_released (λ vip version. f.packet.key.vip ≡ vip → OnNumber (Judged v next) (λ n. n ≢ version)) j p f.entered (λ vip version e. tt)
released_out j p f leg h = any_released (λ vip version. f.packet.key.vip ≡ vip → OnNumber leg (λ n. n ≢ version)) j p f.entered (λ vip version e. tt)

-- ---- a pipe's step

stage_kept : (s : Core) (p : ℕ) (v : PipeView) (at : Stage) (o : Option Op) → slice_get s.pipes p ≡ Some v → ReleasesPassed s
    → OnOp o (λ o. OnLeg (stage_after s.config.layout at (op_answer o (s.words (op_name o))))
    (λ f leg. OnNumber leg (λ n. OnReleased s.controller.job p f.entered (λ vip version. f.packet.key.vip ≡ vip → n ≢ version))))
    → AfterStage ReleasesPassed s p v at o
stage_kept s p v at None q h g = tt
stage_kept s p v at (Some o) q h g =
    let x = op_answer o (s.words (op_name o)) in
    each_set s.pipes p v (pipe_after s.config.layout v at x) q (λ n u. OnLeg u.stage (Unreleased s.controller.job n)) h
    (leg_then (stage_after s.config.layout at x)
    (λ f leg. OnNumber leg (λ n. OnReleased s.controller.job p f.entered (λ vip version. f.packet.key.vip ≡ vip → n ≢ version)))
    (Unreleased s.controller.job p) (λ f leg e k. released_out s.controller.job p f leg k) g)

-- ---- which wait follows

module _ (Q : ℕ → ℕ → Type 0) (p entered : ℕ) where
  phase_unreleased : (u : PoolUpdate) (q : Phase) → OnReleased (phase_job u q) p entered Q
  phase_unreleased u Steady = tt
  phase_unreleased u Recording = tt
  phase_unreleased u Holding = tt
  phase_unreleased u Transit = tt

  vip_unreleased : (u : PoolUpdate) (q : Phase) → OnReleased (job.Draw (vip_draw u q)) p entered Q
  vip_unreleased u Steady = tt
  vip_unreleased u Recording = tt
  vip_unreleased u Holding = tt
  vip_unreleased u Transit = tt

  cleared_unreleased : (key : KeyView) (w : Why) → OnReleased (cleared_job key w) p entered Q
  cleared_unreleased key (why.Withdrawn None) = tt
  cleared_unreleased key (why.Withdrawn (Some r)) = tt
  cleared_unreleased key why.Source = tt
  cleared_unreleased key (why.Retired version) = tt

  live_unreleased : (vips : List VipWord) (entries : List Entry) (m : Put) (a : Aim) → OnReleased (live_job vips entries m a) p entered Q
  live_unreleased vips entries m aim.Pending = tt
  live_unreleased vips entries m (aim.Held h) = tt
  live_unreleased vips entries m (aim.Move from planned) = tt

  waited_unreleased : (vips : List VipWord) (entries : List Entry) (w : Wait) → OnReleased (waited_job vips entries w) p entered Q
  waited_unreleased vips entries (wait.Judge m) = tt
  waited_unreleased vips entries (wait.Live m) = live_unreleased vips entries m m.aim
  waited_unreleased vips entries (wait.Retire key) = tt
  waited_unreleased vips entries (wait.Comes u Steady) = tt
  waited_unreleased vips entries (wait.Comes u Recording) = tt
  waited_unreleased vips entries (wait.Comes u Holding) = tt
  waited_unreleased vips entries (wait.Comes u Transit) = tt
  waited_unreleased vips entries (wait.Release vip version) = tt

  -- a wait begins, for packets that entered before it
  first_unreleased : (g : ℕ) (w : Wait) → entered < g → OnReleased (job.Pass g 0 w) p entered Q
  first_unreleased g (wait.Release vip version) b = λ c. at c
    where
      at : (p < 0) ⊎ (g < entered) → Q vip version
      at (inl h) = absurd (omega arith)
      at (inr h) = absurd (omega (arith, b))
  first_unreleased g w b = tt

  -- a pipe has passed
  next_unreleased : (g pipe : ℕ) (w : Wait) → (p ≡ pipe → g < entered) → OnReleased (job.Pass g pipe w) p entered Q
      → OnReleased (job.Pass g (pipe + 1) w) p entered Q
  next_unreleased g pipe (wait.Release vip version) n h = λ c. at c (cases_eq p pipe)
    where
      at : (p < pipe + 1) ⊎ (g < entered) → (p ≡ pipe) ⊎ (p ≢ pipe) → Q vip version
      at (inr b) c = h (inr b)
      at (inl b) (inl e) = h (inr (n e))
      at (inl b) (inr e) = h (inl (omega (arith, b, e)))
  next_unreleased g pipe w n h = tt

  -- all have
  last_unreleased : (g pipe pipes : ℕ) (w : Wait) → p < pipes → pipes ≤ pipe + 1 → (p ≡ pipe → g < entered)
      → OnReleased (job.Pass g pipe w) p entered Q
      → OnReleased (all_passed w) p entered Q
  last_unreleased g pipe pipes (wait.Release vip version) a b n h = at (cases_eq p pipe)
    where
      at : (p ≡ pipe) ⊎ (p ≢ pipe) → Q vip version
      at (inl e) = h (inr (n e))
      at (inr e) = h (inl (omega (arith, a, b, e)))
  last_unreleased g pipe pipes (wait.Judge m) a b n h = tt
  last_unreleased g pipe pipes (wait.Live m) a b n h = tt
  last_unreleased g pipe pipes (wait.Retire key) a b n h = tt
  last_unreleased g pipe pipes (wait.Comes u Steady) a b n h = tt
  last_unreleased g pipe pipes (wait.Comes u Recording) a b n h = tt
  last_unreleased g pipe pipes (wait.Comes u Holding) a b n h = tt
  last_unreleased g pipe pipes (wait.Comes u Transit) a b n h = tt

  drain_unreleased : (pipe count other more : ℕ) (w : Wait) → OnReleased (job.Drain pipe count w) p entered Q
      → OnReleased (job.Drain other more w) p entered Q
  drain_unreleased pipe count other more (wait.Release vip version) h = h
  drain_unreleased pipe count other more w h = tt

-- ---- the controller's step

-- what the steps answer on which a wait goes on: the next tick, or a note
abbrev IsAnswer : Core → Job → ℕ → Type 0
IsAnswer s (job.Draw (draw.Grace w)) x = x ≡ s.words name.Tick
IsAnswer s (job.Pass g pipe w) x = x ≡ s.words (name.Note pipe)
IsAnswer s j x = Unit {0}

module _ (s : Core) (i : Invariant s) (p : ℕ) (v : PipeView) (f : Flight) (leg : Leg) (r : slice_get s.pipes p ≡ Some v) (e : v.stage ≡ Fly f leg) where
  -- the packet's tick isn't the wait's
  apart : (g pipe : ℕ) (w : Wait) → s.controller.job ≡ job.Pass g pipe w → f.entered ≢ g
  apart g pipe w q h =
      let ours : 1 ≤ job_times f.entered s.controller.job =
      subst (λ j. 1 ≤ job_times f.entered j) (sym q) (subst (λ t. 1 ≤ same f.entered t) h (grind (arith, nat_tests))) in
      omega (arith, i.ticks.once f.entered, tick_of s.pipes p v f leg r e, ours, most f.entered (s.words name.Tick))
    where
      most : (t n : ℕ) → below t n ≤ 1
      most t n = at (nat_lt 0 t && nat_lt t n)
        where
          at : (b : Bool) → (if b then 1 else 0) ≤ 1
          at true = omega arith
          at false = omega arith

  -- a packet of a pipe that passes entered after the wait began
  passed : (g pipe : ℕ) (w : Wait) → s.controller.job ≡ job.Pass g pipe w → is_under_way g (s.words (name.Note pipe)) ≡ false → p ≡ pipe
      → g < f.entered
  passed g pipe w q n own = at (cases_lt f.entered g)
    where
      at : (f.entered < g) ⊎ (g ≤ f.entered) → g < f.entered
      at (inl b) = absurd (noted s i g pipe p v f leg r e n own b)
      at (inr b) = omega (arith, b, apart g pipe w q)

  -- of the packet's version, as it is said of a release
  abbrev HasNot : ℕ → ℕ → Type 0
  HasNot vip version = f.packet.key.vip ≡ vip → OnNumber leg (λ n. n ≢ version)

  goes_on : (x : ℕ) (j m : Job) → s.controller.job ≡ j → Goes s.config s.controller x j m → IsAnswer s j x → Unreleased j p f leg
      → Unreleased m p f leg
  goes_on x j m q (go.waits w) a h = first_unreleased HasNot p f.entered x w (subst (λ t. f.entered < t) (sym a) (entered_drawn s i.ticks p v f leg r e).1)
  goes_on x j m q (go.comes u y) a h = phase_unreleased HasNot p f.entered u y
  goes_on x j m q (go.cleared key place w) a h = cleared_unreleased HasNot p f.entered key w
  goes_on x j m q (go.phase_stored u y) a h = vip_unreleased HasNot p f.entered u y
  goes_on x j m q (go.pass_stays g pipe w t) a h = h
  goes_on x j m q (go.pass_next g pipe w t b) a h =
      next_unreleased HasNot p f.entered g pipe w (passed g pipe w q (ap (is_under_way g) (sym a) ∙ t)) h
  goes_on x j m q (go.pass_last g pipe w t b) a h =
      last_unreleased HasNot p f.entered g pipe s.config.layout.shape.pipes w (omega (arith, slice_get_within s.pipes p v r, i.shape.pipes.count)) over
      (passed g pipe w q (ap (is_under_way g) (sym a) ∙ t)) h
    where
      over : s.config.layout.shape.pipes ≤ pipe + 1
      over = grind (arith, nat_tests)
  goes_on x j m q (go.drain_stays pipe count w t) a h = drain_unreleased HasNot p f.entered pipe count pipe (count + 1) w h
  goes_on x j m q (go.drain_next pipe count w t b) a h = drain_unreleased HasNot p f.entered pipe count (pipe + 1) 0 w h
  goes_on x j m q (go.drain_last pipe count w t b) a h =
      waited_unreleased HasNot p f.entered s.controller.vips (book_next s.config s.controller (job.Drain pipe count w) x).entries w
  goes_on x j m q g a h = tt

-- ---- every event

starts_unreleased : (k : Config) (c : ControllerView) (Q : ℕ → ℕ → Type 0) (p entered : ℕ) (t : Start) → Begins k c t → OnReleased t.job p entered Q
starts_unreleased k c Q p e t (begin.releases vip version g) = tt
starts_unreleased k c Q p e t g = tt

begins_kept : (s : Core) → Invariant s → ReleasesPassed s → ReleasesPassed (begun_core s)
begins_kept s i h =
    begun_by s.config s.controller (λ c. EachPipe (λ p v. OnLeg v.stage (Unreleased c.job p)) s.pipes) h
    (λ q t g p v r.
    leg_then v.stage (Unreleased s.controller.job p) (Unreleased t.job p)
    (λ f leg e k. starts_unreleased s.config s.controller (λ vip version. f.packet.key.vip ≡ vip → OnNumber leg (λ n. n ≢ version)) p f.entered t g) (h p v r))

pub releases_put : (s : Core) (p : Put) → ReleasesPassed s → ReleasesPassed (put_core s p)
releases_put s p h n v r =
    leg_then v.stage (Unreleased s.controller.job n) (Unreleased (job.Draw (draw.Reserved p)) n) (λ f leg e k. tt) (h n v r)

job_kept : (s : Core) (j : Job) (o : Option Op) → s.controller.job ≡ j → Invariant s → ReleasesPassed s
    → OnOp o (λ o. IsAnswer s j (op_answer o (s.words (op_name o))))
    → AfterJob ReleasesPassed s j o
job_kept s j None q i h a = tt
job_kept s j (Some o) q i h a = λ p v r.
    let x = op_answer o (s.words (op_name o)) in
    leg_then v.stage (Unreleased s.controller.job p) (Unreleased (job_next s.config s.controller j x) p)
    (λ f leg e k.
    goes_on s i p v f leg r e x j (job_next s.config s.controller j x) q (goes s.config s.controller x j) a (subst (λ m. Unreleased m p f leg) q k))
    (h p v r)

answered : (s : Core) (j : Job) → OnOp (job_op s.config s.controller j) (λ o. IsAnswer s j (op_answer o (s.words (op_name o))))
answered s job.Free = tt
answered s (job.Draw (draw.Grace w)) = refl
answered s (job.Pass g pipe w) = refl
answered s j = tt

pub releases_keep : Keeps IsPacket Invariant ReleasesPassed
releases_keep = record {
  stages = λ s p v at q e i h.
      stage_kept s p v at (pipe_op s.config.layout v at) q h
      (numbers_step s i p v q (λ f n. OnReleased s.controller.job p f.entered (λ vip version. f.packet.key.vip ≡ vip → n ≢ version))
      (λ f n g. known_released (λ vip version. f.packet.key.vip ≡ vip → n ≢ version) s.controller.job p f.entered g.kept) at e
      (leg_then at (Unreleased s.controller.job p)
      (λ f leg. OnNumber leg (λ n. OnReleased s.controller.job p f.entered (λ vip version. f.packet.key.vip ≡ vip → n ≢ version)))
      (λ f leg t k. released_in s.controller.job p f leg k) (subst (λ z. OnLeg z (Unreleased s.controller.job p)) e (h p v q))));
  begins = begins_kept;
  jobs = λ s j q b i h. job_kept s j (job_op s.config s.controller j) q i h (answered s j);
  enters = λ s p v packet q r u n a i h.
      each_set s.pipes p v (record v { stage = stage.Enter packet }) q (λ n u. OnLeg u.stage (Unreleased s.controller.job n)) h tt;
  clocks = λ s ms q i h. h;
  refusals = λ s q i h. h;
}

pub releases_part : (s : Core) → Invariant s → ReleasesPassed s
releases_part s i p v q =
    leg_then v.stage (LegHolds s.config (bit_words s.words) s.controller.named s.controller.numbers s.controller.rings s.controller.job p v.pushed)
    (Unreleased s.controller.job p) (λ f leg e h. h.release) (i.flight.legs p v q)

pub releases_open : OpensWith ReleasesPassed
unfolding opening_pipes
releases_open k f p v e =
    subst (λ u. OnLeg u.stage (Unreleased (opening k).controller.job p)) (sym (ranged_at fresh_pipe 0 k.layout.shape.pipes p v e)) tt
