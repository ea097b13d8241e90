-- A packet in flight has loaded the present word of its virtual address, or the one before a phase that is waited with.
use Rattle.std.proofs.Common.{◌≡◌, ℕ, zero, suc, ◌+◌, ◌<◌, ◌≤◌, Bool, true, false, ◌&&◌, ◌≢◌, List, [], ◌∷◌, if◌then◌else◌, nat_lt, ◌==◌, slice_get, slice_set, Some, None, sum_by, Option, sym, refl, ap, ◌∙◌, subst, inl, inr, true≢false, arith, get_or-set_other}
use Rattle.std.proofs.lemmas.Bool.Decides.{nat_tests}
use Rattle.std.proofs.lemmas.List.Sums.{sum_by-cons}
use Rattle.std.proofs.lemmas.Option.{slice_get_within, same_Some}
use Rattle.sr_base.specs.Layout.{LayoutView}
use Rattle.sr_base.specs.declared.vip_word.Phase.{Phase}
use Rattle.sr_base.specs.declared.vip_word.Phase.TheVariants.{Steady, Recording, Holding, Transit}
use Rattle.sr_base.specs.declared.vip_word.VipWord.{VipWord}
use Rattle.sr_inv_facts.proofs.Beginning.{begun_by}
use Rattle.sr_inv_facts.proofs.Lists.{got_or, ranged_at}
use Rattle.sr_inv_facts.proofs.Pipes.{each_set}
use Rattle.sr_inv_facts.specs.Doing.{HasEarlier, IsEarlier, word_before}
use Rattle.sr_inv_facts.specs.Fitted.{IsPacket}
use Rattle.sr_inv_facts.specs.Flying.{OnFlight}
use Rattle.sr_inv_facts.specs.InFlight.{FlightHolds, HasWord, WordsLoaded}
use Rattle.sr_inv_facts.specs.InShape.{WordFits}
use Rattle.sr_inv_facts.specs.InTicks.{InTicks, below, pipe_times, stage_times}
use Rattle.sr_inv_facts.specs.InUpdate.{JobAt}
use Rattle.sr_inv_facts.specs.InWords.{note_of}
use Rattle.sr_inv_facts.specs.Invariant.{Invariant}
use Rattle.sr_inv_facts.specs.Laws.{OpensWith}
use Rattle.sr_inv_facts.specs.Readings.{EachPipe}
use Rattle.sr_law.specs.declared.verdict.Verdict.{Verdict}
use Rattle.sr_machine.proofs.Following.{goes}
use Rattle.sr_machine.proofs.Written.{vip_read}
use Rattle.sr_machine.specs.Config.{Config}
use Rattle.sr_machine.specs.Core.{opening, Core, printed}
use Rattle.sr_machine.specs.Deciding.{vip_at}
use Rattle.sr_machine.specs.Draws.{phase_job}
use Rattle.sr_machine.specs.Goes.{Goes}
use Rattle.sr_machine.specs.Jobs.{job_next, job_op, vips_next}
use Rattle.sr_machine.specs.Keeping.{AfterJob, AfterStage, Keeps, begun_core}
use Rattle.sr_machine.specs.Opening.{opening_pipes}
use Rattle.sr_machine.specs.Ops.{op_answer, op_name}
use Rattle.sr_machine.specs.Pipe.{fresh_pipe, pipe_after, pipe_op}
use Rattle.sr_machine.specs.Reads.{read_vip, steady}
use Rattle.sr_machine.specs.Stages.{last_after, leg_after, stage_after}
use Rattle.sr_machine.specs.Stores.{phase_word, vip_draw}
use Rattle.sr_machine.specs.Waiting.{all_passed, is_under_way}
use Rattle.sr_machine.specs.declared.flight.Flight.{Flight}
use Rattle.sr_machine.specs.declared.job.Job.{Job}
use Rattle.sr_machine.specs.declared.leg.Last.{Last}
use Rattle.sr_machine.specs.declared.leg.Leg.{Leg}
use Rattle.sr_machine.specs.declared.leg.Leg.TheVariants.{Look, Hit, Filter, Chosen, Judged}
use Rattle.sr_machine.specs.declared.op.Op.{Op}
use Rattle.sr_machine.specs.declared.pipe_view.PipeView.{PipeView}
use Rattle.sr_machine.specs.declared.pool_update.PoolUpdate.{PoolUpdate}
use Rattle.sr_machine.specs.declared.stage.Stage.{Stage}
use Rattle.sr_machine.specs.declared.stage.Stage.TheVariants.{Idle, Enter, Note, Vip, Fly, Leave}
use Rattle.sr_machine.specs.declared.wait.Wait.{Wait}
use Rattle.sr_inv_facts.specs.Putting.{put_core}
use Rattle.sr_machine.specs.declared.put.Put.{Put}
use Rattle.sr_machine.specs.Goes as go
use Rattle.sr_machine.specs.declared.stage.Stage.TheVariants as stage
use Rattle.sr_machine.specs.declared.draw.Draw.TheVariants as draw
use Rattle.sr_machine.specs.declared.store.Store.TheVariants as store
use Rattle.sr_machine.specs.declared.wait.Wait.TheVariants as wait
use Rattle.sr_machine.specs.declared.job.Job.TheVariants as job
use Rattle.sr_machine.specs.declared.leg.Last.TheVariants as last
use Rattle.sr_machine.specs.declared.name.Name.TheVariants as name
use Rattle.sr_machine.specs.declared.op.Op.TheVariants as op

-- ---- ticks of packets in flight

-- a packet in flight entered before the next tick, and not at 0
pub tick_of : (pipes : List PipeView) (p : ℕ) (v : PipeView) (f : Flight) (leg : Leg) → slice_get pipes p ≡ Some v → v.stage ≡ Fly f leg
    → 1 ≤ sum_by (pipe_times f.entered) pipes
tick_of [] p v f leg q e = cc
tick_of (u ∷ rest) zero v f leg q e =
    let one : 1 ≤ stage_times f.entered u.stage = subst (λ z. 1 ≤ stage_times f.entered z) (sym (ap (λ z. z.stage) (same_Some u v q) ∙ e)) (grind (arith, nat_tests)) in
    omega (arith, one, sum_by-cons (pipe_times f.entered) u rest)
tick_of (u ∷ rest) (suc p) v f leg q e = omega (arith, tick_of rest p v f leg q e, sum_by-cons (pipe_times f.entered) u rest)

below_parts : (t next : ℕ) → 1 ≤ below t next → (0 < t) × (t < next)
below_parts t next h = at (nat_lt 0 t) (nat_lt t next) refl refl h
  where
    at : (a b : Bool) → nat_lt 0 t ≡ a → nat_lt t next ≡ b → 1 ≤ (if a && b then 1 else 0) → (0 < t) × (t < next)
    at true true p q g = (grind (arith, nat_tests), grind (arith, nat_tests))
    at true false p q g = absurd (omega arith)
    at false b p q g = absurd (omega arith)

pub entered_drawn : (s : Core) → InTicks s → (p : ℕ) (v : PipeView) (f : Flight) (leg : Leg) → slice_get s.pipes p ≡ Some v → v.stage ≡ Fly f leg
    → (0 < f.entered) × (f.entered < s.words name.Tick)
entered_drawn s t p v f leg q e =
    below_parts f.entered (s.words name.Tick) (omega (arith, t.once f.entered, tick_of s.pipes p v f leg q e))

-- ---- a pipe's step

pub vip_loaded : (s : Core) (i : Invariant s) (vip : ℕ) → read_vip s.config.layout (s.words (name.Vip vip)) ≡ vip_at s.controller.vips vip
vip_loaded s i vip =
    let l = s.config.layout in
    let w = vip_at s.controller.vips vip in
    let y = i.shape.config.layout in
    let f : WordFits l w = got_or (WordFits l) s.controller.vips vip (steady 0) i.shape.controller.words (record { cur = omega (arith, y.versions.0); next = omega (arith, y.versions.0); fits = refl }) in
    ap (read_vip l) (i.words.others.vip vip)
    ∙ vip_read l w (record { cur = omega (arith, f.cur, y.versions.1); next = omega (arith, f.next, y.versions.1); fits = f.fits }) f.cur f.next

-- a step keeps the packet
last_keeps : (l : LayoutView) (f : Flight) (v : Verdict) (next : Last) (x : ℕ) (P : Flight → Type 0) → P f → OnFlight (last_after l f v next x) P
last_keeps l f v last.Ring x P h = h
last_keeps l f v (last.Mark bit rest) x P h = h
last_keeps l f v last.Push x P h = h
last_keeps l f v last.Out x P h = tt

pub leg_keeps : (l : LayoutView) (f : Flight) (leg : Leg) (x : ℕ) (P : Flight → Type 0) → P f → OnFlight (leg_after l f leg x) P
leg_keeps l f (Look place rest) x P h = h
leg_keeps l f (Hit place n) x P h = h
leg_keeps l f (Filter bit rest) x P h = h
leg_keeps l f (Chosen n next) x P h = h
leg_keeps l f (Judged v next) x P h = last_keeps l f v next x P h

word_after : (s : Core) (i : Invariant s) (p : ℕ) (v : PipeView) (at : Stage) → slice_get s.pipes p ≡ Some v → v.stage ≡ at
    → OnFlight at (HasWord s.controller.vips s.controller.job p)
    → (o : Option Op) → pipe_op s.config.layout v at ≡ o
    → AfterStage WordsLoaded s p v at o
word_after s i p v at q e h None g = tt
word_after s i p v at q e h (Some o) g =
    let l = s.config.layout in
    let x = op_answer o (s.words (op_name o)) in
    let P : ℕ → PipeView → Type 0 = λ n u. OnFlight u.stage (HasWord s.controller.vips s.controller.job n) in
    each_set s.pipes p v (pipe_after l v at x) q P (λ n u r. flight_part n u u.stage (i.flight.flights n u r)) (own at g h)
  where
    flight_part : (n : ℕ) (u : PipeView) (at : Stage) → OnFlight at (FlightHolds s.controller.vips s.controller.job (printed s) n) → OnFlight at (HasWord s.controller.vips s.controller.job n)
    flight_part n u (Fly f leg) t = t.word
    flight_part n u at t = tt

    own : (at : Stage) → pipe_op s.config.layout v at ≡ Some o → OnFlight at (HasWord s.controller.vips s.controller.job p)
        → OnFlight (stage_after s.config.layout at (op_answer o (s.words (op_name o)))) (HasWord s.controller.vips s.controller.job p)
    own Idle g h = tt
    own (Enter packet) g h = tt
    own (Note packet entered) g h = tt
    own (Vip packet entered) g h =
        let same : op.Loads (name.Vip packet.key.vip) ≡ o = same_Some (op.Loads (name.Vip packet.key.vip)) o g in
        inl (ap (λ z. read_vip s.config.layout (op_answer z (s.words (op_name z)))) (sym same) ∙ vip_loaded s i packet.key.vip)
    own (Fly f leg) g h = leg_keeps s.config.layout f leg (op_answer o (s.words (op_name o))) (HasWord s.controller.vips s.controller.job p) h
    own (Leave f) g h = tt

-- ---- which words are waited with

-- no phase is waited with
abbrev NoneEarlier : Job → Type 0
NoneEarlier (job.Draw (draw.Grace (wait.Comes u q))) = ⊥
NoneEarlier (job.Draw (draw.Comes u Steady)) = ⊥
NoneEarlier (job.Draw (draw.Comes u Transit)) = ⊥
NoneEarlier (job.Pass grace pipe (wait.Comes u q)) = ⊥
NoneEarlier j = Unit {0}

none_earlier : (j : Job) → NoneEarlier j → (p entered vip : ℕ) (w : VipWord) → HasEarlier j p entered vip w → ⊥
none_earlier (job.Draw (draw.Grace (wait.Comes u q))) n p e v w h = absurd n
none_earlier (job.Draw (draw.Comes u Steady)) n p e v w h = absurd n
none_earlier (job.Draw (draw.Comes u Transit)) n p e v w h = absurd n
none_earlier (job.Pass grace pipe (wait.Comes u q)) n p e v w h = absurd n
none_earlier j n p e v w h = h

-- the present word stays the present one
stays : (vips : List VipWord) (j m : Job) → NoneEarlier j → (p : ℕ) (f : Flight) → HasWord vips j p f → HasWord vips m p f
stays vips j m n p f (inl h) = inl h
stays vips j m n p f (inr h) = absurd (none_earlier j n p f.entered f.packet.key.vip f.vip h)

earlier_then : (vips : List VipWord) (j m : Job) (p : ℕ) (f : Flight)
    → (HasEarlier j p f.entered f.packet.key.vip f.vip → HasEarlier m p f.entered f.packet.key.vip f.vip)
    → HasWord vips j p f → HasWord vips m p f
earlier_then vips j m p f t (inl h) = inl h
earlier_then vips j m p f t (inr h) = inr (t h)

-- ---- a phase is stored

abbrev BeforeIs : Config → Option PoolUpdate → List VipWord → PoolUpdate → Phase → Type 0
BeforeIs k update vips u q = vip_at vips u.vip ≡ word_before u q

before_is : (k : Config) (update : Option PoolUpdate) (vips : List VipWord) (u : PoolUpdate) (q : Phase)
    → JobAt k update vips (job.Store (store.Vip u q))
    → vip_at vips u.vip ≡ word_before u q
before_is k update vips u Steady h = h.1
before_is k update vips u Recording h = h.1
before_is k update vips u Holding h = h.1
before_is k update vips u Transit h = h.1

earlier_drawn : (u : PoolUpdate) (q : Phase) (p entered vip : ℕ) (w : VipWord) → IsEarlier u q vip w
    → HasEarlier (job.Draw (vip_draw u q)) p entered vip w
earlier_drawn u Steady p e v w h = h
earlier_drawn u Recording p e v w h = h
earlier_drawn u Holding p e v w h = h
earlier_drawn u Transit p e v w h = h

stored : (k : Config) (update : Option PoolUpdate) (vips : List VipWord) (u : PoolUpdate) (q : Phase) (p : ℕ) (f : Flight)
    → JobAt k update vips (job.Store (store.Vip u q))
    → HasWord vips (job.Store (store.Vip u q)) p f
    → HasWord (slice_set vips u.vip (phase_word u q)) (job.Draw (vip_draw u q)) p f
stored k update vips u q p f a (inr h) = absurd h
stored k update vips u q p f a (inl h) = at (f.packet.key.vip == u.vip) refl
  where
    at : (b : Bool) → (f.packet.key.vip == u.vip) ≡ b → HasWord (slice_set vips u.vip (phase_word u q)) (job.Draw (vip_draw u q)) p f
    at true t =
        let e : f.packet.key.vip ≡ u.vip = grind (arith, nat_tests) in
        inr (earlier_drawn u q p f.entered f.packet.key.vip f.vip (e, h ∙ (ap (vip_at vips) e ∙ before_is k update vips u q a)))
    at false t =
        let e : f.packet.key.vip ≢ u.vip = grind (arith, nat_tests) in
        inl (h ∙ sym (get_or-set_other vips u.vip f.packet.key.vip (phase_word u q) (steady 0) e))

-- ---- a wait

phase_drawn : (u : PoolUpdate) (q : Phase) (p entered vip : ℕ) (w : VipWord) → HasEarlier (job.Draw (draw.Comes u q)) p entered vip w
    → HasEarlier (phase_job u q) p entered vip w
phase_drawn u Steady p e v w h = h
phase_drawn u Recording p e v w h = absurd h
phase_drawn u Holding p e v w h = absurd h
phase_drawn u Transit p e v w h = h

grace_drawn : (wt : Wait) (x p entered vip : ℕ) (w : VipWord) → entered < x → HasEarlier (job.Draw (draw.Grace wt)) p entered vip w
    → HasEarlier (job.Pass x 0 wt) p entered vip w
grace_drawn (wait.Comes u q) x p e v w b h = (h, (omega arith, b))
grace_drawn (wait.Judge y) x p e v w b h = absurd h
grace_drawn (wait.Live y) x p e v w b h = absurd h
grace_drawn (wait.Retire y) x p e v w b h = absurd h
grace_drawn (wait.Release y z) x p e v w b h = absurd h

-- the packet of a pipe that has passed isn't one from before the wait
passes : (grace pipe : ℕ) (wt : Wait) (p entered vip : ℕ) (w : VipWord) → (p ≡ pipe → entered < grace → ⊥)
    → HasEarlier (job.Pass grace pipe wt) p entered vip w
    → HasEarlier (job.Pass grace (pipe + 1) wt) p entered vip w
passes grace pipe (wait.Comes u q) p e v w n h = (h.0, (at (p == pipe) refl, h.1.1))
  where
    at : (b : Bool) → (p == pipe) ≡ b → pipe + 1 ≤ p
    at true t = absurd (n (grind (arith, nat_tests)) h.1.1)
    at false t = let o : p ≢ pipe = grind (arith, nat_tests) in omega (arith, h.1.0, o)
passes grace pipe (wait.Judge y) p e v w n h = absurd h
passes grace pipe (wait.Live y) p e v w n h = absurd h
passes grace pipe (wait.Retire y) p e v w n h = absurd h
passes grace pipe (wait.Release y z) p e v w n h = absurd h

all_pass : (pipes grace pipe : ℕ) (wt : Wait) (p entered vip : ℕ) (w : VipWord) → p < pipes → pipes ≤ pipe + 1 → (p ≡ pipe → entered < grace → ⊥)
    → HasEarlier (job.Pass grace pipe wt) p entered vip w → ⊥
all_pass pipes grace pipe (wait.Comes u q) p e v w b m n h =
    let same : p ≡ pipe = omega (arith, h.1.0) in n same h.1.1
all_pass pipes grace pipe (wait.Judge y) p e v w b m n h = h
all_pass pipes grace pipe (wait.Live y) p e v w b m n h = h
all_pass pipes grace pipe (wait.Retire y) p e v w b m n h = h
all_pass pipes grace pipe (wait.Release y z) p e v w b m n h = h

not_way : (g x entered : ℕ) → is_under_way g x ≡ false → x ≡ entered → 0 < entered → entered < g → ⊥
not_way g x e t q a b =
    let yes_way : is_under_way g x ≡ true = grind (arith, nat_tests) in true≢false (sym yes_way ∙ t)

-- ---- the controller's step

pub flight_then : (at : Stage) (P Q : Flight → Type 0) → ((f : Flight) (leg : Leg) → at ≡ Fly f leg → P f → Q f) → OnFlight at P → OnFlight at Q
flight_then (Fly f leg) P Q t h = t f leg refl h
flight_then Idle P Q t h = tt
flight_then (Enter packet) P Q t h = tt
flight_then (Note packet e) P Q t h = tt
flight_then (Vip packet e) P Q t h = tt
flight_then (Leave f) P Q t h = tt

pub words_part : (s : Core) → Invariant s → WordsLoaded s
words_part s i p v q =
    flight_then v.stage (FlightHolds s.controller.vips s.controller.job (printed s) p) (HasWord s.controller.vips s.controller.job p) (λ f leg e h. h.word) (i.flight.flights p v q)

module _ (s : Core) (i : Invariant s) where
  -- what holds of each packet's word under the one job holds under the next
  each_word : (j m : Job) (vips : List VipWord) → s.controller.job ≡ j
      → ((p : ℕ) (v : PipeView) (f : Flight) (leg : Leg) → slice_get s.pipes p ≡ Some v → v.stage ≡ Fly f leg → HasWord s.controller.vips j p f → HasWord vips m p f)
      → EachPipe (λ p v. OnFlight v.stage (HasWord vips m p)) s.pipes
  each_word j m vips q t p v r =
      flight_then v.stage (HasWord s.controller.vips j p) (HasWord vips m p) (λ f leg e h. t p v f leg r e h) (subst (λ z. OnFlight v.stage (HasWord s.controller.vips z p)) q (words_part s i p v r))

  after_op : (j : Job) (o : Option Op) → ((x : ℕ) → EachPipe (λ p v. OnFlight v.stage (HasWord (vips_next s.controller j) (job_next s.config s.controller j x) p)) s.pipes)
      → AfterJob WordsLoaded s j o
  after_op j None h = tt
  after_op j (Some o) h = h (op_answer o (s.words (op_name o)))

  -- the packet of this pipe isn't one from before the wait, by the pipe's note
  pub noted : (grace pipe p : ℕ) (v : PipeView) (f : Flight) (leg : Leg) → slice_get s.pipes p ≡ Some v → v.stage ≡ Fly f leg
      → is_under_way grace (s.words (name.Note pipe)) ≡ false
      → p ≡ pipe → f.entered < grace → ⊥
  noted grace pipe p v f leg r e t same b =
      let note : s.words (name.Note pipe) ≡ f.entered = ap (λ n. s.words (name.Note n)) (sym same) ∙ (i.words.note p v r ∙ ap note_of e) in
      not_way grace (s.words (name.Note pipe)) f.entered t note (entered_drawn s i.ticks p v f leg r e).0 b

  pass_words : (g pipe : ℕ) (wt : Wait) (m : Job) → s.controller.job ≡ job.Pass g pipe wt → Goes s.config s.controller (s.words (name.Note pipe)) (job.Pass g pipe wt) m
      → EachPipe (λ p v. OnFlight v.stage (HasWord s.controller.vips m p)) s.pipes
  pass_words g pipe wt m q (go.pass_stays h n w e) = each_word (job.Pass g pipe wt) (job.Pass g pipe wt) s.controller.vips q (λ p v f leg r t a. a)
  pass_words g pipe wt m q (go.pass_next h n w e t) =
      each_word (job.Pass g pipe wt) (job.Pass g (pipe + 1) wt) s.controller.vips q (λ p v f leg r d a. earlier_then s.controller.vips (job.Pass g pipe wt) (job.Pass g (pipe + 1) wt) p f (passes g pipe wt p f.entered f.packet.key.vip f.vip (noted g pipe p v f leg r d e)) a)
  pass_words g pipe wt m q (go.pass_last h n w e t) =
      each_word (job.Pass g pipe wt) (all_passed wt) s.controller.vips q (λ p v f leg r d a. earlier_then s.controller.vips (job.Pass g pipe wt) (all_passed wt) p f (λ z. absurd (all_pass s.config.layout.shape.pipes g pipe wt p f.entered f.packet.key.vip f.vip (omega (arith, slice_get_within s.pipes p v r, i.shape.pipes.count)) over (noted g pipe p v f leg r d e) z)) a)
    where
      over : s.config.layout.shape.pipes ≤ pipe + 1
      over = grind (arith, nat_tests)

  job_words : (j : Job) → s.controller.job ≡ j → AfterJob WordsLoaded s j (job_op s.config s.controller j)
  job_words (job.Draw (draw.Grace wt)) q =
      each_word (job.Draw (draw.Grace wt)) (job.Pass (s.words name.Tick) 0 wt) s.controller.vips q (λ p v f leg r d a. earlier_then s.controller.vips (job.Draw (draw.Grace wt)) (job.Pass (s.words name.Tick) 0 wt) p f (grace_drawn wt (s.words name.Tick) p f.entered f.packet.key.vip f.vip (entered_drawn s i.ticks p v f leg r d).1) a)
  job_words (job.Draw (draw.Comes u y)) q =
      each_word (job.Draw (draw.Comes u y)) (phase_job u y) s.controller.vips q (λ p v f leg r d a. earlier_then s.controller.vips (job.Draw (draw.Comes u y)) (phase_job u y) p f (phase_drawn u y p f.entered f.packet.key.vip f.vip) a)
  job_words (job.Pass g pipe wt) q =
      pass_words g pipe wt (job_next s.config s.controller (job.Pass g pipe wt) (s.words (name.Note pipe))) q (goes s.config s.controller (s.words (name.Note pipe)) (job.Pass g pipe wt))
  job_words (job.Store (store.Vip u y)) q =
      each_word (job.Store (store.Vip u y)) (job.Draw (vip_draw u y)) (slice_set s.controller.vips u.vip (phase_word u y)) q (λ p v f leg r d a. stored s.config s.controller.update s.controller.vips u y p f (subst (JobAt s.config s.controller.update s.controller.vips) q i.update.update.phase) a)
  job_words j q =
      after_op j (job_op s.config s.controller j) (λ x. each_word j (job_next s.config s.controller j x) s.controller.vips q (λ p v f leg r d a. stays s.controller.vips j (job_next s.config s.controller j x) tt p f a))

begins_kept : (s : Core) → Invariant s → WordsLoaded s → WordsLoaded (begun_core s)
begins_kept s i h =
    begun_by s.config s.controller (λ c. EachPipe (λ p v. OnFlight v.stage (HasWord c.vips c.job p)) s.pipes) h (λ q t g. each_word s i job.Free t.job s.controller.vips q (λ p v f leg r d a. stays s.controller.vips job.Free t.job tt p f a))

pub words_put : (s : Core) (p : Put) → s.controller.job ≡ job.Free → Invariant s → WordsLoaded (put_core s p)
words_put s p free i =
    each_word s i job.Free (job.Draw (draw.Reserved p)) s.controller.vips free
    (λ n v f leg r d a. stays s.controller.vips job.Free (job.Draw (draw.Reserved p)) tt n f a)

pub words_keep : Keeps IsPacket Invariant WordsLoaded
words_keep = record {
  stages = λ s p v at q e i h.
      word_after s i p v at q e (subst (λ z. OnFlight z (HasWord s.controller.vips s.controller.job p)) e (h p v q)) (pipe_op s.config.layout v at) refl;
  begins = begins_kept;
  jobs = λ s j q b i h. job_words s i j q;
  enters = λ s p v packet q r u n a i h.
      each_set s.pipes p v (record v { stage = stage.Enter packet }) q (λ n u. OnFlight u.stage (HasWord s.controller.vips s.controller.job n)) h tt;
  clocks = λ s ms q i h. h;
  refusals = λ s q i h. h;
}

pub words_open : OpensWith WordsLoaded
unfolding opening_pipes
words_open k f p v e =
    subst (λ u. OnFlight u.stage (HasWord (opening k).controller.vips (opening k).controller.job p)) (sym (ranged_at fresh_pipe 0 k.layout.shape.pipes p v e)) tt
