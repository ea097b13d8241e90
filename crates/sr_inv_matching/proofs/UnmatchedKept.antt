-- Every event keeps that an opener that nothing has matched is still to look at each place that speaks to its key.
use Rattle.std.proofs.Common.{◌≡◌, ℕ, ◌+◌, ◌<◌, ◌≤◌, Bool, true, false, ◌≢◌, ◌⊎◌, List, [], ◌∷◌, if◌then◌else◌, ◌==◌, slice_get, slice_set, Some, None, Option, sym, refl, subst, inl, inr, arith}
use Rattle.std.proofs.lemmas.Bool.Decides.{nat_tests}
use Rattle.std.proofs.lemmas.Option.{slice_get_within}
use Rattle.sr_base.proofs.Sameness.{same_place-true}
use Rattle.sr_base.specs.Layout.{LayoutView}
use Rattle.sr_base.specs.Place.{same_place}
use Rattle.sr_base.specs.declared.place.Place.{Place}
use Rattle.sr_hash.specs.Uses.{is_place_of}
use Rattle.sr_inv_facts.proofs.Beginning.{begun_by}
use Rattle.sr_inv_facts.proofs.Lists.{ranged_at}
use Rattle.sr_inv_facts.proofs.Pipes.{each_set}
use Rattle.sr_inv_facts.proofs.Ranges.{put_fits, version_below}
use Rattle.sr_inv_facts.specs.Doing.{MissedReserved}
use Rattle.sr_inv_facts.specs.Fitted.{IsPacket}
use Rattle.sr_inv_facts.specs.Flying.{OnLeg, OnMissing, OnUnmatched}
use Rattle.sr_inv_facts.specs.InJobs.{JobHolds, PutHolds, seen}
use Rattle.sr_inv_facts.specs.InMatching.{Unmatched, UnmatchedLook}
use Rattle.sr_inv_facts.specs.Invariant.{Invariant}
use Rattle.sr_inv_facts.specs.Laws.{OpensWith}
use Rattle.sr_inv_facts.specs.Readings.{EachPipe, In, Speaks, entry_words}
use Rattle.sr_machine.proofs.Following.{goes}
use Rattle.sr_machine.specs.Core.{Core, opening, printed}
use Rattle.sr_machine.specs.Deciding.{dead_reply, is_withdrawn, version_for}
use Rattle.sr_machine.specs.Goes.{Goes}
use Rattle.sr_machine.specs.Jobs.{job_next, job_op}
use Rattle.sr_machine.specs.Keeping.{AfterJob, AfterStage, Keeps, begun_core}
use Rattle.sr_machine.specs.Opening.{opening_pipes}
use Rattle.sr_machine.specs.Ops.{op_answer, op_name, op_words}
use Rattle.sr_machine.specs.Pipe.{fresh_pipe, pipe_after, pipe_op}
use Rattle.sr_machine.specs.Reads.{live_word, reserved_word, says}
use Rattle.sr_machine.specs.Stores.{judged_draw, judged_word}
use Rattle.sr_machine.specs.Waiting.{all_passed}
use Rattle.sr_machine.specs.declared.flight.Flight.{Flight}
use Rattle.sr_machine.specs.declared.job.Job.{Job}
use Rattle.sr_machine.specs.declared.leg.Leg.{Leg}
use Rattle.sr_machine.specs.declared.leg.Leg.TheVariants.{Look, Hit, Filter, Chosen, Judged}
use Rattle.sr_machine.specs.declared.op.Op.{Op}
use Rattle.sr_machine.specs.declared.pipe_view.PipeView.{PipeView}
use Rattle.sr_machine.specs.declared.put.Put.{Put}
use Rattle.sr_machine.specs.declared.stage.Stage.{Stage}
use Rattle.sr_machine.specs.declared.stage.Stage.TheVariants.{Idle, Enter, Note, Vip, Fly, Leave}
use Rattle.sr_machine.specs.declared.wait.Wait.{Wait}
use Rattle.sr_inv_matching.proofs.Saying.{empty_silent, live_speaks, reserved_is, reserved_speaks}
use Rattle.sr_inv_matching.proofs.Stepping.{entered_drawn, look_answers, noted, stage_entries}
use Rattle.sr_inv_matching.proofs.Unmatching.{opener_then, stage_unmet}
use Rattle.sr_inv_facts.specs.Putting.{put_core}
use Rattle.sr_machine.specs.Goes.{Goes as go}
use Rattle.sr_law.specs.declared.verdict.HeldBy.TheVariants as by
use Rattle.sr_law.specs.declared.verdict.Verdict.TheVariants as verdict
use Rattle.sr_machine.specs.declared.draw.Draw.TheVariants as draw
use Rattle.sr_machine.specs.declared.job.Job.TheVariants as job
use Rattle.sr_machine.specs.declared.name.Name.TheVariants as name
use Rattle.sr_machine.specs.declared.stage.Stage.TheVariants as stage
use Rattle.sr_machine.specs.declared.store.Store.TheVariants as store
use Rattle.sr_machine.specs.declared.wait.Wait.TheVariants as wait

-- ---- a pipe's step

abbrev Met : LayoutView → (Place → ℕ) → Job → ℕ → PipeView → Type 0
Met l w j p v = OnLeg v.stage (λ f leg. OnUnmatched f leg (Unmatched l w j p f))

stage_kept : (s : Core) (p : ℕ) (v : PipeView) (at : Stage) → slice_get s.pipes p ≡ Some v → v.stage ≡ at → UnmatchedLook s
    → (o : Option Op) → pipe_op s.config.layout v at ≡ o → AfterStage UnmatchedLook s p v at o
stage_kept s p v at q e h None g = tt
stage_kept s p v at q e h (Some o) g =
    let l = s.config.layout in
    let j = s.controller.job in
    let w = entry_words s.words in
    let x = op_answer o (s.words (op_name o)) in
    subst (λ z. EachPipe (Met l z j) (slice_set s.pipes p (pipe_after l v at x))) (sym (stage_entries s.words l v at o g))
    (each_set s.pipes p v (pipe_after l v at x) q (Met l w j) h
    (stage_unmet l w j p at x (λ f place rest same. look_answers s.words l v at o g f place rest same)
    (subst (λ z. OnLeg z (λ f leg. OnUnmatched f leg (Unmatched l w j p f))) e (h p v q))))

-- ---- the controller's step

pub leg_then : (at : Stage) (P Q : Flight → Leg → Type 0) → ((f : Flight) (leg : Leg) → at ≡ Fly f leg → P f leg → Q f leg) → OnLeg at P → OnLeg at Q
leg_then (Fly f leg) P Q t h = t f leg refl h
leg_then Idle P Q t h = tt
leg_then (Enter packet) P Q t h = tt
leg_then (Note packet e) P Q t h = tt
leg_then (Vip packet e) P Q t h = tt
leg_then (Leave f) P Q t h = tt

missing_then : (leg : Leg) (P Q : List Place → Type 0) → ((looks : List Place) → P looks → Q looks) → OnMissing leg P → OnMissing leg Q
missing_then (Look place rest) P Q t h = t (place ∷ rest) h
missing_then (Hit place n) P Q t h = tt
missing_then (Filter bit rest) P Q t h = t [] h
missing_then (Chosen n next) P Q t h = t [] h
missing_then (Judged (verdict.To server n pool) next) P Q t h = t [] h
missing_then (Judged (verdict.Held by.Clash) next) P Q t h = tt
missing_then (Judged (verdict.Held by.Hold) next) P Q t h = t [] h
missing_then (Judged (verdict.Held by.Transit) next) P Q t h = t [] h
missing_then (Judged (verdict.Down server n pool) next) P Q t h = t [] h
missing_then (Judged verdict.Full next) P Q t h = tt
missing_then (Judged verdict.NoPlace next) P Q t h = t [] h

-- jobs behind which no place was reserved
abbrev NoneReserved : Job → Type 0
NoneReserved (job.Draw (draw.Grace (wait.Judge q))) = ⊥
NoneReserved (job.Pass grace pipe (wait.Judge q)) = ⊥
NoneReserved j = Unit {0}

none_reserved : (j : Job) → NoneReserved j → (p entered : ℕ) (place : Place) → MissedReserved j p entered place → ⊥
none_reserved (job.Draw (draw.Grace (wait.Judge q))) n p e place h = absurd n
none_reserved (job.Pass grace pipe (wait.Judge q)) n p e place h = absurd n
none_reserved j n p e place h = h

grace_drawn : (wt : Wait) (x p entered : ℕ) (place : Place) → entered < x → MissedReserved (job.Draw (draw.Grace wt)) p entered place
    → MissedReserved (job.Pass x 0 wt) p entered place
grace_drawn (wait.Judge y) x p e place b h = (h, (omega arith, b))
grace_drawn (wait.Comes u q) x p e place b h = absurd h
grace_drawn (wait.Live y) x p e place b h = absurd h
grace_drawn (wait.Retire y) x p e place b h = absurd h
grace_drawn (wait.Release y z) x p e place b h = absurd h

passes : (grace pipe : ℕ) (wt : Wait) (p entered : ℕ) (place : Place) → (p ≡ pipe → entered < grace → ⊥)
    → MissedReserved (job.Pass grace pipe wt) p entered place → MissedReserved (job.Pass grace (pipe + 1) wt) p entered place
passes grace pipe (wait.Judge y) p e place n h = (h.0, (at (p == pipe) refl, h.1.1))
  where
    at : (b : Bool) → (p == pipe) ≡ b → pipe + 1 ≤ p
    at true t = absurd (n (grind (arith, nat_tests)) h.1.1)
    at false t = let o : p ≢ pipe = grind (arith, nat_tests) in omega (arith, h.1.0, o)
passes grace pipe (wait.Comes u q) p e place n h = absurd h
passes grace pipe (wait.Live y) p e place n h = absurd h
passes grace pipe (wait.Retire y) p e place n h = absurd h
passes grace pipe (wait.Release y z) p e place n h = absurd h

all_pass : (pipes grace pipe : ℕ) (wt : Wait) (p entered : ℕ) (place : Place) → p < pipes → pipes ≤ pipe + 1
    → (p ≡ pipe → entered < grace → ⊥) → MissedReserved (job.Pass grace pipe wt) p entered place → ⊥
all_pass pipes grace pipe (wait.Judge y) p e place b m n h = let same : p ≡ pipe = omega (arith, h.1.0) in n same h.1.1
all_pass pipes grace pipe (wait.Comes u q) p e place b m n h = h
all_pass pipes grace pipe (wait.Live y) p e place b m n h = h
all_pass pipes grace pipe (wait.Retire y) p e place b m n h = h
all_pass pipes grace pipe (wait.Release y z) p e place b m n h = h

-- the step writes no entry
abbrev pub LeavesEntries : Core → Option Op → Type 0
LeavesEntries s None = Unit {0}
LeavesEntries s (Some o) = entry_words (op_words s.words o) ≡ entry_words s.words

module _ (s : Core) (i : Invariant s) where
  abbrev l : LayoutView
  l = s.config.layout

  abbrev w : Place → ℕ
  w = entry_words s.words

  -- What speaks after the step spoke before it, where what a packet may have missed stays so; or the packet may have missed it.
  abbrev Turns : (Place → ℕ) → Job → Job → ℕ → Flight → Type 0
  Turns after j m p f =
      (place : Place) → is_place_of l.shape f.packet.key place ≡ true → Speaks (says l place f.packet.key (after place))
      → (Speaks (says l place f.packet.key (w place)) × (MissedReserved j p f.entered place → MissedReserved m p f.entered place))
      ⊎ MissedReserved m p f.entered place

  each_unmatched : (after : Place → ℕ) (j m : Job) → s.controller.job ≡ j
      → ((p : ℕ) (v : PipeView) (f : Flight) (leg : Leg) → slice_get s.pipes p ≡ Some v → v.stage ≡ Fly f leg → Turns after j m p f)
      → EachPipe (Met l after m) s.pipes
  each_unmatched after j m e turns p v q =
      leg_then v.stage (λ f leg. OnUnmatched f leg (Unmatched l w j p f)) (λ f leg. OnUnmatched f leg (Unmatched l after m p f))
      (λ f leg r h. opener_then f.packet.kind _ _ (λ o. missing_then leg (Unmatched l w j p f) (Unmatched l after m p f) (turned p f (turns p v f leg q r))) h)
      (subst (λ z. OnLeg v.stage (λ f leg. OnUnmatched f leg (Unmatched l w z p f))) e (i.matching.matching.unmatched p v q))
    where
      turned : (p : ℕ) (f : Flight) → Turns after j m p f → (looks : List Place) → Unmatched l w j p f looks → Unmatched l after m p f looks
      turned p f t looks h place own sp = by (t place own sp)
        where
          two : (MissedReserved j p f.entered place → MissedReserved m p f.entered place) → In place looks ⊎ MissedReserved j p f.entered place
              → In place looks ⊎ MissedReserved m p f.entered place
          two turn (inl n) = inl n
          two turn (inr n) = inr (turn n)

          by : (Speaks (says l place f.packet.key (w place)) × (MissedReserved j p f.entered place → MissedReserved m p f.entered place)) ⊎ MissedReserved m p f.entered place
              → In place looks ⊎ MissedReserved m p f.entered place
          by (inr n) = inr n
          by (inl (spoke, turn)) = two turn (h place own spoke)

  -- a step that writes no entry
  same_words : (j m : Job) → s.controller.job ≡ j
      → ((p : ℕ) (v : PipeView) (f : Flight) (leg : Leg) (place : Place) → slice_get s.pipes p ≡ Some v → v.stage ≡ Fly f leg
      → MissedReserved j p f.entered place → MissedReserved m p f.entered place)
      → EachPipe (Met l w m) s.pipes
  same_words j m e turn = each_unmatched w j m e (λ p v f leg q r place own sp. inl (sp, turn p v f leg place q r))

  frame : (j : Job) (o : Option Op) → s.controller.job ≡ j → NoneReserved j → LeavesEntries s o → AfterJob UnmatchedLook s j o
  frame j None e n same = tt
  frame j (Some o) e n same =
      let m = job_next s.config s.controller j (op_answer o (s.words (op_name o))) in
      subst (λ z. EachPipe (Met l z m) s.pipes) (sym same)
      (same_words j m e (λ p v f leg place q r h. absurd (none_reserved j n p f.entered place h)))

  pass_kept : (g pipe : ℕ) (wt : Wait) (m : Job) → s.controller.job ≡ job.Pass g pipe wt → Goes s.config s.controller (s.words (name.Note pipe)) (job.Pass g pipe wt) m
      → EachPipe (Met l w m) s.pipes
  pass_kept g pipe wt m q (go.pass_stays h n y e) = same_words (job.Pass g pipe wt) (job.Pass g pipe wt) q (λ p v f leg place r d h. h)
  pass_kept g pipe wt m q (go.pass_next h n y e t) =
      same_words (job.Pass g pipe wt) (job.Pass g (pipe + 1) wt) q (λ p v f leg place r d a. passes g pipe wt p f.entered place (noted s i g pipe p v f leg r d e) a)
  pass_kept g pipe wt m q (go.pass_last h n y e t) =
      same_words (job.Pass g pipe wt) (all_passed wt) q (λ p v f leg place r d a.
      absurd (all_pass l.shape.pipes g pipe wt p f.entered place (omega (arith, slice_get_within s.pipes p v r, i.shape.pipes.count)) over (noted s i g pipe p v f leg r d e) a))
    where
      over : l.shape.pipes ≤ pipe + 1
      over = grind (arith, nat_tests)

  -- a place is rewritten
  stored : (at : Place) (x : ℕ) (j m : Job) → s.controller.job ≡ j → NoneReserved j
      → ((p : ℕ) (f : Flight) → Speaks (says l at f.packet.key x) → Speaks (says l at f.packet.key (w at)) ⊎ MissedReserved m p f.entered at)
      → EachPipe (Met l (λ place. if same_place at place then x else w place) m) s.pipes
  stored at x j m e n turn =
      each_unmatched (λ place. if same_place at place then x else w place) j m e (λ p v f leg q r place own sp. by p f place (same_place at place) refl sp)
    where
      by : (p : ℕ) (f : Flight) (place : Place) (b : Bool) → same_place at place ≡ b → Speaks (says l place f.packet.key (if b then x else w place))
          → (Speaks (says l place f.packet.key (w place)) × (MissedReserved j p f.entered place → MissedReserved m p f.entered place)) ⊎ MissedReserved m p f.entered place
      by p f place false t sp = inl (sp, λ h. absurd (none_reserved j n p f.entered place h))
      by p f place true t sp =
          let here : at ≡ place = same_place-true at place t in
          subst (λ z. (Speaks (says l z f.packet.key (w z)) × (MissedReserved j p f.entered z → MissedReserved m p f.entered z)) ⊎ MissedReserved m p f.entered z) here
          (two (turn p f (subst (λ z. Speaks (says l z f.packet.key x)) (sym here) sp)))
        where
          two : Speaks (says l at f.packet.key (w at)) ⊎ MissedReserved m p f.entered at
              → (Speaks (says l at f.packet.key (w at)) × (MissedReserved j p f.entered at → MissedReserved m p f.entered at)) ⊎ MissedReserved m p f.entered at
          two (inl a) = inl (a, λ h. absurd (none_reserved j n p f.entered at h))
          two (inr a) = inr a

  judged : (q : Put) → s.controller.job ≡ job.Store (store.Judge q)
      → AfterJob UnmatchedLook s (job.Store (store.Judge q)) (job_op s.config s.controller (job.Store (store.Judge q)))
  judged q e = by (is_withdrawn s.config s.controller q)
    where
      put : PutHolds l.shape s.controller.book.entries s.controller.held q
      put = (subst (JobHolds s.config (seen s.controller) (printed s)) e i.jobs.holds.stands).0

      version : ℕ
      version = version_for s.controller.vips s.controller.book.entries q.key

      by : (b : Bool)
          → EachPipe (Met l (λ place. if same_place q.place place then judged_word b l q version else w place) (job.Draw (judged_draw b q (dead_reply s.config s.controller q.aim)))) s.pipes
      by true = stored q.place 0 (job.Store (store.Judge q)) (job.Draw (judged_draw true q (dead_reply s.config s.controller q.aim))) e tt (λ p f sp. absurd (empty_silent l q.place f.packet.key 0 refl sp))
      by false =
          let fits = put_fits s.config i.shape.config.layout s.controller i.shape.book i.shape.controller q put in
          stored q.place (live_word l q.place q.key version) (job.Store (store.Judge q)) (job.Draw (judged_draw false q (dead_reply s.config s.controller q.aim))) e tt (λ p f sp.
          let stands = live_speaks l i.shape.config.layout q.place q.key f.packet.key version fits.key.is_key (version_below s.config i.shape.config.layout s.controller i.shape.book i.shape.controller q.key) sp in
          inl (subst (λ x. Speaks (says l q.place f.packet.key x)) (sym (reserved_is s i q (job.Store (store.Judge q)) e put refl))
          (reserved_speaks l i.shape.config.layout q.place q.key f.packet.key fits.key.is_key stands)))

  job_kept : (j : Job) → s.controller.job ≡ j → AfterJob UnmatchedLook s j (job_op s.config s.controller j)
  job_kept job.Free q = tt
  job_kept (job.Draw (draw.Grace wt)) q =
      same_words (job.Draw (draw.Grace wt)) (job.Pass (s.words name.Tick) 0 wt) q (λ p v f leg place r d a.
      grace_drawn wt (s.words name.Tick) p f.entered place (entered_drawn s i.ticks p v f leg r d).1 a)
  job_kept (job.Pass g pipe wt) q =
      pass_kept g pipe wt (job_next s.config s.controller (job.Pass g pipe wt) (s.words (name.Note pipe))) q (goes s.config s.controller (s.words (name.Note pipe)) (job.Pass g pipe wt))
  job_kept (job.Store (store.Reserved y)) q =
      stored y.place (reserved_word l y.place y.key) (job.Store (store.Reserved y)) (job.Draw (draw.Grace (wait.Judge y))) q tt (λ p f sp. inr refl)
  job_kept (job.Store (store.Judge y)) q = judged y q
  job_kept (job.Store (store.Empty key at why)) q =
      stored at 0 (job.Store (store.Empty key at why)) (job.Draw (draw.Cleared key at why)) q tt (λ p f sp. absurd (empty_silent l at f.packet.key 0 refl sp))
  job_kept j q = frame j (job_op s.config s.controller j) q tt refl

  begins_kept : UnmatchedLook (begun_core s)
  begins_kept =
      begun_by s.config s.controller (λ c. EachPipe (Met l w c.job) s.pipes) i.matching.matching.unmatched (λ q t g.
      same_words job.Free t.job q (λ p v f leg place r d a. absurd a))

pub unmatched_put : (s : Core) (p : Put) → s.controller.job ≡ job.Free → Invariant s → UnmatchedLook (put_core s p)
unmatched_put s p free i = same_words s i job.Free (job.Draw (draw.Reserved p)) free (λ n v f leg place r d a. absurd a)

pub unmatched_keep : Keeps IsPacket Invariant UnmatchedLook
unmatched_keep = record {
  stages = λ s p v at q e i h. stage_kept s p v at q e h (pipe_op s.config.layout v at) refl;
  begins = λ s i h. begins_kept s i;
  jobs = λ s j q b i h. job_kept s i j q;
  enters = λ s p v packet q r u n a i h.
      each_set s.pipes p v (record v { stage = stage.Enter packet }) q (Met s.config.layout (entry_words s.words) s.controller.job) h tt;
  clocks = λ s ms q i h. h;
  refusals = λ s q i h. h;
}

pub unmatched_open : OpensWith UnmatchedLook
unfolding opening_pipes
unmatched_open k f p v e =
    subst (λ u. Met k.layout (entry_words (opening k).words) (opening k).controller.job p u) (sym (ranged_at fresh_pipe 0 k.layout.shape.pipes p v e)) tt
