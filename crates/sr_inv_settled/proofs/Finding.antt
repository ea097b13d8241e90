-- Every event keeps that a packet that has found an entry found one that its key is taken for: whoever stands at the place later came there behind a wait that
-- let the packet pass.
use Rattle.std.proofs.Common.{◌≡◌, ℕ, ◌+◌, ◌<◌, ◌≤◌, ◌≢◌, ◌⊎◌, inl, inr, ◌||◌, ◌==◌, Bool, true, false, List, [], ◌∷◌, if◌then◌else◌, slice_get, Some, None, Option, sym, refl, ap, ◌∙◌, subst, true≢false, arith}
use Rattle.std.proofs.lemmas.Bool.{and_parts}
use Rattle.std.proofs.lemmas.Bool.Decides.{nat_tests}
use Rattle.std.proofs.lemmas.Option.{same_Some, slice_get_within}
use Rattle.sr_base.proofs.Sameness.{same_key-self, same_key-sym}
use Rattle.sr_base.specs.Key.{KeyView, same_key}
use Rattle.sr_base.specs.Layout.{LayoutView}
use Rattle.sr_base.specs.declared.place.Place.{Place}
use Rattle.sr_base.specs.declared.place.Place.TheVariants.{Row, Slot}
use Rattle.sr_base.specs.declared.shape.Shape.{Shape}
use Rattle.sr_base.specs.declared.vip_word.Phase.{Phase}
use Rattle.sr_base.specs.declared.vip_word.Phase.TheVariants.{Steady, Recording, Holding, Transit}
use Rattle.sr_base.specs.declared.vip_word.VipWord.{VipWord}
use Rattle.sr_hash.specs.Clash.{clashes}
use Rattle.sr_hash.specs.Uses.{is_place_of}
use Rattle.sr_inv_facts.proofs.Beginning.{begun_by}
use Rattle.sr_inv_facts.proofs.Lists.{all_in, in_end, ranged_at}
use Rattle.sr_inv_facts.proofs.Pipes.{each_set, each_then}
use Rattle.sr_inv_facts.proofs.Ranges.{put_fits}
use Rattle.sr_inv_facts.proofs.Taking.{takes}
use Rattle.sr_inv_facts.specs.Doing.{IsUnpassed, MissedReserved, OnReserved}
use Rattle.sr_inv_facts.specs.Fitted.{IsPacket}
use Rattle.sr_inv_facts.specs.Flying.{OnLeg}
use Rattle.sr_inv_facts.specs.InJobs.{JobHolds, PutHolds, seen}
use Rattle.sr_inv_facts.specs.InWords.{job_word, put_word}
use Rattle.sr_inv_facts.specs.InShape.{EntryFits, PlaceFits, StageFits}
use Rattle.sr_inv_facts.specs.Invariant.{Invariant}
use Rattle.sr_inv_facts.specs.Laws.{OpensWith}
use Rattle.sr_inv_facts.specs.Readings.{EachPipe, In, SpeaksLive, entry_words}
use Rattle.sr_inv_matching.proofs.Members.{Stays, Stood, in_mapped, in_own, stays_changed, stays_judged, stays_self, stays_take, stays_without}
use Rattle.sr_inv_matching.proofs.Saying.{at_held, held_word_is, live_speaks, reserved_is, reserved_not_live, speaks_live}
use Rattle.sr_inv_matching.proofs.Stepping.{entered_drawn, look_answers, noted}
use Rattle.sr_inv_settled.specs.Used.{FoundAt, FoundKept, OnHit, StageFound, is_related}
use Rattle.sr_inv_verdicts.proofs.Clashing.{stands_matches}
use Rattle.sr_inv_verdicts.proofs.MoreLines.{or_second}
use Rattle.sr_inv_verdicts.proofs.OwnPlaces.{looked_own}
use Rattle.sr_law.specs.Held.{matches_entry}
use Rattle.sr_law.specs.Keys.{clashes_in}
use Rattle.sr_law.specs.declared.verdict.HeldBy.{HeldBy}
use Rattle.sr_law.specs.declared.verdict.Verdict.{Verdict}
use Rattle.sr_machine.proofs.Following.{goes}
use Rattle.sr_machine.specs.Begins.{Begins}
use Rattle.sr_machine.specs.Config.{Config}
use Rattle.sr_machine.specs.Core.{Core, opening, printed}
use Rattle.sr_machine.specs.Deciding.{is_withdrawn, version_for}
use Rattle.sr_machine.specs.Draws.{cleared_job, phase_job}
use Rattle.sr_machine.specs.Goes.{Goes}
use Rattle.sr_machine.specs.Jobs.{book_next, job_next, job_op, judged_book}
use Rattle.sr_machine.specs.Keeping.{AfterJob, AfterStage, Keeps, begun_core}
use Rattle.sr_machine.specs.Opening.{opening_pipes}
use Rattle.sr_machine.specs.Ops.{op_answer, op_name}
use Rattle.sr_machine.specs.Pipe.{fresh_pipe, pipe_after, pipe_op}
use Rattle.sr_machine.specs.Reads.{has_bit, read_flag, says}
use Rattle.sr_machine.specs.Stages.{is_opener, begun_flight, filtered, filtering, held_or, key_bits, key_places, last_after, loaded, looked, looking, missed_in, stage_after}
use Rattle.sr_machine.specs.Starting.{Start}
use Rattle.sr_machine.specs.Stores.{vip_draw}
use Rattle.sr_machine.specs.Taking.{ended_by}
use Rattle.sr_machine.specs.Waiting.{all_passed, has_next, is_under_way, live_job, passed_phase, waited_job, waited_phase}
use Rattle.sr_machine.specs.declared.controller_view.ControllerView.{ControllerView}
use Rattle.sr_machine.specs.declared.flight.Flight.{Flight}
use Rattle.sr_machine.specs.declared.job.Job.{Job}
use Rattle.sr_machine.specs.declared.leg.Last.{Last}
use Rattle.sr_machine.specs.declared.leg.Leg.{Leg}
use Rattle.sr_machine.specs.declared.leg.Leg.TheVariants.{Look, Hit, Filter, Chosen, Judged}
use Rattle.sr_machine.specs.declared.leg.Load.{Load}
use Rattle.sr_machine.specs.declared.op.Op.{Op}
use Rattle.sr_machine.specs.declared.pipe_view.PipeView.{PipeView}
use Rattle.sr_machine.specs.declared.pool_update.PoolUpdate.{PoolUpdate}
use Rattle.sr_machine.specs.declared.put.Aim.{Aim}
use Rattle.sr_machine.specs.declared.put.Put.{Put}
use Rattle.sr_machine.specs.declared.said.Said.{Said}
use Rattle.sr_machine.specs.declared.stage.Stage.{Stage}
use Rattle.sr_machine.specs.declared.stage.Stage.TheVariants.{Idle, Enter, Note, Vip, Fly, Leave}
use Rattle.sr_machine.specs.declared.wait.Wait.{Wait}
use Rattle.sr_machine.specs.declared.why.Why.{Why}
use Rattle.sr_shadow.proofs.PlannedSlot.{clashes-sym}
use Rattle.sr_shadow.specs.Book.{with_taken}
use Rattle.sr_shadow.specs.Entry.{is_of, left_other, settled, swept}
use Rattle.sr_shadow.specs.declared.entry.Entry.{Entry}
use Rattle.sr_machine.specs.Begins as begin
use Rattle.sr_machine.specs.Goes as go
use Rattle.sr_machine.specs.declared.draw.Draw.TheVariants as draw
use Rattle.sr_machine.specs.declared.job.Job.TheVariants as job
use Rattle.sr_machine.specs.declared.leg.Last.TheVariants as last
use Rattle.sr_machine.specs.declared.leg.Load.TheVariants as load
use Rattle.sr_machine.specs.declared.name.Name.TheVariants as name
use Rattle.sr_machine.specs.declared.put.Aim.TheVariants as aim
use Rattle.sr_machine.specs.declared.said.Said.TheVariants as said
use Rattle.sr_machine.specs.declared.store.Store.TheVariants as store
use Rattle.sr_machine.specs.declared.wait.Wait.TheVariants as wait
use Rattle.sr_machine.specs.declared.why.Why.TheVariants as why
use Rattle.sr_law.specs.declared.verdict.HeldBy.TheVariants as by
use Rattle.sr_law.specs.declared.verdict.Verdict.TheVariants as verdict

-- ---- keys that match at a place are related

related_by : (shape : Shape) (place : Place) (c key : KeyView) → matches_entry shape c key place ≡ true → is_related shape key c ≡ true
related_by shape (Row row) c key m = ap (λ b. b || (clashes_in shape 1 c key || clashes_in shape 2 c key)) (same_key-sym c key ∙ m)
related_by shape (Slot way bucket cell) c key m = at (way == 1) (way == 2) refl refl (and_parts ((way == 1) || (way == 2)) (clashes shape way key c) m).0
  where
    is : clashes shape way c key ≡ true
    is = clashes-sym shape way c key ∙ (and_parts ((way == 1) || (way == 2)) (clashes shape way key c) m).1

    at : (a b : Bool) → (way == 1) ≡ a → (way == 2) ≡ b → (a || b) ≡ true
        → (same_key c key || (clashes_in shape 1 c key || clashes_in shape 2 c key)) ≡ true
    at true b p q h =
        let one : way ≡ 1 = grind (arith, nat_tests) in
        let first : clashes_in shape 1 c key ≡ true = subst (λ w. clashes shape w c key ≡ true) one is in
        or_second (same_key c key) _ (ap (λ z. z || clashes_in shape 2 c key) first)
    at false true p q h =
        let two : way ≡ 2 = grind (arith, nat_tests) in
        let second : clashes_in shape 2 c key ≡ true = subst (λ w. clashes shape w c key ≡ true) two is in
        or_second (same_key c key) _ (or_second (clashes_in shape 1 c key) _ second)
    at false false p q h = cc

-- ---- what a packet finds

module _ (l : LayoutView) (f : Flight) (P : Place → Type 0) where
  held_hits : (reason : HeldBy) (n : ℕ) → OnHit (held_or f reason n) P
  held_hits reason n = at (is_opener f.packet.kind)
    where
      at : (b : Bool) → OnHit (if b then Judged (verdict.Held reason) last.Ring else Chosen n load.Head) P
      at true = tt
      at false = tt

  filtering_hits : (bits : List ℕ) → OnHit (filtering f bits) P
  filtering_hits [] = held_hits by.Transit f.vip.cur
  filtering_hits (bit ∷ rest) = tt

  missed_hits : (p : Phase) → OnHit (missed_in l f p) P
  missed_hits Steady = tt
  missed_hits Recording = tt
  missed_hits Holding = held_hits by.Hold f.vip.cur
  missed_hits Transit = filtering_hits (key_bits l f.packet.key)

  looking_hits : (rest : List Place) → OnHit (looking l f rest) P
  looking_hits [] = missed_hits f.vip.phase
  looking_hits (place ∷ rest) = tt

  looked_hits : (place : Place) (rest : List Place) (t : Said) → ((n : ℕ) → t ≡ said.Live n → P place) → OnHit (looked l f place rest t) P
  looked_hits place rest said.Nothing h = looking_hits rest
  looked_hits place rest said.Reserved h = at (is_opener f.packet.kind)
    where
      at : (b : Bool) → OnHit (if b then Judged (verdict.Held by.Clash) last.Ring else looking l f rest) P
      at true = tt
      at false = looking_hits rest
  looked_hits place rest (said.Live n) h = h n refl

  filtered_hits : (rest : List ℕ) (set : Bool) → OnHit (filtered f rest set) P
  filtered_hits rest true = filtering_hits rest
  filtered_hits rest false = tt

  loaded_hits : (n : ℕ) (next : Load) (x : ℕ) → OnHit (loaded l f n next x) P
  loaded_hits n load.Head x = tt
  loaded_hits n (load.Member head) x = tt
  loaded_hits n (load.Down pool server) x = tt

  last_hits : (v : Verdict) (next : Last) (x : ℕ) → OnLeg (last_after l f v next x) (λ g leg. OnHit leg P)
  last_hits v last.Ring x = tt
  last_hits v (last.Mark bit rest) x = tt
  last_hits v last.Push x = tt
  last_hits v last.Out x = tt

-- ---- a pipe's step

module _ (s : Core) (i : Invariant s) (p : ℕ) where
  abbrev l : LayoutView
  l = s.config.layout

  abbrev es : List Entry
  es = s.controller.book.entries

  abbrev Found : Flight → Place → Type 0
  Found f place = FoundAt l.shape es s.controller.job p f place

  -- a place that says Live to the packet's key has an entry that it is taken for
  live_own : (f : Flight) (place : Place) → is_place_of l.shape f.packet.key place ≡ true
      → SpeaksLive (says l place f.packet.key (entry_words s.words place))
      → (e : Entry) → In e es → e.place ≡ Some place → is_related l.shape e.key f.packet.key ≡ true
  live_own f place own sp e m q =
      let fits = all_in (EntryFits l) es e i.shape.book.entries m in
      let word = held_word_is s i e.key e place (in_own es e i.shape.book.distinct m) (at_held place e q) in
      let live : SpeaksLive (says l place f.packet.key _) = subst (λ x. SpeaksLive (says l place f.packet.key x)) word sp in
      let stands = live_speaks l i.shape.config.layout place e.key f.packet.key e.version fits.key fits.version (speaks_live _ live) in
      let there : is_place_of l.shape e.key place ≡ true = subst (PlaceFits l.shape e.key) q fits.place in
      related_by l.shape place f.packet.key e.key (stands_matches l place e.key f.packet.key there own stands)

  stands_now : (j : Job) → s.controller.job ≡ j → JobHolds s.config (seen s.controller) (printed s) j
  stands_now j e = subst (JobHolds s.config (seen s.controller) (printed s)) e i.jobs.holds.stands

  -- no reserved place says so
  not_reserved : (f : Flight) (place : Place) (q : Put) (j : Job) → s.controller.job ≡ j → PutHolds l.shape es s.controller.held q
      → job_word l q.place j ≡ put_word l q.place q
      → SpeaksLive (says l place f.packet.key (entry_words s.words place))
      → q.place ≡ place → ⊥
  not_reserved f place q j e h word sp same =
      let fits = put_fits s.config i.shape.config.layout s.controller i.shape.book i.shape.controller q h in
      let there : SpeaksLive (says l q.place f.packet.key (entry_words s.words q.place)) =
      subst (λ z. SpeaksLive (says l z f.packet.key (entry_words s.words z))) (sym same) sp in
      reserved_not_live l i.shape.config.layout q.place q.key f.packet.key fits.key.is_key
      (subst (λ x. SpeaksLive (says l q.place f.packet.key x)) (reserved_is s i q j e h word) there)

  live_open : (f : Flight) (place : Place) → SpeaksLive (says l place f.packet.key (entry_words s.words place)) → (j : Job) → s.controller.job ≡ j
      → OnReserved j (λ q. q.place ≡ place → MissedReserved j p f.entered place)
  live_open f place sp (job.Draw (draw.Grace (wait.Judge q))) e = λ same. sym same
  live_open f place sp (job.Pass g n (wait.Judge q)) e = λ same.
      absurd (not_reserved f place q (job.Pass g n (wait.Judge q)) e (stands_now (job.Pass g n (wait.Judge q)) e).0 refl sp same)
  live_open f place sp (job.Drain n c (wait.Judge q)) e = λ same.
      absurd (not_reserved f place q (job.Drain n c (wait.Judge q)) e (stands_now (job.Drain n c (wait.Judge q)) e).0 refl sp same)
  live_open f place sp (job.Store (store.Judge q)) e = λ same.
      absurd (not_reserved f place q (job.Store (store.Judge q)) e (stands_now (job.Store (store.Judge q)) e).0 refl sp same)
  live_open f place sp j e = tt

  found_now : (f : Flight) (place : Place) (rest : List Place) → StageFits l (Fly f (Look place rest))
      → (n : ℕ) → says l place f.packet.key (entry_words s.words place) ≡ said.Live n → Found f place
  found_now f place rest fits n e =
      let own = looked_own l f.packet.key place (in_end place (place ∷ rest) (key_places l f.packet.key) fits.1 (inl refl)) in
      let live : SpeaksLive (says l place f.packet.key (entry_words s.words place)) = subst SpeaksLive (sym e) tt in
      record { own = live_own f place own live; open_so = live_open f place live s.controller.job refl }

  stage_hits : (at : Stage) (x : ℕ) → StageFits l at
      → ((f : Flight) (place : Place) (rest : List Place) → at ≡ Fly f (Look place rest) → x ≡ entry_words s.words place)
      → StageFound l.shape es s.controller.job p (stage_after l at x)
  stage_hits Idle x fits q = tt
  stage_hits (Enter packet) x fits q = tt
  stage_hits (Note packet e) x fits q = tt
  stage_hits (Vip packet e) x fits q =
      let f = begun_flight l packet e x in looking_hits l f (Found f) (key_places l packet.key)
  stage_hits (Fly f (Look place rest)) x fits q =
      looked_hits l f (Found f) place rest (says l place f.packet.key x) (λ n e.
      found_now f place rest fits n (sym (ap (says l place f.packet.key) (q f place rest refl)) ∙ e))
  stage_hits (Fly f (Hit place n)) x fits q = held_hits l f (Found f) by.Clash n
  stage_hits (Fly f (Filter bit rest)) x fits q = filtered_hits l f (Found f) rest (has_bit bit x)
  stage_hits (Fly f (Chosen n next)) x fits q = loaded_hits l f (Found f) n next x
  stage_hits (Fly f (Judged v last.Ring)) x fits q = tt
  stage_hits (Fly f (Judged v (last.Mark bit rest))) x fits q = tt
  stage_hits (Fly f (Judged v last.Push)) x fits q = tt
  stage_hits (Fly f (Judged v last.Out)) x fits q = tt
  stage_hits (Leave f) x fits q = tt

abbrev FoundBy : Core → Job → List Entry → ℕ → PipeView → Type 0
FoundBy s j es p v = StageFound s.config.layout.shape es j p v.stage

stage_kept : (s : Core) → Invariant s → FoundKept s → (p : ℕ) (v : PipeView) (at : Stage) → slice_get s.pipes p ≡ Some v → v.stage ≡ at
    → (o : Option Op) → pipe_op s.config.layout v at ≡ o → AfterStage FoundKept s p v at o
stage_kept s i h p v at q e None g = tt
stage_kept s i h p v at q e (Some o) g =
    let l = s.config.layout in
    let x = op_answer o (s.words (op_name o)) in
    each_set s.pipes p v (pipe_after l v at x) q (FoundBy s s.controller.job s.controller.book.entries) h
    (stage_hits s i p at x (subst (StageFits l) e (i.shape.pipes.stage p v q)) (λ f place rest same. look_answers s.words l v at o g f place rest same))

-- ---- the controller's step

hit_then : (leg : Leg) (P Q : Place → Type 0) → ((n : ℕ) (place : Place) → leg ≡ Hit place n → P place → Q place) → OnHit leg P → OnHit leg Q
hit_then (Look place rest) P Q t h = tt
hit_then (Hit place n) P Q t h = t n place refl h
hit_then (Filter bit rest) P Q t h = tt
hit_then (Chosen n next) P Q t h = tt
hit_then (Judged v next) P Q t h = tt

stage_then : (at : Stage) (P Q : Flight → Place → Type 0) → ((f : Flight) (leg : Leg) (place : Place) → at ≡ Fly f leg → P f place → Q f place)
    → OnLeg at (λ f leg. OnHit leg (P f)) → OnLeg at (λ f leg. OnHit leg (Q f))
stage_then Idle P Q t h = tt
stage_then (Enter packet) P Q t h = tt
stage_then (Note packet e) P Q t h = tt
stage_then (Vip packet e) P Q t h = tt
stage_then (Fly f leg) P Q t h = hit_then leg (P f) (Q f) (λ n place e g. t f leg place refl g) h
stage_then (Leave f) P Q t h = tt

-- a place that isn't reserved after a step, unless a packet may have been there
abbrev OpenAt : Job → ℕ → Flight → Place → Type 0
OpenAt j p f place = OnReserved j (λ q. q.place ≡ place → MissedReserved j p f.entered place)

module _ (p : ℕ) (f : Flight) (place : Place) where
  abbrev Open : Job → Type 0
  Open j = OpenAt j p f place

  plain_open : (u : PoolUpdate) (q : Phase) → Open (phase_job u q)
  plain_open u Steady = tt
  plain_open u Recording = tt
  plain_open u Holding = tt
  plain_open u Transit = tt

  vip_open : (u : PoolUpdate) (q : Phase) → Open (job.Draw (vip_draw u q))
  vip_open u Steady = tt
  vip_open u Recording = tt
  vip_open u Holding = tt
  vip_open u Transit = tt

  cleared_open : (key : KeyView) (w : Why) → Open (cleared_job key w)
  cleared_open key (why.Withdrawn None) = tt
  cleared_open key (why.Withdrawn (Some r)) = tt
  cleared_open key why.Source = tt
  cleared_open key (why.Retired version) = tt

  passed_phase_open : (u : PoolUpdate) (q : Phase) → Open (passed_phase u q)
  passed_phase_open u Steady = tt
  passed_phase_open u Recording = tt
  passed_phase_open u Holding = tt
  passed_phase_open u Transit = tt

  waited_phase_open : (u : PoolUpdate) (q : Phase) → Open (waited_phase u q)
  waited_phase_open u Steady = tt
  waited_phase_open u Recording = tt
  waited_phase_open u Holding = tt
  waited_phase_open u Transit = tt

  live_job_open : (vips : List VipWord) (es : List Entry) (q : Put) (a : Aim) → Open (live_job vips es q a)
  live_job_open vips all q aim.Pending = tt
  live_job_open vips all q (aim.Held h) = tt
  live_job_open vips all q (aim.Move from planned) = tt

  -- the end of a drain
  waited_open : (vips : List VipWord) (es : List Entry) (n c : ℕ) (w : Wait) → Open (job.Drain n c w) → Open (waited_job vips es w)
  waited_open vips all n c (wait.Judge q) h = h
  waited_open vips all n c (wait.Live q) h = live_job_open vips all q q.aim
  waited_open vips all n c (wait.Retire key) h = tt
  waited_open vips all n c (wait.Comes u q) h = waited_phase_open u q
  waited_open vips all n c (wait.Release vip version) h = tt

  drain_open : (n c m d : ℕ) (w : Wait) → Open (job.Drain n c w) → Open (job.Drain m d w)
  drain_open n c m d (wait.Judge q) h = h
  drain_open n c m d w h = tt

  -- a grace that is drawn
  grace_open : (t : ℕ) (w : Wait) → f.entered < t → Open (job.Draw (draw.Grace w)) → Open (job.Pass t 0 w)
  grace_open t (wait.Judge q) b h = λ same. (sym same, (omega arith, b))
  grace_open t w b h = tt

  -- a pipe that has passed
  pass_open : (g n : ℕ) (w : Wait) → (p ≡ n → f.entered < g → ⊥) → Open (job.Pass g n w) → Open (job.Pass g (n + 1) w)
  pass_open g n (wait.Judge q) none h = λ same. let was = h same in (was.0, (at (p == n) was.1 refl, was.1.1))
    where
      at : (b : Bool) → IsUnpassed g n p f.entered → (p == n) ≡ b → n + 1 ≤ p
      at true u t = absurd (none (grind (arith, nat_tests)) u.1)
      at false u t = let o : p ≢ n = grind (arith, nat_tests) in omega (arith, u.0, o)
  pass_open g n w none h = tt

  all_open : (pipes g n : ℕ) (w : Wait) → p < pipes → pipes ≤ n + 1 → (p ≡ n → f.entered < g → ⊥) → Open (job.Pass g n w) → Open (all_passed w)
  all_open pipes g n (wait.Judge q) b m none h = λ same.
      let was = h same in let is : p ≡ n = omega (arith, was.1.0, b, m) in none is was.1.1
  all_open pipes g n (wait.Live q) b m none h = tt
  all_open pipes g n (wait.Retire key) b m none h = tt
  all_open pipes g n (wait.Comes u q) b m none h = passed_phase_open u q
  all_open pipes g n (wait.Release vip version) b m none h = tt

  -- each job that follows
  goes_open : (k : Config) (c : ControllerView) (x pipes : ℕ) (j m : Job) → Goes k c x j m
      → ((g n : ℕ) (w : Wait) → j ≡ job.Pass g n w → is_under_way g x ≡ false → p ≡ n → f.entered < g → ⊥)
      → ((w : Wait) → j ≡ job.Draw (draw.Grace w) → f.entered < x)
      → p < pipes → ((n : ℕ) → has_next k.layout n ≡ false → pipes ≤ n + 1)
      → Open j → Open m
  goes_open k c x pipes j m go.stays_free note late b over h = h
  goes_open k c x pipes j m (go.comes u q) note late b over h = plain_open u q
  goes_open k c x pipes j m (go.cleared key at w) note late b over h = cleared_open key w
  goes_open k c x pipes j m (go.phase_stored u q) note late b over h = vip_open u q
  goes_open k c x pipes j m (go.waits w) note late b over h = grace_open x w (late w refl) h
  goes_open k c x pipes j m (go.reserve_stored q) note late b over h = λ same. sym same
  goes_open k c x pipes j m (go.pass_stays g n w e) note late b over h = h
  goes_open k c x pipes j m (go.pass_next g n w e t) note late b over h = pass_open g n w (note g n w refl e) h
  goes_open k c x pipes j m (go.pass_last g n w e t) note late b over h = all_open pipes g n w b (over n t) (note g n w refl e) h
  goes_open k c x pipes j m (go.drain_stays n d w e) note late b over h = drain_open n d n (d + 1) w h
  goes_open k c x pipes j m (go.drain_next n d w e t) note late b over h = drain_open n d (n + 1) 0 w h
  goes_open k c x pipes j m (go.drain_last n d w e t) note late b over h = waited_open c.vips _ n d w h
  goes_open k c x pipes j m g note late b over h = tt

module _ (s : Core) (i : Invariant s) (h : FoundKept s) where
  abbrev book : List Entry
  book = s.controller.book.entries

  -- each packet by what stands after the step and what is reserved then
  each_found : (fs : List Entry) (j m : Job) → s.controller.job ≡ j
      → ((p : ℕ) (v : PipeView) (f : Flight) (leg : Leg) (place : Place) → slice_get s.pipes p ≡ Some v → v.stage ≡ Fly f leg
      → OpenAt j p f place
      → ((e : Entry) → In e fs → e.place ≡ Some place → Stood book e.key place) × OpenAt m p f place)
      → EachPipe (FoundBy s m fs) s.pipes
  each_found fs j m e turns =
      each_then (FoundBy s s.controller.job book) (FoundBy s m fs) s.pipes
      (λ p v q a. stage_then v.stage (FoundAt s.config.layout.shape book s.controller.job p) (FoundAt s.config.layout.shape fs m p) (λ f leg place r t.
      let turn = turns p v f leg place q r (subst (λ z. OpenAt z p f place) e t.open_so) in
      record { own = λ n y d. by f place t (turn.0 n y d); open_so = turn.1 }) a) h
    where
      by : (f : Flight) (place : Place) {p : ℕ} → FoundAt s.config.layout.shape book s.controller.job p f place → {key : KeyView} → Stood book key place
          → is_related s.config.layout.shape key f.packet.key ≡ true
      by f place t d = subst (λ k. is_related s.config.layout.shape k f.packet.key ≡ true) d.own (t.own d.entry d.member d.stands)

  -- where the packet is as before, and each entry stands where it stood
  open_after : (j m : Job) → s.controller.job ≡ j → (x : ℕ) → m ≡ job_next s.config s.controller j x
      → ((g n : ℕ) (w : Wait) → j ≡ job.Pass g n w → x ≡ s.words (name.Note n))
      → ((w : Wait) → j ≡ job.Draw (draw.Grace w) → x ≡ s.words name.Tick)
      → (p : ℕ) (v : PipeView) (f : Flight) (leg : Leg) (place : Place) → slice_get s.pipes p ≡ Some v → v.stage ≡ Fly f leg
      → OpenAt j p f place → OpenAt m p f place
  open_after j m e x same note tick p v f leg place q r o =
      subst (λ z. OpenAt z p f place) (sym same)
      (goes_open p f place s.config s.controller x s.config.layout.shape.pipes j (job_next s.config s.controller j x) (goes s.config s.controller x j)
      (λ g n w t under. noted s i g n p v f leg q r (subst (λ z. is_under_way g z ≡ false) (note g n w t) under))
      (λ w t. subst (λ z. f.entered < z) (sym (tick w t)) (entered_drawn s i.ticks p v f leg q r).1)
      (omega (arith, slice_get_within s.pipes p v q, i.shape.pipes.count)) over o)
    where
      over : (n : ℕ) → has_next s.config.layout n ≡ false → s.config.layout.shape.pipes ≤ n + 1
      over n t = grind (arith, nat_tests)

  staying : (j : Job) → s.controller.job ≡ j → (fs : List Entry) (x : ℕ) → Stays book fs
      → ((g n : ℕ) (w : Wait) → j ≡ job.Pass g n w → x ≡ s.words (name.Note n))
      → ((w : Wait) → j ≡ job.Draw (draw.Grace w) → x ≡ s.words name.Tick)
      → EachPipe (FoundBy s (job_next s.config s.controller j x) fs) s.pipes
  staying j e fs x stays note tick =
      each_found fs j (job_next s.config s.controller j x) e (λ p v f leg place q r o.
      (λ n m d. stays n m place d, open_after j (job_next s.config s.controller j x) e x refl note tick p v f leg place q r o))

  -- a job that is no wait and draws none
  abbrev NoWait : Job → Type 0
  NoWait (job.Draw (draw.Grace w)) = ⊥
  NoWait (job.Pass g n w) = ⊥
  NoWait j = Unit {0}

  no_pass : (j : Job) → NoWait j → (g n : ℕ) (w : Wait) → j ≡ job.Pass g n w → ⊥
  no_pass j h g n w e = subst NoWait e h

  no_grace : (j : Job) → NoWait j → (w : Wait) → j ≡ job.Draw (draw.Grace w) → ⊥
  no_grace j h w e = subst NoWait e h

  frame : (j : Job) (o : Option Op) → s.controller.job ≡ j → NoWait j → ((x : ℕ) → Stays book (book_next s.config s.controller j x).entries)
      → AfterJob FoundKept s j o
  frame j None e n stays = tt
  frame j (Some o) e n stays =
      let x = op_answer o (s.words (op_name o)) in
      staying j e (book_next s.config s.controller j x).entries x (stays x) (λ g m w t. absurd (no_pass j n g m w t)) (λ w t. absurd (no_grace j n w t))

  -- the key that is made live stands where no packet is
  judged : (q : Put) → s.controller.job ≡ job.Store (store.Judge q)
      → AfterJob FoundKept s (job.Store (store.Judge q)) (job_op s.config s.controller (job.Store (store.Judge q)))
  judged q e = by (is_withdrawn s.config s.controller q) refl
    where
      version : ℕ
      version = version_for s.controller.vips book q.key

      by : (b : Bool) → is_withdrawn s.config s.controller q ≡ b
          → EachPipe (FoundBy s (job_next s.config s.controller (job.Store (store.Judge q)) 0) (judged_book b q version s.controller.book).entries) s.pipes
      by true t =
          staying (job.Store (store.Judge q)) e book 0 (stays_self book) (λ g m w z. absurd (no_pass (job.Store (store.Judge q)) tt g m w z))
          (λ w z. absurd (no_grace (job.Store (store.Judge q)) tt w z))
      by false t =
          each_found (judged_book false q version s.controller.book).entries (job.Store (store.Judge q)) (job_next s.config s.controller (job.Store (store.Judge q)) 0) e
          (λ p v f leg place r w o. (
            λ n m d. two p f place o n m d (stays_judged q.key q.place version s.controller.book.taken book n m place d),
            open_after (job.Store (store.Judge q)) _ e 0 refl (λ g m w z. absurd (no_pass (job.Store (store.Judge q)) tt g m w z))
                (λ w z. absurd (no_grace (job.Store (store.Judge q)) tt w z)) p v f leg place r w o,
          ))
        where
          own_place : (n : Entry) (place : Place) → In n (judged_book false q version s.controller.book).entries → n.place ≡ Some place → n.key ≡ q.key
              → q.place ≡ place
          own_place n place m d same = at (in_mapped (λ z. if is_of q.key z then settled q.place z else z) (with_taken q.key version s.controller.book).entries n m)
            where
              turn : (z : Entry) (b : Bool) → is_of q.key z ≡ b → n ≡ (if b then settled q.place z else z) → q.place ≡ place
              turn z true g r = same_Some q.place place (sym (ap (λ (y : Entry). y.place) r) ∙ d)
              turn z false g r =
                  absurd (true≢false (sym (same_key-self q.key) ∙ (ap (same_key q.key) (sym same ∙ ap (λ (y : Entry). y.key) r) ∙ g)))

              at : (z : Entry) × In z (with_taken q.key version s.controller.book).entries × (n ≡ (if is_of q.key z then settled q.place z else z)) → q.place ≡ place
              at (z, y, r) = turn z (is_of q.key z) refl r

          two : (p : ℕ) (f : Flight) (place : Place) → OpenAt (job.Store (store.Judge q)) p f place → (n : Entry)
              → In n (judged_book false q version s.controller.book).entries
              → n.place ≡ Some place
              → Stood book n.key place ⊎ (n.key ≡ q.key)
              → Stood book n.key place
          two p f place o n m d (inl t) = t
          two p f place o n m d (inr same) = absurd (o (own_place n place m d same))

  job_kept : (j : Job) → s.controller.job ≡ j → AfterJob FoundKept s j (job_op s.config s.controller j)
  job_kept job.Free q = tt
  job_kept (job.Draw (draw.Grace w)) q =
      staying (job.Draw (draw.Grace w)) q book (s.words name.Tick) (stays_self book) (λ g n w t. absurd (cc t)) (λ w t. refl)
  job_kept (job.Draw (draw.Retired key at version)) q =
      frame (job.Draw (draw.Retired key at version)) (job_op s.config s.controller (job.Draw (draw.Retired key at version))) q tt (λ x. stays_without key book)
  job_kept (job.Pass g pipe w) q =
      staying (job.Pass g pipe w) q book (s.words (name.Note pipe)) (stays_self book)
      (λ a n z t. ap (λ m. s.words (name.Note m)) (pass_pipe g pipe w a n z t)) (λ z t. absurd (cc t))
    where
      pass_pipe : (g pipe : ℕ) (w : Wait) (a n : ℕ) (z : Wait) → job.Pass g pipe w ≡ job.Pass a n z → pipe ≡ n
      pass_pipe g pipe w a n z t = cc
  job_kept (job.Drain pipe count w) q =
      frame (job.Drain pipe count w) (job_op s.config s.controller (job.Drain pipe count w)) q tt (λ x.
      stays_take s.config.layout s.controller.numbers (ended_by (job.Drain pipe count w)) x s.controller.book (book_next s.config s.controller (job.Drain pipe count w) x) (takes s.config s.controller (ended_by (job.Drain pipe count w)) pipe x).book)
  job_kept (job.Look pipe) q =
      frame (job.Look pipe) (job_op s.config s.controller (job.Look pipe)) q tt (λ x.
      stays_take s.config.layout s.controller.numbers None x s.controller.book (book_next s.config s.controller (job.Look pipe) x) (takes s.config s.controller None pipe x).book)
  job_kept (job.Hit from ms key at n) q =
      frame (job.Hit from ms key at n) (job_op s.config s.controller (job.Hit from ms key at n)) q tt (λ x. stays_changed (swept (read_flag x)) (λ e. refl) (λ e. refl) key book)
  job_kept (job.Store (store.Judge y)) q = judged y q
  job_kept (job.Store (store.Empty key at w)) q =
      frame (job.Store (store.Empty key at w)) (job_op s.config s.controller (job.Store (store.Empty key at w))) q tt (λ x. stays_changed left_other (λ e. refl) (λ e. refl) key book)
  job_kept j q = frame j (job_op s.config s.controller j) q tt (λ x. stays_self book)

  -- what is begun reserves nothing yet
  begun_open : (p : ℕ) (f : Flight) (place : Place) (t : Start) → Begins s.config s.controller t → OpenAt t.job p f place
  begun_open p f place t (begin.releases vip version r) = tt
  begun_open p f place t b = tt

  begins_kept : FoundKept (begun_core s)
  begins_kept =
      begun_by s.config s.controller (λ c. EachPipe (FoundBy s c.job book) s.pipes) h (λ q t b.
      each_found book job.Free t.job q (λ p v f leg place r w o.
      (λ n m d. record { entry = n; member = m; own = refl; stands = d }, begun_open p f place t b)))

pub found_keep : Keeps IsPacket Invariant FoundKept
found_keep = record {
  stages = λ s p v at q e i h. stage_kept s i h p v at q e (pipe_op s.config.layout v at) refl;
  begins = begins_kept;
  jobs = λ s j q b i h. job_kept s i h j q;
  enters = λ s p v packet q r u n a i h.
      each_set s.pipes p v (record v { stage = Enter packet }) q (FoundBy s s.controller.job s.controller.book.entries) h tt;
  clocks = λ s ms q i h. h;
  refusals = λ s q i h. h;
}

pub found_open : OpensWith FoundKept
unfolding opening_pipes
found_open k f p v e =
    subst (λ u. FoundBy (opening k) (opening k).controller.job (opening k).controller.book.entries p u) (sym (ranged_at fresh_pipe 0 k.layout.shape.pipes p v e)) tt
