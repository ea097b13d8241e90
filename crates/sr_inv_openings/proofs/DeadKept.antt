-- Nothing is learned of a key that isn't registered and whose server is down, once its opener is to be answered so: every event keeps it.
use Rattle.sr_base.specs.Key.{KeyView}
use Rattle.sr_base.specs.Layout.{LayoutView}
use Rattle.sr_base.specs.declared.kind.Kind.{Kind}
use Rattle.sr_base.specs.declared.kind.Kind.TheVariants.{Carry, Ending, Opener}
use Rattle.sr_base.specs.declared.packet.Packet.{Packet}
use Rattle.sr_base.specs.declared.place.Place.{Place}
use Rattle.sr_base.specs.declared.ring_word.RingKind.{RingKind}
use Rattle.sr_base.specs.declared.ring_word.RingKind.TheVariants.{Close, Learn, Punt}
use Rattle.sr_base.specs.declared.vip_word.Phase.{Phase}
use Rattle.sr_base.specs.declared.vip_word.Phase.TheVariants.{Holding, Recording, Steady, Transit}
use Rattle.sr_base.specs.declared.vip_word.VipWord.{VipWord}
use Rattle.sr_inv_facts.proofs.Beginning.{begun_by}
use Rattle.sr_inv_facts.proofs.Lists.{of_some}
use Rattle.sr_inv_facts.proofs.Pipes.{each_set}
use Rattle.sr_inv_facts.proofs.Taking.{takes}
use Rattle.sr_inv_facts.specs.Doing.{HasEarlier, OnAnswer}
use Rattle.sr_inv_facts.specs.Fitted.{IsPacket}
use Rattle.sr_inv_facts.specs.Flying.{BeforePush, IfOpener, OnFlight, OnLeg, OnTo}
use Rattle.sr_inv_facts.specs.InFlight.{ChoosesBy, FlightHolds, HasServer, HasWord, LegHolds}
use Rattle.sr_inv_facts.specs.InJobs.{AimHolds, AnswerNames, IsDead, JobHolds, LiveAim, LiveHolds, PutHolds, seen}
use Rattle.sr_inv_facts.specs.InOpenings.{IfUnregistered, IsSilent, NothingLearned}
use Rattle.sr_inv_facts.specs.InShape.{JobFits}
use Rattle.sr_inv_facts.specs.InWords.{is_downing}
use Rattle.sr_inv_facts.specs.Invariant.{Invariant}
use Rattle.sr_inv_facts.specs.Laws.{OpensWith}
use Rattle.sr_inv_facts.specs.Readings.{EachLearn, IfLearn, bit_words, ring_words}
use Rattle.sr_inv_matching.proofs.Members.{registered_found}
use Rattle.sr_inv_openings.proofs.LearnedKept.{learn_then}
use Rattle.sr_inv_openings.proofs.Parts.{DeadAreSilent}
use Rattle.sr_inv_openings.proofs.Registering.{take_registered}
use Rattle.sr_inv_openings.proofs.RingSteps.{AtOp, pushed_from, pushed_ring, tells_learn}
use Rattle.sr_inv_openings.proofs.Speaking.{is_opener_so, judged_unlearned, judged_unsent}
use Rattle.sr_law.specs.Pools.{picked, server_of}
use Rattle.sr_law.specs.declared.verdict.HeldBy.{HeldBy}
use Rattle.sr_law.specs.declared.verdict.Verdict.{Verdict}
use Rattle.sr_machine.proofs.Following.{goes}
use Rattle.sr_machine.specs.Begins.{Begins}
use Rattle.sr_machine.specs.Core.{Core, printed}
use Rattle.sr_machine.specs.Deciding.{dead_reply, is_down, is_withdrawn, learned, learned_in, reply_if, ring_count, server_for, version_for, vip_at}
use Rattle.sr_machine.specs.Draws.{cleared_job, phase_job}
use Rattle.sr_machine.specs.Goes.{Goes}
use Rattle.sr_machine.specs.Jobs.{book_next, job_next, job_op, judged_book}
use Rattle.sr_machine.specs.Keeping.{AfterJob, AfterStage, Keeps}
use Rattle.sr_machine.specs.Opening.{opening_controller}
use Rattle.sr_machine.specs.Ops.{op_answer, op_name}
use Rattle.sr_machine.specs.Pipe.{pipe_after, pipe_op}
use Rattle.sr_machine.specs.Reads.{has_bit, read_flag, read_report, says}
use Rattle.sr_machine.specs.Stages.{begun_flight, filtered, filtering, held_or, is_opener, is_recorded, key_bits, key_places, last_at, last_by, leg_after, loaded, looked, looking, marking, missed_in, report_by, ring_cell, stage_after, verdict_at, verdict_by}
use Rattle.sr_machine.specs.Starting.{Start}
use Rattle.sr_machine.specs.Stores.{judged_draw, vip_draw}
use Rattle.sr_machine.specs.Taking.{ended_by}
use Rattle.sr_machine.specs.Waiting.{all_passed, live_job, waited_job}
use Rattle.sr_machine.specs.declared.flight.Flight.{Flight}
use Rattle.sr_machine.specs.declared.job.Job.{Job}
use Rattle.sr_machine.specs.declared.leg.Last.{Last}
use Rattle.sr_machine.specs.declared.leg.Leg.{Leg}
use Rattle.sr_machine.specs.declared.leg.Load.{Load}
use Rattle.sr_machine.specs.declared.op.Op.{Op}
use Rattle.sr_machine.specs.declared.pipe_view.PipeView.{PipeView}
use Rattle.sr_machine.specs.declared.pool_update.PoolUpdate.{PoolUpdate}
use Rattle.sr_machine.specs.declared.put.Aim.{Aim}
use Rattle.sr_machine.specs.declared.put.Put.{Put}
use Rattle.sr_machine.specs.declared.reply.Reply.{Reply}
use Rattle.sr_machine.specs.declared.said.Said.{Said}
use Rattle.sr_machine.specs.declared.stage.Stage.{Stage}
use Rattle.sr_machine.specs.declared.wait.Wait.{Wait}
use Rattle.sr_machine.specs.declared.why.Why.{Why}
use Rattle.sr_shadow.proofs.PlannedSlot.{planned}
use Rattle.sr_shadow.proofs.Splits.{entry_for_none}
use Rattle.sr_shadow.specs.Book.{entry_for, is_registered}
use Rattle.sr_shadow.specs.declared.entry.Entry.{Entry}
use Rattle.std.proofs.Common.{Bool, IfSome, List, None, Option, Some, [], ap, false, if◌then◌else◌, inl, inr, not, option_map, refl, slice_get, slice_set, subst, sym, true, true≢false, unwrap_or, ℕ, ◌&&◌, ◌==◌, ◌∙◌, ◌∷◌, ◌≡◌, ◌≢◌, ◌⊎◌}
use Rattle.std.proofs.lemmas.Option.{same_Some}
use Rattle.sr_machine.specs.declared.draw.Draw.TheVariants as draw
use Rattle.sr_machine.specs.declared.store.Store.TheVariants as store
use Rattle.sr_machine.specs.declared.wait.Wait.TheVariants as wait
use Rattle.sr_machine.specs.declared.why.Why.TheVariants as why
use Rattle.sr_machine.specs.declared.put.Aim.TheVariants as aim
use Rattle.sr_machine.specs.declared.job.Job.TheVariants as job
use Rattle.sr_machine.specs.declared.leg.Leg.TheVariants as leg
use Rattle.sr_machine.specs.declared.leg.Last.TheVariants as last
use Rattle.sr_machine.specs.declared.leg.Load.TheVariants as load
use Rattle.sr_machine.specs.declared.stage.Stage.TheVariants as stage
use Rattle.sr_machine.specs.declared.said.Said.TheVariants as said
use Rattle.sr_machine.specs.declared.name.Name.TheVariants as name
use Rattle.sr_law.specs.declared.verdict.Verdict.TheVariants as verdict
use Rattle.sr_law.specs.declared.verdict.HeldBy.TheVariants as by
use Rattle.sr_machine.specs.Goes as go
use Rattle.sr_machine.specs.Begins as begin

-- ---- answers

-- the job answers so, now or after the Cleared line of what was given up
abbrev Answers : Job → Reply → Type 0
Answers (job.Draw (draw.Answer y)) r = y ≡ r
Answers (job.Draw (draw.Cleared key place (why.Withdrawn (Some y)))) r = y ≡ r
Answers j r = ⊥

on_answer : (j : Job) (P : Reply → Type 0) → ((r : Reply) → Answers j r → P r) → OnAnswer j P
on_answer (job.Draw (draw.Answer y)) P h = h y refl
on_answer (job.Draw (draw.Cleared key place (why.Withdrawn (Some y)))) P h = h y refl
on_answer j P h = tt

answer_of : (j : Job) (P : Reply → Type 0) → OnAnswer j P → (r : Reply) → Answers j r → P r
answer_of (job.Draw (draw.Answer y)) P h r e = subst P e h
answer_of (job.Draw (draw.Cleared key place (why.Withdrawn (Some y)))) P h r e = subst P e h
answer_of j P h r e = absurd e

-- a job that answers waits for no phase, and takes no server down
none_earlier : (j : Job) (r : Reply) → Answers j r → (p entered vip : ℕ) (w : VipWord) → HasEarlier j p entered vip w → ⊥
none_earlier (job.Draw (draw.Answer y)) r e p entered vip w h = h
none_earlier (job.Draw (draw.Cleared key place (why.Withdrawn (Some y)))) r e p entered vip w h = h
none_earlier j r e p entered vip w h = absurd e

none_downing : (j : Job) (r : Reply) → Answers j r → (server : ℕ) → is_downing j server ≡ false
none_downing (job.Draw (draw.Answer y)) r e server = refl
none_downing (job.Draw (draw.Cleared key place (why.Withdrawn (Some y)))) r e server = refl
none_downing j r e server = absurd e

if_some : {X : Type 0} (o : Option X) (P : X → Type 0) → ((x : X) → o ≡ Some x → P x) → IfSome o P
if_some None P h = tt
if_some (Some x) P h = h x refl

-- ---- a packet's step

module _ (l : LayoutView) (key : KeyView) (f : Flight) where
  silent_by : (kind : Kind) (P : Type 0) → (kind ≡ Opener → P) → IfOpener kind P
  silent_by Opener P h = h refl
  silent_by Carry P h = tt
  silent_by Ending P h = tt

  held_silent : (reason : HeldBy) (n : ℕ) → IsSilent key f (held_or f reason n)
  held_silent reason n = at (is_opener f.packet.kind)
    where
      at : (b : Bool) → IsSilent key f (if b then leg.Judged (verdict.Held reason) last.Ring else leg.Chosen n load.Head)
      at true = silent_by f.packet.kind (f.packet.key ≡ key → Unit {0}) (λ k e. tt)
      at false = tt

  filtering_silent : (bits : List ℕ) → IsSilent key f (filtering f bits)
  filtering_silent [] = held_silent by.Transit f.vip.cur
  filtering_silent (bit ∷ rest) = tt

  missed_silent : (p : Phase) → IsSilent key f (missed_in l f p)
  missed_silent Steady = tt
  missed_silent Recording = tt
  missed_silent Holding = held_silent by.Hold f.vip.cur
  missed_silent Transit = filtering_silent (key_bits l f.packet.key)

  looking_silent : (places : List Place) → IsSilent key f (looking l f places)
  looking_silent [] = missed_silent f.vip.phase
  looking_silent (place ∷ rest) = tt

  looked_silent : (place : Place) (rest : List Place) (s : Said) → IsSilent key f (looked l f place rest s)
  looked_silent place rest said.Nothing = looking_silent rest
  looked_silent place rest said.Reserved = at (is_opener f.packet.kind)
    where
      at : (b : Bool) → IsSilent key f (if b then leg.Judged (verdict.Held by.Clash) last.Ring else looking l f rest)
      at true = silent_by f.packet.kind (f.packet.key ≡ key → Unit {0}) (λ k e. tt)
      at false = looking_silent rest
  looked_silent place rest (said.Live n) = tt

  filtered_silent : (rest : List ℕ) (set : Bool) → IsSilent key f (filtered f rest set)
  filtered_silent rest true = filtering_silent rest
  filtered_silent rest false = tt

  -- an opener of the key finds its server down
  loaded_silent : (n : ℕ) (next : Load) (x : ℕ)
      → ((server pool : ℕ) → next ≡ load.Down pool server → f.packet.kind ≡ Opener → f.packet.key ≡ key → read_flag x ≡ true)
      → IsSilent key f (loaded l f n next x)
  loaded_silent n load.Head x down = tt
  loaded_silent n (load.Member h) x down = tt
  loaded_silent n (load.Down pool server) x down =
      silent_by f.packet.kind (f.packet.key ≡ key → BeforePush (last_by f.packet.kind (read_flag x)) (OnTo (verdict_by (read_flag x) server n pool) (λ version. ⊥)))
      (λ k e. at (read_flag x) (down server pool refl k e))
    where
      at : (b : Bool) → b ≡ true → BeforePush (last_by f.packet.kind b) (OnTo (verdict_by b server n pool) (λ version. ⊥))
      at true q = two f.packet.kind
        where
          two : (kind : Kind) → BeforePush (last_by kind true) (Unit {0})
          two Opener = tt
          two Carry = tt
          two Ending = tt
      at false q = cc

  marking_silent : (v : Verdict) (bits : List ℕ) → IfOpener f.packet.kind (f.packet.key ≡ key → OnTo v (λ version. ⊥))
      → IsSilent key f (leg.Judged v (marking bits))
  marking_silent v [] h = h
  marking_silent v (bit ∷ rest) h = h

  ring_silent : (v : Verdict) (empty : Bool) → IsSilent key f (leg.Judged v last.Ring)
      → IsSilent key f (leg.Judged (verdict_at f v empty) (last_at l f v empty))
  ring_silent v true h = at (is_recorded f v)
    where
      at : (b : Bool) → IsSilent key f (leg.Judged v (if b then marking (key_bits l f.packet.key) else last.Push))
      at true = marking_silent v (key_bits l f.packet.key) h
      at false = h
  ring_silent v false h = silent_by f.packet.kind (f.packet.key ≡ key → Unit {0}) (λ k e. tt)

  leg_silent : (a : Leg) (x : ℕ)
      → ((n server pool : ℕ) → a ≡ leg.Chosen n (load.Down pool server) → f.packet.kind ≡ Opener → f.packet.key ≡ key → read_flag x ≡ true)
      → IsSilent key f a → OnLeg (leg_after l f a x) (IsSilent key)
  leg_silent (leg.Look place rest) x down h = looked_silent place rest (says l place f.packet.key x)
  leg_silent (leg.Hit place n) x down h = held_silent by.Clash n
  leg_silent (leg.Filter bit rest) x down h = filtered_silent rest (has_bit bit x)
  leg_silent (leg.Chosen n next) x down h = loaded_silent n next x (λ server pool e. down n server pool (ap (leg.Chosen n) e))
  leg_silent (leg.Judged v last.Ring) x down h = ring_silent v (x == 0) h
  leg_silent (leg.Judged v (last.Mark bit rest)) x down h = marking_silent v rest h
  leg_silent (leg.Judged v last.Push) x down h = silent_by f.packet.kind (f.packet.key ≡ key → Unit {0}) (λ k e. tt)
  leg_silent (leg.Judged v last.Out) x down h = tt

stage_silent : (l : LayoutView) (key : KeyView) (a : Stage) (x : ℕ)
    → ((f : Flight) (n server pool : ℕ) → a ≡ stage.Fly f (leg.Chosen n (load.Down pool server)) → f.packet.kind ≡ Opener → f.packet.key ≡ key → read_flag x ≡ true)
    → OnLeg a (IsSilent key) → OnLeg (stage_after l a x) (IsSilent key)
stage_silent l key stage.Idle x down h = tt
stage_silent l key (stage.Enter packet) x down h = tt
stage_silent l key (stage.Note packet entered) x down h = tt
stage_silent l key (stage.Vip packet entered) x down h = looking_silent l key (begun_flight l packet entered x) (key_places l packet.key)
stage_silent l key (stage.Fly f a) x down h = leg_silent l key f a x (λ n server pool e. down f n server pool (ap (stage.Fly f) e)) h
stage_silent l key (stage.Leave f) x down h = tt

-- ---- a pipe's step

module _ (s : Core) (i : Invariant s) where
  abbrev l : LayoutView
  l = s.config.layout

  abbrev es : List Entry
  es = s.controller.book.entries

  -- the key of an answer that isn't registered has its server down
  dead_so : (r : Reply) → Answers s.controller.job r → is_registered r.held.key es ≡ false → (version : ℕ) → r.version ≡ Some version
      → IsDead s.config (seen s.controller) r version
  dead_so r a none version d = at s.controller.job a i.jobs.holds.stands
    where
      at : (j : Job) → Answers j r → JobHolds s.config (seen s.controller) (printed s) j → IsDead s.config (seen s.controller) r version
      at (job.Draw (draw.Answer y)) e h =
          let names : AnswerNames s.config (seen s.controller) r (entry_for r.held.key es) r.version =
          subst (λ z. AnswerNames s.config (seen s.controller) z (entry_for z.held.key es) z.version) e h.names in
          subst (AnswerNames s.config (seen s.controller) r None) d (subst (λ o. AnswerNames s.config (seen s.controller) r o r.version) (entry_for_none r.held.key es none) names)
      at (job.Draw (draw.Cleared key place (why.Withdrawn (Some y)))) e h =
          of_some (λ version. IsDead s.config (seen s.controller) r version) r.version version
          (subst (λ z. IfSome z.version (λ version. IsDead s.config (seen s.controller) z version)) e h.1.0) d
      at j e h = absurd e

  module _ (p : ℕ) (v : PipeView) (q : slice_get s.pipes p ≡ Some v) where
    -- so an opener of the key finds it down
    finds_down : (r : Reply) → Answers s.controller.job r → (version : ℕ) → IsDead s.config (seen s.controller) r version → (f : Flight) (n server pool : ℕ)
        → v.stage ≡ stage.Fly f (leg.Chosen n (load.Down pool server)) → f.packet.kind ≡ Opener → f.packet.key ≡ r.held.key
        → read_flag (s.words (name.Down server)) ≡ true
    unfolding read_flag
    finds_down r a version dead f n server pool e kind own =
        let holds_so = subst (λ z. OnLeg z (LegHolds s.config (bit_words s.words) s.controller.named s.controller.numbers s.controller.rings s.controller.job p v.pushed)) e (i.flight.legs p v q) in
        let chooses : ChoosesBy f.vip n = is_opener_so f.packet.kind (ChoosesBy f.vip n) kind holds_so.choice in
        let flight : FlightHolds s.controller.vips s.controller.job (printed s) p f = subst (λ z. OnFlight z (FlightHolds s.controller.vips s.controller.job (printed s) p)) e (i.flight.flights p v q) in
        let word : f.vip ≡ vip_at s.controller.vips f.packet.key.vip = present flight.word in
        let learns : n ≡ version =
        chooses.0 ∙ (ap (λ w. learned_in w.phase w.cur w.next) word ∙ (ap (λ z. learned s.controller.vips z.vip) own ∙ sym dead.next)) in
        let tells_so : HasServer s.config s.controller.named f.packet.key n pool server = holds_so.server in
        let is : server_for s.config s.controller.named f.packet.key n ≡ server =
        ap (λ z. unwrap_or (server_of s.config.pools z f.packet.key) 0) tells_so.names
        ∙ (ap (λ o. unwrap_or (option_map (λ pool. picked pool f.packet.key) o) 0) tells_so.there ∙ sym tells_so.is) in
        let there : server ≡ server_for s.config s.controller.named r.held.key version =
        sym is ∙ (ap (λ z. server_for s.config s.controller.named z n) own ∙ ap (server_for s.config s.controller.named r.held.key) learns) in
        let down : is_down s.controller.down server ≡ true = ap (is_down s.controller.down) there ∙ dead.down in
        let told : s.words (name.Down server) ≡ 1 =
        i.words.others.down server
        ∙ (ap (λ b. if b && not (is_downing s.controller.job server) then 1 else 0) down ∙ ap (λ b. if not b then 1 else 0) (none_downing s.controller.job r a server)) in
        ap (λ z. z == 1) told
      where
        present : HasWord s.controller.vips s.controller.job p f → f.vip ≡ vip_at s.controller.vips f.packet.key.vip
        present (inl h) = h
        present (inr h) = absurd (none_earlier s.controller.job r a p f.entered f.packet.key.vip f.vip h)

    was_silent : (r : Reply) → Answers s.controller.job r → is_registered r.held.key es ≡ false → (version : ℕ) → r.version ≡ Some version
        → NothingLearned l (ring_words s.words) s.pipes r.held.key
    was_silent r a none version d =
        of_some (λ version. NothingLearned l (ring_words s.words) s.pipes r.held.key) r.version version
        (answer_of s.controller.job (λ r. IfUnregistered es r (NothingLearned l (ring_words s.words) s.pipes r.held.key)) i.openings.openings.dead r a none) d

    -- the reports in the rings after a step
    abbrev FreeAfter : Core → Type 0
    FreeAfter t = (key : KeyView) → NothingLearned l (ring_words s.words) s.pipes key → EachLearn l (ring_words t.words) (λ other version. other ≢ key)

    -- a step of the pipe, with what it answers
    pass_on : (a : Stage) (o : Option Op) → v.stage ≡ a → AfterStage FreeAfter s p v a o
        → AtOp o (λ o. (f : Flight) (n server pool : ℕ) → a ≡ stage.Fly f (leg.Chosen n (load.Down pool server)) → op_answer o (s.words (op_name o)) ≡ s.words (name.Down server))
        → AfterStage DeadAreSilent s p v a o
    pass_on a None e free loads = tt
    pass_on a (Some o) e free loads =
        on_answer s.controller.job _ (λ r b none. if_some r.version _ (λ version d.
        let was = was_silent r b none version d in
        record {
          ring_free = free r.held.key was;
          pipes_free = each_set s.pipes p v (pipe_after l v a (op_answer o (s.words (op_name o)))) q (λ n u. OnLeg u.stage (IsSilent r.held.key)) was.pipes_free
              (stage_silent l r.held.key a (op_answer o (s.words (op_name o)))
              (λ f n server pool g kind own. ap read_flag (loads f n server pool g) ∙ finds_down r b version (dead_so r b none version d) f n server pool (e ∙ g) kind own)
              (subst (λ z. OnLeg z (IsSilent r.held.key)) e (was.pipes_free p v q)));
        }))

    -- an opener that stores a report is of another key
    store_free : (f : Flight) (u : Verdict) (e : v.stage ≡ stage.Fly f (leg.Judged u last.Push)) (key : KeyView)
        → NothingLearned l (ring_words s.words) s.pipes key → EachLearn l (pushed_ring s i p v q f u e) (λ other version. other ≢ key)
    store_free f u e key was n c r read =
        learn_then r.kind (Unit {0}) (r.key ≢ key) (λ kind t. by kind (pushed_from s i p v q f u e n c r read)) (free r.kind)
      where
        free : (kind : RingKind) → IfLearn kind (Unit {0})
        free Learn = tt
        free Punt = tt
        free Close = tt

        by : r.kind ≡ Learn → (read_report l (s.words (name.Ring n c)) ≡ Some r) ⊎ (r ≡ report_by f.packet.key f.packet.kind u) → r.key ≢ key
        by kind (inl there) = subst (λ z. IfLearn z (r.key ≢ key)) kind (was.ring_free n c r there)
        by kind (inr new) = λ same.
            let t = tells_learn f.packet.key f.packet.kind u r new kind in
            let silent : IsSilent key f (leg.Judged u last.Push) = subst (λ z. OnLeg z (IsSilent key)) e (was.pipes_free p v q) in
            subst (λ z. OnTo z (λ version. ⊥)) t.sent (is_opener_so f.packet.kind (f.packet.key ≡ key → OnTo u (λ version. ⊥)) t.opener silent (sym t.own ∙ same))

    dead_stage : (a : Stage) → v.stage ≡ a → AfterStage DeadAreSilent s p v a (pipe_op l v a)
    dead_stage stage.Idle e = tt
    dead_stage (stage.Fly f (leg.Judged u last.Push)) e =
        pass_on (stage.Fly f (leg.Judged u last.Push)) (pipe_op l v (stage.Fly f (leg.Judged u last.Push))) e (λ key was. store_free f u e key was) (λ g n server pool d. cc)
    dead_stage (stage.Fly f (leg.Chosen n load.Head)) e =
        pass_on (stage.Fly f (leg.Chosen n load.Head)) (pipe_op l v (stage.Fly f (leg.Chosen n load.Head))) e (λ key was. was.ring_free) (λ g n server pool d. cc)
    dead_stage a e = pass_on a (pipe_op l v a) e (λ key was. was.ring_free) (λ g n server pool d. cc)

    dead_enter : (packet : Packet) → DeadAreSilent (record s { pipes = slice_set s.pipes p (record v { stage = stage.Enter packet }) })
    dead_enter packet =
        on_answer s.controller.job _ (λ r b none. if_some r.version _ (λ version d.
        let was = was_silent r b none version d in
        record {
          ring_free = was.ring_free;
          pipes_free = each_set s.pipes p v (record v { stage = stage.Enter packet }) q (λ n u. OnLeg u.stage (IsSilent r.held.key)) was.pipes_free tt;
        }))

  -- ---- the controller's step

  -- a job after which nothing is answered
  abbrev IsOffAnswer : Job → Type 0
  IsOffAnswer (job.Draw (draw.Cleared key place (why.Withdrawn (Some r)))) = ⊥
  IsOffAnswer (job.Store (store.Judge p)) = ⊥
  IsOffAnswer (job.Drain pipe count w) = ⊥
  IsOffAnswer j = Unit {0}

  phase_unanswered : (P : Reply → Type 0) (u : PoolUpdate) (p : Phase) → OnAnswer (phase_job u p) P
  phase_unanswered P u Steady = tt
  phase_unanswered P u Recording = tt
  phase_unanswered P u Holding = tt
  phase_unanswered P u Transit = tt

  vip_unanswered : (P : Reply → Type 0) (u : PoolUpdate) (p : Phase) → OnAnswer (job.Draw (vip_draw u p)) P
  vip_unanswered P u Steady = tt
  vip_unanswered P u Recording = tt
  vip_unanswered P u Holding = tt
  vip_unanswered P u Transit = tt

  passed_unanswered : (P : Reply → Type 0) (w : Wait) → OnAnswer (all_passed w) P
  passed_unanswered P (wait.Comes u Steady) = tt
  passed_unanswered P (wait.Comes u Recording) = tt
  passed_unanswered P (wait.Comes u Holding) = tt
  passed_unanswered P (wait.Comes u Transit) = tt
  passed_unanswered P w = tt

  cleared_unanswered : (P : Reply → Type 0) (key : KeyView) (place : Place) (w : Why) → IsOffAnswer (job.Draw (draw.Cleared key place w)) → OnAnswer (cleared_job key w) P
  cleared_unanswered P key place (why.Withdrawn None) off = tt
  cleared_unanswered P key place (why.Withdrawn (Some r)) off = absurd off
  cleared_unanswered P key place why.Source off = tt
  cleared_unanswered P key place (why.Retired version) off = tt

  emptied_unanswered : (P : Reply → Type 0) (key : KeyView) (place : Place) (w : Why) → JobFits l (job.Store (store.Empty key place w)) → OnAnswer (job.Draw (draw.Cleared key place w)) P
  emptied_unanswered P key place (why.Withdrawn r) fits = absurd fits
  emptied_unanswered P key place why.Source fits = tt
  emptied_unanswered P key place (why.Retired version) fits = tt

  none_answers : (P : Reply → Type 0) (x : ℕ) (j m : Job) → Goes s.config s.controller x j m → IsOffAnswer j → JobFits l j → OnAnswer m P
  none_answers P x j m (go.comes u p) off fits = phase_unanswered P u p
  none_answers P x j m (go.cleared key place w) off fits = cleared_unanswered P key place w off
  none_answers P x j m (go.phase_stored u p) off fits = vip_unanswered P u p
  none_answers P x j m (go.judged_live p e) off fits = absurd off
  none_answers P x j m (go.judged_withdrawn p e) off fits = absurd off
  none_answers P x j m (go.emptied key place w) off fits = emptied_unanswered P key place w fits
  none_answers P x j m (go.pass_last g pipe w a b) off fits = passed_unanswered P w
  none_answers P x j m (go.drain_stays pipe count w a) off fits = absurd off
  none_answers P x j m (go.drain_next pipe count w a b) off fits = absurd off
  none_answers P x j m (go.drain_last pipe count w a b) off fits = absurd off
  none_answers P x j m g off fits = tt

  dead_plain : (j : Job) (o : Option Op) → s.controller.job ≡ j → IsOffAnswer j → AfterJob DeadAreSilent s j o
  dead_plain j None e off = tt
  dead_plain j (Some o) e off =
      let x = op_answer o (s.words (op_name o)) in
      none_answers _ x j (job_next s.config s.controller j x) (goes s.config s.controller x j) off (subst (JobFits l) e i.shape.controller.job)

  -- what is given up was of the first held opener
  dead_put : (p : Put) (a : Aim) (r : Reply) → AimHolds es s.controller.held p a → dead_reply s.config s.controller a ≡ Some r → r.held.key ≡ p.key
  dead_put p (aim.Held h) r m e =
      by (not (is_registered h.key es) && is_down s.controller.down (server_for s.config s.controller.named h.key (learned s.controller.vips h.key.vip))) e
    where
      by : (b : Bool) → reply_if b (record { held = h; version = Some (learned s.controller.vips h.key.vip) }) ≡ Some r → r.held.key ≡ p.key
      by true g =
          let is : record { held = h; version = Some (learned s.controller.vips h.key.vip) } ≡ r = same_Some (record { held = h; version = Some (learned s.controller.vips h.key.vip) }) r g in
          sym (ap (λ z. z.held.key) is) ∙ sym m.1
      by false g = cc
  dead_put p aim.Pending r m e = cc
  dead_put p (aim.Move from planned) r m e = cc

  dead_judged : (p : Put) → s.controller.job ≡ job.Store (store.Judge p) → (b : Bool)
      → OnAnswer (job.Draw (judged_draw b p (dead_reply s.config s.controller p.aim)))
      (λ r. IfUnregistered (judged_book b p (version_for s.controller.vips s.controller.book.entries p.key) s.controller.book).entries r (NothingLearned l (ring_words s.words) s.pipes r.held.key))
  dead_judged p e false = tt
  dead_judged p e true = by (dead_reply s.config s.controller p.aim) refl
    where
      none : (r : Reply) → dead_reply s.config s.controller p.aim ≡ Some r → NothingLearned l (ring_words s.words) s.pipes r.held.key
      none r d =
          let put : PutHolds l.shape es s.controller.held p = (subst (JobHolds s.config (seen s.controller) (printed s)) e i.jobs.holds.stands).0 in
          let own : r.held.key ≡ p.key = dead_put p p.aim r put.aim d in
          subst (NothingLearned l (ring_words s.words) s.pipes) (sym own) (record {
            ring_free = judged_unlearned s i p e;
            pipes_free = λ n u g. silent n u g u.stage refl;
          })
        where
          judged : (n : ℕ) (u : PipeView) → slice_get s.pipes n ≡ Some u → (f : Flight) (z : Verdict) (at : Last) → u.stage ≡ stage.Fly f (leg.Judged z at) → f.packet.kind ≡ Opener
              → f.packet.key ≡ p.key → BeforePush at (OnTo z (λ version. ⊥))
          judged n u g f (verdict.To server m pool) last.Ring d k own = judged_unsent s i p e n u f server m pool last.Ring g d k own
          judged n u g f (verdict.To server m pool) (last.Mark bit rest) d k own = judged_unsent s i p e n u f server m pool (last.Mark bit rest) g d k own
          judged n u g f (verdict.To server m pool) last.Push d k own = judged_unsent s i p e n u f server m pool last.Push g d k own
          judged n u g f z last.Ring d k own = tt
          judged n u g f z (last.Mark bit rest) d k own = tt
          judged n u g f z last.Push d k own = tt
          judged n u g f z last.Out d k own = tt

          silent : (n : ℕ) (u : PipeView) → slice_get s.pipes n ≡ Some u → (a : Stage) → u.stage ≡ a → OnLeg a (IsSilent p.key)
          silent n u g (stage.Fly f (leg.Judged z at)) d =
              silent_by l p.key f f.packet.kind (f.packet.key ≡ p.key → BeforePush at (OnTo z (λ version. ⊥))) (λ k own. judged n u g f z at d k own)
          silent n u g (stage.Fly f leg) d = tt
          silent n u g a d = tt

      by : (o : Option Reply) → dead_reply s.config s.controller p.aim ≡ o
          → OnAnswer (job.Draw (draw.Cleared p.key p.place (why.Withdrawn o))) (λ r. IfUnregistered es r (NothingLearned l (ring_words s.words) s.pipes r.held.key))
      by None d = tt
      by (Some r) d = λ unregistered. if_some r.version _ (λ version z. none r d)

  -- an opener whose key was made live is answered by its version
  dead_waited : (pipe count : ℕ) (w : Wait) (x : ℕ) → s.controller.job ≡ job.Drain pipe count w → (ring : ℕ → ℕ → ℕ)
      → OnAnswer (waited_job s.controller.vips (book_next s.config s.controller (job.Drain pipe count w) x).entries w)
      (λ r. IfUnregistered (book_next s.config s.controller (job.Drain pipe count w) x).entries r (NothingLearned l ring s.pipes r.held.key))
  dead_waited pipe count (wait.Live p) x e ring =
      by p.aim live.aim
    where
      live : LiveHolds es s.controller.held p
      live = (subst (JobHolds s.config (seen s.controller) (printed s)) e i.jobs.holds.stands).1

      by : (a : Aim) → LiveAim s.controller.held p a
          → OnAnswer (live_job s.controller.vips (book_next s.config s.controller (job.Drain pipe count (wait.Live p)) x).entries p a)
          (λ r. IfUnregistered (book_next s.config s.controller (job.Drain pipe count (wait.Live p)) x).entries r (NothingLearned l ring s.pipes r.held.key))
      by aim.Pending m = tt
      by (aim.Move from planned) m = tt
      by (aim.Held h) m = λ none.
          let r = take_registered l s.controller.numbers (ended_by (job.Drain pipe count (wait.Live p))) x s.controller.book _
          (takes s.config s.controller (ended_by (job.Drain pipe count (wait.Live p))) pipe x).book p.key live.stands.0.version (live.stands.0, live.stands.1, refl) in
          absurd (true≢false (sym (ap (λ z. is_registered z (book_next s.config s.controller (job.Drain pipe count (wait.Live p)) x).entries) (sym m.1) ∙ registered_found p.key _ r.0 r.1) ∙ none))
  dead_waited pipe count (wait.Judge p) x e ring = tt
  dead_waited pipe count (wait.Retire key) x e ring = tt
  dead_waited pipe count (wait.Comes u Steady) x e ring = tt
  dead_waited pipe count (wait.Comes u Recording) x e ring = tt
  dead_waited pipe count (wait.Comes u Holding) x e ring = tt
  dead_waited pipe count (wait.Comes u Transit) x e ring = tt
  dead_waited pipe count (wait.Release vip n) x e ring = tt

  dead_drain : (pipe count : ℕ) (w : Wait) (x : ℕ) (m : Job) → s.controller.job ≡ job.Drain pipe count w → (ring : ℕ → ℕ → ℕ) → Goes s.config s.controller x (job.Drain pipe count w) m
      → OnAnswer m (λ r. IfUnregistered (book_next s.config s.controller (job.Drain pipe count w) x).entries r (NothingLearned l ring s.pipes r.held.key))
  dead_drain pipe count w x m e ring (go.drain_stays a b c d) = tt
  dead_drain pipe count w x m e ring (go.drain_next a b c d f) = tt
  dead_drain pipe count w x m e ring (go.drain_last a b c d f) = dead_waited pipe count w x e ring

  dead_job : (j : Job) → s.controller.job ≡ j → AfterJob DeadAreSilent s j (job_op s.config s.controller j)
  dead_job (job.Draw (draw.Cleared key place (why.Withdrawn (Some r)))) e =
      subst (λ j. OnAnswer j (λ r. IfUnregistered es r (NothingLearned l (ring_words s.words) s.pipes r.held.key))) e i.openings.openings.dead
  dead_job (job.Store (store.Judge p)) e = dead_judged p e (is_withdrawn s.config s.controller p)
  dead_job (job.Drain pipe count w) e =
      let x = s.words (ring_cell l pipe (ring_count s.controller.rings pipe).words) in
      dead_drain pipe count w x (job_next s.config s.controller (job.Drain pipe count w) x) e _ (goes s.config s.controller x (job.Drain pipe count w))
  dead_job j e = dead_plain j (job_op s.config s.controller j) e tt

  -- ---- what it begins

  dead_begins : (start : Start) → Begins s.config s.controller start
      → OnAnswer start.job (λ r. IfUnregistered es r (NothingLearned l (ring_words s.words) s.pipes r.held.key))
  dead_begins start (begin.answers h rest w d f) = λ none. absurd (true≢false (sym (registered_found h.key es w f) ∙ none))
  dead_begins start (begin.has_no_place h rest d f g) = λ none. tt
  dead_begins start b = tt

pub dead_keep : Keeps IsPacket Invariant DeadAreSilent
dead_keep = record {
  stages = λ s p v a q e i f. dead_stage s i p v q a e;
  begins = λ s i f.
      begun_by s.config s.controller (λ c. OnAnswer c.job (λ r. IfUnregistered c.book.entries r (NothingLearned s.config.layout (ring_words s.words) s.pipes r.held.key))) f
      (λ free start b. dead_begins s i start b);
  jobs = λ s j q b i f. dead_job s i j q;
  enters = λ s p v packet q r u n a i f. dead_enter s i p v q packet;
  clocks = λ s ms q i f. f;
  refusals = λ s q i f. f;
}

pub dead_part : (s : Core) → Invariant s → DeadAreSilent s
dead_part s i = i.openings.openings.dead

pub dead_open : OpensWith DeadAreSilent
unfolding opening_controller
dead_open k f = tt
