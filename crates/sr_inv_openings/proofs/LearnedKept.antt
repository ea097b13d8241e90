-- Each report in a ring tells the version of an opening, or of an opener that isn't out yet: every event keeps it.
use Rattle.sr_base.proofs.Sameness.{same_key-true}
use Rattle.sr_base.specs.Key.{KeyView, same_key}
use Rattle.sr_base.specs.Layout.{LayoutView}
use Rattle.sr_base.specs.declared.packet.Packet.{Packet}
use Rattle.sr_base.specs.declared.place.Place.{Place}
use Rattle.sr_base.specs.declared.ring_word.RingKind.{RingKind}
use Rattle.sr_base.specs.declared.ring_word.RingKind.TheVariants.{Close, Learn, Punt}
use Rattle.sr_base.specs.declared.ring_word.RingWord.{RingWord}
use Rattle.sr_inv_facts.proofs.Books.{found_key}
use Rattle.sr_inv_facts.proofs.Pipes.{idle, some_else, some_here}
use Rattle.sr_inv_facts.proofs.Printing.{job_tells, pipe_silent, stage_prints}
use Rattle.sr_inv_facts.proofs.Taking.{none_reported}
use Rattle.sr_inv_facts.specs.Fitted.{IsPacket}
use Rattle.sr_inv_facts.specs.Flying.{IsLeaving, SomeLeaving}
use Rattle.sr_inv_facts.specs.InJobs.{JobHolds, RetiredHolds, seen}
use Rattle.sr_inv_facts.specs.InOpenings.{IsLearned}
use Rattle.sr_inv_facts.specs.InTicks.{same}
use Rattle.sr_inv_facts.specs.Invariant.{Invariant}
use Rattle.sr_inv_facts.specs.Laws.{OpensWith}
use Rattle.sr_inv_facts.specs.OnTrack.{IsKnown}
use Rattle.sr_inv_facts.specs.Readings.{EachLearn, IfLearn, SomeLearn, ring_words}
use Rattle.sr_inv_matching.proofs.Members.{in_found}
use Rattle.sr_inv_openings.proofs.OpeningSteps.{answer_opens, leaving_opens, opening_known, opens_quiet, or_none, packet_opens}
use Rattle.sr_inv_openings.proofs.Parts.{LearnedAre}
use Rattle.sr_inv_openings.proofs.RingSteps.{AtOp, TellsLearn, left_was, pushed_from, pushed_ring, tells_learn}
use Rattle.sr_inv_openings.proofs.Speaking.{leaving_known, placed_unlearned, sent_known}
use Rattle.sr_law.specs.Opening.{opened_by, opening}
use Rattle.sr_law.specs.declared.line.Line.{Line}
use Rattle.sr_law.specs.declared.opening.Opening.{Opening}
use Rattle.sr_law.specs.declared.verdict.Verdict.{Verdict}
use Rattle.sr_machine.specs.Core.{Core, printed}
use Rattle.sr_machine.specs.Deciding.{ring_count}
use Rattle.sr_machine.specs.Draws.{answer_line}
use Rattle.sr_machine.specs.Jobs.{job_op}
use Rattle.sr_machine.specs.Keeping.{AfterJob, AfterStage, Keeps, job_core, stage_core}
use Rattle.sr_machine.specs.Opening.{opening_words}
use Rattle.sr_machine.specs.Ops.{op_answer, op_name, op_words}
use Rattle.sr_machine.specs.Pipe.{packet_line, pipe_after, pipe_op}
use Rattle.sr_machine.specs.Reads.{read_report}
use Rattle.sr_machine.specs.Stages.{report_by, report_of}
use Rattle.sr_machine.specs.declared.flight.Flight.{Flight}
use Rattle.sr_machine.specs.declared.job.Job.{Job}
use Rattle.sr_machine.specs.declared.op.Op.{Op}
use Rattle.sr_machine.specs.declared.pipe_view.PipeView.{PipeView}
use Rattle.sr_machine.specs.declared.reply.Reply.{Reply}
use Rattle.sr_machine.specs.declared.stage.Stage.{Stage}
use Rattle.sr_shadow.specs.Entry.{is_of}
use Rattle.std.proofs.Common.{Bool, List, None, Option, Some, ap, false, if◌then◌else◌, inl, inr, refl, slice_get, slice_set, subst, sym, true, ℕ, ◌∙◌, ◌∷◌, ◌≡◌, ◌≢◌, ◌⊎◌}
use Rattle.std.proofs.lemmas.Bool.{cases_eq}
use Rattle.std.proofs.lemmas.Option.{same_Some}
use Rattle.std.specs.Option.{option_or}
use Rattle.sr_machine.specs.declared.draw.Draw.TheVariants as draw
use Rattle.sr_machine.specs.declared.store.Store.TheVariants as store
use Rattle.sr_machine.specs.declared.job.Job.TheVariants as job
use Rattle.sr_machine.specs.declared.leg.Leg.TheVariants as leg
use Rattle.sr_machine.specs.declared.leg.Last.TheVariants as last
use Rattle.sr_machine.specs.declared.leg.Load.TheVariants as load
use Rattle.sr_machine.specs.declared.stage.Stage.TheVariants as stage
use Rattle.sr_machine.specs.declared.name.Name.TheVariants as name
use Rattle.sr_law.specs.declared.verdict.Verdict.TheVariants as verdict
use Rattle.sr_law.specs.declared.line.Line.TheVariants as line

pub learn_then : (kind : RingKind) (P Q : Type 0) → (kind ≡ Learn → P → Q) → IfLearn kind P → IfLearn kind Q
learn_then Learn P Q turn h = turn refl h
learn_then Punt P Q turn h = tt
learn_then Close P Q turn h = tt

-- what is learned, by the opening of its key
abbrev LearnedBy : Option Opening → List PipeView → KeyView → ℕ → Type 0
LearnedBy O pipes key version = ((o : Opening) × (O ≡ Some o) × (o.version ≡ version)) ⊎ ((O ≡ None) × SomeLeaving pipes key version)

-- a stage of a packet whose line isn't next
abbrev pub IsOffOut : Stage → Type 0
IsOffOut (stage.Fly f (leg.Judged u last.Out)) = ⊥
IsOffOut a = Unit {0}

pub off_leaving : (a : Stage) (key : KeyView) (version : ℕ) → IsOffOut a → IsLeaving key version a → ⊥
off_leaving (stage.Fly f (leg.Judged (verdict.To server n pool) last.Out)) key version off h = off
off_leaving a key version off h = absurd h

-- ---- a pipe's step

module _ (s : Core) (i : Invariant s) (p : ℕ) (v : PipeView) (q : slice_get s.pipes p ≡ Some v) where
  abbrev l : LayoutView
  l = s.config.layout

  -- a packet of another pipe leaves still
  pub leaving_stays : (a : Stage) → v.stage ≡ a → IsOffOut a → (w : PipeView) (key : KeyView) (version : ℕ) → SomeLeaving s.pipes key version
      → SomeLeaving (slice_set s.pipes p w) key version
  leaving_stays a e off w key version (n, u, g, h) = at (cases_eq n p)
    where
      at : (n ≡ p) ⊎ (n ≢ p) → SomeLeaving (slice_set s.pipes p w) key version
      at (inl same) =
          let here : v ≡ u = same_Some v u (sym q ∙ (ap (slice_get s.pipes) (sym same) ∙ g)) in
          absurd (off_leaving a key version off (subst (IsLeaving key version) (ap (λ z. z.stage) (sym here) ∙ e) h))
      at (inr apart) = some_else s.pipes p v w q (λ n z. IsLeaving key version z.stage) n u apart g h

  -- a step that stores no report and draws no line
  calm : (a : Stage) (o : Option Op) → v.stage ≡ a → IsOffOut a → AtOp o (λ o. ring_words (op_words s.words o) ≡ ring_words s.words)
      → AfterStage (λ t. printed t ≡ printed s) s p v a o
      → AfterStage LearnedAre s p v a o
  calm a None e off same lines = tt
  calm a (Some o) e off same lines =
      let w = pipe_after l v a (op_answer o (s.words (op_name o))) in
      subst (λ r. EachLearn l r (IsLearned (printed (stage_core s p v a o)) (slice_set s.pipes p w))) (sym same)
      (subst (λ ls. EachLearn l (ring_words s.words) (IsLearned ls (slice_set s.pipes p w))) (sym lines)
      (λ n c r read. learn_then r.kind (IsLearned (printed s) s.pipes r.key r.version) (IsLearned (printed s) (slice_set s.pipes p w) r.key r.version)
      (λ kind h. by w r.key r.version h) (i.openings.openings.learned n c r read)))
    where
      by : (w : PipeView) (key : KeyView) (n : ℕ) → IsLearned (printed s) s.pipes key n → IsLearned (printed s) (slice_set s.pipes p w) key n
      by w key n (inl h) = inl h
      by w key n (inr h) = inr (h.0, leaving_stays a e off w key n h.1)

  -- a report is stored
  pushed : (f : Flight) (u : Verdict) (e : v.stage ≡ stage.Fly f (leg.Judged u last.Push)) (w : PipeView)
      → w.stage ≡ stage.Fly f (leg.Judged u last.Out)
      → EachLearn l (pushed_ring s i p v q f u e) (IsLearned (printed s) (slice_set s.pipes p w))
  pushed f u e w is n c r read =
      learn_then r.kind (Unit {0}) (IsLearned (printed s) (slice_set s.pipes p w) r.key r.version) (λ kind t. by kind (pushed_from s i p v q f u e n c r read))
      (free r.kind)
    where
      free : (kind : RingKind) → IfLearn kind (Unit {0})
      free Learn = tt
      free Punt = tt
      free Close = tt

      old : IsLearned (printed s) s.pipes r.key r.version → IsLearned (printed s) (slice_set s.pipes p w) r.key r.version
      old (inl h) = inl h
      old (inr h) = inr (h.0, leaving_stays (stage.Fly f (leg.Judged u last.Push)) e tt w r.key r.version h.1)

      new : (t : TellsLearn f.packet.key f.packet.kind u r) → (O : Option Opening) → opening (printed s) r.key ≡ O → LearnedBy O (slice_set s.pipes p w) r.key r.version
      new t (Some o) d =
          let at_push : v.stage ≡ stage.Fly f (leg.Judged (verdict.To t.server r.version t.pool) last.Push) =
          e ∙ ap (λ z. stage.Fly f (leg.Judged z last.Push)) t.sent in
          inl (o, refl, sym (sent_known s i p v f t.server r.version t.pool last.Push q at_push t.opener o.version (subst (λ z. IsKnown l (ring_words s.words) s.controller.book.entries z o.version) t.own (opening_known s i r.key o d))))
      new t None d =
          inr (refl, some_here s.pipes p v w q (λ n z. IsLeaving r.key r.version z.stage) (subst (IsLeaving r.key r.version) (sym (is ∙ ap (λ z. stage.Fly f (leg.Judged z last.Out)) t.sent)) (t.opener, sym t.own, refl)))

      by : r.kind ≡ Learn → (read_report l (s.words (name.Ring n c)) ≡ Some r) ⊎ (r ≡ report_by f.packet.key f.packet.kind u)
          → IsLearned (printed s) (slice_set s.pipes p w) r.key r.version
      by kind (inl was) = old (subst (λ z. IfLearn z (IsLearned (printed s) s.pipes r.key r.version)) kind (i.openings.openings.learned n c r was))
      by kind (inr own) = new (tells_learn f.packet.key f.packet.kind u r own kind) (opening (printed s) r.key) refl

  -- a packet's line is drawn
  left : (f : Flight) (u : Verdict) (e : v.stage ≡ stage.Fly f (leg.Judged u last.Out)) (w : PipeView) (x : ℕ)
      → EachLearn l (ring_words s.words) (IsLearned (packet_line v.number f u x ∷ printed s) (slice_set s.pipes p w))
  left f u e w x n c r read =
      learn_then r.kind (IsLearned (printed s) s.pipes r.key r.version) _ (λ kind h. by kind h) (i.openings.openings.learned n c r read)
    where
      learns : r.kind ≡ Learn → SomeLearn l (ring_words s.words) r.key r.version
      learns kind = (n, c, read ∙ ap (λ z. Some (record { kind = z; version = r.version; key = r.key })) kind)

      out : r.kind ≡ Learn → SomeLeaving s.pipes r.key r.version → (O : Option Opening) → opened_by (packet_line v.number f u x) r.key ≡ O → LearnedBy O (slice_set s.pipes p w) r.key r.version
      out kind h (Some o) g =
          let a = packet_opens v.number f u x r.key o g in
          let at_out : v.stage ≡ stage.Fly f (leg.Judged (verdict.To a.server o.version o.pool) last.Out) =
          e ∙ ap (λ z. stage.Fly f (leg.Judged z last.Out)) a.sent in
          inl (o, refl, sent_known s i p v f a.server o.version o.pool last.Out q at_out a.opener r.version (inr (subst (λ z. SomeLearn l (ring_words s.words) z r.version) (sym a.own) (learns kind))))
      out kind (m, z, d, h) None g = inr (refl, two (cases_eq m p))
        where
          two : (m ≡ p) ⊎ (m ≢ p) → SomeLeaving (slice_set s.pipes p w) r.key r.version
          two (inl same) =
              let here : v ≡ z = same_Some v z (sym q ∙ (ap (slice_get s.pipes) (sym same) ∙ d)) in
              absurd (leaving_opens v.number f u x r.key r.version (subst (IsLeaving r.key r.version) (ap (λ z. z.stage) (sym here) ∙ e) h) g)
          two (inr apart) = some_else s.pipes p v w q (λ n z. IsLeaving r.key r.version z.stage) m z apart d h

      by : r.kind ≡ Learn → IsLearned (printed s) s.pipes r.key r.version → IsLearned (packet_line v.number f u x ∷ printed s) (slice_set s.pipes p w) r.key r.version
      by kind (inl (o, g, h)) = inl (o, ap (λ O. option_or O (opened_by (packet_line v.number f u x) r.key)) g, h)
      by kind (inr (none, h)) =
          subst (λ O. LearnedBy O (slice_set s.pipes p w) r.key r.version) (sym (ap (λ O. option_or O (opened_by (packet_line v.number f u x) r.key)) none))
          (out kind h (opened_by (packet_line v.number f u x) r.key) refl)

  -- a packet enters
  pub learned_enter : (packet : Packet) → v.stage ≡ stage.Idle
      → LearnedAre (record s { pipes = slice_set s.pipes p (record v { stage = stage.Enter packet }) })
  learned_enter packet e =
      let w = record v { stage = stage.Enter packet } in
      subst (λ ls. EachLearn l (ring_words s.words) (IsLearned ls (slice_set s.pipes p (record v { stage = stage.Enter packet }))))
      (sym (pipe_silent s p v (record v { stage = stage.Enter packet }) q refl s.words))
      (λ n c r read. learn_then r.kind (IsLearned (printed s) s.pipes r.key r.version) (IsLearned (printed s) (slice_set s.pipes p w) r.key r.version)
      (λ kind h. by w r.key r.version h) (i.openings.openings.learned n c r read))
    where
      by : (w : PipeView) (key : KeyView) (n : ℕ) → IsLearned (printed s) s.pipes key n → IsLearned (printed s) (slice_set s.pipes p w) key n
      by w key n (inl h) = inl h
      by w key n (inr h) = inr (h.0, leaving_stays stage.Idle e tt w key n h.1)

  pub learned_stage : (a : Stage) → v.stage ≡ a → AfterStage LearnedAre s p v a (pipe_op l v a)
  learned_stage stage.Idle e = tt
  learned_stage (stage.Fly f (leg.Judged u last.Push)) e =
      subst (λ ls. EachLearn l (pushed_ring s i p v q f u e) (IsLearned ls (slice_set s.pipes p (pipe_after l v (stage.Fly f (leg.Judged u last.Push)) (report_of f u)))))
      (sym (stage_prints s p v (stage.Fly f (leg.Judged u last.Push)) i.ticks q)) (pushed f u e (pipe_after l v (stage.Fly f (leg.Judged u last.Push)) (report_of f u)) refl)
  learned_stage (stage.Fly f (leg.Judged u last.Out)) e =
      subst (λ ls. EachLearn l (ring_words s.words) (IsLearned ls (slice_set s.pipes p (pipe_after l v (stage.Fly f (leg.Judged u last.Out)) (s.words name.Tick)))))
      (sym (stage_prints s p v (stage.Fly f (leg.Judged u last.Out)) i.ticks q)) (left f u e (pipe_after l v (stage.Fly f (leg.Judged u last.Out)) (s.words name.Tick)) (s.words name.Tick))
  learned_stage (stage.Fly f (leg.Chosen n load.Head)) e =
      calm (stage.Fly f (leg.Chosen n load.Head)) (pipe_op l v (stage.Fly f (leg.Chosen n load.Head))) e tt refl (stage_prints s p v (stage.Fly f (leg.Chosen n load.Head)) i.ticks q)
  learned_stage a e = calm a (pipe_op l v a) e tt refl (stage_prints s p v a i.ticks q)

-- ---- the controller's step

module _ (s : Core) (i : Invariant s) where
  abbrev k : LayoutView
  k = s.config.layout

  -- where openings stay
  same_lines : (after : ℕ → ℕ → ℕ) (lines : List Line) → ((key : KeyView) → opening lines key ≡ opening (printed s) key)
      → ((n c : ℕ) (w : RingWord) → read_report k (after n c) ≡ Some w → read_report k (s.words (name.Ring n c)) ≡ Some w)
      → EachLearn k after (IsLearned lines s.pipes)
  same_lines after lines opens was n c r read =
      learn_then r.kind (IsLearned (printed s) s.pipes r.key r.version) _ (λ kind h. subst (λ O. LearnedBy O s.pipes r.key r.version) (sym (opens r.key)) h)
      (i.openings.openings.learned n c r (was n c r read))

  learned_plain : (j : Job) (o : Option Op) → AtOp o (λ o. (n c : ℕ) (w : RingWord) → read_report k (ring_words (op_words s.words o) n c) ≡ Some w → read_report k (s.words (name.Ring n c)) ≡ Some w)
      → AfterJob (λ t. (key : KeyView) → opening (printed t) key ≡ opening (printed s) key) s j o
      → AfterJob LearnedAre s j o
  learned_plain j None was opens = tt
  learned_plain j (Some o) was opens = same_lines (ring_words (op_words s.words o)) (printed (job_core s j o)) opens was

  -- nothing is learned of a key that is retired
  learned_retired : (key : KeyView) (place : Place) (version x : ℕ) → s.controller.job ≡ job.Draw (draw.Retired key place version)
      → EachLearn k (ring_words s.words) (IsLearned (line.Retired x key ∷ printed s) s.pipes)
  learned_retired key place version x e n c r read =
      learn_then r.kind (IsLearned (printed s) s.pipes r.key r.version) _ (λ kind h. by kind (same_key key r.key) refl h) (i.openings.openings.learned n c r read)
    where
      holds_so : RetiredHolds s.config s.controller.book.entries key place version
      holds_so = subst (JobHolds s.config (seen s.controller) (printed s)) e i.jobs.holds.stands

      by : r.kind ≡ Learn → (b : Bool) → same_key key r.key ≡ b → IsLearned (printed s) s.pipes r.key r.version
          → LearnedBy (if b then None else option_or (opening (printed s) r.key) None) s.pipes r.key r.version
      by kind true t h =
          let w = holds_so.entry in
          let own : r.key ≡ w.key = sym (same_key-true key r.key t) ∙ found_key key s.controller.book.entries w holds_so.found in
          absurd (placed_unlearned s i w place (in_found (is_of key) s.controller.book.entries w holds_so.found) holds_so.stands r.version
          (subst (λ z. SomeLearn k (ring_words s.words) z r.version) own (n, c, read ∙ ap (λ z. Some (record { kind = z; version = r.version; key = r.key })) kind)))
      by kind false t h = subst (λ O. LearnedBy O s.pipes r.key r.version) (sym (or_none (opening (printed s) r.key))) h

  -- an answer opens its key with the version that is learned
  learned_answer : (r : Reply) (x : ℕ) → s.controller.job ≡ job.Draw (draw.Answer r)
      → EachLearn k (ring_words s.words) (IsLearned (answer_line s.config s.controller r x ∷ printed s) s.pipes)
  learned_answer y x e n c r read =
      learn_then r.kind (IsLearned (printed s) s.pipes r.key r.version) _ (λ kind h. by h) (i.openings.openings.learned n c r read)
    where
      new : SomeLeaving s.pipes r.key r.version → (O : Option Opening) → opened_by (answer_line s.config s.controller y x) r.key ≡ O → LearnedBy O s.pipes r.key r.version
      new h (Some o) g =
          let a = answer_opens s i y e x r.key o g in
          inl (o, refl, a.version ∙ sym (leaving_known s i r.key r.version a.entry.version h (inl (a.entry, a.found, refl))))
      new h None g = inr (refl, h)

      by : IsLearned (printed s) s.pipes r.key r.version → IsLearned (answer_line s.config s.controller y x ∷ printed s) s.pipes r.key r.version
      by (inl (o, g, h)) = inl (o, ap (λ O. option_or O (opened_by (answer_line s.config s.controller y x) r.key)) g, h)
      by (inr (none, h)) =
          subst (λ O. LearnedBy O s.pipes r.key r.version) (sym (ap (λ O. option_or O (opened_by (answer_line s.config s.controller y x) r.key)) none))
          (new h (opened_by (answer_line s.config s.controller y x) r.key) refl)

  learned_job : (j : Job) → s.controller.job ≡ j → AfterJob LearnedAre s j (job_op s.config s.controller j)
  learned_job job.Free e = tt
  learned_job (job.Draw (draw.Retired key place version)) e =
      subst (λ ls. EachLearn k (ring_words s.words) (IsLearned ls s.pipes)) (sym (job_tells s (job.Draw (draw.Retired key place version)) i.ticks)) (learned_retired key place version (s.words name.Tick) e)
  learned_job (job.Draw (draw.Answer r)) e =
      subst (λ ls. EachLearn k (ring_words s.words) (IsLearned ls s.pipes)) (sym (job_tells s (job.Draw (draw.Answer r)) i.ticks)) (learned_answer r (s.words name.Tick) e)
  learned_job (job.Drain pipe count w) e =
      learned_plain (job.Drain pipe count w) (job_op s.config s.controller (job.Drain pipe count w)) (left_was k s.words pipe (ring_count s.controller.rings pipe).words) (opens_quiet s i (job.Drain pipe count w) tt)
  learned_job (job.Look pipe) e =
      learned_plain (job.Look pipe) (job_op s.config s.controller (job.Look pipe)) (left_was k s.words pipe (ring_count s.controller.rings pipe).words) (opens_quiet s i (job.Look pipe) tt)
  learned_job (job.Store (store.Down server)) e =
      learned_plain (job.Store (store.Down server)) (job_op s.config s.controller (job.Store (store.Down server))) (λ n c w h. h) (opens_quiet s i (job.Store (store.Down server)) tt)
  learned_job j e = learned_plain j (job_op s.config s.controller j) (λ n c w h. h) (opens_quiet s i j tt)

pub learned_keep : Keeps IsPacket Invariant LearnedAre
learned_keep = record {
  stages = λ s p v a q e i f. learned_stage s i p v q a e;
  begins = λ s i f. f;
  jobs = λ s j q b i f. learned_job s i j q;
  enters = λ s p v packet q r u n a i f. learned_enter s i p v q packet (idle v.stage r);
  clocks = λ s ms q i f. f;
  refusals = λ s q i f. f;
}

pub learned_part : (s : Core) → Invariant s → LearnedAre s
learned_part s i = i.openings.openings.learned

pub learned_open : OpensWith LearnedAre
unfolding opening_words
learned_open k f n c r read = absurd (none_reported k.layout 0 r refl read)
