-- A key that is open and isn't registered has its report in a ring: every event keeps it.
use Rattle.sr_base.specs.Key.{KeyView, same_key}
use Rattle.sr_base.specs.Layout.{LayoutView}
use Rattle.sr_base.specs.declared.kind.Kind.TheVariants.{Opener}
use Rattle.sr_base.specs.declared.packet.Packet.{Packet}
use Rattle.sr_base.specs.declared.ring_word.RingKind.TheVariants.{Learn}
use Rattle.sr_inv_facts.proofs.OpeningLines.{opening_all}
use Rattle.sr_inv_facts.proofs.Printing.{job_tells, pipe_silent, stage_prints}
use Rattle.sr_inv_facts.proofs.Taking.{TakesBook, takes}
use Rattle.sr_inv_facts.specs.Fitted.{IsPacket}
use Rattle.sr_inv_facts.specs.Flying.{OnLeg}
use Rattle.sr_inv_facts.specs.InOpenings.{IsPushed, IsRegisteredWith, IsReported, LegPushed}
use Rattle.sr_inv_facts.specs.InTicks.{same}
use Rattle.sr_inv_facts.specs.Invariant.{Invariant}
use Rattle.sr_inv_facts.specs.Laws.{OpensWith}
use Rattle.sr_inv_facts.specs.Readings.{SomeLearn, ring_words}
use Rattle.sr_inv_matching.proofs.Members.{registered_found}
use Rattle.sr_inv_openings.proofs.OpeningSteps.{PacketOpens, answer_opens, given_named, opens_quiet, or_none, packet_opens}
use Rattle.sr_inv_openings.proofs.Parts.{ReportedAre}
use Rattle.sr_inv_openings.proofs.Registering.{judged_registered, learn_registers, registered_changed, registered_some, take_registered, without_registered}
use Rattle.sr_inv_openings.proofs.RingSteps.{AtOp, learn_left, learn_pushed, taken_ring}
use Rattle.sr_inv_openings.proofs.Speaking.{learn_current, sent_pool}
use Rattle.sr_law.specs.Opening.{opened_by, opening, retires}
use Rattle.sr_law.specs.declared.line.Line.{Line}
use Rattle.sr_law.specs.declared.opening.Opening.{Opening}
use Rattle.sr_law.specs.declared.verdict.Verdict.{Verdict}
use Rattle.sr_machine.specs.Config.{Config}
use Rattle.sr_machine.specs.Core.{Core, enters, printed}
use Rattle.sr_machine.specs.Deciding.{is_withdrawn, named_at, ring_count, version_for}
use Rattle.sr_machine.specs.Draws.{answer_line}
use Rattle.sr_machine.specs.Jobs.{book_next, job_op, named_next}
use Rattle.sr_machine.specs.Keeping.{AfterJob, AfterStage, Keeps}
use Rattle.sr_machine.specs.Ops.{op_answer, op_name, op_words}
use Rattle.sr_machine.specs.Pipe.{packet_line, pipe_op}
use Rattle.sr_machine.specs.Reads.{read_flag, read_report}
use Rattle.sr_machine.specs.Stages.{ring_cell}
use Rattle.sr_machine.specs.Taking.{ended_by, taking}
use Rattle.sr_machine.specs.declared.flight.Flight.{Flight}
use Rattle.sr_machine.specs.declared.job.Job.{Job}
use Rattle.sr_machine.specs.declared.op.Op.{Op}
use Rattle.sr_machine.specs.declared.pipe_view.PipeView.{PipeView}
use Rattle.sr_machine.specs.declared.reply.Reply.{Reply}
use Rattle.sr_machine.specs.declared.stage.Stage.{Stage}
use Rattle.sr_shadow.specs.Book.{entry_for, is_registered, without_key}
use Rattle.sr_shadow.specs.Entry.{left_other, swept}
use Rattle.sr_shadow.specs.declared.entry.Entry.{Entry}
use Rattle.sr_update.specs.declared.number_state.NumberState.TheVariants.{Current, Free}
use Rattle.std.proofs.Common.{Bool, List, None, Option, Some, [], ap, false, if◌then◌else◌, inl, inr, refl, slice_get, slice_set, subst, sym, true, true≢false, ℕ, ◌%◌, ◌∙◌, ◌∷◌, ◌≡◌, ◌⊎◌}
use Rattle.std.specs.List.{AllByRecursion}
use Rattle.std.specs.Option.{option_or}
use Rattle.sr_machine.specs.declared.draw.Draw.TheVariants as draw
use Rattle.sr_machine.specs.declared.store.Store.TheVariants as store
use Rattle.sr_machine.specs.declared.job.Job.TheVariants as job
use Rattle.sr_machine.specs.declared.leg.Leg.TheVariants as leg
use Rattle.sr_machine.specs.declared.leg.Last.TheVariants as last
use Rattle.sr_machine.specs.declared.leg.Load.TheVariants as load
use Rattle.sr_machine.specs.declared.stage.Stage.TheVariants as stage
use Rattle.sr_machine.specs.declared.name.Name.TheVariants as name
use Rattle.sr_law.specs.declared.verdict.Verdict.TheVariants as verdict
use Rattle.sr_law.specs.declared.line.Line.TheVariants as line
use Rattle.sr_machine.specs.Core as core

-- what is owed of such a key, for other rings, pools and openings
report_turns : (l : LayoutView) (ring after : ℕ → ℕ → ℕ) (named next : List (List ℕ)) (key : KeyView) (O : Option Opening)
    → ((o : Opening) → SomeLearn l ring key o.version → SomeLearn l after key o.version × (named_at next key.vip o.version ≡ named_at named key.vip o.version))
    → IsReported l ring named key O → IsReported l after next key O
report_turns l ring after named next key None turn h = tt
report_turns l ring after named next key (Some o) turn h = let z = turn o h.0 in (z.0, h.1 ∙ sym z.1)

-- ---- a pipe's step

module _ (s : Core) (i : Invariant s) (p : ℕ) (v : PipeView) (q : slice_get s.pipes p ≡ Some v) where
  abbrev l : LayoutView
  l = s.config.layout

  abbrev es : List Entry
  es = s.controller.book.entries

  -- a step that draws no line
  calm : (a : Stage) (o : Option Op) → AtOp o (λ o. (key : KeyView) (n : ℕ) → SomeLearn l (ring_words s.words) key n → SomeLearn l (ring_words (op_words s.words o)) key n)
      → AfterStage (λ t. printed t ≡ printed s) s p v a o
      → AfterStage ReportedAre s p v a o
  calm a None stays lines = tt
  calm a (Some o) stays lines = λ key none.
      subst (λ ls. IsReported l (ring_words (op_words s.words o)) s.controller.named key (opening ls key)) (sym lines)
      (report_turns l (ring_words s.words) (ring_words (op_words s.words o)) s.controller.named s.controller.named key (opening (printed s) key) (λ z h. (stays key z.version h, refl))
      (i.openings.openings.reported key none))

  -- a packet's line is drawn
  left : (f : Flight) (u : Verdict) (e : v.stage ≡ stage.Fly f (leg.Judged u last.Out)) (x : ℕ) (key : KeyView) → is_registered key es ≡ false
      → IsReported l (ring_words s.words) s.controller.named key (opening (packet_line v.number f u x ∷ printed s) key)
  left f u e x key none = at (opening (printed s) key) refl
    where
      sent : (f : Flight) (u : Verdict) (server n pool : ℕ) → v.stage ≡ stage.Fly f (leg.Judged u last.Out) → u ≡ verdict.To server n pool → f.packet.kind ≡ Opener
          → IsPushed l (ring_words s.words) es f.packet.key Opener (verdict.To server n pool) last.Out
      sent f u server n pool e d k =
          subst (λ z. IsPushed l (ring_words s.words) es f.packet.key z (verdict.To server n pool) last.Out) k
          (subst (λ z. IsPushed l (ring_words s.words) es f.packet.key f.packet.kind z last.Out) d
          (subst (λ z. OnLeg z (LegPushed l (ring_words s.words) es)) e (i.openings.openings.pushed p v q)))

      new : (O : Option Opening) → opened_by (packet_line v.number f u x) key ≡ O → IsReported l (ring_words s.words) s.controller.named key O
      new None g = tt
      new (Some o) g =
          let a = packet_opens v.number f u x key o g in (
            by a (sent f u a.server o.version o.pool e a.sent a.opener),
            sym (ap (λ z. named_at s.controller.named z.vip o.version) (sym a.own) ∙ sent_pool s i p v f a.server o.version o.pool last.Out q (e ∙ ap (λ z. stage.Fly f (leg.Judged z last.Out)) a.sent)),
          )
        where
          by : PacketOpens f u key o → SomeLearn l (ring_words s.words) f.packet.key o.version ⊎ IsRegisteredWith es f.packet.key o.version
              → SomeLearn l (ring_words s.words) key o.version
          by a (inl h) = subst (λ z. SomeLearn l (ring_words s.words) z o.version) a.own h
          by a (inr h) =
              absurd (true≢false (sym (registered_found key es h.0 (ap (λ z. entry_for z es) (sym a.own) ∙ h.1)) ∙ none))

      at : (O : Option Opening) → opening (printed s) key ≡ O
          → IsReported l (ring_words s.words) s.controller.named key (option_or (opening (printed s) key) (opened_by (packet_line v.number f u x) key))
      at None g =
          subst (IsReported l (ring_words s.words) s.controller.named key) (sym (ap (λ O. option_or O (opened_by (packet_line v.number f u x) key)) g))
          (new (opened_by (packet_line v.number f u x) key) refl)
      at (Some o) g =
          subst (IsReported l (ring_words s.words) s.controller.named key) (g ∙ sym (ap (λ O. option_or O (opened_by (packet_line v.number f u x) key)) g))
          (i.openings.openings.reported key none)

  pub reported_enter : (packet : Packet) → ReportedAre (record s { pipes = slice_set s.pipes p (record v { stage = stage.Enter packet }) })
  reported_enter packet key none =
      subst (λ ls. IsReported l (ring_words s.words) s.controller.named key (opening ls key)) (sym (pipe_silent s p v (record v { stage = stage.Enter packet }) q refl s.words))
      (i.openings.openings.reported key none)

  pub reported_stage : (a : Stage) → v.stage ≡ a → AfterStage ReportedAre s p v a (pipe_op l v a)
  reported_stage stage.Idle e = tt
  reported_stage (stage.Fly f (leg.Judged u last.Push)) e =
      calm (stage.Fly f (leg.Judged u last.Push)) (pipe_op l v (stage.Fly f (leg.Judged u last.Push))) (λ key n h. learn_pushed s i p v q f u e key n h) (stage_prints s p v (stage.Fly f (leg.Judged u last.Push)) i.ticks q)
  reported_stage (stage.Fly f (leg.Judged u last.Out)) e = λ key none.
      subst (λ ls. IsReported l (ring_words s.words) s.controller.named key (opening ls key)) (sym (stage_prints s p v (stage.Fly f (leg.Judged u last.Out)) i.ticks q))
      (left f u e (s.words name.Tick) key none)
  reported_stage (stage.Fly f (leg.Chosen n load.Head)) e =
      calm (stage.Fly f (leg.Chosen n load.Head)) (pipe_op l v (stage.Fly f (leg.Chosen n load.Head))) (λ key n h. h) (stage_prints s p v (stage.Fly f (leg.Chosen n load.Head)) i.ticks q)
  reported_stage a e = calm a (pipe_op l v a) (λ key n h. h) (stage_prints s p v a i.ticks q)

-- ---- the controller's step

-- a key that isn't registered after keys came to be wasn't before
unregistered : (es fs : List Entry) (key : KeyView) → ((n : ℕ) → IsRegisteredWith es key n → IsRegisteredWith fs key n) → is_registered key fs ≡ false
    → is_registered key es ≡ false
unregistered es fs key stays none = at (is_registered key es) refl
  where
    at : (b : Bool) → is_registered key es ≡ b → b ≡ false
    at true t =
        let w = registered_some key es t in
        let r = stays w.0.version (w.0, w.1, refl) in
        absurd (true≢false (sym (registered_found key fs r.0 r.1) ∙ none))
    at false t = refl

module _ (s : Core) (i : Invariant s) where
  abbrev k : LayoutView
  k = s.config.layout

  abbrev book : List Entry
  book = s.controller.book.entries

  -- where openings stay and keys stay registered
  reported_plain : (j : Job) (o : Option Op) → AtOp o (λ o. ring_words (op_words s.words o) ≡ ring_words s.words)
      → ((x : ℕ) (key : KeyView) (n : ℕ) → IsRegisteredWith book key n → IsRegisteredWith (book_next s.config s.controller j x).entries key n)
      → ((key : KeyView) (n : ℕ) → SomeLearn k (ring_words s.words) key n → named_at (named_next s.controller j) key.vip n ≡ named_at s.controller.named key.vip n)
      → AfterJob (λ t. (key : KeyView) → opening (printed t) key ≡ opening (printed s) key) s j o
      → AfterJob ReportedAre s j o
  reported_plain j None same stays names opens = tt
  reported_plain j (Some o) same stays names opens = λ key none.
      let fs = (book_next s.config s.controller j (op_answer o (s.words (op_name o)))).entries in
      subst (λ O. IsReported k (ring_words (op_words s.words o)) (named_next s.controller j) key O) (sym (opens key))
      (report_turns k (ring_words s.words) (ring_words (op_words s.words o)) s.controller.named (named_next s.controller j) key (opening (printed s) key)
      (λ z h. (subst (λ r. SomeLearn k r key z.version) (sym same) h, names key z.version h))
      (i.openings.openings.reported key (unregistered book fs key (stays (op_answer o (s.words (op_name o))) key) none)))

  -- a take
  reported_take : (ended : Option KeyView) (pipe : ℕ) (key : KeyView)
      → is_registered key (taking s.config s.controller ended pipe (s.words (ring_cell k pipe (ring_count s.controller.rings pipe).words))).book.entries ≡ false
      → IsReported k (taken_ring k s.words pipe (ring_count s.controller.rings pipe).words) s.controller.named key (opening (printed s) key)
  reported_take ended pipe key none =
      report_turns k (ring_words s.words) (taken_ring k s.words pipe taken) s.controller.named s.controller.named key (opening (printed s) key)
      (λ z h. (by z.version (learn_left k s.words pipe taken key z.version h), refl)) (i.openings.openings.reported key before)
    where
      taken : ℕ
      taken = (ring_count s.controller.rings pipe).words

      x : ℕ
      x = s.words (ring_cell k pipe (ring_count s.controller.rings pipe).words)

      took : TakesBook k s.controller.numbers ended (s.words (ring_cell k pipe (ring_count s.controller.rings pipe).words)) s.controller.book
          (taking s.config s.controller ended pipe (s.words (ring_cell k pipe (ring_count s.controller.rings pipe).words))).book
      took = (takes s.config s.controller ended pipe (s.words (ring_cell k pipe (ring_count s.controller.rings pipe).words))).book

      before : is_registered key book ≡ false
      before = unregistered book _ key (λ n h. take_registered k s.controller.numbers ended x s.controller.book _ took key n h) none

      by : (n : ℕ) → SomeLearn k (taken_ring k s.words pipe (ring_count s.controller.rings pipe).words) key n ⊎ (read_report k x ≡ Some (record { kind = Learn; version = n; key = key }))
          → SomeLearn k (taken_ring k s.words pipe (ring_count s.controller.rings pipe).words) key n
      by n (inl h) = h
      by n (inr h) =
          absurd (two (learn_registers k s.controller.numbers ended x s.controller.book _ took key n h (learn_current s i pipe (taken % k.shape.ring) _ h refl)))
        where
          two : IsRegisteredWith (taking s.config s.controller ended pipe (s.words (ring_cell k pipe (ring_count s.controller.rings pipe).words))).book.entries key n ⊎ (is_registered key book ≡ true) → ⊥
          two (inl r) = true≢false (sym (registered_found key _ r.0 r.1) ∙ none)
          two (inr r) = true≢false (sym r ∙ before)

  -- a connection that is retired isn't open
  reported_retired : (of : KeyView) (x : ℕ) (key : KeyView) → is_registered key (without_key of book) ≡ false
      → IsReported k (ring_words s.words) s.controller.named key (opening (line.Retired x of ∷ printed s) key)
  reported_retired of x key none = at (same_key of key) refl
    where
      at : (b : Bool) → same_key of key ≡ b
          → IsReported k (ring_words s.words) s.controller.named key (if b then None else option_or (opening (printed s) key) None)
      at true t = tt
      at false t =
          subst (IsReported k (ring_words s.words) s.controller.named key) (sym (or_none (opening (printed s) key)))
          (i.openings.openings.reported key (sym (without_registered of key t book) ∙ none))

  -- an answer opens registered keys alone
  reported_answer : (r : Reply) (x : ℕ) → s.controller.job ≡ job.Draw (draw.Answer r) → (key : KeyView) → is_registered key book ≡ false
      → IsReported k (ring_words s.words) s.controller.named key (opening (answer_line s.config s.controller r x ∷ printed s) key)
  reported_answer r x e key none = at (opened_by (answer_line s.config s.controller r x) key) refl
    where
      at : (O : Option Opening) → opened_by (answer_line s.config s.controller r x) key ≡ O
          → IsReported k (ring_words s.words) s.controller.named key (option_or (opening (printed s) key) (opened_by (answer_line s.config s.controller r x) key))
      at None g =
          subst (IsReported k (ring_words s.words) s.controller.named key) (sym (ap (option_or (opening (printed s) key)) g ∙ or_none (opening (printed s) key))) (i.openings.openings.reported key none)
      at (Some o) g =
          let a = answer_opens s i r e x key o g in absurd (true≢false (sym (registered_found key book a.entry a.found) ∙ none))

  reported_job : (j : Job) → s.controller.job ≡ j → AfterJob ReportedAre s j (job_op s.config s.controller j)
  reported_job job.Free e = tt
  reported_job (job.Draw (draw.Retired of place version)) e = λ key none.
      subst (λ ls. IsReported k (ring_words s.words) s.controller.named key (opening ls key)) (sym (job_tells s (job.Draw (draw.Retired of place version)) i.ticks)) (reported_retired of (s.words name.Tick) key none)
  reported_job (job.Draw (draw.Answer r)) e = λ key none.
      subst (λ ls. IsReported k (ring_words s.words) s.controller.named key (opening ls key)) (sym (job_tells s (job.Draw (draw.Answer r)) i.ticks)) (reported_answer r (s.words name.Tick) e key none)
  reported_job (job.Draw (draw.Given u)) e =
      reported_plain (job.Draw (draw.Given u)) (job_op s.config s.controller (job.Draw (draw.Given u))) refl (λ x key n h. h)
      (λ key n h. given_named s i u e key.vip n (λ free. apart (sym (learn_current s i h.0 h.1 (record { kind = Learn; version = n; key = key }) h.2 refl) ∙ free)))
      (opens_quiet s i (job.Draw (draw.Given u)) tt)
    where
      apart : Some Current ≡ Some Free → ⊥
      apart z = cc
  reported_job (job.Drain pipe count w) e = λ key none.
      subst (IsReported k (taken_ring k s.words pipe (ring_count s.controller.rings pipe).words) s.controller.named key) (sym (opens_quiet s i (job.Drain pipe count w) tt key))
      (reported_take (ended_by (job.Drain pipe count w)) pipe key none)
  reported_job (job.Look pipe) e = λ key none.
      subst (IsReported k (taken_ring k s.words pipe (ring_count s.controller.rings pipe).words) s.controller.named key) (sym (opens_quiet s i (job.Look pipe) tt key))
      (reported_take None pipe key none)
  reported_job (job.Store (store.Judge p)) e =
      reported_plain (job.Store (store.Judge p)) (job_op s.config s.controller (job.Store (store.Judge p))) refl
      (λ x key n h. judged_registered (is_withdrawn s.config s.controller p) p (version_for s.controller.vips s.controller.book.entries p.key) s.controller.book key n h) (λ key n h. refl)
      (opens_quiet s i (job.Store (store.Judge p)) tt)
  reported_job (job.Store (store.Empty key place w)) e =
      reported_plain (job.Store (store.Empty key place w)) (job_op s.config s.controller (job.Store (store.Empty key place w))) refl
      (λ x other n h. registered_changed left_other key book (λ e. refl) (λ e. refl) other n h) (λ key n h. refl) (opens_quiet s i (job.Store (store.Empty key place w)) tt)
  reported_job (job.Hit from ms key place number) e =
      reported_plain (job.Hit from ms key place number) (job_op s.config s.controller (job.Hit from ms key place number)) refl
      (λ x other n h. registered_changed (swept (read_flag x)) key book (λ e. refl) (λ e. refl) other n h) (λ key n h. refl) (opens_quiet s i (job.Hit from ms key place number) tt)
  reported_job j e =
      reported_plain j (job_op s.config s.controller j) refl (λ x key n h. h) (λ key n h. refl) (opens_quiet s i j tt)

pub reported_keep : Keeps IsPacket Invariant ReportedAre
reported_keep = record {
  stages = λ s p v a q e i f. reported_stage s i p v q a e;
  begins = λ s i f. f;
  jobs = λ s j q b i f. reported_job s i j q;
  enters = λ s p v packet q r u n a i f. reported_enter s i p v q packet;
  clocks = λ s ms q i f. f;
  refusals = λ s q i f. f;
}

pub reported_part : (s : Core) → Invariant s → ReportedAre s
reported_part s i = i.openings.openings.reported

-- ---- the opening

none_open : (lines : List Line) (key : KeyView) → AllByRecursion (λ l. opened_by l key ≡ None) lines → opening lines key ≡ None
none_open [] key a = refl
none_open (l ∷ lines) key a = at (retires l key) (none_open lines key a.1)
  where
    at : (b : Bool) → opening lines key ≡ None → (if b then None else option_or (opening lines key) (opened_by l key)) ≡ None
    at true h = refl
    at false h = ap (λ O. option_or O (opened_by l key)) h ∙ a.0

-- nothing is open at the beginning
pub open_none : (c : Config) (key : KeyView) → opening (printed (core.opening c)) key ≡ None
open_none c key = none_open (printed (core.opening c)) key (opening_all (λ l. opened_by l key ≡ None) (λ vip. refl) c)

pub reported_open : OpensWith ReportedAre
reported_open c f key none =
    subst (IsReported c.layout (ring_words (core.opening c).words) (core.opening c).controller.named key) (sym (open_none c key)) tt
