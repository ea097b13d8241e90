-- Each registered key is open with its entry's version, or about to be opened so: every event keeps it.
use Rattle.sr_base.proofs.Sameness.{same_key-self, same_key-true}
use Rattle.sr_base.specs.Key.{KeyView, same_key}
use Rattle.sr_base.specs.Layout.{LayoutView}
use Rattle.sr_base.specs.declared.packet.Packet.{Packet}
use Rattle.sr_base.specs.declared.place.Place.{Place}
use Rattle.sr_base.specs.declared.ring_word.RingKind.TheVariants.{Learn}
use Rattle.sr_base.specs.declared.ring_word.RingWord.{RingWord}
use Rattle.sr_base.specs.declared.vip_word.VipWord.{VipWord}
use Rattle.sr_inv_facts.proofs.Beginning.{begun_by}
use Rattle.sr_inv_facts.proofs.Books.{changed_all}
use Rattle.sr_inv_facts.proofs.Lists.{all_in, all_more, all_then, all_to_in}
use Rattle.sr_inv_facts.proofs.Pipes.{idle, some_else}
use Rattle.sr_inv_facts.proofs.Printing.{job_tells, pipe_silent, stage_prints}
use Rattle.sr_inv_facts.proofs.Taking.{TakesBook, takes}
use Rattle.sr_inv_facts.specs.Fitted.{IsPacket}
use Rattle.sr_inv_facts.specs.Flying.{IsLeaving, SomeLeaving}
use Rattle.sr_inv_facts.specs.InJobs.{AimHolds, AnswerHolds, AnswerNames, JobHolds, LiveAim, seen}
use Rattle.sr_inv_facts.specs.InOpenings.{AimsAt, EntryOpened, IsAwaited, IsLearned, IsReported, IsToBeAnswered, IsUnopened, LivesFor}
use Rattle.sr_inv_facts.specs.InTicks.{same}
use Rattle.sr_inv_facts.specs.InUpdate.{is_used, is_used_by}
use Rattle.sr_inv_facts.specs.Invariant.{Invariant}
use Rattle.sr_inv_facts.specs.Laws.{OpensWith}
use Rattle.sr_inv_facts.specs.OnTrack.{IsKnown}
use Rattle.sr_inv_facts.specs.Readings.{IfLearn, In, ring_words}
use Rattle.sr_inv_matching.proofs.Members.{in_own}
use Rattle.sr_inv_openings.proofs.EntryTurns.{Alike, IsOffEnd, alike_self, all_passing, entry_turns, goes_awaited}
use Rattle.sr_inv_openings.proofs.LearnedKept.{IsOffOut, leaving_stays}
use Rattle.sr_inv_openings.proofs.OpeningSteps.{answer_opens, given_named, leaving_opens, opens_quiet, or_none, packet_opens}
use Rattle.sr_inv_openings.proofs.Parts.{EntriesOpened}
use Rattle.sr_inv_openings.proofs.Speaking.{judged_unlearned, judged_unsent, leaves, sent_known, sent_pool}
use Rattle.sr_law.specs.Opening.{opened, opened_by, opening}
use Rattle.sr_law.specs.declared.line.Line.{Line}
use Rattle.sr_law.specs.declared.opening.Opening.{Opening}
use Rattle.sr_law.specs.declared.verdict.Verdict.{Verdict}
use Rattle.sr_machine.proofs.Following.{goes}
use Rattle.sr_machine.specs.Config.{Config}
use Rattle.sr_machine.specs.Core.{Core, printed}
use Rattle.sr_machine.specs.Deciding.{dead_reply, is_contested, is_down, is_withdrawn, learned, named_at, reply_if, ring_count, rivals_of, server_for, verdict_of, version_for}
use Rattle.sr_machine.specs.Draws.{answer_line}
use Rattle.sr_machine.specs.Goes.{Goes, placed}
use Rattle.sr_machine.specs.Jobs.{book_next, down_next, job_next, job_op, judged_book, named_next, vips_next}
use Rattle.sr_machine.specs.Keeping.{AfterJob, AfterStage, Keeps, job_core}
use Rattle.sr_machine.specs.Opening.{opening_controller}
use Rattle.sr_machine.specs.Ops.{op_answer, op_name}
use Rattle.sr_machine.specs.Pipe.{packet_line, pipe_after, pipe_op}
use Rattle.sr_machine.specs.Reads.{read_flag, read_report}
use Rattle.sr_machine.specs.Stages.{ring_cell, verdict_by}
use Rattle.sr_machine.specs.Stores.{judged_draw}
use Rattle.sr_machine.specs.Taking.{ended_by, taking}
use Rattle.sr_machine.specs.Waiting.{live_job}
use Rattle.sr_machine.specs.declared.controller_view.ControllerView.{ControllerView}
use Rattle.sr_machine.specs.declared.flight.Flight.{Flight}
use Rattle.sr_machine.specs.declared.held_opener.HeldOpener.{HeldOpener}
use Rattle.sr_machine.specs.declared.job.Job.{Job}
use Rattle.sr_machine.specs.declared.op.Op.{Op}
use Rattle.sr_machine.specs.declared.pipe_view.PipeView.{PipeView}
use Rattle.sr_machine.specs.declared.put.Aim.{Aim}
use Rattle.sr_machine.specs.declared.put.Put.{Put}
use Rattle.sr_machine.specs.declared.reply.Reply.{Reply}
use Rattle.sr_machine.specs.declared.stage.Stage.{Stage}
use Rattle.sr_machine.specs.declared.wait.Wait.{Wait}
use Rattle.sr_shadow.proofs.PlannedSlot.{planned}
use Rattle.sr_shadow.proofs.Splits.{entry_for_none}
use Rattle.sr_shadow.specs.Book.{entry_for, is_registered, with_taken, without_key}
use Rattle.sr_shadow.specs.Entry.{closed, fresh, is_of, left_other, settled, swept}
use Rattle.sr_shadow.specs.declared.book.Book.{Book}
use Rattle.sr_shadow.specs.declared.entry.Entry.{Entry}
use Rattle.std.proofs.Common.{Bool, List, None, Option, Some, [], ap, false, if◌then◌else◌, inl, inr, is_some, not, option_map, refl, slice_get, slice_set, subst, sym, true, true≢false, unwrap_or, ℕ, ◌&&◌, ◌++◌, ◌||◌, ◌∙◌, ◌∷◌, ◌≡◌, ◌≢◌, ◌⊎◌}
use Rattle.std.proofs.lemmas.Bool.{cases_eq}
use Rattle.std.proofs.lemmas.Option.{same_Some}
use Rattle.std.specs.List.{AllByRecursion}
use Rattle.std.specs.Option.{option_or}
use Rattle.sr_machine.specs.declared.draw.Draw.TheVariants as draw
use Rattle.sr_machine.specs.declared.store.Store.TheVariants as store
use Rattle.sr_machine.specs.declared.wait.Wait.TheVariants as wait
use Rattle.sr_machine.specs.declared.why.Why.TheVariants as why
use Rattle.sr_machine.specs.declared.put.Aim.TheVariants as aim
use Rattle.sr_machine.specs.declared.job.Job.TheVariants as job
use Rattle.sr_machine.specs.declared.leg.Leg.TheVariants as leg
use Rattle.sr_machine.specs.declared.leg.Last.TheVariants as last
use Rattle.sr_machine.specs.declared.leg.Load.TheVariants as load
use Rattle.sr_machine.specs.declared.stage.Stage.TheVariants as stage
use Rattle.sr_machine.specs.declared.name.Name.TheVariants as name
use Rattle.sr_law.specs.declared.verdict.Verdict.TheVariants as verdict
use Rattle.sr_law.specs.declared.line.Line.TheVariants as line
use Rattle.sr_machine.specs.Goes as go
use Rattle.sr_inv_facts.proofs.Taking as takes_book

module _ (s : Core) (i : Invariant s) where
  abbrev k : Config
  k = s.config

  abbrev l : LayoutView
  l = s.config.layout

  abbrev c : ControllerView
  c = s.controller

  abbrev es : List Entry
  es = s.controller.book.entries

  -- what is said of an entry now
  abbrev Opened : Entry → Type 0
  Opened e = EntryOpened s.config s.controller.vips s.controller.named s.controller.down s.controller.job s.pipes e (opening (printed s) e.key)

  opened_now : (e : Entry) → In e es → Opened e
  opened_now e m = all_in Opened es e i.openings.openings.entry m

  known_entry : (e : Entry) → In e es → IsKnown l (ring_words s.words) es e.key e.version
  known_entry e m = inl (e, in_own es e i.shape.book.distinct m, refl)

  -- ---- a pipe's step

  module _ (p : ℕ) (v : PipeView) (q : slice_get s.pipes p ≡ Some v) where
    abbrev OpenedWith : List PipeView → List Line → Type 0
    OpenedWith pipes lines =
        AllByRecursion (λ e. EntryOpened s.config s.controller.vips s.controller.named s.controller.down s.controller.job pipes e (opening lines e.key)) es

    -- a step that draws no line
    calm : (a : Stage) (o : Option Op) → v.stage ≡ a → IsOffOut a → AfterStage (λ t. printed t ≡ printed s) s p v a o → AfterStage EntriesOpened s p v a o
    calm a None e off lines = tt
    calm a (Some o) e off lines =
        let w = pipe_after l v a (op_answer o (s.words (op_name o))) in
        subst (OpenedWith (slice_set s.pipes p w)) (sym lines)
        (all_to_in _ es (λ z m.
        entry_turns k c.vips c.vips c.named c.named c.down c.down c.job c.job s.pipes (slice_set s.pipes p w) z z (alike_self z)
        (leaving_stays s i p v q a e off w z.key z.version) (λ h. h) refl (opening (printed s) z.key) (opened_now z m)))

    -- a packet's line is drawn
    left : (f : Flight) (u : Verdict) (e : v.stage ≡ stage.Fly f (leg.Judged u last.Out)) (w : PipeView) (x : ℕ)
        → OpenedWith (slice_set s.pipes p w) (packet_line v.number f u x ∷ printed s)
    left f u e w x = all_to_in _ es (λ z m. at z m (opening (printed s) z.key) refl (opened_now z m))
      where
        leaving : (z : Entry) → opened_by (packet_line v.number f u x) z.key ≡ None → SomeLeaving s.pipes z.key z.version → SomeLeaving (slice_set s.pipes p w) z.key z.version
        leaving z g (n, y, d, h) = two (cases_eq n p)
          where
            two : (n ≡ p) ⊎ (n ≢ p) → SomeLeaving (slice_set s.pipes p w) z.key z.version
            two (inl same) =
                let here : v ≡ y = same_Some v y (sym q ∙ (ap (slice_get s.pipes) (sym same) ∙ d)) in
                absurd (leaving_opens v.number f u x z.key z.version (subst (IsLeaving z.key z.version) (ap (λ z. z.stage) (sym here) ∙ e) h) g)
            two (inr apart) = some_else s.pipes p v w q (λ n y. IsLeaving z.key z.version y.stage) n y apart d h

        new : (z : Entry) → In z es → (O : Option Opening) → opened_by (packet_line v.number f u x) z.key ≡ O
            → IsUnopened k c.vips c.named c.down c.job s.pipes z
            → EntryOpened k c.vips c.named c.down c.job (slice_set s.pipes p w) z O
        new z m None g (inl h) = inl (h.0, leaving z g h.1)
        new z m None g (inr h) = inr h
        new z m (Some o) g h =
            let a = packet_opens v.number f u x z.key o g in
            let at_out : v.stage ≡ stage.Fly f (leg.Judged (verdict.To a.server o.version o.pool) last.Out) =
            e ∙ ap (λ z. stage.Fly f (leg.Judged z last.Out)) a.sent in
            let version : o.version ≡ z.version =
            sent_known s i p v f a.server o.version o.pool last.Out q at_out a.opener z.version (subst (λ y. IsKnown l (ring_words s.words) es y z.version) (sym a.own) (known_entry z m)) in
            record {
              version = version;
              pool = sym (sent_pool s i p v f a.server o.version o.pool last.Out q at_out)
                  ∙ (ap (λ y. named_at c.named y.vip o.version) a.own ∙ ap (named_at c.named z.key.vip) version);
            }

        at : (z : Entry) → In z es → (O : Option Opening) → opening (printed s) z.key ≡ O → Opened z
            → EntryOpened k c.vips c.named c.down c.job (slice_set s.pipes p w) z (opening (packet_line v.number f u x ∷ printed s) z.key)
        at z m None g h =
            subst (EntryOpened k c.vips c.named c.down c.job (slice_set s.pipes p w) z) (sym (ap (λ O. option_or O (opened_by (packet_line v.number f u x) z.key)) g))
            (new z m (opened_by (packet_line v.number f u x) z.key) refl (subst (EntryOpened k c.vips c.named c.down c.job s.pipes z) g h))
        at z m (Some o) g h =
            subst (EntryOpened k c.vips c.named c.down c.job (slice_set s.pipes p w) z) (sym (ap (λ O. option_or O (opened_by (packet_line v.number f u x) z.key)) g))
            (subst (EntryOpened k c.vips c.named c.down c.job s.pipes z) g h)

    entry_enter : (packet : Packet) → v.stage ≡ stage.Idle → EntriesOpened (record s { pipes = slice_set s.pipes p (record v { stage = stage.Enter packet }) })
    entry_enter packet e =
        let w = record v { stage = stage.Enter packet } in
        subst (OpenedWith (slice_set s.pipes p (record v { stage = stage.Enter packet }))) (sym (pipe_silent s p v (record v { stage = stage.Enter packet }) q refl s.words))
        (all_to_in _ es (λ z m.
        entry_turns k c.vips c.vips c.named c.named c.down c.down c.job c.job s.pipes (slice_set s.pipes p w) z z (alike_self z)
        (leaving_stays s i p v q stage.Idle e tt w z.key z.version) (λ h. h) refl (opening (printed s) z.key) (opened_now z m)))

    entry_stage : (a : Stage) → v.stage ≡ a → AfterStage EntriesOpened s p v a (pipe_op l v a)
    entry_stage stage.Idle e = tt
    entry_stage (stage.Fly f (leg.Judged u last.Push)) e =
        calm (stage.Fly f (leg.Judged u last.Push)) (pipe_op l v (stage.Fly f (leg.Judged u last.Push))) e tt (stage_prints s p v (stage.Fly f (leg.Judged u last.Push)) i.ticks q)
    entry_stage (stage.Fly f (leg.Judged u last.Out)) e =
        subst (OpenedWith (slice_set s.pipes p (pipe_after l v (stage.Fly f (leg.Judged u last.Out)) (s.words name.Tick)))) (sym (stage_prints s p v (stage.Fly f (leg.Judged u last.Out)) i.ticks q))
        (left f u e (pipe_after l v (stage.Fly f (leg.Judged u last.Out)) (s.words name.Tick)) (s.words name.Tick))
    entry_stage (stage.Fly f (leg.Chosen n load.Head)) e =
        calm (stage.Fly f (leg.Chosen n load.Head)) (pipe_op l v (stage.Fly f (leg.Chosen n load.Head))) e tt (stage_prints s p v (stage.Fly f (leg.Chosen n load.Head)) i.ticks q)
    entry_stage a e = calm a (pipe_op l v a) e tt (stage_prints s p v a i.ticks q)

  -- ---- the controller's step

  -- what is said of entries after a step that leaves who leaves
  abbrev OpenedAfter : Job → ℕ → List Line → Entry → Type 0
  OpenedAfter j x lines e =
      EntryOpened s.config (vips_next s.controller j) (named_next s.controller j) (down_next s.controller j) (job_next s.config s.controller j x) s.pipes e (opening lines e.key)

  -- an opener that is about to be answered, by the job
  now_awaited : (j : Job) → s.controller.job ≡ j → (e : Entry) → IsToBeAnswered k c.vips c.named c.down s.controller.job e → IsToBeAnswered k c.vips c.named c.down j e
  now_awaited j q e h = subst (λ m. IsToBeAnswered k c.vips c.named c.down m e) q h

  -- where nobody awaits an answer
  none_awaited : (j m : Job) (e : Entry) (vips : List VipWord) (named : List (List ℕ)) (down : List ℕ) → (IsAwaited j e.key → ⊥) → s.controller.job ≡ j
      → IsToBeAnswered k c.vips c.named c.down s.controller.job e → IsToBeAnswered k vips named down m e
  none_awaited j m e vips named down none q h = absurd (none (now_awaited j q e h).awaited)

  -- entries stay as they stand
  entry_plain : (j : Job) (o : Option Op) → s.controller.job ≡ j
      → ((x : ℕ) → (book_next s.config s.controller j x).entries ≡ es)
      → ((x : ℕ) (e : Entry) → In e es → IsToBeAnswered k c.vips c.named c.down s.controller.job e
      → IsToBeAnswered k (vips_next c j) (named_next c j) (down_next c j) (job_next k c j x) e)
      → ((e : Entry) → In e es → named_at (named_next c j) e.key.vip e.version ≡ named_at c.named e.key.vip e.version)
      → AfterJob (λ t. (key : KeyView) → opening (printed t) key ≡ opening (printed s) key) s j o
      → AfterJob EntriesOpened s j o
  entry_plain j None q same answer names opens = tt
  entry_plain j (Some o) q same answer names opens =
      let x = op_answer o (s.words (op_name o)) in
      subst (AllByRecursion (OpenedAfter j x (printed (job_core s j o)))) (sym (same x))
      (all_to_in _ es (λ e m.
      subst (EntryOpened k (vips_next c j) (named_next c j) (down_next c j) (job_next k c j x) s.pipes e) (sym (opens e.key))
      (entry_turns k c.vips (vips_next c j) c.named (named_next c j) c.down (down_next c j) c.job (job_next k c j x) s.pipes s.pipes e e (alike_self e) (λ h. h) (answer x e m) (names e m) (opening (printed s) e.key) (opened_now e m))))

  -- the next job awaits the same
  goes_on : (j : Job) (x : ℕ) → s.controller.job ≡ j → IsOffEnd j → (e : Entry)
      → IsToBeAnswered k c.vips c.named c.down s.controller.job e → IsToBeAnswered k c.vips c.named c.down (job_next k c j x) e
  goes_on j x q off e h =
      let w = now_awaited j q e h in
      record { placed = w.placed; awaited = goes_awaited k c x e.key j (job_next k c j x) (goes k c x j) off w.awaited; newest = w.newest; up = w.up }

  -- ---- a take

  drain_awaited : (pipe count : ℕ) (w : Wait) (x : ℕ) (m : Job) → s.controller.job ≡ job.Drain pipe count w → Goes k c x (job.Drain pipe count w) m → (key : KeyView)
      → LivesFor key w → IsAwaited m key
  drain_awaited pipe count w x m q (go.drain_stays a b z d) key h = h
  drain_awaited pipe count w x m q (go.drain_next a b z d f) key h = h
  drain_awaited pipe count (wait.Live p) x m q (go.drain_last a b z d f) key h =
      by p.aim (subst (JobHolds s.config (seen s.controller) (printed s)) q i.jobs.holds.stands).1.aim h
    where
      by : (a : Aim) → LiveAim c.held p a → AimsAt key p a → IsAwaited (live_job c.vips (book_next k c (job.Drain pipe count (wait.Live p)) x).entries p a) key
      by aim.Pending y g = absurd g
      by (aim.Held o) y g = sym y.1 ∙ g
      by (aim.Move from planned) y g = absurd g
  drain_awaited pipe count (wait.Judge p) x m q (go.drain_last a b z d f) key h = absurd h
  drain_awaited pipe count (wait.Retire of) x m q (go.drain_last a b z d f) key h = absurd h
  drain_awaited pipe count (wait.Comes u p) x m q (go.drain_last a b z d f) key h = absurd h
  drain_awaited pipe count (wait.Release vip n) x m q (go.drain_last a b z d f) key h = absurd h

  -- what is said of an entry where openings stay
  abbrev OpenedFor : Job → Entry → Type 0
  OpenedFor m e = EntryOpened s.config s.controller.vips s.controller.named s.controller.down m s.pipes e (opening (printed s) e.key)

  -- and of one by its opening
  abbrev OpenedBy : Entry → Option Opening → Type 0
  OpenedBy e O = EntryOpened s.config s.controller.vips s.controller.named s.controller.down job.Free s.pipes e O

  -- entries are marked as closed, and a key that was learned is open with its version, or its opener isn't out yet
  entry_take : (ended : Option KeyView) (pipe : ℕ) (m : Job)
      → ((e : Entry) → IsToBeAnswered k c.vips c.named c.down s.controller.job e → IsToBeAnswered k c.vips c.named c.down m e)
      → AllByRecursion (λ e. EntryOpened k c.vips c.named c.down m s.pipes e (opening (printed s) e.key))
      (taking s.config s.controller ended pipe (s.words (ring_cell l pipe (ring_count s.controller.rings pipe).words))).book.entries
  entry_take ended pipe m answer =
      by _ (takes s.config s.controller ended pipe (s.words (ring_cell l pipe (ring_count s.controller.rings pipe).words))).book
    where
      x : ℕ
      x = s.words (ring_cell l pipe (ring_count s.controller.rings pipe).words)

      old : (e f : Entry) → Alike e f → Opened e → EntryOpened s.config s.controller.vips s.controller.named s.controller.down m s.pipes f (opening (printed s) e.key)
      old e f a h = entry_turns k c.vips c.vips c.named c.named c.down c.down c.job m s.pipes s.pipes e f a (λ z. z) (answer e) refl (opening (printed s) e.key) h

      stays : AllByRecursion (OpenedFor m) es
      stays = all_then Opened (OpenedFor m) (λ e h. old e e (alike_self e) h) es i.openings.openings.entry

      new : (w : RingWord) → read_report l x ≡ Some w → w.kind ≡ Learn → is_registered w.key es ≡ false → OpenedFor m (fresh w.key w.version s.controller.book.taken)
      new w read kind none =
          at (subst (λ z. IfLearn z (IsLearned (printed s) s.pipes w.key w.version)) kind (i.openings.openings.learned pipe _ w read)) (i.openings.openings.reported w.key none)
        where
          at : IsLearned (printed s) s.pipes w.key w.version → IsReported l (ring_words s.words) s.controller.named w.key (opening (printed s) w.key)
              → OpenedFor m (fresh w.key w.version s.controller.book.taken)
          at (inl (o, g, d)) r =
              subst (EntryOpened s.config s.controller.vips s.controller.named s.controller.down m s.pipes (fresh w.key w.version s.controller.book.taken)) (sym g) (record {
                version = d;
                pool = (subst (IsReported l (ring_words s.words) s.controller.named w.key) g r).1 ∙ ap (named_at s.controller.named w.key.vip) d;
              })
          at (inr (g, h)) r =
              subst (EntryOpened s.config s.controller.vips s.controller.named s.controller.down m s.pipes (fresh w.key w.version s.controller.book.taken)) (sym g) (inl (refl, h))

      by : (d : Book) → TakesBook l s.controller.numbers ended (s.words (ring_cell l pipe (ring_count s.controller.rings pipe).words)) s.controller.book d → AllByRecursion (OpenedFor m) d.entries
      by d (takes_book.same_book u) = stays
      by d (takes_book.learned_book w read kind current none) =
          all_more (OpenedFor m) es (fresh w.key w.version s.controller.book.taken ∷ []) stays (new w read kind none, tt)
      by d (takes_book.closed_book w read kind off) =
          changed_all Opened (OpenedFor m) closed w.key (λ e g h. old e (closed e) (record { key = refl; version = refl; place = refl }) h) (λ e g h. old e e (alike_self e) h) es i.openings.openings.entry

  -- ---- a connection is retired

  entry_retired : (of : KeyView) (place : Place) (version x : ℕ) → s.controller.job ≡ job.Draw (draw.Retired of place version)
      → AllByRecursion (OpenedAfter (job.Draw (draw.Retired of place version)) x (line.Retired x of ∷ printed s)) (without_key of es)
  entry_retired of place version x q =
      all_passing Opened (OpenedAfter (job.Draw (draw.Retired of place version)) x (line.Retired x of ∷ printed s)) (λ e. not (is_of of e)) (λ e t h. at e (is_of of e) refl t h) es i.openings.openings.entry
    where
      at : (e : Entry) (b : Bool) → same_key of e.key ≡ b → not b ≡ true → Opened e
          → OpenedAfter (job.Draw (draw.Retired of place version)) x (line.Retired x of ∷ printed s) e
      at e true g t h = absurd (true≢false (sym t))
      at e false g t h =
          let m = job.Store (store.Empty of place (why.Retired version)) in
          subst (EntryOpened k c.vips c.named c.down m s.pipes e) (sym (ap (λ b. if b then None else option_or (opening (printed s) e.key) None) g ∙ or_none (opening (printed s) e.key)))
          (entry_turns k c.vips c.vips c.named c.named c.down c.down c.job m s.pipes s.pipes e e (alike_self e) (λ z. z)
          (none_awaited (job.Draw (draw.Retired of place version)) m e c.vips c.named c.down (λ z. z) q) refl (opening (printed s) e.key) h)

  -- ---- an answer

  -- a key that is to be answered, and whose server isn't down, is opened
  answer_told : (r : Reply) (x : ℕ) → s.controller.job ≡ job.Draw (draw.Answer r) → (e : Entry) → In e es → r.held.key ≡ e.key
      → is_down s.controller.down (server_for s.config s.controller.named e.key e.version) ≡ false
      → opened_by (answer_line s.config s.controller r x) e.key ≡ None → ⊥
  answer_told r x q e m own up g = at (same_key r.held.key e.key) same r.version version g
    where
      same : same_key r.held.key e.key ≡ true
      same = ap (λ z. same_key z e.key) own ∙ same_key-self e.key

      answer : AnswerHolds s.config (seen s.controller) r
      answer = subst (JobHolds s.config (seen s.controller) (printed s)) q i.jobs.holds.stands

      version : r.version ≡ Some e.version
      version =
          subst (λ o. AnswerNames s.config (seen s.controller) r o r.version) (ap (λ z. entry_for z es) own ∙ in_own es e i.shape.book.distinct m) answer.names

      verdict_is : (b : Bool) → is_down s.controller.down (server_for s.config s.controller.named r.held.key e.version) ≡ b → b ≡ false
          → opened x (verdict_by b (server_for s.config s.controller.named r.held.key e.version) e.version (named_at s.controller.named r.held.key.vip e.version)) ≡ None → ⊥
      verdict_is true a z d = true≢false z
      verdict_is false a z d = cc

      at : (b : Bool) → b ≡ true → (v : Option ℕ) → v ≡ Some e.version
          → (if b then opened x (verdict_of s.config s.controller.named s.controller.down r.held.key v) else None) ≡ None → ⊥
      at true t v d z =
          verdict_is (is_down s.controller.down (server_for s.config s.controller.named r.held.key e.version)) refl (ap (λ y. is_down s.controller.down (server_for s.config s.controller.named y e.version)) own ∙ up)
          (ap (λ y. opened x (verdict_of s.config s.controller.named s.controller.down r.held.key y)) (sym d) ∙ z)
      at false t v d z = absurd (true≢false (sym t))

  entry_answer : (r : Reply) (x : ℕ) → s.controller.job ≡ job.Draw (draw.Answer r)
      → AllByRecursion (OpenedAfter (job.Draw (draw.Answer r)) x (answer_line s.config s.controller r x ∷ printed s)) es
  entry_answer r x q = all_to_in _ es (λ e m. at e m (opening (printed s) e.key) refl (opened_now e m))
    where
      new : (e : Entry) → In e es → (O : Option Opening) → opened_by (answer_line s.config s.controller r x) e.key ≡ O
          → IsUnopened k c.vips c.named c.down c.job s.pipes e → OpenedBy e O
      new e m None g (inl h) = inl h
      new e m None g (inr h) = absurd (answer_told r x q e m (now_awaited (job.Draw (draw.Answer r)) q e h).awaited h.up g)
      new e m (Some o) g h =
          let a = answer_opens s i r q x e.key o g in
          let is : a.entry ≡ e = same_Some a.entry e (sym a.found ∙ in_own es e i.shape.book.distinct m) in
          record { version = a.version ∙ ap (λ z. z.version) is; pool = a.pool ∙ ap (λ z. named_at s.controller.named e.key.vip z.version) is }

      at : (e : Entry) → In e es → (O : Option Opening) → opening (printed s) e.key ≡ O → Opened e
          → OpenedBy e (option_or (opening (printed s) e.key) (opened_by (answer_line s.config s.controller r x) e.key))
      at e m None g h =
          subst (OpenedBy e) (sym (ap (λ O. option_or O (opened_by (answer_line s.config s.controller r x) e.key)) g))
          (new e m (opened_by (answer_line s.config s.controller r x) e.key) refl (subst (EntryOpened k c.vips c.named c.down c.job s.pipes e) g h))
      at e m (Some o) g h =
          subst (OpenedBy e) (sym (ap (λ O. option_or O (opened_by (answer_line s.config s.controller r x) e.key)) g))
          (subst (EntryOpened k c.vips c.named c.down c.job s.pipes e) g h)

  -- ---- a put that is made live or given up

  -- an entry once its key may have been taken
  abbrev MayBeNew : Put → ℕ → Entry → Type 0
  MayBeNew p version e = Opened e ⊎ ((e ≡ fresh p.key version s.controller.book.taken) × (is_registered p.key es ≡ false))

  may_be_new : (p : Put) (version : ℕ) → AllByRecursion (MayBeNew p version) (with_taken p.key version s.controller.book).entries
  may_be_new p version = at (is_registered p.key es) refl
    where
      old : AllByRecursion (MayBeNew p version) es
      old = all_then Opened (MayBeNew p version) (λ e h. inl h) es i.openings.openings.entry

      at : (b : Bool) → is_registered p.key es ≡ b
          → AllByRecursion (MayBeNew p version) (if b then es else (es ++ fresh p.key version s.controller.book.taken ∷ []))
      at true q = old
      at false q = all_more (MayBeNew p version) es (fresh p.key version s.controller.book.taken ∷ []) old (inr (refl, q), tt)

  -- no opener of its key is about to leave
  judged_unleaving : (p : Put) → s.controller.job ≡ job.Store (store.Judge p) → (n : ℕ) → SomeLeaving s.pipes p.key n → ⊥
  judged_unleaving p q n (m, v, g, h) =
      let a = leaves v.stage p.key n h in judged_unsent s i p q m v a.flight a.server n a.pool last.Out g a.is a.opener a.own

  -- a key that wasn't registered is of the first held opener, and its server isn't down
  new_awaited : (p : Put) → s.controller.job ≡ job.Store (store.Judge p) → is_withdrawn s.config s.controller p ≡ false → is_registered p.key es ≡ false
      → IsToBeAnswered k c.vips c.named c.down (job.Draw (draw.Placed p)) (settled p.place (fresh p.key (version_for c.vips es p.key) s.controller.book.taken))
  unfolding is_withdrawn
  new_awaited p q live none =
      by p.aim refl (subst (JobHolds s.config (seen s.controller) (printed s)) q i.jobs.holds.stands).0.aim
    where
      found : entry_for p.key es ≡ None
      found = entry_for_none p.key es none

      version : version_for c.vips es p.key ≡ learned c.vips p.key.vip
      version = ap (λ o. unwrap_or (option_map (λ e. e.version) o) (learned c.vips p.key.vip)) found

      not_dead : is_some (dead_reply s.config s.controller p.aim) ≡ false
      not_dead = at (is_contested l.shape p.place p.key (rivals_of p.aim es)) (is_some (dead_reply s.config s.controller p.aim)) live
        where
          at : (a b : Bool) → (a || b) ≡ false → b ≡ false
          at true b g = cc
          at false b g = g

      up : (h : HeldOpener) → p.key ≡ h.key → is_some (dead_reply s.config s.controller (aim.Held h)) ≡ false
          → is_down c.down (server_for k c.named p.key (learned c.vips p.key.vip)) ≡ false
      up h own g = at (is_registered h.key es) (is_down c.down (server_for k c.named h.key (learned c.vips h.key.vip))) (ap (λ z. is_registered z es) (sym own) ∙ none) refl g
        where
          at : (a b : Bool) → a ≡ false → is_down c.down (server_for k c.named h.key (learned c.vips h.key.vip)) ≡ b
              → is_some (reply_if (not a && b) (record { held = h; version = Some (learned c.vips h.key.vip) })) ≡ false
              → is_down c.down (server_for k c.named p.key (learned c.vips p.key.vip)) ≡ false
          at true b d z g = cc
          at false true d z g = cc
          at false false d z g = ap (λ y. is_down c.down (server_for k c.named y (learned c.vips y.vip))) own ∙ z

      by : (a : Aim) → p.aim ≡ a → AimHolds es c.held p a
          → IsToBeAnswered k c.vips c.named c.down (job.Draw (draw.Placed p)) (settled p.place (fresh p.key (version_for c.vips es p.key) s.controller.book.taken))
      by aim.Pending d m = absurd (none_some (sym found ∙ m.1))
        where
          none_some : {X : Type 0} {x : X} → None ≡ Some x → ⊥
          none_some z = cc
      by (aim.Move from planned) d m = absurd (none_some (sym found ∙ m.0.1))
        where
          none_some : {X : Type 0} {x : X} → None ≡ Some x → ⊥
          none_some z = cc
      by (aim.Held h) d m = record {
        placed = refl;
        awaited = subst (AimsAt p.key p) (sym d) refl;
        newest = version;
        up = ap (λ n. is_down c.down (server_for k c.named p.key n)) version ∙ up h m.1 (ap (λ a. is_some (dead_reply s.config s.controller a)) (sym d) ∙ not_dead);
      }

  -- each entry once the put is made live
  judged_entry : (p : Put) (b : Bool) → s.controller.job ≡ job.Store (store.Judge p) → is_withdrawn s.config s.controller p ≡ b
      → AllByRecursion (OpenedFor (job.Draw (judged_draw b p (dead_reply s.config s.controller p.aim)))) (judged_book b p (version_for c.vips es p.key) s.controller.book).entries
  judged_entry p true q live =
      let m = job.Draw (draw.Cleared p.key p.place (why.Withdrawn (dead_reply s.config s.controller p.aim))) in
      all_then Opened (OpenedFor m) (λ e h. entry_turns k c.vips c.vips c.named c.named c.down c.down c.job m s.pipes s.pipes e e (alike_self e) (λ z. z) (none_awaited (job.Store (store.Judge p)) m e c.vips c.named c.down (λ z. z) q) refl (opening (printed s) e.key) h)
      es i.openings.openings.entry
  judged_entry p false q live =
      changed_all (MayBeNew p version) (OpenedFor (job.Draw (draw.Placed p))) (settled p.place) p.key own other (with_taken p.key (version_for c.vips es p.key) s.controller.book).entries (may_be_new p version)
    where
      version : ℕ
      version = version_for c.vips es p.key

      none_open : (n : ℕ) → is_registered p.key es ≡ false → (O : Option Opening) → opening (printed s) p.key ≡ O → O ≡ None
      none_open n none None g = refl
      none_open n none (Some o) g =
          let h = (subst (IsReported l (ring_words s.words) s.controller.named p.key) g (i.openings.openings.reported p.key none)).0 in
          absurd (judged_unlearned s i p q h.0 h.1 (record { kind = Learn; version = o.version; key = p.key }) h.2 refl)

      settle : (e : Entry) → same_key p.key e.key ≡ true → (O : Option Opening) → EntryOpened k c.vips c.named c.down c.job s.pipes e O
          → EntryOpened k c.vips c.named c.down (job.Draw (draw.Placed p)) s.pipes (settled p.place e) O
      settle e t None (inl h) =
          absurd (judged_unleaving p q e.version (subst (λ z. SomeLeaving s.pipes z e.version) (sym (same_key-true p.key e.key t)) h.1))
      settle e t None (inr h) = absurd (now_awaited (job.Store (store.Judge p)) q e h).awaited
      settle e t (Some o) h = record { version = h.version; pool = h.pool }

      own : (e : Entry) → is_of p.key e ≡ true → MayBeNew p (version_for c.vips es p.key) e → OpenedFor (job.Draw (draw.Placed p)) (settled p.place e)
      own e t (inl h) = settle e t (opening (printed s) e.key) h
      own e t (inr (is, none)) =
          subst (λ z. OpenedFor (job.Draw (draw.Placed p)) (settled p.place z)) (sym is)
          (subst (EntryOpened k c.vips c.named c.down (job.Draw (draw.Placed p)) s.pipes (settled p.place (fresh p.key version s.controller.book.taken)))
          (sym (none_open version none (opening (printed s) p.key) refl)) (inr (new_awaited p q live none)))

      other : (e : Entry) → is_of p.key e ≡ false → MayBeNew p (version_for c.vips es p.key) e → OpenedFor (job.Draw (draw.Placed p)) e
      other e t (inl h) =
          entry_turns k c.vips c.vips c.named c.named c.down c.down c.job (job.Draw (draw.Placed p)) s.pipes s.pipes e e (alike_self e) (λ z. z) (none_awaited (job.Store (store.Judge p)) (job.Draw (draw.Placed p)) e c.vips c.named c.down (λ z. z) q) refl (opening (printed s) e.key) h
      other e t (inr (is, none)) =
          absurd (true≢false (sym (ap (λ z. same_key p.key z.key) is ∙ same_key-self p.key) ∙ t))

  entry_job : (j : Job) → s.controller.job ≡ j → AfterJob EntriesOpened s j (job_op s.config s.controller j)
  entry_job job.Free q = tt
  entry_job (job.Draw (draw.Retired of place version)) q =
      subst (λ ls. AllByRecursion (OpenedAfter (job.Draw (draw.Retired of place version)) (s.words name.Tick) ls) (without_key of es)) (sym (job_tells s (job.Draw (draw.Retired of place version)) i.ticks))
      (entry_retired of place version (s.words name.Tick) q)
  entry_job (job.Draw (draw.Answer r)) q =
      subst (λ ls. AllByRecursion (OpenedAfter (job.Draw (draw.Answer r)) (s.words name.Tick) ls) es) (sym (job_tells s (job.Draw (draw.Answer r)) i.ticks)) (entry_answer r (s.words name.Tick) q)
  entry_job (job.Draw (draw.Given u)) q =
      entry_plain (job.Draw (draw.Given u)) (job_op s.config s.controller (job.Draw (draw.Given u))) q (λ x. refl)
      (λ x e m. none_awaited (job.Draw (draw.Given u)) (job_next k c (job.Draw (draw.Given u)) x) e c.vips (named_next c (job.Draw (draw.Given u))) c.down (λ z. z) q)
      (λ e m. given_named s i u q e.key.vip e.version (λ free. used (all_in (λ e. is_used s.controller.numbers e.key.vip e.version ≡ true) es e i.update.versions.used m) (ap is_used_by free)))
      (opens_quiet s i (job.Draw (draw.Given u)) tt)
    where
      used : {b : Bool} → b ≡ true → b ≡ false → ⊥
      used a d = true≢false (sym a ∙ d)
  entry_job (job.Draw (draw.TakenDown server)) q =
      entry_plain (job.Draw (draw.TakenDown server)) (job_op s.config s.controller (job.Draw (draw.TakenDown server))) q (λ x. refl)
      (λ x e m. none_awaited (job.Draw (draw.TakenDown server)) (job_next k c (job.Draw (draw.TakenDown server)) x) e c.vips c.named (down_next c (job.Draw (draw.TakenDown server))) (λ z. z) q) (λ e m. refl)
      (opens_quiet s i (job.Draw (draw.TakenDown server)) tt)
  entry_job (job.Store (store.Vip u p)) q =
      entry_plain (job.Store (store.Vip u p)) (job_op s.config s.controller (job.Store (store.Vip u p))) q (λ x. refl)
      (λ x e m. none_awaited (job.Store (store.Vip u p)) (job_next k c (job.Store (store.Vip u p)) x) e (vips_next c (job.Store (store.Vip u p))) c.named c.down (λ z. z) q) (λ e m. refl)
      (opens_quiet s i (job.Store (store.Vip u p)) tt)
  entry_job (job.Store (store.Judge p)) q =
      all_then _ _ (λ e h. subst (EntryOpened k c.vips c.named c.down (job.Draw (judged_draw (is_withdrawn k c p) p (dead_reply k c p.aim))) s.pipes e) (sym (opens_quiet s i (job.Store (store.Judge p)) tt e.key)) h) _
      (judged_entry p (is_withdrawn s.config s.controller p) q refl)
  entry_job (job.Store (store.Empty of place w)) q =
      let m = job.Draw (draw.Cleared of place w) in
      let turn = λ (e f : Entry) (a : Alike e f) (h : Opened e).
      subst (EntryOpened k c.vips c.named c.down m s.pipes f) (sym (ap (opening (printed s)) a.key))
      (entry_turns k c.vips c.vips c.named c.named c.down c.down c.job m s.pipes s.pipes e f a (λ z. z) (none_awaited (job.Store (store.Empty of place w)) m e c.vips c.named c.down (λ z. z) q) refl (opening (printed s) e.key) h) in
      all_then (OpenedFor m) _ (λ e h. subst (EntryOpened k c.vips c.named c.down m s.pipes e) (sym (opens_quiet s i (job.Store (store.Empty of place w)) tt e.key)) h) _
      (changed_all Opened (OpenedFor m) left_other of (λ e t h. turn e (left_other e) (record { key = refl; version = refl; place = refl }) h) (λ e t h. turn e e (alike_self e) h) es i.openings.openings.entry)
  entry_job (job.Hit from ms of place number) q =
      let x = s.words (name.Hit place) in
      let m = job_next k c (job.Hit from ms of place number) x in
      let turn = λ (e f : Entry) (a : Alike e f) (h : Opened e).
      subst (EntryOpened k c.vips c.named c.down m s.pipes f) (sym (ap (opening (printed s)) a.key))
      (entry_turns k c.vips c.vips c.named c.named c.down c.down c.job m s.pipes s.pipes e f a (λ z. z) (none_awaited (job.Hit from ms of place number) m e c.vips c.named c.down (λ z. z) q) refl (opening (printed s) e.key) h) in
      all_then (OpenedFor m) _ (λ e h. subst (EntryOpened k c.vips c.named c.down m s.pipes e) (sym (opens_quiet s i (job.Hit from ms of place number) tt e.key)) h) _
      (changed_all Opened (OpenedFor m) (swept (read_flag x)) of (λ e t h. turn e (swept (read_flag x) e) (record { key = refl; version = refl; place = refl }) h) (λ e t h. turn e e (alike_self e) h) es i.openings.openings.entry)
  entry_job (job.Drain pipe count w) q =
      let x = s.words (ring_cell l pipe (ring_count s.controller.rings pipe).words) in
      let m = job_next k c (job.Drain pipe count w) x in
      all_then (OpenedFor m) _ (λ e h. subst (EntryOpened k c.vips c.named c.down m s.pipes e) (sym (opens_quiet s i (job.Drain pipe count w) tt e.key)) h) _
      (entry_take (ended_by (job.Drain pipe count w)) pipe m (λ e h.
      let b = now_awaited (job.Drain pipe count w) q e h in
      record { placed = b.placed; awaited = drain_awaited pipe count w x m q (goes k c x (job.Drain pipe count w)) e.key b.awaited; newest = b.newest; up = b.up }))
  entry_job (job.Look pipe) q =
      let x = s.words (ring_cell l pipe (ring_count s.controller.rings pipe).words) in
      let m = job_next k c (job.Look pipe) x in
      all_then (OpenedFor m) _ (λ e h. subst (EntryOpened k c.vips c.named c.down m s.pipes e) (sym (opens_quiet s i (job.Look pipe) tt e.key)) h) _
      (entry_take None pipe m (λ e. none_awaited (job.Look pipe) m e c.vips c.named c.down (λ z. z) q))
  entry_job j q =
      entry_plain j (job_op s.config s.controller j) q (λ x. refl) (λ x e m. goes_on j x q tt e) (λ e m. refl) (opens_quiet s i j tt)

  -- ---- what it begins

  pub entry_begins : s.controller.job ≡ job.Free → (m : Job) → AllByRecursion (OpenedFor m) es
  entry_begins q m =
      all_then Opened (OpenedFor m) (λ e h. entry_turns k c.vips c.vips c.named c.named c.down c.down c.job m s.pipes s.pipes e e (alike_self e) (λ z. z) (none_awaited job.Free m e c.vips c.named c.down (λ z. z) q) refl (opening (printed s) e.key) h)
      es i.openings.openings.entry

pub entry_keep : Keeps IsPacket Invariant EntriesOpened
entry_keep = record {
  stages = λ s p v a q e i f. entry_stage s i p v q a e;
  begins = λ s i f.
      begun_by s.config s.controller (λ c. AllByRecursion (λ e. EntryOpened s.config c.vips c.named c.down c.job s.pipes e (opening (printed s) e.key)) c.book.entries) f
      (λ free start b. entry_begins s i free start.job);
  jobs = λ s j q b i f. entry_job s i j q;
  enters = λ s p v packet q r u n a i f. entry_enter s i p v q packet (idle v.stage r);
  clocks = λ s ms q i f. f;
  refusals = λ s q i f. f;
}

pub entry_part : (s : Core) → Invariant s → EntriesOpened s
entry_part s i = i.openings.openings.entry

pub entry_open : OpensWith EntriesOpened
unfolding opening_controller
entry_open k f = tt
