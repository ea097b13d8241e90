-- The controller's steps that write no entry keep packets on track.
use Rattle.std.proofs.Common.{◌≡◌, ℕ, ◌⊎◌, ◌≢◌, List, [], ◌∷◌, ◌++◌, if◌then◌else◌, not, slice_get, Some, None, Option, sym, refl, ap, ◌∙◌, subst, inl, inr, arith}
use Rattle.std.specs.List.{AllByRecursion}
use Rattle.std.specs.Option.{option_to_list}
use Rattle.std.proofs.lemmas.Bool.Decides.{nat_tests}
use Rattle.std.proofs.lemmas.Option.{same_Some}
use Rattle.sr_base.specs.Key.{KeyView}
use Rattle.sr_base.specs.Layout.{LayoutView}
use Rattle.sr_base.specs.declared.place.Place.{Place}
use Rattle.sr_base.specs.declared.vip_word.Phase.TheVariants.{Steady, Transit}
use Rattle.sr_inv_facts.proofs.Books.{field_kept, found_key}
use Rattle.sr_inv_facts.proofs.Printing.{line_out, tells}
use Rattle.sr_inv_facts.proofs.Taking.{TakesBook, closed_book, learned_book, none_reported, same_book}
use Rattle.sr_inv_facts.specs.InFlight.{HasWord}
use Rattle.sr_inv_facts.specs.InUpdate.{JobAt}
use Rattle.sr_inv_facts.specs.Invariant.{Invariant}
use Rattle.sr_inv_facts.specs.OnTrack.{GoesBy, IsKnown}
use Rattle.sr_inv_facts.specs.Readings.{EachPipe, In, SomeLearn, bit_words, entry_words, ring_words}
use Rattle.sr_inv_facts.specs.Flying.{OnLeg}
use Rattle.sr_inv_matching.proofs.Members.{in_filtered, in_found, in_mapped, in_own, in_parts}
use Rattle.sr_inv_matching.proofs.Reports.{RingsFall}
use Rattle.sr_inv_matching.proofs.Stepping.{entered_drawn}
use Rattle.sr_inv_matching.proofs.UnmatchedKept.{LeavesEntries, leg_then}
use Rattle.sr_inv_track.proofs.Duty.{duty_before}
use Rattle.sr_inv_track.proofs.Missing.{updated}
use Rattle.sr_inv_track.proofs.Passing.{bits_go}
use Rattle.sr_inv_track.proofs.StageTracks.{Tracked, Tracks, leg_fits, loaded_word}
use Rattle.sr_law.specs.Ticks.{out_of}
use Rattle.sr_law.specs.declared.line.Line.{Line}
use Rattle.sr_machine.specs.Config.{Config}
use Rattle.sr_machine.specs.Core.{Core, printed}
use Rattle.sr_machine.specs.Deciding.{vip_at}
use Rattle.sr_machine.specs.Draws.{draw_line}
use Rattle.sr_machine.specs.Jobs.{book_next}
use Rattle.sr_machine.specs.Keeping.{AfterJob}
use Rattle.sr_machine.specs.Ops.{op_answer, op_name, op_words}
use Rattle.sr_machine.specs.Reads.{read_report}
use Rattle.sr_machine.specs.declared.controller_view.ControllerView.{ControllerView}
use Rattle.sr_machine.specs.declared.flight.Flight.{Flight}
use Rattle.sr_machine.specs.declared.job.Job.{Job}
use Rattle.sr_machine.specs.declared.leg.Leg.{Leg}
use Rattle.sr_machine.specs.declared.op.Op.{Op}
use Rattle.sr_machine.specs.declared.pipe_view.PipeView.{PipeView}
use Rattle.sr_machine.specs.declared.pool_update.PoolUpdate.{PoolUpdate}
use Rattle.sr_machine.specs.declared.stage.Stage.TheVariants.{Fly}
use Rattle.sr_shadow.specs.Book.{entry_for, with_changed, without_key}
use Rattle.sr_shadow.specs.Entry.{closed, fresh, is_of}
use Rattle.sr_shadow.specs.declared.book.Book.{Book}
use Rattle.sr_shadow.specs.declared.entry.Entry.{Entry}
use Rattle.sr_machine.specs.declared.job.Job.TheVariants as job
use Rattle.sr_machine.specs.declared.name.Name.TheVariants as name
use Rattle.sr_machine.specs.declared.store.Store.TheVariants as store

-- what the controller prints is out at its tick
tells_out : (k : Config) (c : ControllerView) (j : Job) (x : ℕ) → AllByRecursion (λ l. out_of l ≡ x) (tells k c j x)
tells_out k c (job.Draw d) x = at (draw_line k c d x) (λ l e. line_out k c d x l e)
  where
    at : (o : Option Line) → ((l : Line) → o ≡ Some l → out_of l ≡ x) → AllByRecursion (λ l. out_of l ≡ x) (option_to_list o)
    at None h = tt
    at (Some l) h = (h l refl, tt)
tells_out k c j x = tt

module _ (s : Core) (i : Invariant s) where
  abbrev l : LayoutView
  l = s.config.layout

  abbrev es : List Entry
  es = s.controller.book.entries

  abbrev w : Place → ℕ
  w = entry_words s.words

  abbrev bits : ℕ → ℕ
  bits = bit_words s.words

  abbrev ring : ℕ → ℕ → ℕ
  ring = ring_words s.words

  -- ---- what is known

  -- what the entries tell was known before
  abbrev pub Knows : List Entry → Type 0
  Knows fs = (key : KeyView) (e : Entry) → entry_for key fs ≡ Some e → IsKnown l ring es key e.version

  pub knows_self : Knows es
  knows_self key e q = inl (e, q, refl)

  -- an entry of the key, with this version, was there
  pub member_known : (key : KeyView) (n : ℕ) (e : Entry) → In e es → e.key ≡ key → e.version ≡ n → IsKnown l ring es key n
  member_known key n e m own v = inl (e, subst (λ k. entry_for k es ≡ Some e) own (in_own es e i.shape.book.distinct m), v)

  pub knows_changed : (change : Entry → Entry) → ((e : Entry) → (change e).key ≡ e.key) → ((e : Entry) → (change e).version ≡ e.version) → (key : KeyView)
      → Knows (with_changed change key es)
  knows_changed change keys versions key own f q =
      let r = in_mapped (λ e. if is_of key e then change e else e) es f (in_found (is_of own) (with_changed change key es) f q) in
      member_known own f.version r.0 r.1
      (sym (found_key own (with_changed change key es) f q ∙ (ap (λ e. e.key) r.2 ∙ field_kept (λ e. e.key) change keys key r.0)))
      (sym (ap (λ e. e.version) r.2 ∙ field_kept (λ e. e.version) change versions key r.0))

  pub knows_without : (key : KeyView) → Knows (without_key key es)
  knows_without key own f q =
      member_known own f.version f (in_filtered (λ e. not (is_of key e)) es f (in_found (is_of own) (without_key key es) f q)) (sym (found_key own (without_key key es) f q)) refl

  -- a key that is taken was learned
  pub knows_take : (ended : Option KeyView) (pipe cell : ℕ) (d : Book) → TakesBook l s.controller.numbers ended (s.words (name.Ring pipe cell)) s.controller.book d
      → Knows d.entries
  knows_take ended pipe cell d (same_book u) = knows_self
  knows_take ended pipe cell d (closed_book r read kind c) = knows_changed closed (λ e. refl) (λ e. refl) r.key
  knows_take ended pipe cell d (learned_book r read kind c n) = λ own f q.
      at own f q (in_parts es (fresh r.key r.version s.controller.book.taken ∷ []) f (in_found (is_of own) (es ++ fresh r.key r.version s.controller.book.taken ∷ []) f q))
    where
      learned : SomeLearn l ring r.key r.version
      learned = (pipe, cell, read ∙ ap (λ k. Some (record { kind = k; version = r.version; key = r.key })) kind)

      at : (own : KeyView) (f : Entry) → entry_for own (es ++ fresh r.key r.version s.controller.book.taken ∷ []) ≡ Some f
          → In f es ⊎ In f (fresh r.key r.version s.controller.book.taken ∷ []) → IsKnown l ring es own f.version
      at own f q (inl m) = member_known own f.version f m (sym (found_key own (es ++ fresh r.key r.version s.controller.book.taken ∷ []) f q)) refl
      at own f q (inr (inl z)) =
          let key : own ≡ r.key = found_key own (es ++ fresh r.key r.version s.controller.book.taken ∷ []) f q ∙ ap (λ e. e.key) z in
          inr (subst (λ k. SomeLearn l ring k f.version) (sym key) (subst (λ v. SomeLearn l ring r.key v) (sym (ap (λ e. e.version) z)) learned))
      at own f q (inr (inr z)) = absurd z

  -- ---- each packet

  pub each_tracked : (after : Place → ℕ) (now : ℕ → ℕ) (t : ℕ → ℕ → ℕ) (fs : List Entry) (lines : List Line)
      → ((p : ℕ) (v : PipeView) (f : Flight) (leg : Leg) → slice_get s.pipes p ≡ Some v → v.stage ≡ Fly f leg → Tracked l w bits ring es (printed s) f leg
      → Tracked l after now t fs lines f leg)
      → EachPipe (λ p v. OnLeg v.stage (Tracked l after now t fs lines)) s.pipes
  each_tracked after now t fs lines turn p v q =
      leg_then v.stage (Tracked l w bits ring es (printed s)) (Tracked l after now t fs lines) (λ f leg e h. turn p v f leg q e h) (i.track.track.track p v q)

  -- the filter is the same, or no packet in flight has loaded Transit
  abbrev pub BitsStay : Option Op → Type 0
  BitsStay None = Unit {0}
  BitsStay (Some o) =
      (bit_words (op_words s.words o) ≡ bits)
      ⊎ ((p : ℕ) (v : PipeView) (f : Flight) (leg : Leg) → slice_get s.pipes p ≡ Some v → v.stage ≡ Fly f leg → f.vip.phase ≢ Transit)

  -- what the entries tell after the step was known before it
  abbrev pub AnswerKnows : Job → Option Op → Type 0
  AnswerKnows j None = Unit {0}
  AnswerKnows j (Some o) = Knows (book_next s.config s.controller j (op_answer o (s.words (op_name o)))).entries

  -- a step that writes no entry
  pub frame : (j : Job) (o : Option Op) → AfterJob (λ t. printed t ≡ tells s.config s.controller j (s.words name.Tick) ++ printed s) s j o
      → AfterJob (RingsFall s) s j o → LeavesEntries s o → BitsStay o → AnswerKnows j o
      → AfterJob Tracks s j o
  frame j None lines falls same stay knows = tt
  frame j (Some o) lines falls same stay knows =
      let x = op_answer o (s.words (op_name o)) in
      let fs = (book_next s.config s.controller j x).entries in
      let now = bit_words (op_words s.words o) in
      let t = ring_words (op_words s.words o) in
      let new : List Line = tells s.config s.controller j (s.words name.Tick) ++ printed s in
      subst (λ z. EachPipe (λ p v. OnLeg v.stage (Tracked l (entry_words (op_words s.words o)) now t fs z)) s.pipes) (sym lines)
      (subst (λ z. EachPipe (λ p v. OnLeg v.stage (Tracked l z now t fs new)) s.pipes) (sym same)
      (each_tracked w now t fs new (λ p v f leg q e h n known duty.
      kept p v f leg q e n stay (h n (back f.packet.key n known) (duty_before (s.words name.Tick) (tells s.config s.controller j (s.words name.Tick)) (printed s) f (tells_out s.config s.controller j (s.words name.Tick)) (entered_drawn s i.ticks p v f leg q e).1 duty)))))
    where
      back : (key : KeyView) (n : ℕ)
          → IsKnown l (ring_words (op_words s.words o)) (book_next s.config s.controller j (op_answer o (s.words (op_name o)))).entries key n → IsKnown l ring es key n
      back key n (inl (e, q, v)) = subst (IsKnown l ring es key) v (knows key e q)
      back key n (inr (pipe, c, read)) = at (falls pipe c)
        where
          at : (op_words s.words o (name.Ring pipe c) ≡ s.words (name.Ring pipe c)) ⊎ (op_words s.words o (name.Ring pipe c) ≡ 0) → IsKnown l ring es key n
          at (inl y) = inr (pipe, c, ap (read_report l) (sym y) ∙ read)
          at (inr y) = absurd (none_reported l (op_words s.words o (name.Ring pipe c)) _ (grind (arith, nat_tests)) read)

      kept : (p : ℕ) (v : PipeView) (f : Flight) (leg : Leg) → slice_get s.pipes p ≡ Some v → v.stage ≡ Fly f leg → (n : ℕ) → BitsStay (Some o)
          → GoesBy l w bits n f leg → GoesBy l w (bit_words (op_words s.words o)) n f leg
      kept p v f leg q e n (inl y) h = subst (λ b. GoesBy l w b n f leg) (sym y) h
      kept p v f leg q e n (inr y) h = bits_go l f n w bits (bit_words (op_words s.words o)) leg (y p v f leg q e) (leg_fits s i p v f leg q e) h

  -- while the filter is cleared, no packet in flight has loaded Transit
  pub cleared_else : (u : PoolUpdate) (index : ℕ) → s.controller.job ≡ job.Store (store.Filter u index) → (p : ℕ) (v : PipeView) (f : Flight) (leg : Leg)
      → slice_get s.pipes p ≡ Some v → v.stage ≡ Fly f leg → f.vip.phase ≢ Transit
  cleared_else u index e p v f leg q k t = at (subst (λ z. HasWord s.controller.vips z p f) e (loaded_word s i p v f leg q k))
    where
      here : JobAt s.config s.controller.update s.controller.vips (job.Store (store.Filter u index))
      here = subst (JobAt s.config s.controller.update s.controller.vips) e i.update.update.phase

      transit_else : Transit ≡ Steady → ⊥
      transit_else z = cc

      at : HasWord s.controller.vips (job.Store (store.Filter u index)) p f → ⊥
      at (inr z) = z
      at (inl z) =
          let a = updated s i f.packet.key.vip (λ y. transit_else (sym t ∙ (ap (λ z. z.phase) z ∙ y))) in
          let same : a.update ≡ u = same_Some a.update u (sym a.is ∙ here.0.0) in
          transit_else (sym t ∙ (ap (λ z. z.phase) z ∙ (ap (λ y. (vip_at s.controller.vips y).phase) (a.own ∙ ap (λ y. y.vip) same) ∙ ap (λ y. y.phase) here.0.1)))
