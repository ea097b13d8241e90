-- Each place of the filter that is set was set by an opener that was sent to another pool since the update was recorded.
use Rattle.std.proofs.Common.{◌≡◌, ℕ, ◌-◌, ◌<◌, Bool, true, false, ◌&&◌, ◌||◌, not, ◌≢◌, ◌⊎◌, List, [], ◌∷◌, ◌++◌, length, if◌then◌else◌, ◌==◌, slice_get, slice_set, Some, None, Option, option_to_list, sym, refl, ap, ◌∙◌, subst, inl, inr, true≢false, arith, append_assoc}
use Rattle.std.proofs.lemmas.Bool.{and_parts, cases_eq}
use Rattle.std.proofs.lemmas.Bool.Decides.{nat_tests}
use Rattle.std.proofs.lemmas.Option.{same_Some}
use Rattle.std.specs.List.{list_any}
use Rattle.sr_base.specs.Layout.{LayoutView}
use Rattle.sr_base.specs.VipWord.{NextFits}
use Rattle.sr_base.specs.declared.kind.Kind.{Kind}
use Rattle.sr_base.specs.declared.kind.Kind.TheVariants.{Opener, Carry, Ending}
use Rattle.sr_base.specs.declared.vip_word.Phase.{Phase}
use Rattle.sr_base.specs.declared.vip_word.Phase.TheVariants.{Steady, Recording, Holding, Transit}
use Rattle.sr_base.specs.declared.vip_word.VipWord.{VipWord}
use Rattle.sr_inv_facts.proofs.Beginning.{begun_by}
use Rattle.sr_inv_facts.proofs.CurrentVersions.{phase_given}
use Rattle.sr_inv_facts.proofs.Filters.{set_only, with_place, word_within, zero_unset}
use Rattle.sr_inv_facts.proofs.Lists.{of_some}
use Rattle.sr_inv_facts.proofs.Pipes.{idle, some_else, some_here}
use Rattle.sr_inv_facts.proofs.Printing.{job_tells, pipe_silent, prints, stage_prints}
use Rattle.sr_inv_facts.proofs.Ranges.{word_fits}
use Rattle.sr_inv_facts.specs.Fitted.{IsPacket}
use Rattle.sr_inv_facts.specs.Flying.{OnFlight, OnLeg}
use Rattle.sr_inv_facts.specs.InCauses.{endings_in, setup_of}
use Rattle.sr_inv_facts.specs.InFilter.{HasSet, IsSetBy, Markers, MarkersKept, SetsNow}
use Rattle.sr_inv_facts.specs.InFlight.{Chooses, ChoosesBy, HasWord, LegTells}
use Rattle.sr_inv_facts.specs.InShape.{LegFits, StageFits}
use Rattle.sr_inv_facts.specs.InUpdate.{AtFirst, AtPhase, IsAside, JobAt, OnGiven, UpdateFits, group_by, group_of_phase, group_recording, is_ungiven, newest}
use Rattle.sr_inv_facts.specs.InWords.{IsCleared}
use Rattle.sr_inv_facts.specs.Invariant.{Invariant}
use Rattle.sr_inv_facts.specs.Laws.{OpensWith}
use Rattle.sr_inv_facts.specs.Readings.{In, bit_words, is_set_in}
use Rattle.sr_inv_filter.proofs.FilterSteps.{mark_recorded, storing, step_bits}
use Rattle.sr_inv_filter.proofs.LoadedPhases.{RecordedAt, phase_is, recorded_at}
use Rattle.sr_inv_filter.proofs.RecordedLines.{held_same, recorded_same, set_before, set_by}
use Rattle.sr_inv_filter.proofs.Sent.{opener_has}
use Rattle.sr_inv_flight.proofs.Choosing.{choices_part}
use Rattle.sr_inv_flight.proofs.LoadedServers.{servers_part}
use Rattle.sr_inv_flight.proofs.LoadedWords.{words_part}
use Rattle.sr_inv_flight.proofs.Steps.{OnOp}
use Rattle.sr_law.specs.Given.{has_pool, last_given}
use Rattle.sr_law.specs.Groups.{after_gives, last_of_update, was_held, was_recorded}
use Rattle.sr_law.specs.Held.{is_set, recorded_giving, records, sets_place}
use Rattle.sr_law.specs.declared.line.Line.{Line}
use Rattle.sr_law.specs.declared.verdict.Verdict.{Verdict}
use Rattle.sr_machine.specs.Begins.{Begins}
use Rattle.sr_machine.specs.Core.{Core, printed}
use Rattle.sr_machine.specs.Deciding.{named_at, vip_at}
use Rattle.sr_machine.specs.Draws.{draw_line}
use Rattle.sr_machine.specs.Jobs.{job_op}
use Rattle.sr_machine.specs.Keeping.{AfterJob, AfterStage, Keeps, begun_core, job_core}
use Rattle.sr_machine.specs.Names.{rewritten}
use Rattle.sr_machine.specs.Opening.{opening_controller}
use Rattle.sr_machine.specs.Ops.{op_answer, op_name, op_words}
use Rattle.sr_machine.specs.Pipe.{is_idle, packet_line, pipe_after, pipe_op}
use Rattle.sr_machine.specs.Reads.{filter_word, has_bit, steady}
use Rattle.sr_machine.specs.Stages.{is_opener, is_recorded, is_recording, is_to, key_bits, marking, stage_after}
use Rattle.sr_machine.specs.Starting.{Start}
use Rattle.sr_machine.specs.Stores.{is_last_filter, phase_word}
use Rattle.sr_machine.specs.declared.draw.Draw.{Draw}
use Rattle.sr_machine.specs.declared.flight.Flight.{Flight}
use Rattle.sr_machine.specs.declared.job.Job.{Job}
use Rattle.sr_machine.specs.declared.leg.Leg.TheVariants.{Judged}
use Rattle.sr_machine.specs.declared.op.Op.{Op}
use Rattle.sr_machine.specs.declared.pipe_view.PipeView.{PipeView}
use Rattle.sr_machine.specs.declared.pool_update.PoolUpdate.{PoolUpdate}
use Rattle.sr_machine.specs.declared.stage.Stage.{Stage}
use Rattle.sr_machine.specs.declared.stage.Stage.TheVariants.{Idle, Enter, Note, Vip, Fly, Leave}
use Rattle.sr_law.specs.declared.line.Line.TheVariants as line
use Rattle.sr_law.specs.declared.verdict.Verdict.TheVariants as verdict
use Rattle.sr_machine.specs.Begins as begin
use Rattle.sr_machine.specs.declared.draw.Draw.TheVariants as draw
use Rattle.sr_machine.specs.declared.job.Job.TheVariants as job
use Rattle.sr_machine.specs.declared.leg.Last.TheVariants as last
use Rattle.sr_machine.specs.declared.name.Name.TheVariants as name
use Rattle.sr_machine.specs.declared.op.Op.TheVariants as op
use Rattle.sr_machine.specs.declared.stage.Stage.TheVariants as stage
use Rattle.sr_machine.specs.declared.store.Store.TheVariants as store

-- ---- places that a packet sets

in_front : (bit : ℕ) (xs ys : List ℕ) → In bit xs → In bit (xs ++ ys)
in_front bit [] ys i = absurd i
in_front bit (x ∷ xs) ys (inl e) = inl e
in_front bit (x ∷ xs) ys (inr i) = inr (in_front bit xs ys i)

in_last : (bit : ℕ) (xs : List ℕ) → In bit (xs ++ bit ∷ [])
in_last bit [] = inl refl
in_last bit (x ∷ xs) = inr (in_last bit xs)

-- it has set one place more
set_next : (places front rest : List ℕ) (bit next : ℕ) → places ≡ front ++ (next ∷ rest) → In bit (front ++ next ∷ []) → HasSet places bit (marking rest)
set_next places front [] bit next e i = subst (In bit) (sym e) i
set_next places front (b ∷ rest) bit next e i = (front ++ next ∷ [], e ∙ sym (append_assoc front (next ∷ []) (b ∷ rest)), i)

-- what is known of an opener that is recorded
opener_of : (kind : Kind) (b : Bool) → (is_opener kind && b) ≡ true → kind ≡ Opener
opener_of Opener b e = refl
opener_of Carry b e = cc
opener_of Ending b e = cc

recording_of : (p : Phase) → is_recording p ≡ true → p ≡ Recording
recording_of Recording e = refl
recording_of Steady e = cc
recording_of Holding e = cc
recording_of Transit e = cc

found_in : (bit : ℕ) (places : List ℕ) → In bit places → list_any (λ p. p == bit) places ≡ true
found_in bit [] i = absurd i
found_in bit (x ∷ places) (inl e) = let here : (x == bit) ≡ true = grind (arith, nat_tests) in ap (λ b. b || list_any (λ p. p == bit) places) here
found_in bit (x ∷ places) (inr i) = at (x == bit) (found_in bit places i)
  where
    at : (b : Bool) → list_any (λ p. p == bit) places ≡ true → (b || list_any (λ p. p == bit) places) ≡ true
    at true h = refl
    at false h = h

module _ (s : Core) (i : Invariant s) where
  abbrev l : LayoutView
  l = s.config.layout

  abbrev vips : List VipWord
  vips = s.controller.vips

  abbrev update : Option PoolUpdate
  update = s.controller.update

  abbrev lines : List Line
  lines = printed s

  fits : (u : PoolUpdate) → update ≡ Some u → UpdateFits s.config u
  fits u e = of_some (UpdateFits s.config) update u i.update.update.fits e

  -- ---- the pool that the update switches to

  recording_cases : (u : PoolUpdate) (j : Job) (o : Option Line) → group_recording u j o ≡ true → (was_recorded u.vip o ≡ true) ⊎ (was_held u.vip o ≡ true)
  recording_cases u (job.Store (store.Vip w Holding)) o h = inr h
  recording_cases u j o h = inl h

  abbrev last_line : Option Line
  last_line = last_of_update (after_gives l.vips lines)

  grouped : (u : PoolUpdate) (p : Phase) → update ≡ Some u → vip_at vips u.vip ≡ phase_word u p
      → group_of_phase u (phase_word u p) s.controller.job (phase_word u p).phase last_line ≡ true
  grouped u p e w =
      subst (λ z. group_of_phase u z s.controller.job z.phase last_line ≡ true) w
      (subst (λ o. group_by o vips s.controller.job last_line ≡ true) e i.update.changes.group)

  -- it is the one that was given last
  giving_last : (u : PoolUpdate) → update ≡ Some u → (vip_at vips u.vip ≡ phase_word u Recording) ⊎ (vip_at vips u.vip ≡ phase_word u Holding)
      → recorded_giving lines u.vip ≡ last_given lines u.vip
  giving_last u e (inl w) = at (recording_cases u s.controller.job last_line (grouped u Recording e w))
    where
      at : (was_recorded u.vip last_line ≡ true) ⊎ (was_held u.vip last_line ≡ true) → recorded_giving lines u.vip ≡ last_given lines u.vip
      at (inl h) = recorded_same (setup_of s.config) (endings_in s.pipes lines) u.vip lines (length lines - l.vips) h
      at (inr h) = held_same (setup_of s.config) (endings_in s.pipes lines) u.vip lines (length lines - l.vips) i.causes.causes.clauses h
  giving_last u e (inr w) =
      held_same (setup_of s.config) (endings_in s.pipes lines) u.vip lines (length lines - l.vips) i.causes.causes.clauses (grouped u Holding e w)

  given_since : (u : PoolUpdate) → update ≡ Some u → (vip_at vips u.vip ≡ phase_word u Recording) ⊎ (vip_at vips u.vip ≡ phase_word u Holding)
      → is_ungiven s.controller.job ≡ false
  given_since u e (inl w) = phase_given s i u Recording e w
  given_since u e (inr w) = phase_given s i u Holding e w

  -- and so the update's
  giving_is : (u : PoolUpdate) → update ≡ Some u → (vip_at vips u.vip ≡ phase_word u Recording) ⊎ (vip_at vips u.vip ≡ phase_word u Holding)
      → recorded_giving lines u.vip ≡ Some (record { version = u.given; pool = u.pool })
  giving_is u e w =
      let g : is_ungiven s.controller.job ≡ false = given_since u e w in
      let version : newest update vips s.controller.job u.vip ≡ u.given =
      ap (λ o. newest o vips s.controller.job u.vip) e ∙ (ap (λ b. if u.vip == u.vip then (if b then u.replaced else u.given) else (vip_at vips u.vip).cur) g ∙ own (u.vip == u.vip) (grind (arith, nat_tests))) in
      let named : named_at s.controller.named u.vip u.given ≡ u.pool =
      subst (λ o. OnGiven o s.controller.job (λ u. named_at s.controller.named u.vip u.given ≡ u.pool)) e i.update.versions.given g in
      giving_last u e w
      ∙ (i.update.versions.last u.vip (fits u e).vip
      ∙ (ap (λ n. Some (record { version = n; pool = named_at s.controller.named u.vip n })) version
      ∙ ap (λ p. Some (record { version = u.given; pool = p })) named))
    where
      own : (b : Bool) → b ≡ true → (if b then u.given else (vip_at vips u.vip).cur) ≡ u.given
      own true q = refl
      own false q = cc

  -- ---- a packet's line

  -- the line of an opener that was recorded tells that it may have set its places
  line_sets : (p : ℕ) (v : PipeView) → slice_get s.pipes p ≡ Some v → (f : Flight) (w : Verdict) → v.stage ≡ Fly f (Judged w last.Out) → (u : PoolUpdate) → update ≡ Some u
      → (bit out number : ℕ) → is_recorded f w ≡ true → f.packet.key.vip ≡ u.vip → In bit (key_bits l f.packet.key)
      → sets_place l.shape.filter_bits u.vip (recorded_giving lines u.vip) bit (packet_line number f w out) ≡ true
  line_sets p v q f (verdict.To server version pool) e u is bit out number recorded own within = at f.packet.kind (opener_of f.packet.kind (is_recording f.vip.phase) recorded)
    where
      phase : f.vip.phase ≡ Recording
      phase = recording_of f.vip.phase (and_parts (is_opener f.packet.kind) (is_recording f.vip.phase) recorded).1

      r : RecordedAt update vips f.packet.key.vip f.vip
      r = recorded_at s i p f.entered f.packet.key.vip f.vip (subst (λ z. OnFlight z (HasWord vips s.controller.job p)) e (words_part s i p v q)) phase

      same : r.u ≡ u
      same = same_Some r.u u (sym r.is ∙ is)

      choice : f.packet.kind ≡ Opener → ChoosesBy f.vip version
      choice o = opener_has f.packet.kind (ChoosesBy f.vip version) o (subst (λ z. OnLeg z Chooses) e (choices_part s i p v q)).choice

      -- it went to the pool that is replaced
      replaced : f.packet.kind ≡ Opener → version ≡ u.replaced
      replaced o = (subst (λ w. ChoosesBy w version) (r.word ∙ ap (λ z. phase_word z Recording) same) (choice o)).0

      other : f.packet.kind ≡ Opener → (u.pool == pool) ≡ false
      other o =
          let names : named_at s.controller.named f.packet.key.vip version ≡ pool =
          (subst (λ z. OnLeg z (λ f leg. LegTells s.config s.controller.named f.packet.key leg)) e (servers_part s i p v q)).names in
          let less : named_at s.controller.named u.vip u.replaced < u.pool =
          of_some (λ u. named_at s.controller.named u.vip u.replaced < u.pool) update u i.update.versions.rises is in
          let here : named_at s.controller.named u.vip u.replaced ≡ pool =
          ap (λ n. named_at s.controller.named n u.replaced) (sym own) ∙ (ap (named_at s.controller.named f.packet.key.vip) (sym (replaced o)) ∙ names) in
          let apart : u.pool ≢ pool = λ q. omega (arith, less, here, q) in
          grind (arith, nat_tests)

      giving : recorded_giving lines u.vip ≡ Some (record { version = u.given; pool = u.pool })
      giving =
          giving_is u is (subst (λ z. (vip_at vips z.vip ≡ phase_word z Recording) ⊎ (vip_at vips z.vip ≡ phase_word z Holding)) same r.now)

      at : (kind : Kind) → f.packet.kind ≡ Opener
          → sets_place l.shape.filter_bits u.vip (recorded_giving lines u.vip) bit (packet_line number f (verdict.To server version pool) out) ≡ true
      at kind o =
          subst (λ k. sets_place l.shape.filter_bits u.vip (recorded_giving lines u.vip) bit (line.Packet f.packet.number f.entered out number f.packet.key k (verdict.To server version pool)) ≡ true) (sym o)
          (three (f.packet.key.vip == u.vip) (not (has_pool (recorded_giving lines u.vip) pool)) (list_any (λ p. p == bit) (key_bits l f.packet.key)) (grind (arith, nat_tests))
          (ap (λ g. not (has_pool g pool)) giving ∙ ap not (other o)) (found_in bit (key_bits l f.packet.key) within))
        where
          three : (a b c : Bool) → a ≡ true → b ≡ true → c ≡ true → (a && b && c) ≡ true
          three true true true x y z = refl
          three true true false x y z = cc
          three true false c x y z = cc
          three false b c x y z = cc
  line_sets p v q f w e u is bit out number recorded own within =
      absurd (true≢false (sym (and_parts (is_to w) (is_recording f.vip.phase) (and_parts (is_opener f.packet.kind) (is_to w && is_recording f.vip.phase) recorded).1).0))

  -- ---- what is said of an update

  by_update : (after : ℕ → ℕ) (ws : List VipWord) (ls : List Line) (pipes : List PipeView) (o : Option PoolUpdate)
      → ((u : PoolUpdate) → o ≡ Some u → vip_at ws u.vip ≢ steady u.replaced → (bit : ℕ) → bit < l.shape.filter_bits → is_set_in after bit ≡ true → IsSetBy l ls pipes u bit)
      → Markers l after ws ls pipes o
  by_update after ws ls pipes None h = tt
  by_update after ws ls pipes (Some u) h = h u refl

  old : (u : PoolUpdate) → update ≡ Some u → vip_at vips u.vip ≢ steady u.replaced → (bit : ℕ) → bit < l.shape.filter_bits
      → is_set_in (bit_words s.words) bit ≡ true
      → IsSetBy l lines s.pipes u bit
  old u e = subst (Markers l (bit_words s.words) vips lines s.pipes) e i.filter.filter.markers

  -- ---- a pipe's step

  abbrev Told : List Line → PoolUpdate → ℕ → Type 0
  Told ls u bit = is_set l.shape.filter_bits u.vip (recorded_giving ls u.vip) bit ls ≡ true

  module _ (p : ℕ) (v : PipeView) (q : slice_get s.pipes p ≡ Some v) where
    -- what the pipe has set it still has, or its line tells of it
    own_sets : (at : Stage) → v.stage ≡ at → (x : ℕ) (u : PoolUpdate) → update ≡ Some u → (bit : ℕ) → SetsNow l u.vip bit at
        → SetsNow l u.vip bit (stage_after l at x) ⊎ Told (prints v.number at x ++ lines) u bit
    own_sets (Fly f (Judged w (last.Mark next rest))) e x u is bit (r, own, h) =
        inl (r, own, set_next (key_bits l f.packet.key) h.0 rest bit next h.1 (in_front bit h.0 (next ∷ []) h.2))
    own_sets (Fly f (Judged w last.Push)) e x u is bit h = inl h
    own_sets (Fly f (Judged w last.Out)) e x u is bit (r, own, h) =
        inr (set_by l.shape.filter_bits u.vip bit (packet_line v.number f w x) lines refl (line_sets p v q f w e u is bit x v.number r own h))
    own_sets (Fly f (Judged w last.Ring)) e x u is bit h = absurd h.2
    own_sets at e x u is bit h = absurd h

    lines_more : (at : Stage) (x : ℕ) (u : PoolUpdate) (bit : ℕ) → Told lines u bit → Told (prints v.number at x ++ lines) u bit
    lines_more (Fly f (Judged w last.Out)) x u bit h = set_before l.shape.filter_bits u.vip bit (packet_line v.number f w x) lines refl h
    lines_more at x u bit h = h

    -- who set a place set it still
    each_set_by : (at : Stage) → v.stage ≡ at → (x : ℕ) (u : PoolUpdate) → update ≡ Some u → (bit : ℕ) → IsSetBy l lines s.pipes u bit
        → IsSetBy l (prints v.number at x ++ lines) (slice_set s.pipes p (pipe_after l v at x)) u bit
    each_set_by at e x u is bit (inl h) = inl (lines_more at x u bit h)
    each_set_by at e x u is bit (inr (n, w, r, h)) = by (cases_eq n p)
      where
        here : SetsNow l u.vip bit (stage_after l at x) ⊎ Told (prints v.number at x ++ lines) u bit
            → IsSetBy l (prints v.number at x ++ lines) (slice_set s.pipes p (pipe_after l v at x)) u bit
        here (inl g) = inr (some_here s.pipes p v (pipe_after l v at x) q (λ p v. SetsNow l u.vip bit v.stage) g)
        here (inr g) = inl g

        by : (n ≡ p) ⊎ (n ≢ p) → IsSetBy l (prints v.number at x ++ lines) (slice_set s.pipes p (pipe_after l v at x)) u bit
        by (inl same) =
            let its : w ≡ v = same_Some w v (sym r ∙ (ap (slice_get s.pipes) same ∙ q)) in
            here (own_sets at e x u is bit (subst (SetsNow l u.vip bit) (ap (λ z. z.stage) its ∙ e) h))
        by (inr other) = inr (some_else s.pipes p v (pipe_after l v at x) q (λ p v. SetsNow l u.vip bit v.stage) n w other r h)

    -- the lines after the step, where the answer of the one that draws a tick is that tick
    prints_at : (at : Stage) → OnOp (pipe_op l v at) (λ o. prints v.number at (op_answer o (s.words (op_name o))) ≡ prints v.number at (s.words name.Tick))
    prints_at Idle = tt
    prints_at (Fly f (Judged w last.Out)) = refl
    prints_at at = refl

    stage_frame : (at : Stage) → v.stage ≡ at → (o : Option Op) → OnOp o (λ o. bit_words (op_words s.words o) ≡ bit_words s.words)
        → OnOp o (λ o. prints v.number at (op_answer o (s.words (op_name o))) ≡ prints v.number at (s.words name.Tick))
        → AfterStage (λ t. printed t ≡ prints v.number at (s.words name.Tick) ++ lines) s p v at o
        → AfterStage MarkersKept s p v at o
    stage_frame at e None b n h = tt
    stage_frame at e (Some o) b n h =
        let x = op_answer o (s.words (op_name o)) in
        let pipes = slice_set s.pipes p (pipe_after l v at x) in
        subst (λ ls. Markers l (bit_words (op_words s.words o)) vips ls pipes update) (sym (h ∙ ap (λ z. z ++ lines) (sym n)))
        (subst (λ z. Markers l z vips (prints v.number at x ++ lines) pipes update) (sym b)
        (by_update (bit_words s.words) vips (prints v.number at x ++ lines) pipes update (λ u is w bit within set. each_set_by at e x u is bit (old u is w bit within set))))

    -- a place is set now
    mark_kept : (f : Flight) (w : Verdict) (place : ℕ) (rest : List ℕ) → v.stage ≡ Fly f (Judged w (last.Mark place rest))
        → AfterStage MarkersKept s p v (Fly f (Judged w (last.Mark place rest))) (pipe_op l v (Fly f (Judged w (last.Mark place rest))))
    mark_kept f w place rest e =
        let at = Fly f (Judged w (last.Mark place rest)) in
        let x = s.words (name.Filter (filter_word place)) in
        let pipes = slice_set s.pipes p (pipe_after l v at x) in
        subst (λ ls. Markers l (with_place (bit_words s.words) place) vips ls pipes update) (sym (stage_prints s p v at i.ticks q))
        (by_update (with_place (bit_words s.words) place) vips lines pipes update (λ u is d bit within set. by u is d bit within (set_only (bit_words s.words) place bit set)))
      where
        fit : LegFits l f (Judged w (last.Mark place rest))
        fit = (subst (StageFits l) e (i.shape.pipes.stage p v q)).1

        recorded : is_recorded f w ≡ true
        recorded =
            ap (λ k. is_opener k && (is_to w && is_recording f.vip.phase)) fit.1.opener
            ∙ (ap (λ b. b && is_recording f.vip.phase) fit.1.sent ∙ ap is_recording fit.1.recording)

        own : (u : PoolUpdate) → update ≡ Some u → f.packet.key.vip ≡ u.vip
        own u is = let r = mark_recorded s i p v q f w place rest e in r.own ∙ ap (λ z. z.vip) (same_Some r.u u (sym r.is ∙ is))

        by : (u : PoolUpdate) → update ≡ Some u → vip_at vips u.vip ≢ steady u.replaced → (bit : ℕ) → bit < l.shape.filter_bits
            → (is_set_in (bit_words s.words) bit ≡ true) ⊎ (bit ≡ place)
            → IsSetBy l lines (slice_set s.pipes p (pipe_after l v (Fly f (Judged w (last.Mark place rest))) (s.words (name.Filter (filter_word place))))) u bit
        by u is d bit within (inl set) =
            each_set_by (Fly f (Judged w (last.Mark place rest))) e (s.words (name.Filter (filter_word place))) u is bit (old u is d bit within set)
        by u is d bit within (inr same) =
            inr (some_here s.pipes p v (pipe_after l v (Fly f (Judged w (last.Mark place rest))) (s.words (name.Filter (filter_word place)))) q (λ p v. SetsNow l u.vip bit v.stage)
            (recorded, own u is, subst (λ b. HasSet (key_bits l f.packet.key) b (marking rest)) (sym same) (set_next (key_bits l f.packet.key) fit.1.end.0 rest place place fit.1.end.1 (in_last place fit.1.end.0))))

    stage_kept : (at : Stage) → v.stage ≡ at → AfterStage MarkersKept s p v at (pipe_op l v at)
    stage_kept (Fly f (Judged w (last.Mark place rest))) e = mark_kept f w place rest e
    stage_kept at e = stage_frame at e (pipe_op l v at) (step_bits s v at (λ n. n)) (prints_at at) (stage_prints s p v at i.ticks q)

  -- ---- the controller's step

  -- a line that is drawn while a place may be set begins no recording
  unrecorded : (d : Draw) (x vip : ℕ) (m : Line) → draw_line s.config s.controller d x ≡ Some m → ((w : PoolUpdate) → d ≡ draw.Comes w Recording → ⊥)
      → records vip m ≡ false
  unrecorded (draw.Grace w) x vip m e n = cc
  unrecorded (draw.From ms) x vip m e n = cc
  unrecorded (draw.Comes u Steady) x vip m e n = ap (records vip) (sym (same_Some (line.Finished x u.vip) m e))
  unrecorded (draw.Comes u Recording) x vip m e n = absurd (n u refl)
  unrecorded (draw.Comes u Holding) x vip m e n = ap (records vip) (sym (same_Some (line.Hold x u.vip) m e))
  unrecorded (draw.Comes u Transit) x vip m e n = ap (records vip) (sym (same_Some (line.Switched x u.vip u.pool) m e))
  unrecorded (draw.Refused c) x vip m e n = ap (records vip) (sym (same_Some _ m e))
  unrecorded (draw.TakenDown c) x vip m e n = ap (records vip) (sym (same_Some _ m e))
  unrecorded (draw.Given u) x vip m e n = ap (records vip) (sym (same_Some _ m e))
  unrecorded (draw.Reserved p) x vip m e n = ap (records vip) (sym (same_Some _ m e))
  unrecorded (draw.Placed p) x vip m e n = ap (records vip) (sym (same_Some _ m e))
  unrecorded (draw.Cleared key place w) x vip m e n = ap (records vip) (sym (same_Some _ m e))
  unrecorded (draw.Retired key place c) x vip m e n = ap (records vip) (sym (same_Some _ m e))
  unrecorded (draw.Answer r) x vip m e n = ap (records vip) (sym (same_Some _ m e))
  unrecorded (draw.Swept from ms) x vip m e n = ap (records vip) (sym (same_Some _ m e))

  at_job : (j : Job) → s.controller.job ≡ j → JobAt s.config update vips j
  at_job j q = subst (JobAt s.config update vips) q i.update.update.phase

  drawn_kept : (d : Draw) → s.controller.job ≡ job.Draw d → (ls : List Line) → ls ≡ option_to_list (draw_line s.config s.controller d (s.words name.Tick)) ++ lines
      → Markers l (bit_words s.words) vips ls s.pipes update
  drawn_kept d q ls e =
      subst (λ z. Markers l (bit_words s.words) vips z s.pipes update) (sym e)
      (by_update (bit_words s.words) vips (option_to_list (draw_line s.config s.controller d (s.words name.Tick)) ++ lines) s.pipes update (λ u is w bit within set. by u is w bit (old u is w bit within set)))
    where
      no_recording : (u : PoolUpdate) → update ≡ Some u → vip_at vips u.vip ≢ steady u.replaced → (w : PoolUpdate) → d ≡ draw.Comes w Recording → ⊥
      no_recording u is apart w same =
          let a : AtFirst update vips w = at_job (job.Draw (draw.Comes w Recording)) (q ∙ ap job.Draw same) in
          let its : w ≡ u = same_Some w u (sym a.0 ∙ is) in
          apart (subst (λ z. vip_at vips z.vip ≡ steady z.replaced) its a.1)

      more : (u : PoolUpdate) (bit : ℕ) (o : Option Line) → draw_line s.config s.controller d (s.words name.Tick) ≡ o → ((w : PoolUpdate) → d ≡ draw.Comes w Recording → ⊥)
          → Told lines u bit → Told (option_to_list o ++ lines) u bit
      more u bit None e n h = h
      more u bit (Some m) e n h = set_before l.shape.filter_bits u.vip bit m lines (unrecorded d (s.words name.Tick) u.vip m e n) h

      by : (u : PoolUpdate) → update ≡ Some u → vip_at vips u.vip ≢ steady u.replaced → (bit : ℕ) → IsSetBy l lines s.pipes u bit
          → IsSetBy l (option_to_list (draw_line s.config s.controller d (s.words name.Tick)) ++ lines) s.pipes u bit
      by u is apart bit (inl h) = inl (more u bit (draw_line s.config s.controller d (s.words name.Tick)) refl (no_recording u is apart) h)
      by u is apart bit (inr h) = inr h

  -- ---- a phase is stored, or the filter cleared

  phase_apart : (u : PoolUpdate) (p : Phase) → (p ≡ Steady → ⊥) → vip_at vips u.vip ≡ phase_word u p → vip_at vips u.vip ≢ steady u.replaced
  phase_apart u p n e same = n (sym (phase_is u p) ∙ (ap (λ z. z.phase) (sym e ∙ same)))

  -- before Recording no place is set
  none_set : (u : PoolUpdate) → update ≡ Some u → vip_at vips u.vip ≡ steady u.replaced → (bit : ℕ) → bit < l.shape.filter_bits
      → is_set_in (bit_words s.words) bit ≡ true → ⊥
  none_set u is e bit within set =
      let zero_word : s.words (name.Filter (filter_word bit)) ≡ 0 =
      i.words.others.filter (filter_word bit) (word_within bit l.shape.filter_bits within i.shape.config.layout.filter_power)
      (subst (λ o. IsCleared o vips s.controller.job (filter_word bit)) (sym is) (inl e)) in
      zero_unset bit (ap (has_bit bit) (sym zero_word) ∙ set)

  stored_kept : (u : PoolUpdate) (y : Phase) → s.controller.job ≡ job.Store (store.Vip u y)
      → Markers l (bit_words s.words) (slice_set vips u.vip (phase_word u y)) lines s.pipes update
  stored_kept u y q =
      by_update (bit_words s.words) (slice_set vips u.vip (phase_word u y)) lines s.pipes update (λ w is apart bit within set.
      at y q w is (same_Some w u (sym is ∙ storing s i u y q)) bit within set)
    where
      at : (y : Phase) → s.controller.job ≡ job.Store (store.Vip u y) → (w : PoolUpdate) → update ≡ Some w → w ≡ u → (bit : ℕ) → bit < l.shape.filter_bits
          → is_set_in (bit_words s.words) bit ≡ true → IsSetBy l lines s.pipes w bit
      at Recording q w is same bit within set =
          let a : AtFirst update vips u = at_job (job.Store (store.Vip u Recording)) q in absurd (none_set u a.0 a.1 bit within set)
      at Holding q w is same bit within set =
          let a : AtPhase update vips u Recording = at_job (job.Store (store.Vip u Holding)) q in
          old w is (subst (λ z. vip_at vips z.vip ≢ steady z.replaced) (sym same) (phase_apart u Recording (λ e. cc) a.1)) bit within set
      at Transit q w is same bit within set =
          let a : AtPhase update vips u Holding = at_job (job.Store (store.Vip u Transit)) q in
          old w is (subst (λ z. vip_at vips z.vip ≢ steady z.replaced) (sym same) (phase_apart u Holding (λ e. cc) a.1)) bit within set
      at Steady q w is same bit within set =
          let a : AtPhase update vips u Transit = at_job (job.Store (store.Vip u Steady)) q in
          old w is (subst (λ z. vip_at vips z.vip ≢ steady z.replaced) (sym same) (phase_apart u Transit (λ e. cc) a.1)) bit within set

  -- what is set after a word was cleared was set before
  set_cleared : (index bit : ℕ) → is_set_in (bit_words (rewritten s.words (name.Filter index) 0)) bit ≡ true → is_set_in (bit_words s.words) bit ≡ true
  set_cleared index bit h = at (index == filter_word bit) h
    where
      at : (b : Bool) → has_bit bit (if b then 0 else s.words (name.Filter (filter_word bit))) ≡ true → is_set_in (bit_words s.words) bit ≡ true
      at true h = absurd (zero_unset bit h)
      at false h = h

  cleared_kept : (index : ℕ) (b : Bool)
      → Markers l (bit_words (rewritten s.words (name.Filter index) 0)) vips lines s.pipes (if b then None else update)
  cleared_kept index true = tt
  cleared_kept index false =
      by_update (bit_words (rewritten s.words (name.Filter index) 0)) vips lines s.pipes update
      (λ u is apart bit within set. old u is apart bit within (set_cleared index bit set))

  job_kept : (j : Job) → s.controller.job ≡ j → AfterJob MarkersKept s j (job_op s.config s.controller j)
  job_kept job.Free q = tt
  job_kept (job.Draw d) q = drawn_kept d q (printed (job_core s (job.Draw d) (op.Adds name.Tick 1))) (job_tells s (job.Draw d) i.ticks)
  job_kept (job.Store (store.Vip u y)) q = stored_kept u y q
  job_kept (job.Store (store.Filter u index)) q = cleared_kept index (is_last_filter l index)
  job_kept (job.Store (store.Down server)) q = i.filter.filter.markers
  job_kept j q = i.filter.filter.markers

  -- ---- what begins

  steady_is : (w : VipWord) → w.phase ≡ Steady → NextFits w.phase w.cur w.next → w ≡ steady w.cur
  steady_is w e f =
      let next : w.next ≡ w.cur = subst (λ p. NextFits p w.cur w.next) e f in
      ap (λ p. record { phase = p; cur = w.cur; next = w.next }) e ∙ ap (λ n. record { phase = Steady; cur = w.cur; next = n }) next

  begins_kept : MarkersKept (begun_core s)
  begins_kept =
      begun_by s.config s.controller (λ c. Markers l (bit_words s.words) c.vips lines s.pipes c.update) i.filter.filter.markers (λ q t g. by t g)
    where
      by : (t : Start) → Begins s.config s.controller t → Markers l (bit_words s.words) vips lines s.pipes t.update
      by t (begin.changes g rest number none a b c) = λ apart.
          absurd (apart (steady_is (vip_at vips g.vip) (i.update.update.others g.vip (subst (λ o. IsAside o g.vip) (sym none) tt))
          (word_fits s.config i.shape.config.layout s.controller i.shape.book i.shape.controller g.vip).fits))
      by t g = i.filter.filter.markers

  enters_kept : (p : ℕ) (v w : PipeView) → slice_get s.pipes p ≡ Some v → is_idle v.stage ≡ true → w.lines ≡ v.lines
      → MarkersKept (record s { pipes = slice_set s.pipes p w })
  enters_kept p v w q r e =
      subst (λ ls. Markers l (bit_words s.words) vips ls (slice_set s.pipes p w) update) (sym (pipe_silent s p v w q e s.words))
      (by_update (bit_words s.words) vips lines (slice_set s.pipes p w) update (λ u is apart bit within set. by u bit (old u is apart bit within set)))
    where
      by : (u : PoolUpdate) (bit : ℕ) → IsSetBy l lines s.pipes u bit → IsSetBy l lines (slice_set s.pipes p w) u bit
      by u bit (inl h) = inl h
      by u bit (inr (n, z, t, h)) = at (cases_eq n p)
        where
          at : (n ≡ p) ⊎ (n ≢ p) → IsSetBy l lines (slice_set s.pipes p w) u bit
          at (inl same) =
              let its : z ≡ v = same_Some z v (sym t ∙ (ap (slice_get s.pipes) same ∙ q)) in
              absurd (subst (SetsNow l u.vip bit) (ap (λ y. y.stage) its ∙ idle v.stage r) h)
          at (inr other) = inr (some_else s.pipes p v w q (λ p v. SetsNow l u.vip bit v.stage) n z other t h)

-- ---- every event

pub markers_keep : Keeps IsPacket Invariant MarkersKept
markers_keep = record {
  stages = λ s p v at q e i h. stage_kept s i p v q at e;
  begins = λ s i h. begins_kept s i;
  jobs = λ s j q b i h. job_kept s i j q;
  enters = λ s p v packet q r u n a i h. enters_kept s i p v (record v { stage = stage.Enter packet }) q r refl;
  clocks = λ s ms q i h. h;
  refusals = λ s q i h. h;
}

pub markers_part : (s : Core) → Invariant s → MarkersKept s
markers_part s i = i.filter.filter.markers

pub markers_open : OpensWith MarkersKept
unfolding opening_controller
markers_open k f = tt
