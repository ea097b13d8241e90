-- An opener that was sent and isn't out has its report in a ring, or its key is registered: every event keeps it.
use Rattle.sr_base.proofs.Sameness.{same_key-true}
use Rattle.sr_base.specs.Key.{KeyView, same_key}
use Rattle.sr_base.specs.Layout.{LayoutView}
use Rattle.sr_base.specs.declared.kind.Kind.{Kind}
use Rattle.sr_base.specs.declared.kind.Kind.TheVariants.{Carry, Ending, Opener}
use Rattle.sr_base.specs.declared.place.Place.{Place}
use Rattle.sr_base.specs.declared.ring_word.RingKind.TheVariants.{Learn}
use Rattle.sr_base.specs.declared.vip_word.Phase.{Phase}
use Rattle.sr_base.specs.declared.vip_word.Phase.TheVariants.{Holding, Recording, Steady, Transit}
use Rattle.sr_hash.specs.Uses.{is_place_of}
use Rattle.sr_inv_facts.proofs.Books.{found_key}
use Rattle.sr_inv_facts.proofs.Lists.{ranged_at}
use Rattle.sr_inv_facts.proofs.Pipes.{each_set, each_turns}
use Rattle.sr_inv_facts.proofs.Taking.{TakesBook, takes}
use Rattle.sr_inv_facts.specs.Doing.{MissedReserved}
use Rattle.sr_inv_facts.specs.Fitted.{IsPacket}
use Rattle.sr_inv_facts.specs.Flying.{OnLeg}
use Rattle.sr_inv_facts.specs.InJobs.{JobHolds, RetiredHolds, seen}
use Rattle.sr_inv_facts.specs.InOpenings.{IsPushed, IsRegisteredWith, LegPushed}
use Rattle.sr_inv_facts.specs.InTicks.{same}
use Rattle.sr_inv_facts.specs.Invariant.{Invariant}
use Rattle.sr_inv_facts.specs.Laws.{OpensWith}
use Rattle.sr_inv_facts.specs.Readings.{EachPipe, In, SomeLearn, Speaks, ring_words}
use Rattle.sr_inv_matching.proofs.Members.{in_found}
use Rattle.sr_inv_openings.proofs.Parts.{PushedAre}
use Rattle.sr_inv_openings.proofs.Registering.{judged_registered, learn_registers, registered_changed, registered_some, take_registered, without_found}
use Rattle.sr_inv_openings.proofs.RingSteps.{AtOp, learn_left, learn_pushed, pushed_here, pushed_ring, taken_ring}
use Rattle.sr_inv_openings.proofs.Speaking.{learn_current, placed_own, placed_says, sent_known, sent_missed}
use Rattle.sr_law.specs.declared.verdict.HeldBy.{HeldBy}
use Rattle.sr_law.specs.declared.verdict.Verdict.{Verdict}
use Rattle.sr_machine.specs.Core.{Core, opening, printed}
use Rattle.sr_machine.specs.Deciding.{is_withdrawn, ring_count, version_for}
use Rattle.sr_machine.specs.Jobs.{book_next, job_op}
use Rattle.sr_machine.specs.Keeping.{AfterJob, AfterStage, Keeps}
use Rattle.sr_machine.specs.Opening.{opening_pipes}
use Rattle.sr_machine.specs.Ops.{op_answer, op_name, op_words}
use Rattle.sr_machine.specs.Pipe.{fresh_pipe, pipe_after, pipe_op}
use Rattle.sr_machine.specs.Reads.{has_bit, read_flag, read_report, says}
use Rattle.sr_machine.specs.Stages.{begun_flight, filtered, filtering, held_or, is_opener, is_recorded, key_bits, key_places, last_at, last_by, leg_after, loaded, looked, looking, marking, missed_in, report_by, report_of, ring_cell, stage_after, verdict_at, verdict_by}
use Rattle.sr_machine.specs.Taking.{ended_by, taking}
use Rattle.sr_machine.specs.declared.flight.Flight.{Flight}
use Rattle.sr_machine.specs.declared.job.Job.{Job}
use Rattle.sr_machine.specs.declared.leg.Last.{Last}
use Rattle.sr_machine.specs.declared.leg.Leg.{Leg}
use Rattle.sr_machine.specs.declared.leg.Load.{Load}
use Rattle.sr_machine.specs.declared.op.Op.{Op}
use Rattle.sr_machine.specs.declared.pipe_view.PipeView.{PipeView}
use Rattle.sr_machine.specs.declared.said.Said.{Said}
use Rattle.sr_machine.specs.declared.stage.Stage.{Stage}
use Rattle.sr_shadow.specs.Book.{is_registered, without_key}
use Rattle.sr_shadow.specs.Entry.{is_of, left_other, swept}
use Rattle.sr_shadow.specs.declared.entry.Entry.{Entry}
use Rattle.std.proofs.Common.{Bool, List, None, Option, Some, [], false, if◌then◌else◌, inl, inr, refl, slice_get, slice_set, subst, sym, true, ℕ, ◌%◌, ◌==◌, ◌∙◌, ◌∷◌, ◌≡◌, ◌⊎◌}
use Rattle.sr_machine.specs.declared.draw.Draw.TheVariants as draw
use Rattle.sr_machine.specs.declared.store.Store.TheVariants as store
use Rattle.sr_machine.specs.declared.job.Job.TheVariants as job
use Rattle.sr_machine.specs.declared.leg.Leg.TheVariants as leg
use Rattle.sr_machine.specs.declared.leg.Last.TheVariants as last
use Rattle.sr_machine.specs.declared.leg.Load.TheVariants as load
use Rattle.sr_machine.specs.declared.stage.Stage.TheVariants as stage
use Rattle.sr_machine.specs.declared.said.Said.TheVariants as said
use Rattle.sr_machine.specs.declared.name.Name.TheVariants as name
use Rattle.sr_law.specs.declared.verdict.Verdict.TheVariants as verdict
use Rattle.sr_law.specs.declared.verdict.HeldBy.TheVariants as by

-- ---- a packet's step

abbrev IsBeforeOut : Last → Type 0
IsBeforeOut last.Out = ⊥
IsBeforeOut at = Unit {0}

abbrev IsOffPush : Leg → Type 0
IsOffPush (leg.Judged v last.Push) = ⊥
IsOffPush leg = Unit {0}

module _ (l : LayoutView) (ring : ℕ → ℕ → ℕ) (es : List Entry) where
  -- nothing is said of a packet whose line isn't next
  early : (key : KeyView) (kind : Kind) (v : Verdict) (at : Last) → IsBeforeOut at → IsPushed l ring es key kind v at
  early key Opener (verdict.To server n pool) last.Ring h = tt
  early key Opener (verdict.To server n pool) (last.Mark bit rest) h = tt
  early key Opener (verdict.To server n pool) last.Push h = tt
  early key Opener (verdict.To server n pool) last.Out h = absurd h
  early key Opener v at h = tt
  early key Carry v at h = tt
  early key Ending v at h = tt

  module _ (f : Flight) where
    held_pushed : (why : HeldBy) (n : ℕ) → LegPushed l ring es f (held_or f why n)
    held_pushed why n = at (is_opener f.packet.kind)
      where
        at : (b : Bool) → LegPushed l ring es f (if b then leg.Judged (verdict.Held why) last.Ring else leg.Chosen n load.Head)
        at true = early f.packet.key f.packet.kind (verdict.Held why) last.Ring tt
        at false = tt

    filtering_pushed : (bits : List ℕ) → LegPushed l ring es f (filtering f bits)
    filtering_pushed [] = held_pushed by.Transit f.vip.cur
    filtering_pushed (bit ∷ rest) = tt

    missed_pushed : (p : Phase) → LegPushed l ring es f (missed_in l f p)
    missed_pushed Steady = tt
    missed_pushed Recording = tt
    missed_pushed Holding = held_pushed by.Hold f.vip.cur
    missed_pushed Transit = filtering_pushed (key_bits l f.packet.key)

    looking_pushed : (places : List Place) → LegPushed l ring es f (looking l f places)
    looking_pushed [] = missed_pushed f.vip.phase
    looking_pushed (place ∷ rest) = tt

    looked_pushed : (place : Place) (rest : List Place) (s : Said) → LegPushed l ring es f (looked l f place rest s)
    looked_pushed place rest said.Nothing = looking_pushed rest
    looked_pushed place rest said.Reserved = at (is_opener f.packet.kind)
      where
        at : (b : Bool) → LegPushed l ring es f (if b then leg.Judged (verdict.Held by.Clash) last.Ring else looking l f rest)
        at true = early f.packet.key f.packet.kind (verdict.Held by.Clash) last.Ring tt
        at false = looking_pushed rest
    looked_pushed place rest (said.Live n) = tt

    filtered_pushed : (rest : List ℕ) (set : Bool) → LegPushed l ring es f (filtered f rest set)
    filtered_pushed rest true = filtering_pushed rest
    filtered_pushed rest false = tt

    loaded_pushed : (n : ℕ) (next : Load) (x : ℕ) → LegPushed l ring es f (loaded l f n next x)
    loaded_pushed n load.Head x = tt
    loaded_pushed n (load.Member head) x = tt
    loaded_pushed n (load.Down pool server) x = at f.packet.kind (read_flag x)
      where
        at : (kind : Kind) (b : Bool) → IsPushed l ring es f.packet.key kind (verdict_by b server n pool) (last_by kind b)
        at Opener true = tt
        at Opener false = tt
        at Carry b = tt
        at Ending b = tt

    marking_pushed : (v : Verdict) (bits : List ℕ) → LegPushed l ring es f (leg.Judged v (marking bits))
    marking_pushed v [] = early f.packet.key f.packet.kind v last.Push tt
    marking_pushed v (bit ∷ rest) = early f.packet.key f.packet.kind v (last.Mark bit rest) tt

    ring_pushed : (v : Verdict) (empty : Bool) → LegPushed l ring es f (leg.Judged (verdict_at f v empty) (last_at l f v empty))
    ring_pushed v true = at (is_recorded f v)
      where
        at : (b : Bool) → LegPushed l ring es f (leg.Judged v (if b then marking (key_bits l f.packet.key) else last.Push))
        at true = marking_pushed v (key_bits l f.packet.key)
        at false = early f.packet.key f.packet.kind v last.Push tt
    ring_pushed v false = at f.packet.kind
      where
        at : (kind : Kind) → IsPushed l ring es f.packet.key kind (if is_opener kind then verdict.Full else v) last.Out
        at Opener = tt
        at Carry = tt
        at Ending = tt

    leg_pushed : (leg : Leg) (x : ℕ) → IsOffPush leg → OnLeg (leg_after l f leg x) (LegPushed l ring es)
    leg_pushed (leg.Look place rest) x off = looked_pushed place rest (says l place f.packet.key x)
    leg_pushed (leg.Hit place n) x off = held_pushed by.Clash n
    leg_pushed (leg.Filter bit rest) x off = filtered_pushed rest (has_bit bit x)
    leg_pushed (leg.Chosen n next) x off = loaded_pushed n next x
    leg_pushed (leg.Judged v last.Ring) x off = ring_pushed v (x == 0)
    leg_pushed (leg.Judged v (last.Mark bit rest)) x off = marking_pushed v rest
    leg_pushed (leg.Judged v last.Push) x off = absurd off
    leg_pushed (leg.Judged v last.Out) x off = tt

  abbrev IsOffPushing : Stage → Type 0
  IsOffPushing (stage.Fly f leg) = IsOffPush leg
  IsOffPushing a = Unit {0}

  stage_pushed : (a : Stage) (x : ℕ) → IsOffPushing a → OnLeg (stage_after l a x) (LegPushed l ring es)
  stage_pushed stage.Idle x off = tt
  stage_pushed (stage.Enter packet) x off = tt
  stage_pushed (stage.Note packet entered) x off = tt
  stage_pushed (stage.Vip packet entered) x off = looking_pushed (begun_flight l packet entered x) (key_places l packet.key)
  stage_pushed (stage.Fly f leg) x off = leg_pushed f leg x off
  stage_pushed (stage.Leave f) x off = tt

-- ---- what is said of packets goes on

-- what is known of an opener that was sent and isn't out
abbrev IsTold : LayoutView → (ℕ → ℕ → ℕ) → List Entry → KeyView → ℕ → Type 0
IsTold l ring es key version = SomeLearn l ring key version ⊎ IsRegisteredWith es key version

module _ (l : LayoutView) (ring after : ℕ → ℕ → ℕ) (es fs : List Entry) where
  kind_turns : (key : KeyView) (kind : Kind) (v : Verdict) (at : Last)
      → ((server n pool : ℕ) → v ≡ verdict.To server n pool → at ≡ last.Out → kind ≡ Opener → IsTold l ring es key n → IsTold l after fs key n)
      → IsPushed l ring es key kind v at → IsPushed l after fs key kind v at
  kind_turns key Opener (verdict.To server n pool) last.Out turn h = turn server n pool refl refl refl h
  kind_turns key Opener (verdict.To server n pool) last.Ring turn h = tt
  kind_turns key Opener (verdict.To server n pool) (last.Mark bit rest) turn h = tt
  kind_turns key Opener (verdict.To server n pool) last.Push turn h = tt
  kind_turns key Opener v at turn h = tt
  kind_turns key Carry v at turn h = tt
  kind_turns key Ending v at turn h = tt

  stage_turns : (a : Stage)
      → ((f : Flight) (server n pool : ℕ) → a ≡ stage.Fly f (leg.Judged (verdict.To server n pool) last.Out) → f.packet.kind ≡ Opener
      → IsTold l ring es f.packet.key n → IsTold l after fs f.packet.key n)
      → OnLeg a (LegPushed l ring es) → OnLeg a (LegPushed l after fs)
  stage_turns (stage.Fly f (leg.Judged v at)) turn h =
      kind_turns f.packet.key f.packet.kind v at (λ server n pool e d k. turn f server n pool (cc (e, d)) k) h
  stage_turns (stage.Fly f (leg.Chosen n load)) turn h = tt
  stage_turns (stage.Fly f leg) turn h = tt
  stage_turns a turn h = tt

-- ---- a pipe's step

module _ (s : Core) (i : Invariant s) (p : ℕ) (v : PipeView) (q : slice_get s.pipes p ≡ Some v) where
  abbrev l : LayoutView
  l = s.config.layout

  abbrev es : List Entry
  es = s.controller.book.entries

  -- a step that stores no report
  calm : (a : Stage) (o : Option Op) → AtOp o (λ o. ring_words (op_words s.words o) ≡ ring_words s.words)
      → ((x : ℕ) → OnLeg (stage_after l a x) (LegPushed l (ring_words s.words) es))
      → AfterStage PushedAre s p v a o
  calm a None same own = tt
  calm a (Some o) same own =
      let w = pipe_after l v a (op_answer o (s.words (op_name o))) in
      subst (λ r. EachPipe (λ p v. OnLeg v.stage (LegPushed l r es)) (slice_set s.pipes p w)) (sym same)
      (each_set s.pipes p v w q (λ n u. OnLeg u.stage (LegPushed l (ring_words s.words) es)) i.openings.openings.pushed (own (op_answer o (s.words (op_name o)))))

  -- the report of an opener that was sent is in the ring then
  pushed_stage : (a : Stage) → v.stage ≡ a → AfterStage PushedAre s p v a (pipe_op l v a)
  pushed_stage stage.Idle e = tt
  pushed_stage (stage.Fly f (leg.Judged u last.Push)) e =
      let r = pushed_ring s i p v q f u e in
      let w = pipe_after l v (stage.Fly f (leg.Judged u last.Push)) (report_of f u) in
      each_turns s.pipes p v w q (λ n z. OnLeg z.stage (LegPushed l (ring_words s.words) es)) (λ n z. OnLeg z.stage (LegPushed l r es)) i.openings.openings.pushed
      (own f.packet.kind u (pushed_here s i p v q f u e)) (λ n z d g h. stage_turns l (ring_words s.words) r es es z.stage (λ g server n pool a k. more g n) h)
    where
      own : (kind : Kind) (z : Verdict) → read_report l (pushed_ring s i p v q f u e v.number (v.pushed % l.shape.ring)) ≡ Some (report_by f.packet.key kind z)
          → IsPushed l (pushed_ring s i p v q f u e) es f.packet.key kind z last.Out
      own Opener (verdict.To server n pool) read = inl (v.number, v.pushed % l.shape.ring, read)
      own Opener z read = tt
      own Carry z read = tt
      own Ending z read = tt

      more : (g : Flight) (n : ℕ) → IsTold l (ring_words s.words) es g.packet.key n → IsTold l (pushed_ring s i p v q f u e) es g.packet.key n
      more g n (inl h) = inl (learn_pushed s i p v q f u e g.packet.key n h)
      more g n (inr h) = inr h
  pushed_stage (stage.Fly f (leg.Chosen n load.Head)) e =
      calm (stage.Fly f (leg.Chosen n load.Head)) (pipe_op l v (stage.Fly f (leg.Chosen n load.Head))) refl (λ x. tt)
  pushed_stage a e = calm a (pipe_op l v a) refl (λ x. stage_pushed l (ring_words s.words) es a x tt)

-- ---- the controller's step

module _ (s : Core) (i : Invariant s) where
  abbrev k : LayoutView
  k = s.config.layout

  abbrev book : List Entry
  book = s.controller.book.entries

  -- what is known of openers that were sent goes on
  told_all : (after : ℕ → ℕ → ℕ) (fs : List Entry)
      → ((p : ℕ) (v : PipeView) (f : Flight) (server n pool : ℕ) → slice_get s.pipes p ≡ Some v
      → v.stage ≡ stage.Fly f (leg.Judged (verdict.To server n pool) last.Out) → f.packet.kind ≡ Opener
      → IsTold k (ring_words s.words) book f.packet.key n → IsTold k after fs f.packet.key n)
      → EachPipe (λ p v. OnLeg v.stage (LegPushed k after fs)) s.pipes
  told_all after fs turn p v q =
      stage_turns k (ring_words s.words) after book fs v.stage (λ f server n pool e kind h. turn p v f server n pool q e kind h) (i.openings.openings.pushed p v q)

  -- where no report is taken and keys stay registered
  told_plain : (j : Job) (o : Option Op) → AtOp o (λ o. ring_words (op_words s.words o) ≡ ring_words s.words)
      → ((x : ℕ) (key : KeyView) (n : ℕ) → IsRegisteredWith book key n → IsRegisteredWith (book_next s.config s.controller j x).entries key n)
      → AfterJob PushedAre s j o
  told_plain j None same stays = tt
  told_plain j (Some o) same stays =
      let fs = (book_next s.config s.controller j (op_answer o (s.words (op_name o)))).entries in
      subst (λ r. EachPipe (λ p v. OnLeg v.stage (LegPushed k r fs)) s.pipes) (sym same)
      (told_all (ring_words s.words) fs (λ p v f server n pool q e kind h. by f.packet.key n fs (stays (op_answer o (s.words (op_name o))) f.packet.key n) h))
    where
      by : (key : KeyView) (n : ℕ) (fs : List Entry) → (IsRegisteredWith book key n → IsRegisteredWith fs key n) → IsTold k (ring_words s.words) book key n
          → IsTold k (ring_words s.words) fs key n
      by key n fs turn (inl h) = inl h
      by key n fs turn (inr h) = inr (turn h)

  -- a take
  told_take : (ended : Option KeyView) (pipe : ℕ)
      → EachPipe (λ p v. OnLeg v.stage (LegPushed k (taken_ring k s.words pipe (ring_count s.controller.rings pipe).words)
      (taking s.config s.controller ended pipe (s.words (ring_cell k pipe (ring_count s.controller.rings pipe).words))).book.entries)) s.pipes
  told_take ended pipe =
      told_all (taken_ring k s.words pipe taken) (taking s.config s.controller ended pipe x).book.entries
      (λ p v f server n pool q e kind h. by p v f server n pool q e kind h)
    where
      taken : ℕ
      taken = (ring_count s.controller.rings pipe).words

      x : ℕ
      x = s.words (ring_cell k pipe (ring_count s.controller.rings pipe).words)

      fs : List Entry
      fs = (taking s.config s.controller ended pipe (s.words (ring_cell k pipe (ring_count s.controller.rings pipe).words))).book.entries

      took : TakesBook k s.controller.numbers ended (s.words (ring_cell k pipe (ring_count s.controller.rings pipe).words)) s.controller.book
          (taking s.config s.controller ended pipe (s.words (ring_cell k pipe (ring_count s.controller.rings pipe).words))).book
      took = (takes s.config s.controller ended pipe (s.words (ring_cell k pipe (ring_count s.controller.rings pipe).words))).book

      by : (p : ℕ) (v : PipeView) (f : Flight) (server n pool : ℕ) → slice_get s.pipes p ≡ Some v
          → v.stage ≡ stage.Fly f (leg.Judged (verdict.To server n pool) last.Out) → f.packet.kind ≡ Opener
          → IsTold k (ring_words s.words) book f.packet.key n
          → IsTold k (taken_ring k s.words pipe (ring_count s.controller.rings pipe).words) (taking s.config s.controller ended pipe (s.words (ring_cell k pipe (ring_count s.controller.rings pipe).words))).book.entries f.packet.key n
      by p v f server n pool q e kind (inr h) = inr (take_registered k s.controller.numbers ended x s.controller.book _ took f.packet.key n h)
      by p v f server n pool q e kind (inl h) = two (learn_left k s.words pipe (ring_count s.controller.rings pipe).words f.packet.key n h)
        where
          known : IsRegisteredWith fs f.packet.key n ⊎ (is_registered f.packet.key book ≡ true) → IsRegisteredWith fs f.packet.key n
          known (inl r) = r
          known (inr r) =
              let w = registered_some f.packet.key book r in
              take_registered k s.controller.numbers ended x s.controller.book _ took f.packet.key n
              (w.0, w.1, sym (sent_known s i p v f server n pool last.Out q e kind w.0.version (inl (w.0, w.1, refl))))

          two : SomeLearn k (taken_ring k s.words pipe (ring_count s.controller.rings pipe).words) f.packet.key n ⊎ (read_report k x ≡ Some (record { kind = Learn; version = n; key = f.packet.key }))
              → IsTold k (taken_ring k s.words pipe (ring_count s.controller.rings pipe).words) fs f.packet.key n
          two (inl r) = inl r
          two (inr r) =
              inr (known (learn_registers k s.controller.numbers ended x s.controller.book _ took f.packet.key n r (learn_current s i pipe (taken % k.shape.ring) _ r refl)))

  -- a key that is retired has no opener that was sent and isn't out
  told_retired : (key : KeyView) (place : Place) (version : ℕ) → s.controller.job ≡ job.Draw (draw.Retired key place version)
      → EachPipe (λ p v. OnLeg v.stage (LegPushed k (ring_words s.words) (without_key key book))) s.pipes
  told_retired key place version e =
      told_all (ring_words s.words) (without_key key book) (λ p v f server n pool q a kind h. by p v f server n pool q a kind (same_key key f.packet.key) refl h)
    where
      holds_so : RetiredHolds s.config book key place version
      holds_so = subst (JobHolds s.config (seen s.controller) (printed s)) e i.jobs.holds.stands

      by : (p : ℕ) (v : PipeView) (f : Flight) (server n pool : ℕ) → slice_get s.pipes p ≡ Some v
          → v.stage ≡ stage.Fly f (leg.Judged (verdict.To server n pool) last.Out) → f.packet.kind ≡ Opener
          → (b : Bool) → same_key key f.packet.key ≡ b → IsTold k (ring_words s.words) book f.packet.key n
          → IsTold k (ring_words s.words) (without_key key book) f.packet.key n
      by p v f server n pool q a kind b t (inl h) = inl h
      by p v f server n pool q a kind false t (inr (w, r, z)) = inr (w, without_found key f.packet.key t book ∙ r, z)
      by p v f server n pool q a kind true t (inr h) =
          let w = holds_so.entry in
          let m : In w book = in_found (is_of key) book w holds_so.found in
          let own : f.packet.key ≡ w.key = sym (same_key-true key f.packet.key t) ∙ found_key key book w holds_so.found in
          absurd (subst (λ j. MissedReserved j p f.entered place) e
          (sent_missed s i p v f server n pool last.Out q a kind place (subst (λ z. is_place_of k.shape z place ≡ true) (sym own) (placed_own s i w place m holds_so.stands))
          (subst (λ z. Speaks (says k place z (s.words (name.Entry place)))) (sym own) (subst Speaks (sym (placed_says s i w place m holds_so.stands)) tt))))

  pushed_job : (j : Job) → s.controller.job ≡ j → AfterJob PushedAre s j (job_op s.config s.controller j)
  pushed_job job.Free e = tt
  pushed_job (job.Draw (draw.Retired key place version)) e = told_retired key place version e
  pushed_job (job.Drain pipe count w) e = told_take (ended_by (job.Drain pipe count w)) pipe
  pushed_job (job.Look pipe) e = told_take None pipe
  pushed_job (job.Store (store.Judge p)) e =
      told_plain (job.Store (store.Judge p)) (job_op s.config s.controller (job.Store (store.Judge p))) refl
      (λ x key n h. judged_registered (is_withdrawn s.config s.controller p) p (version_for s.controller.vips s.controller.book.entries p.key) s.controller.book key n h)
  pushed_job (job.Store (store.Empty key place w)) e =
      told_plain (job.Store (store.Empty key place w)) (job_op s.config s.controller (job.Store (store.Empty key place w))) refl
      (λ x other n h. registered_changed left_other key book (λ e. refl) (λ e. refl) other n h)
  pushed_job (job.Hit from ms key place number) e =
      told_plain (job.Hit from ms key place number) (job_op s.config s.controller (job.Hit from ms key place number)) refl
      (λ x other n h. registered_changed (swept (read_flag x)) key book (λ e. refl) (λ e. refl) other n h)
  pushed_job j e = told_plain j (job_op s.config s.controller j) refl (λ x key n h. h)

pub pushed_keep : Keeps IsPacket Invariant PushedAre
pushed_keep = record {
  stages = λ s p v a q e i f. pushed_stage s i p v q a e;
  begins = λ s i f. f;
  jobs = λ s j q b i f. pushed_job s i j q;
  enters = λ s p v packet q r u n a i f.
      each_set s.pipes p v (record v { stage = stage.Enter packet }) q (λ n u. OnLeg u.stage (LegPushed s.config.layout (ring_words s.words) s.controller.book.entries)) f tt;
  clocks = λ s ms q i f. f;
  refusals = λ s q i f. f;
}

pub pushed_part : (s : Core) → Invariant s → PushedAre s
pushed_part s i = i.openings.openings.pushed

pub pushed_open : OpensWith PushedAre
unfolding opening_pipes
pushed_open k f p v e =
    subst (λ u. OnLeg u.stage (LegPushed k.layout (ring_words (opening k).words) (opening k).controller.book.entries))
    (sym (ranged_at fresh_pipe 0 k.layout.shape.pipes p v e)) tt
