-- A packet that looks at places is still to look at its key's, but perhaps for one where the key came to be live behind it.
use Rattle.std.proofs.Common.{◌≡◌, ℕ, ◌+◌, ◌<◌, ◌≤◌, Bool, true, false, ◌≢◌, ◌⊎◌, List, [], ◌∷◌, if◌then◌else◌, ◌==◌, slice_get, Some, None, Option, sym, refl, ap, ◌∙◌, subst, inl, inr, arith}
use Rattle.std.specs.Prelude.{IfSome}
use Rattle.std.proofs.lemmas.Bool.Decides.{nat_tests}
use Rattle.std.proofs.lemmas.Option.{slice_get_within}
use Rattle.sr_base.specs.Key.{KeyView}
use Rattle.sr_base.specs.Layout.{LayoutView}
use Rattle.sr_base.specs.declared.place.Place.{Place}
use Rattle.sr_base.specs.declared.vip_word.Phase.{Phase}
use Rattle.sr_base.specs.declared.vip_word.Phase.TheVariants.{Steady, Recording, Holding, Transit}
use Rattle.sr_hash.specs.Uses.{is_place_of}
use Rattle.sr_inv_facts.proofs.Beginning.{begun_by}
use Rattle.sr_inv_facts.proofs.Books.{found_key}
use Rattle.sr_inv_facts.proofs.Lists.{of_some, ranged_at}
use Rattle.sr_inv_facts.proofs.Pipes.{each_set}
use Rattle.sr_inv_facts.proofs.Ranges.{entry_fits}
use Rattle.sr_inv_facts.proofs.Taking.{takes}
use Rattle.sr_inv_facts.specs.Doing.{MissedLive}
use Rattle.sr_inv_facts.specs.Fitted.{IsPacket}
use Rattle.sr_inv_facts.specs.Flying.{OnLeg, OnLook}
use Rattle.sr_inv_facts.specs.InMatching.{LooksOn, PlacedAreFound}
use Rattle.sr_inv_facts.specs.InShape.{PlaceFits}
use Rattle.sr_inv_facts.specs.Invariant.{Invariant}
use Rattle.sr_inv_facts.specs.Laws.{OpensWith}
use Rattle.sr_inv_facts.specs.Readings.{EachPipe, In, entry_words}
use Rattle.sr_inv_matching.proofs.KeyPlaces.{place_looked}
use Rattle.sr_inv_matching.proofs.Members.{Stays, Stood, in_found, in_own, stays_changed, stays_judged, stays_self, stays_take, stays_without}
use Rattle.sr_inv_matching.proofs.Saying.{at_held, own_said}
use Rattle.sr_inv_matching.proofs.Stepping.{entered_drawn, look_answers, noted}
use Rattle.sr_inv_matching.proofs.UnmatchedKept.{leg_then}
use Rattle.sr_law.specs.declared.verdict.HeldBy.{HeldBy}
use Rattle.sr_law.specs.declared.verdict.Verdict.{Verdict}
use Rattle.sr_machine.proofs.Following.{goes}
use Rattle.sr_machine.specs.Core.{Core, opening}
use Rattle.sr_machine.specs.Deciding.{is_withdrawn, version_for}
use Rattle.sr_machine.specs.Goes.{Goes}
use Rattle.sr_machine.specs.Jobs.{book_next, job_next, job_op, judged_book}
use Rattle.sr_machine.specs.Keeping.{AfterJob, AfterStage, Keeps, begun_core}
use Rattle.sr_machine.specs.Opening.{opening_pipes}
use Rattle.sr_machine.specs.Ops.{op_answer, op_name}
use Rattle.sr_machine.specs.Pipe.{fresh_pipe, pipe_after, pipe_op}
use Rattle.sr_machine.specs.Reads.{has_bit, read_flag, says}
use Rattle.sr_machine.specs.Stages.{begun_flight, filtered, filtering, held_or, is_opener, key_bits, key_places, last_after, loaded, looked, looking, missed_in, stage_after}
use Rattle.sr_machine.specs.Stores.{judged_draw}
use Rattle.sr_machine.specs.Taking.{ended_by}
use Rattle.sr_machine.specs.Waiting.{all_passed}
use Rattle.sr_machine.specs.Deciding.{dead_reply}
use Rattle.sr_machine.specs.declared.flight.Flight.{Flight}
use Rattle.sr_machine.specs.declared.job.Job.{Job}
use Rattle.sr_machine.specs.declared.leg.Last.{Last}
use Rattle.sr_machine.specs.declared.leg.Leg.{Leg}
use Rattle.sr_machine.specs.declared.leg.Leg.TheVariants.{Look, Hit, Filter, Chosen, Judged}
use Rattle.sr_machine.specs.declared.leg.Load.{Load}
use Rattle.sr_machine.specs.declared.op.Op.{Op}
use Rattle.sr_machine.specs.declared.pipe_view.PipeView.{PipeView}
use Rattle.sr_machine.specs.declared.put.Put.{Put}
use Rattle.sr_machine.specs.declared.said.Said.{Said}
use Rattle.sr_machine.specs.declared.stage.Stage.{Stage}
use Rattle.sr_machine.specs.declared.stage.Stage.TheVariants.{Idle, Enter, Note, Vip, Fly, Leave}
use Rattle.sr_machine.specs.declared.wait.Wait.{Wait}
use Rattle.sr_shadow.specs.Book.{entry_for}
use Rattle.sr_shadow.specs.Entry.{is_of, left_other, swept}
use Rattle.sr_shadow.specs.declared.entry.Entry.{Entry}
use Rattle.sr_inv_facts.specs.Putting.{put_core}
use Rattle.sr_machine.specs.Goes as go
use Rattle.sr_law.specs.declared.verdict.Verdict.TheVariants as verdict
use Rattle.sr_law.specs.declared.verdict.HeldBy.TheVariants as by
use Rattle.sr_machine.specs.declared.draw.Draw.TheVariants as draw
use Rattle.sr_machine.specs.declared.job.Job.TheVariants as job
use Rattle.sr_machine.specs.declared.leg.Last.TheVariants as last
use Rattle.sr_machine.specs.declared.leg.Load.TheVariants as load
use Rattle.sr_machine.specs.declared.name.Name.TheVariants as name
use Rattle.sr_machine.specs.declared.said.Said.TheVariants as said
use Rattle.sr_machine.specs.declared.stage.Stage.TheVariants as stage
use Rattle.sr_machine.specs.declared.store.Store.TheVariants as store
use Rattle.sr_machine.specs.declared.wait.Wait.TheVariants as wait

-- ---- what a packet looks at, by what was found

module _ (l : LayoutView) (f : Flight) (P : List Place → Type 0) where
  held_or_looks : (why : HeldBy) (n : ℕ) → OnLook (held_or f why n) P
  held_or_looks why n = at (is_opener f.packet.kind)
    where
      at : (b : Bool) → OnLook (if b then Judged (verdict.Held why) last.Ring else Chosen n load.Head) P
      at true = tt
      at false = tt

  filtering_looks : (bits : List ℕ) → OnLook (filtering f bits) P
  filtering_looks [] = held_or_looks by.Transit f.vip.cur
  filtering_looks (bit ∷ rest) = tt

  missed_looks : (p : Phase) → OnLook (missed_in l f p) P
  missed_looks Steady = tt
  missed_looks Recording = tt
  missed_looks Holding = held_or_looks by.Hold f.vip.cur
  missed_looks Transit = filtering_looks (key_bits l f.packet.key)

  looking_looks : (rest : List Place) → P rest → OnLook (looking l f rest) P
  looking_looks [] h = missed_looks f.vip.phase
  looking_looks (place ∷ rest) h = h

  looked_looks : (place : Place) (rest : List Place) (t : Said) → (((n : ℕ) → t ≡ said.Live n → ⊥) → P rest) → OnLook (looked l f place rest t) P
  looked_looks place rest said.Nothing h = looking_looks rest (h (λ n e. cc))
  looked_looks place rest said.Reserved h = at (is_opener f.packet.kind)
    where
      at : (b : Bool) → OnLook (if b then Judged (verdict.Held by.Clash) last.Ring else looking l f rest) P
      at true = tt
      at false = looking_looks rest (h (λ n e. cc))
  looked_looks place rest (said.Live n) h = tt

  filtered_looks : (rest : List ℕ) (set : Bool) → OnLook (filtered f rest set) P
  filtered_looks rest true = filtering_looks rest
  filtered_looks rest false = tt

  loaded_looks : (n : ℕ) (next : Load) (x : ℕ) → OnLook (loaded l f n next x) P
  loaded_looks n load.Head x = tt
  loaded_looks n (load.Member head) x = tt
  loaded_looks n (load.Down pool server) x = tt

  last_looks : (v : Verdict) (next : Last) (x : ℕ) → OnLeg (last_after l f v next x) (λ g leg. OnLook leg P)
  last_looks v last.Ring x = tt
  last_looks v (last.Mark bit rest) x = tt
  last_looks v last.Push x = tt
  last_looks v last.Out x = tt

-- ---- a pipe's step

module _ (s : Core) (i : Invariant s) (p : ℕ) where
  abbrev l : LayoutView
  l = s.config.layout

  abbrev es : List Entry
  es = s.controller.book.entries

  abbrev Looks : Flight → Leg → Type 0
  Looks f leg = OnLook leg (LooksOn s.controller.job p es f)

  -- where its entry stands is looked at from here on, or may have been passed
  abbrev Finds : Flight → List Place → Type 0
  Finds f looks =
      (e : Entry) (place : Place) → entry_for f.packet.key es ≡ Some e → e.place ≡ Some place → In place looks ⊎ MissedLive s.controller.job p f.entered f.packet.key

  finds : (f : Flight) (looks : List Place) → Finds f looks → LooksOn s.controller.job p es f looks
  finds f looks h = at (entry_for f.packet.key es) refl
    where
      two : (e : Entry) → entry_for f.packet.key es ≡ Some e → (o : Option Place) → e.place ≡ o → IfSome o (λ place. In place looks ⊎ MissedLive s.controller.job p f.entered f.packet.key)
      two e q None r = tt
      two e q (Some place) r = h e place q r

      at : (o : Option Entry) → entry_for f.packet.key es ≡ o → IfSome o (λ e. IfSome e.place (λ place. In place looks ⊎ MissedLive s.controller.job p f.entered f.packet.key))
      at None q = tt
      at (Some e) q = two e q e.place refl

  found : (f : Flight) (looks : List Place) → LooksOn s.controller.job p es f looks → Finds f looks
  found f looks h e place q r =
      of_some (λ place. In place looks ⊎ MissedLive s.controller.job p f.entered f.packet.key) e.place place (of_some (λ e. IfSome e.place (λ place. In place looks ⊎ MissedLive s.controller.job p f.entered f.packet.key)) (entry_for f.packet.key es) e h q) r

  -- a place that says nothing live is not its entry's
  passed : (f : Flight) (place : Place) (rest : List Place) → ((n : ℕ) → says l place f.packet.key (entry_words s.words place) ≡ said.Live n → ⊥)
      → Finds f (place ∷ rest) → Finds f rest
  passed f place rest none h e at q r = two (h e at q r)
    where
      two : In at (place ∷ rest) ⊎ MissedLive s.controller.job p f.entered f.packet.key → In at rest ⊎ MissedLive s.controller.job p f.entered f.packet.key
      two (inl (inl same)) =
          absurd (none e.version (subst (λ z. says l z f.packet.key (entry_words s.words z) ≡ said.Live e.version) same (own_said s i f.packet.key e at q (at_held at e r))))
      two (inl (inr j)) = inl j
      two (inr m) = inr m

  -- a packet that begins to look looks at all places of its key
  first : (f : Flight) → Finds f (key_places l f.packet.key)
  first f e place q r =
      let fits = entry_fits s.config i.shape.config.layout s.controller i.shape.book i.shape.controller f.packet.key e q in
      inl (place_looked l f.packet.key place (subst (λ k. is_place_of l.shape k place ≡ true) (sym (found_key f.packet.key es e q)) (subst (PlaceFits l.shape e.key) r fits.place)))

  stage_looks : (at : Stage) (x : ℕ) → ((f : Flight) (place : Place) (rest : List Place) → at ≡ Fly f (Look place rest) → x ≡ entry_words s.words place)
      → OnLeg at Looks → OnLeg (stage_after l at x) Looks
  stage_looks Idle x q h = tt
  stage_looks (Enter packet) x q h = tt
  stage_looks (Note packet e) x q h = tt
  stage_looks (Vip packet e) x q h =
      let f = begun_flight l packet e x in
      looking_looks l f (LooksOn s.controller.job p es f) (key_places l packet.key) (finds f (key_places l packet.key) (first f))
  stage_looks (Fly f (Look place rest)) x q h =
      looked_looks l f (LooksOn s.controller.job p es f) place rest (says l place f.packet.key x) (λ none.
      finds f rest (passed f place rest (λ n t. none n (ap (says l place f.packet.key) (q f place rest refl) ∙ t)) (found f (place ∷ rest) h)))
  stage_looks (Fly f (Hit place n)) x q h = held_or_looks l f (LooksOn s.controller.job p es f) by.Clash n
  stage_looks (Fly f (Filter bit rest)) x q h = filtered_looks l f (LooksOn s.controller.job p es f) rest (has_bit bit x)
  stage_looks (Fly f (Chosen n next)) x q h = loaded_looks l f (LooksOn s.controller.job p es f) n next x
  stage_looks (Fly f (Judged v last.Ring)) x q h = tt
  stage_looks (Fly f (Judged v (last.Mark bit rest))) x q h = tt
  stage_looks (Fly f (Judged v last.Push)) x q h = tt
  stage_looks (Fly f (Judged v last.Out)) x q h = tt
  stage_looks (Leave f) x q h = tt

abbrev LooksAt : Job → List Entry → ℕ → PipeView → Type 0
LooksAt j es p v = OnLeg v.stage (λ f leg. OnLook leg (LooksOn j p es f))

stage_kept : (s : Core) → Invariant s → (p : ℕ) (v : PipeView) (at : Stage) → slice_get s.pipes p ≡ Some v → v.stage ≡ at
    → (o : Option Op) → pipe_op s.config.layout v at ≡ o → AfterStage PlacedAreFound s p v at o
stage_kept s i p v at q e None g = tt
stage_kept s i p v at q e (Some o) g =
    let l = s.config.layout in
    let x = op_answer o (s.words (op_name o)) in
    each_set s.pipes p v (pipe_after l v at x) q (LooksAt s.controller.job s.controller.book.entries) i.matching.matching.looks
    (stage_looks s i p at x (λ f place rest same. look_answers s.words l v at o g f place rest same)
    (subst (λ z. OnLeg z (λ f leg. OnLook leg (LooksOn s.controller.job p s.controller.book.entries f))) e (i.matching.matching.looks p v q)))

-- ---- the controller's step

look_then : (leg : Leg) (P Q : List Place → Type 0) → ((looks : List Place) → P looks → Q looks) → OnLook leg P → OnLook leg Q
look_then (Look place rest) P Q t h = t (place ∷ rest) h
look_then (Hit place n) P Q t h = tt
look_then (Filter bit rest) P Q t h = tt
look_then (Chosen n next) P Q t h = tt
look_then (Judged v next) P Q t h = tt

-- jobs behind which no key came to be live
abbrev NoneLived : Job → Type 0
NoneLived (job.Draw (draw.Placed q)) = ⊥
NoneLived (job.Draw (draw.Grace (wait.Live q))) = ⊥
NoneLived (job.Pass grace pipe (wait.Live q)) = ⊥
NoneLived j = Unit {0}

none_lived : (j : Job) → NoneLived j → (p entered : ℕ) (key : KeyView) → MissedLive j p entered key → ⊥
none_lived (job.Draw (draw.Placed q)) n p e key h = absurd n
none_lived (job.Draw (draw.Grace (wait.Live q))) n p e key h = absurd n
none_lived (job.Pass grace pipe (wait.Live q)) n p e key h = absurd n
none_lived j n p e key h = h

grace_drawn : (wt : Wait) (x p entered : ℕ) (key : KeyView) → entered < x → MissedLive (job.Draw (draw.Grace wt)) p entered key
    → MissedLive (job.Pass x 0 wt) p entered key
grace_drawn (wait.Live y) x p e key b h = (h, (omega arith, b))
grace_drawn (wait.Comes u q) x p e key b h = absurd h
grace_drawn (wait.Judge y) x p e key b h = absurd h
grace_drawn (wait.Retire y) x p e key b h = absurd h
grace_drawn (wait.Release y z) x p e key b h = absurd h

passes : (grace pipe : ℕ) (wt : Wait) (p entered : ℕ) (key : KeyView) → (p ≡ pipe → entered < grace → ⊥)
    → MissedLive (job.Pass grace pipe wt) p entered key → MissedLive (job.Pass grace (pipe + 1) wt) p entered key
passes grace pipe (wait.Live y) p e key n h = (h.0, (at (p == pipe) refl, h.1.1))
  where
    at : (b : Bool) → (p == pipe) ≡ b → pipe + 1 ≤ p
    at true t = absurd (n (grind (arith, nat_tests)) h.1.1)
    at false t = let o : p ≢ pipe = grind (arith, nat_tests) in omega (arith, h.1.0, o)
passes grace pipe (wait.Comes u q) p e key n h = absurd h
passes grace pipe (wait.Judge y) p e key n h = absurd h
passes grace pipe (wait.Retire y) p e key n h = absurd h
passes grace pipe (wait.Release y z) p e key n h = absurd h

all_pass : (pipes grace pipe : ℕ) (wt : Wait) (p entered : ℕ) (key : KeyView) → p < pipes → pipes ≤ pipe + 1
    → (p ≡ pipe → entered < grace → ⊥) → MissedLive (job.Pass grace pipe wt) p entered key → ⊥
all_pass pipes grace pipe (wait.Live y) p e key b m n h = let same : p ≡ pipe = omega (arith, h.1.0) in n same h.1.1
all_pass pipes grace pipe (wait.Comes u q) p e key b m n h = h
all_pass pipes grace pipe (wait.Judge y) p e key b m n h = h
all_pass pipes grace pipe (wait.Retire y) p e key b m n h = h
all_pass pipes grace pipe (wait.Release y z) p e key b m n h = h

module _ (s : Core) (i : Invariant s) where
  abbrev book : List Entry
  book = s.controller.book.entries

  -- What stands after the step stood before it, where what a packet may have missed stays so; or the packet may have missed it.
  abbrev Turns : List Entry → Job → Job → ℕ → Flight → Type 0
  Turns fs j m p f =
      (e : Entry) (place : Place) → entry_for f.packet.key fs ≡ Some e → e.place ≡ Some place
      → (Stood book f.packet.key place × (MissedLive j p f.entered f.packet.key → MissedLive m p f.entered f.packet.key))
      ⊎ MissedLive m p f.entered f.packet.key

  each_looks : (fs : List Entry) (j m : Job) → s.controller.job ≡ j
      → ((p : ℕ) (v : PipeView) (f : Flight) (leg : Leg) → slice_get s.pipes p ≡ Some v → v.stage ≡ Fly f leg → Turns fs j m p f)
      → EachPipe (LooksAt m fs) s.pipes
  each_looks fs j m e turns p v q =
      leg_then v.stage (λ f leg. OnLook leg (LooksOn j p book f)) (λ f leg. OnLook leg (LooksOn m p fs f))
      (λ f leg r h. look_then leg (LooksOn j p book f) (LooksOn m p fs f) (turned p f (turns p v f leg q r)) h)
      (subst (λ z. OnLeg v.stage (λ f leg. OnLook leg (LooksOn z p book f))) e (i.matching.matching.looks p v q))
    where
      turned : (p : ℕ) (f : Flight) → Turns fs j m p f → (looks : List Place) → LooksOn j p book f looks → LooksOn m p fs f looks
      turned p f t looks h = at (entry_for f.packet.key fs) refl
        where
          two : (place : Place) → (MissedLive j p f.entered f.packet.key → MissedLive m p f.entered f.packet.key) → In place looks ⊎ MissedLive j p f.entered f.packet.key
              → In place looks ⊎ MissedLive m p f.entered f.packet.key
          two place turn (inl n) = inl n
          two place turn (inr n) = inr (turn n)

          by : (place : Place) → (Stood book f.packet.key place × (MissedLive j p f.entered f.packet.key → MissedLive m p f.entered f.packet.key)) ⊎ MissedLive m p f.entered f.packet.key
              → In place looks ⊎ MissedLive m p f.entered f.packet.key
          by place (inr n) = inr n
          by place (inl (d, turn)) =
              let own : entry_for f.packet.key book ≡ Some d.entry = subst (λ k. entry_for k book ≡ Some d.entry) d.own (in_own book d.entry i.shape.book.distinct d.member) in
              two place turn (of_some (λ place. In place looks ⊎ MissedLive j p f.entered f.packet.key) d.entry.place place (of_some (λ e. IfSome e.place (λ place. In place looks ⊎ MissedLive j p f.entered f.packet.key)) (entry_for f.packet.key book) d.entry h own) d.stands)

          its : (e : Entry) → entry_for f.packet.key fs ≡ Some e → (o : Option Place) → e.place ≡ o → IfSome o (λ place. In place looks ⊎ MissedLive m p f.entered f.packet.key)
          its e q None r = tt
          its e q (Some place) r = by place (t e place q r)

          at : (o : Option Entry) → entry_for f.packet.key fs ≡ o → IfSome o (λ e. IfSome e.place (λ place. In place looks ⊎ MissedLive m p f.entered f.packet.key))
          at None q = tt
          at (Some e) q = its e q e.place refl

  -- a step that lets each entry stand
  staying : (fs : List Entry) (j m : Job) → s.controller.job ≡ j → Stays book fs
      → ((p : ℕ) (v : PipeView) (f : Flight) (leg : Leg) → slice_get s.pipes p ≡ Some v → v.stage ≡ Fly f leg
      → MissedLive j p f.entered f.packet.key → MissedLive m p f.entered f.packet.key)
      → EachPipe (LooksAt m fs) s.pipes
  staying fs j m e stays turn =
      each_looks fs j m e (λ p v f leg q r n place t d.
      inl (subst (λ k. Stood book k place) (sym (found_key f.packet.key fs n t)) (stays n (in_found (is_of f.packet.key) fs n t) place d), turn p v f leg q r))

  frame : (j : Job) (o : Option Op) → s.controller.job ≡ j → NoneLived j → ((x : ℕ) → Stays book (book_next s.config s.controller j x).entries)
      → AfterJob PlacedAreFound s j o
  frame j None e n stays = tt
  frame j (Some o) e n stays =
      let x = op_answer o (s.words (op_name o)) in
      staying (book_next s.config s.controller j x).entries j (job_next s.config s.controller j x) e (stays x) (λ p v f leg q r h. absurd (none_lived j n p f.entered f.packet.key h))

  pass_kept : (g pipe : ℕ) (wt : Wait) (m : Job) → s.controller.job ≡ job.Pass g pipe wt → Goes s.config s.controller (s.words (name.Note pipe)) (job.Pass g pipe wt) m
      → EachPipe (LooksAt m book) s.pipes
  pass_kept g pipe wt m q (go.pass_stays h n y e) = staying book (job.Pass g pipe wt) (job.Pass g pipe wt) q (stays_self book) (λ p v f leg r d h. h)
  pass_kept g pipe wt m q (go.pass_next h n y e t) =
      staying book (job.Pass g pipe wt) (job.Pass g (pipe + 1) wt) q (stays_self book) (λ p v f leg r d a. passes g pipe wt p f.entered f.packet.key (noted s i g pipe p v f leg r d e) a)
  pass_kept g pipe wt m q (go.pass_last h n y e t) =
      staying book (job.Pass g pipe wt) (all_passed wt) q (stays_self book) (λ p v f leg r d a.
      absurd (all_pass s.config.layout.shape.pipes g pipe wt p f.entered f.packet.key (omega (arith, slice_get_within s.pipes p v r, i.shape.pipes.count)) over (noted s i g pipe p v f leg r d e) a))
    where
      over : s.config.layout.shape.pipes ≤ pipe + 1
      over = grind (arith, nat_tests)

  judged : (q : Put) → s.controller.job ≡ job.Store (store.Judge q)
      → AfterJob PlacedAreFound s (job.Store (store.Judge q)) (job_op s.config s.controller (job.Store (store.Judge q)))
  judged q e = by (is_withdrawn s.config s.controller q)
    where
      version : ℕ
      version = version_for s.controller.vips book q.key

      by : (b : Bool) → EachPipe (LooksAt (job.Draw (judged_draw b q (dead_reply s.config s.controller q.aim))) (judged_book b q version s.controller.book).entries) s.pipes
      by true = staying book (job.Store (store.Judge q)) (job.Draw (judged_draw true q (dead_reply s.config s.controller q.aim))) e (stays_self book) (λ p v f leg r d h. absurd h)
      by false =
          each_looks (judged_book false q version s.controller.book).entries (job.Store (store.Judge q)) (job.Draw (draw.Placed q)) e (λ p v f leg r d n place t z. turn p f n place t z)
        where
          turn : (p : ℕ) (f : Flight) → Turns (judged_book false q version s.controller.book).entries (job.Store (store.Judge q)) (job.Draw (draw.Placed q)) p f
          turn p f n place t z =
              let key : f.packet.key ≡ n.key = found_key f.packet.key (judged_book false q version s.controller.book).entries n t in
              two key (stays_judged q.key q.place version s.controller.book.taken book n (in_found (is_of f.packet.key) (judged_book false q version s.controller.book).entries n t) place z)
            where
              two : f.packet.key ≡ n.key → Stood book n.key place ⊎ (n.key ≡ q.key)
                  → (Stood book f.packet.key place × (MissedLive (job.Store (store.Judge q)) p f.entered f.packet.key → MissedLive (job.Draw (draw.Placed q)) p f.entered f.packet.key))
                  ⊎ MissedLive (job.Draw (draw.Placed q)) p f.entered f.packet.key
              two key (inl d) = inl (subst (λ k. Stood book k place) (sym key) d, λ h. absurd h)
              two key (inr same) = inr (sym (key ∙ same))

  job_kept : (j : Job) → s.controller.job ≡ j → AfterJob PlacedAreFound s j (job_op s.config s.controller j)
  job_kept job.Free q = tt
  job_kept (job.Draw (draw.Grace wt)) q =
      staying book (job.Draw (draw.Grace wt)) (job.Pass (s.words name.Tick) 0 wt) q (stays_self book) (λ p v f leg r d a.
      grace_drawn wt (s.words name.Tick) p f.entered f.packet.key (entered_drawn s i.ticks p v f leg r d).1 a)
  job_kept (job.Draw (draw.Placed y)) q =
      staying book (job.Draw (draw.Placed y)) (job.Draw (draw.Grace (wait.Live y))) q (stays_self book) (λ p v f leg r d a. a)
  job_kept (job.Draw (draw.Retired key at version)) q =
      frame (job.Draw (draw.Retired key at version)) (job_op s.config s.controller (job.Draw (draw.Retired key at version))) q tt (λ x. stays_without key book)
  job_kept (job.Pass g pipe wt) q =
      pass_kept g pipe wt (job_next s.config s.controller (job.Pass g pipe wt) (s.words (name.Note pipe))) q (goes s.config s.controller (s.words (name.Note pipe)) (job.Pass g pipe wt))
  job_kept (job.Drain pipe count wt) q =
      frame (job.Drain pipe count wt) (job_op s.config s.controller (job.Drain pipe count wt)) q tt (λ x.
      stays_take s.config.layout s.controller.numbers (ended_by (job.Drain pipe count wt)) x s.controller.book (book_next s.config s.controller (job.Drain pipe count wt) x) (takes s.config s.controller (ended_by (job.Drain pipe count wt)) pipe x).book)
  job_kept (job.Look pipe) q =
      frame (job.Look pipe) (job_op s.config s.controller (job.Look pipe)) q tt (λ x.
      stays_take s.config.layout s.controller.numbers None x s.controller.book (book_next s.config s.controller (job.Look pipe) x) (takes s.config s.controller None pipe x).book)
  job_kept (job.Hit from ms key at n) q =
      frame (job.Hit from ms key at n) (job_op s.config s.controller (job.Hit from ms key at n)) q tt (λ x. stays_changed (swept (read_flag x)) (λ e. refl) (λ e. refl) key book)
  job_kept (job.Store (store.Judge y)) q = judged y q
  job_kept (job.Store (store.Empty key at why)) q =
      frame (job.Store (store.Empty key at why)) (job_op s.config s.controller (job.Store (store.Empty key at why))) q tt (λ x. stays_changed left_other (λ e. refl) (λ e. refl) key book)
  job_kept j q = frame j (job_op s.config s.controller j) q tt (λ x. stays_self book)

  begins_kept : PlacedAreFound (begun_core s)
  begins_kept =
      begun_by s.config s.controller (λ c. EachPipe (LooksAt c.job book) s.pipes) i.matching.matching.looks (λ q t g.
      staying book job.Free t.job q (stays_self book) (λ p v f leg r d a. absurd a))

pub found_put : (s : Core) (p : Put) → s.controller.job ≡ job.Free → Invariant s → PlacedAreFound (put_core s p)
found_put s p free i =
    staying s i s.controller.book.entries job.Free (job.Draw (draw.Reserved p)) free (stays_self s.controller.book.entries) (λ n v f leg r d a. absurd a)

pub found_keep : Keeps IsPacket Invariant PlacedAreFound
found_keep = record {
  stages = λ s p v at q e i h. stage_kept s i p v at q e (pipe_op s.config.layout v at) refl;
  begins = λ s i h. begins_kept s i;
  jobs = λ s j q b i h. job_kept s i j q;
  enters = λ s p v packet q r u n a i h.
      each_set s.pipes p v (record v { stage = stage.Enter packet }) q (LooksAt s.controller.job s.controller.book.entries) h tt;
  clocks = λ s ms q i h. h;
  refusals = λ s q i h. h;
}

pub found_open : OpensWith PlacedAreFound
unfolding opening_pipes
found_open k f p v e =
    subst (λ u. LooksAt (opening k).controller.job (opening k).controller.book.entries p u) (sym (ranged_at fresh_pipe 0 k.layout.shape.pipes p v e)) tt
