-- The version that a packet has chosen or found is in use, and isn't one that a wait is to free.
use Rattle.std.proofs.Common.{◌≡◌, ℕ, ◌≤◌, Bool, true, false, ◌≢◌, ◌⊎◌, List, [], ◌∷◌, cond, find, not, slice_get, Some, None, Option, sym, refl, ap, ◌∙◌, subst, inl, inr, arith}
use Rattle.std.proofs.lemmas.Bool.{cases_eq}
use Rattle.std.proofs.lemmas.Bool.Decides.{nat_tests}
use Rattle.std.proofs.lemmas.List.Sums.{sum_by-cons}
use Rattle.std.proofs.lemmas.Option.{same_Some}
use Rattle.sr_base.specs.Key.{KeyView}
use Rattle.sr_base.specs.Layout.{LayoutView}
use Rattle.sr_base.specs.declared.packet.Packet.{Packet}
use Rattle.sr_base.specs.declared.place.Place.{Place}
use Rattle.sr_base.specs.declared.vip_word.Phase.TheVariants.{Transit}
use Rattle.sr_inv_facts.proofs.Beginning.{begun_by}
use Rattle.sr_inv_facts.proofs.CurrentVersions.{loaded_current}
use Rattle.sr_inv_facts.proofs.FoundVersions.{FoundEntry, FoundOver, stands_vip, version_found}
use Rattle.sr_inv_facts.proofs.Lists.{ranged_at}
use Rattle.sr_inv_facts.proofs.Pipes.{each_set}
use Rattle.sr_inv_facts.proofs.Reading.{vip_fits}
use Rattle.sr_inv_facts.specs.Doing.{OnRelease}
use Rattle.sr_inv_facts.specs.Fitted.{IsPacket}
use Rattle.sr_inv_facts.specs.Flying.{OnFlight, OnLeg, OnNumber}
use Rattle.sr_inv_facts.specs.InFlight.{HasWord, LegHolds, NumbersUsed, Unreleased}
use Rattle.sr_inv_facts.specs.InShape.{FlightFits, LegFits, PacketFits, StageFits}
use Rattle.sr_inv_facts.specs.InUpdate.{JobWaited, is_used, is_used_by}
use Rattle.sr_inv_facts.specs.Invariant.{Invariant}
use Rattle.sr_inv_facts.specs.Laws.{OpensWith}
use Rattle.sr_inv_facts.specs.Readings.{EachPipe, bit_words}
use Rattle.sr_inv_flight.proofs.Choices.{OnTold, begins_number, leg_number}
use Rattle.sr_inv_flight.proofs.LoadedWords.{vip_loaded, words_part}
use Rattle.sr_inv_flight.proofs.Steps.{OnOp, leg_then}
use Rattle.sr_machine.specs.Core.{Core, opening}
use Rattle.sr_machine.specs.Deciding.{ring_count}
use Rattle.sr_machine.specs.Jobs.{drained, job_op, released}
use Rattle.sr_machine.specs.Keeping.{AfterJob, AfterStage, Keeps}
use Rattle.sr_machine.specs.Opening.{opening_pipes}
use Rattle.sr_machine.specs.Ops.{op_answer, op_name}
use Rattle.sr_machine.specs.Pipe.{fresh_pipe, pipe_after, pipe_op}
use Rattle.sr_machine.specs.Reads.{says}
use Rattle.sr_machine.specs.Stages.{begun_flight, key_places, leg_after, leg_op, looking, ring_cell, stage_after}
use Rattle.sr_machine.specs.Stores.{is_last_filter}
use Rattle.sr_machine.specs.Waiting.{is_wait_done}
use Rattle.sr_machine.specs.declared.flight.Flight.{Flight}
use Rattle.sr_machine.specs.declared.job.Job.{Job}
use Rattle.sr_machine.specs.declared.leg.Leg.{Leg}
use Rattle.sr_machine.specs.declared.leg.Leg.TheVariants.{Look, Hit, Chosen, Judged}
use Rattle.sr_machine.specs.declared.op.Op.{Op}
use Rattle.sr_machine.specs.declared.pipe_view.PipeView.{PipeView}
use Rattle.sr_machine.specs.declared.stage.Stage.{Stage}
use Rattle.sr_machine.specs.declared.stage.Stage.TheVariants.{Idle, Enter, Note, Vip, Fly, Leave}
use Rattle.sr_shadow.specs.Book.{count_of}
use Rattle.sr_shadow.specs.Entry.{has_version, holds}
use Rattle.sr_shadow.specs.declared.entry.Entry.{Entry}
use Rattle.sr_update.proofs.Dues.{all_find}
use Rattle.sr_update.proofs.States.{state_other, state_same}
use Rattle.sr_update.specs.Numbers.{NumberRows, is_free, state_of, with_state}
use Rattle.sr_update.specs.declared.number_state.NumberState.{NumberState}
use Rattle.sr_update.specs.declared.number_state.NumberState.TheVariants.{Free, Current, Draining}
use Rattle.sr_machine.specs.declared.draw.Draw.TheVariants as draw
use Rattle.sr_machine.specs.declared.job.Job.TheVariants as job
use Rattle.sr_machine.specs.declared.stage.Stage.TheVariants as stage
use Rattle.sr_machine.specs.declared.store.Store.TheVariants as store
use Rattle.sr_machine.specs.declared.wait.Wait.TheVariants as wait
use Rattle.sr_law.specs.declared.verdict.Verdict.TheVariants as verdict
use Rattle.sr_machine.specs.declared.why.Why.TheVariants as why
use Rattle.sr_machine.specs.declared.name.Name.TheVariants as name
use Rattle.sr_machine.specs.declared.said.Said.TheVariants as said

-- ---- what a packet learns now

-- a version of the key's virtual address that is in use, and that no wait is to free
pub record Standing (numbers : NumberRows) (j : Job) (key : KeyView) (n : ℕ) : Type 0 where
  pub used : is_used numbers key.vip n ≡ true
  pub kept : OnRelease j (λ vip version. key.vip ≡ vip → n ≢ version)

-- an entry is counted among those of its version
counted : (vip version : ℕ) (p : Entry → Bool) (es : List Entry) (e : Entry) → find p es ≡ Some e → has_version vip version e ≡ true
    → 1 ≤ count_of vip version es
counted vip version p [] e q h = cc
counted vip version p (x ∷ es) e q h = at (p x) q (counted vip version p es e)
  where
    one : (b : Bool) → b ≡ true → 1 ≤ cond b 1 0
    one true t = omega arith
    one false t = cc

    at : (b : Bool) → cond b (Some x) (find p es) ≡ Some e
        → (find p es ≡ Some e → has_version vip version e ≡ true → 1 ≤ count_of vip version es)
        → 1 ≤ count_of vip version (x ∷ es)
    at true q more =
        omega (arith, one (has_version vip version x) (ap (has_version vip version) (same_Some x e q) ∙ h), sum_by-cons (λ e. cond (has_version vip version e) 1 0) x es)
    at false q more = omega (arith, more q h, sum_by-cons (λ e. cond (has_version vip version e) 1 0) x es)

current_used : (o : Option NumberState) → o ≡ Some Current → is_used_by o ≡ true
current_used None e = cc
current_used (Some Current) e = refl
current_used (Some Free) e = cc
current_used (Some Draining) e = refl

differ : (a b : Option NumberState) → a ≡ Some Current → b ≡ Some Draining → a ≡ b → ⊥
differ a b e f g = at (sym e ∙ (g ∙ f))
  where
    at : Some Current ≡ Some Draining → ⊥
    at h = cc

-- what is said of the release of a job, where its wait is known
on_release : (P : ℕ → ℕ → Type 0) (entries : List Entry) (numbers : NumberRows) (mark : ℕ) (j : Job) → JobWaited entries numbers mark j
    → ((vip version : ℕ) → (state_of vip version numbers ≡ Some Draining) × (count_of vip version entries ≡ 0) → P vip version)
    → OnRelease j P
on_release P entries numbers mark (job.Draw (draw.Grace (wait.Release vip version))) w h = h vip version w
on_release P entries numbers mark (job.Pass grace pipe (wait.Release vip version)) w h = h vip version w
on_release P entries numbers mark (job.Drain pipe count (wait.Release vip version)) w h = h vip version w
on_release P entries numbers mark j w h = tt

-- a job with such a connection waits for no release
over_release : (P : ℕ → ℕ → Type 0) (j : Job) (place : Place) (key : KeyView) (n : ℕ) (l : LayoutView) → FoundOver l j place key n → OnRelease j P
over_release P (job.Store (store.Empty own at (why.Retired version))) place key n l h = tt
over_release P j place key n l h = absurd h

module _ (s : Core) (i : Invariant s) where
  current_stands : (key : KeyView) (n : ℕ) → state_of key.vip n s.controller.numbers ≡ Some Current
      → Standing s.controller.numbers s.controller.job key n
  current_stands key n e = record {
    used = current_used (state_of key.vip n s.controller.numbers) e;
    kept =
        on_release (λ vip version. key.vip ≡ vip → n ≢ version) s.controller.book.entries s.controller.numbers s.controller.mark s.controller.job
        i.update.versions.waited
        (λ vip version w a b.
        differ (state_of key.vip n s.controller.numbers) (state_of vip version s.controller.numbers) e w.0
        (ap (λ v. state_of v n s.controller.numbers) a ∙ ap (λ m. state_of vip m s.controller.numbers) b));
  }

  entry_stands : (place : Place) (key : KeyView) (n : ℕ) → FoundEntry s.config.layout s.controller.book.entries place key n
      → Standing s.controller.numbers s.controller.job key n
  entry_stands place key n f =
      let e = f.entry in
      let vip : e.key.vip ≡ key.vip = stands_vip s.config.layout place e.key key f.stands in
      let used : is_used s.controller.numbers e.key.vip e.version ≡ true =
      all_find (λ e. is_used s.controller.numbers e.key.vip e.version ≡ true) (holds place) s.controller.book.entries e i.update.versions.used f.holder in
      record {
        used = ap (λ v. is_used s.controller.numbers v n) (sym vip) ∙ (ap (is_used s.controller.numbers e.key.vip) f.version ∙ used);
        kept =
            on_release (λ vip version. key.vip ≡ vip → n ≢ version) s.controller.book.entries s.controller.numbers s.controller.mark s.controller.job
            i.update.versions.waited
            (λ v version w a b.
            let here : has_version v version e ≡ true = grind (arith, nat_tests, vip, a, b, f.version) in
            omega (arith, w.1, counted v version (holds place) s.controller.book.entries e f.holder here));
      }

  over_stands : (place : Place) (key : KeyView) (n : ℕ) (j : Job) → s.controller.job ≡ j → FoundOver s.config.layout j place key n
      → Standing s.controller.numbers j key n
  over_stands place key n (job.Store (store.Empty own at (why.Retired version))) q f =
      let vip : own.vip ≡ key.vip = stands_vip s.config.layout place own key f.2 in
      let used : is_used s.controller.numbers own.vip version ≡ true =
      subst (JobWaited s.controller.book.entries s.controller.numbers s.controller.mark) q i.update.versions.waited in
      record {
        used = ap (λ v. is_used s.controller.numbers v n) (sym vip) ∙ (ap (is_used s.controller.numbers own.vip) f.1 ∙ used);
        kept = tt;
      }
  over_stands place key n j q f = absurd f

  -- a version that a place tells
  pub told_stands : (place : Place) (key : KeyView) (n : ℕ) → says s.config.layout place key (s.words (name.Entry place)) ≡ said.Live n
      → Standing s.controller.numbers s.controller.job key n
  told_stands place key n e = at (version_found s i place key n e)
    where
      at : FoundEntry s.config.layout s.controller.book.entries place key n ⊎ FoundOver s.config.layout s.controller.job place key n
          → Standing s.controller.numbers s.controller.job key n
      at (inl f) = entry_stands place key n f
      at (inr f) = over_stands place key n s.controller.job refl f

  -- the versions of the word that a packet has loaded
  pub word_stands : (f : Flight) → FlightFits s.config.layout f → (p : ℕ) → HasWord s.controller.vips s.controller.job p f
      → Standing s.controller.numbers s.controller.job f.packet.key f.vip.cur
      × (f.vip.phase ≡ Transit → Standing s.controller.numbers s.controller.job f.packet.key f.vip.next)
  word_stands f g p w =
      let c = loaded_current s i p f.entered f.packet.key.vip f.vip g.packet.vip w in
      (current_stands f.packet.key f.vip.cur c.cur, λ t. current_stands f.packet.key f.vip.next (c.next t))

-- ---- a pipe's step

module _ (s : Core) (i : Invariant s) (p : ℕ) (v : PipeView) (q : slice_get s.pipes p ≡ Some v) (P : Flight → ℕ → Type 0) (stands : (f : Flight) (n : ℕ) → Standing s.controller.numbers s.controller.job f.packet.key n → P f n) where
  told : (f : Flight) (leg : Leg)
      → OnTold s.config.layout f (P f) leg (op_answer (leg_op s.config.layout v.number v.pushed f leg) (s.words (op_name (leg_op s.config.layout v.number v.pushed f leg))))
  told f (Look place rest) = λ n e. stands f n (told_stands s i place f.packet.key n e)
  told f leg = tt

  flies : (f : Flight) (leg : Leg) → v.stage ≡ Fly f leg → OnNumber leg (P f)
      → OnLeg (leg_after s.config.layout f leg (op_answer (leg_op s.config.layout v.number v.pushed f leg) (s.words (op_name (leg_op s.config.layout v.number v.pushed f leg)))))
      (λ f leg. OnNumber leg (P f))
  flies f leg e h =
      let g : FlightFits s.config.layout f × LegFits s.config.layout f leg = subst (StageFits s.config.layout) e (i.shape.pipes.stage p v q) in
      let w : HasWord s.controller.vips s.controller.job p f = subst (λ z. OnFlight z (HasWord s.controller.vips s.controller.job p)) e (words_part s i p v q) in
      let both = word_stands s i f g.0 p w in
      leg_number s.config.layout f P (stands f f.vip.cur both.0) (λ t. stands f f.vip.next (both.1 t)) leg
      (op_answer (leg_op s.config.layout v.number v.pushed f leg) (s.words (op_name (leg_op s.config.layout v.number v.pushed f leg)))) g.1 (told f leg) h

  begins : (packet : Packet) (t : ℕ) → v.stage ≡ Vip packet t
      → OnNumber (looking s.config.layout (begun_flight s.config.layout packet t (s.words (name.Vip packet.key.vip))) (key_places s.config.layout packet.key))
      (P (begun_flight s.config.layout packet t (s.words (name.Vip packet.key.vip))))
  begins packet t e =
      let f = begun_flight s.config.layout packet t (s.words (name.Vip packet.key.vip)) in
      let g : PacketFits s.config.layout packet = subst (StageFits s.config.layout) e (i.shape.pipes.stage p v q) in
      let both = word_stands s i f (record { packet = g; word = vip_fits s.config.layout i.shape.config.layout (s.words (name.Vip packet.key.vip)) }) p (inl (vip_loaded s i packet.key.vip)) in
      begins_number s.config.layout f P (stands f f.vip.cur both.0) (λ t. stands f f.vip.next (both.1 t)) (key_places s.config.layout packet.key)

  -- a fact of versions that stand goes on to hold of the packet's
  pub numbers_step : (at : Stage) → v.stage ≡ at → OnLeg at (λ f leg. OnNumber leg (P f))
      → OnOp (pipe_op s.config.layout v at)
      (λ o. OnLeg (stage_after s.config.layout at (op_answer o (s.words (op_name o)))) (λ f leg. OnNumber leg (P f)))
  numbers_step Idle e h = tt
  numbers_step (Enter packet) e h = tt
  numbers_step (Note packet t) e h = tt
  numbers_step (Vip packet t) e h = begins packet t e
  numbers_step (Fly f leg) e h = flies f leg e h
  numbers_step (Leave f) e h = tt

-- ---- versions in use

stage_kept : (s : Core) (p : ℕ) (v : PipeView) (at : Stage) (o : Option Op) → slice_get s.pipes p ≡ Some v → NumbersUsed s
    → OnOp o (λ o. OnLeg (stage_after s.config.layout at (op_answer o (s.words (op_name o)))) (λ f leg. OnNumber leg (λ n. is_used s.controller.numbers f.packet.key.vip n ≡ true)))
    → AfterStage NumbersUsed s p v at o
stage_kept s p v at None q h g = tt
stage_kept s p v at (Some o) q h g =
    each_set s.pipes p v (pipe_after s.config.layout v at (op_answer o (s.words (op_name o)))) q
    (λ n u. OnLeg u.stage (λ f leg. OnNumber leg (λ n. is_used s.controller.numbers f.packet.key.vip n ≡ true))) h g

pub number_then : (leg : Leg) (P Q : ℕ → Type 0) → ((n : ℕ) → P n → Q n) → OnNumber leg P → OnNumber leg Q
number_then (Hit place n) P Q t h = t n h
number_then (Chosen n next) P Q t h = t n h
number_then (Judged (verdict.To server n pool) next) P Q t h = t n h
number_then (Judged (verdict.Down server n pool) next) P Q t h = t n h
number_then (Judged v next) P Q t h = tt
number_then leg P Q t h = tt

number_both : (leg : Leg) (P Q R : ℕ → Type 0) → ((n : ℕ) → P n → Q n → R n) → OnNumber leg P → OnNumber leg Q → OnNumber leg R
number_both (Hit place n) P Q R t h g = t n h g
number_both (Chosen n next) P Q R t h g = t n h g
number_both (Judged (verdict.To server n pool) next) P Q R t h g = t n h g
number_both (Judged (verdict.Down server n pool) next) P Q R t h g = t n h g
number_both (Judged v next) P Q R t h g = tt
number_both leg P Q R t h g = tt

-- another number has another state
other_used : (numbers : NumberRows) (vip n v m : ℕ) (state : NumberState) → (v ≡ vip → m ≡ n → ⊥) → is_used numbers vip n ≡ true
    → is_used (with_state v m state numbers) vip n ≡ true
other_used numbers vip n v m state apart u = ap is_used_by (state_other numbers vip n v m state apart) ∙ u

pub used_some : (o : Option NumberState) → is_used_by o ≡ true → (is : NumberState) × (o ≡ Some is)
used_some None e = cc
used_some (Some is) e = (is, refl)

-- one that isn't free gets a state that isn't
put_used : (numbers : NumberRows) (vip n v m : ℕ) (state : NumberState) → is_free state ≡ false → is_used numbers vip n ≡ true
    → is_used (with_state v m state numbers) vip n ≡ true
put_used numbers vip n v m state f u = at (cases_eq v vip) (cases_eq m n)
  where
    here : v ≡ vip → m ≡ n → is_used (with_state v m state numbers) vip n ≡ true
    here a b =
        let o = used_some (state_of vip n numbers) u in
        let now : state_of vip n (with_state vip n state numbers) ≡ Some state = state_same numbers vip n o.0 state o.1 in
        ap (λ z. is_used (with_state z m state numbers) vip n) a
        ∙ (ap (λ z. is_used (with_state vip z state numbers) vip n) b ∙ (ap is_used_by now ∙ ap not f))

    at : (v ≡ vip) ⊎ (v ≢ vip) → (m ≡ n) ⊎ (m ≢ n) → is_used (with_state v m state numbers) vip n ≡ true
    at (inl a) (inl b) = here a b
    at (inl a) (inr b) = other_used numbers vip n v m state (λ x y. b y) u
    at (inr a) b = other_used numbers vip n v m state (λ x y. a x) u

module _ (s : Core) (i : Invariant s) where
  -- each packet's version, where the numbers change
  renumbered : (numbers : NumberRows) → ((p : ℕ) (f : Flight) (leg : Leg) (n : ℕ) → (v : PipeView) → slice_get s.pipes p ≡ Some v → v.stage ≡ Fly f leg
      → is_used s.controller.numbers f.packet.key.vip n ≡ true → is_used numbers f.packet.key.vip n ≡ true)
      → NumbersUsed s → EachPipe (λ p v. OnLeg v.stage (λ f leg. OnNumber leg (λ n. is_used numbers f.packet.key.vip n ≡ true))) s.pipes
  renumbered numbers t h p v r =
      leg_then v.stage (λ f leg. OnNumber leg (λ n. is_used s.controller.numbers f.packet.key.vip n ≡ true))
      (λ f leg. OnNumber leg (λ n. is_used numbers f.packet.key.vip n ≡ true))
      (λ f leg e k.
      number_then leg (λ n. is_used s.controller.numbers f.packet.key.vip n ≡ true) (λ n. is_used numbers f.packet.key.vip n ≡ true)
      (λ n u. t p f leg n v r e u) k) (h p v r)

  -- a number is freed that no packet has
  freed : (pipe count vip version : ℕ) → s.controller.job ≡ job.Drain pipe count (wait.Release vip version) → (p : ℕ) (v : PipeView)
      → slice_get s.pipes p ≡ Some v
      → OnLeg v.stage (λ f leg. OnNumber leg (λ n. is_used s.controller.numbers f.packet.key.vip n ≡ true))
      → OnLeg v.stage (λ f leg. OnNumber leg (λ n. is_used (with_state vip version Free s.controller.numbers) f.packet.key.vip n ≡ true))
  freed pipe count vip version q p v r h = by v.stage (i.flight.legs p v r) h
    where
      kept : (f : Flight) (at : Leg) → (f.packet.key.vip ≡ vip → OnNumber at (λ n. n ≢ version))
          → OnNumber at (λ n. is_used s.controller.numbers f.packet.key.vip n ≡ true) → (f.packet.key.vip ≡ vip) ⊎ (f.packet.key.vip ≢ vip)
          → OnNumber at (λ n. is_used (with_state vip version Free s.controller.numbers) f.packet.key.vip n ≡ true)
      kept f at a u (inl same) =
          number_both at (λ n. n ≢ version) (λ n. is_used s.controller.numbers f.packet.key.vip n ≡ true)
          (λ n. is_used (with_state vip version Free s.controller.numbers) f.packet.key.vip n ≡ true)
          (λ n b t. other_used s.controller.numbers f.packet.key.vip n vip version Free (λ x y. b (sym y)) t) (a same) u
      kept f at a u (inr apart) =
          number_then at (λ n. is_used s.controller.numbers f.packet.key.vip n ≡ true)
          (λ n. is_used (with_state vip version Free s.controller.numbers) f.packet.key.vip n ≡ true)
          (λ n t. other_used s.controller.numbers f.packet.key.vip n vip version Free (λ x y. apart (sym x)) t) u

      by : (at : Stage)
          → OnLeg at (LegHolds s.config (bit_words s.words) s.controller.named s.controller.numbers s.controller.rings s.controller.job p v.pushed)
          → OnLeg at (λ f leg. OnNumber leg (λ n. is_used s.controller.numbers f.packet.key.vip n ≡ true))
          → OnLeg at (λ f leg. OnNumber leg (λ n. is_used (with_state vip version Free s.controller.numbers) f.packet.key.vip n ≡ true))
      by (Fly f at) g u = kept f at (subst (λ j. Unreleased j p f at) q g.release) u (cases_eq f.packet.key.vip vip)
      by at g u = tt

  used_job : (j : Job) → s.controller.job ≡ j → NumbersUsed s → AfterJob NumbersUsed s j (job_op s.config s.controller j)
  used_job job.Free q h = tt
  used_job (job.Draw (draw.Given u)) q h =
      renumbered (with_state u.vip u.given Current s.controller.numbers) (λ p f leg n v r e k. put_used s.controller.numbers f.packet.key.vip n u.vip u.given Current refl k) h
  used_job (job.Store (store.Filter u index)) q h = at (is_last_filter s.config.layout index)
    where
      at : (b : Bool) → EachPipe (λ p v. OnLeg v.stage (λ f leg. OnNumber leg (λ n. is_used (drained b u s.controller.numbers) f.packet.key.vip n ≡ true))) s.pipes
      at true =
          renumbered (with_state u.vip u.replaced Draining s.controller.numbers) (λ p f leg n v r e k. put_used s.controller.numbers f.packet.key.vip n u.vip u.replaced Draining refl k) h
      at false = h
  used_job (job.Drain pipe count (wait.Release vip version)) q h =
      at (is_wait_done s.config.layout pipe count (s.words (ring_cell s.config.layout pipe (ring_count s.controller.rings pipe).words)))
    where
      at : (b : Bool)
          → EachPipe (λ p v. OnLeg v.stage (λ f leg. OnNumber leg (λ n. is_used (released b (wait.Release vip version) s.controller.numbers) f.packet.key.vip n ≡ true))) s.pipes
      at true = λ p v r. freed pipe count vip version q p v r (h p v r)
      at false = h
  used_job j q h = h

-- ---- every event

pub used_keep : Keeps IsPacket Invariant NumbersUsed
used_keep = record {
  stages = λ s p v at q e i h.
      stage_kept s p v at (pipe_op s.config.layout v at) q h
      (numbers_step s i p v q (λ f n. is_used s.controller.numbers f.packet.key.vip n ≡ true) (λ f n g. g.used) at e
      (subst (λ z. OnLeg z (λ f leg. OnNumber leg (λ n. is_used s.controller.numbers f.packet.key.vip n ≡ true))) e (h p v q)));
  begins = λ s i h. begun_by s.config s.controller (λ c. EachPipe (λ p v. OnLeg v.stage (λ f leg. OnNumber leg (λ n. is_used c.numbers f.packet.key.vip n ≡ true))) s.pipes) h (λ q t g. h);
  jobs = λ s j q b i h. used_job s i j q h;
  enters = λ s p v packet q r u n a i h.
      each_set s.pipes p v (record v { stage = stage.Enter packet }) q
      (λ n u. OnLeg u.stage (λ f leg. OnNumber leg (λ n. is_used s.controller.numbers f.packet.key.vip n ≡ true))) h tt;
  clocks = λ s ms q i h. h;
  refusals = λ s q i h. h;
}

pub used_part : (s : Core) → Invariant s → NumbersUsed s
used_part s i p v q =
    leg_then v.stage (LegHolds s.config (bit_words s.words) s.controller.named s.controller.numbers s.controller.rings s.controller.job p v.pushed)
    (λ f leg. OnNumber leg (λ n. is_used s.controller.numbers f.packet.key.vip n ≡ true)) (λ f leg e h. h.used) (i.flight.legs p v q)

pub used_open : OpensWith NumbersUsed
unfolding opening_pipes
used_open k f p v e =
    subst (λ u. OnLeg u.stage (λ f leg. OnNumber leg (λ n. is_used (opening k).controller.numbers f.packet.key.vip n ≡ true)))
    (sym (ranged_at fresh_pipe 0 k.layout.shape.pipes p v e)) tt
