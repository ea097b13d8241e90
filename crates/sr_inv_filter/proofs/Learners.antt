-- An opener that may yet be learned by the version that an update gives isn't in the filter, once the switch is stored.
use Rattle.std.proofs.Common.{◌≡◌, ℕ, Bool, true, false, ◌&&◌, ◌⊎◌, List, [], ◌∷◌, if◌then◌else◌, ◌==◌, slice_get, slice_set, Some, None, Option, sym, refl, ap, ◌∙◌, subst, inl, inr}
use Rattle.std.proofs.lemmas.Option.{same_Some}
use Rattle.std.specs.List.{list_all}
use Rattle.sr_base.specs.Layout.{LayoutView}
use Rattle.sr_base.specs.declared.kind.Kind.{Kind}
use Rattle.sr_base.specs.declared.kind.Kind.TheVariants.{Opener, Carry, Ending}
use Rattle.sr_base.specs.declared.vip_word.Phase.{Phase}
use Rattle.sr_base.specs.declared.vip_word.Phase.TheVariants.{Steady, Recording, Holding, Transit}
use Rattle.sr_base.specs.declared.vip_word.VipWord.{VipWord}
use Rattle.sr_inv_facts.proofs.Beginning.{begun_by}
use Rattle.sr_inv_facts.proofs.Lists.{in_end, of_some, ranged_at}
use Rattle.sr_inv_facts.proofs.Pipes.{each_set}
use Rattle.sr_inv_facts.specs.Doing.{HasEarlier}
use Rattle.sr_inv_facts.specs.Fitted.{IsPacket}
use Rattle.sr_inv_facts.specs.Flying.{BeforePush, IfOpener, OnChoice, OnFlight, OnLearning, OnLeg, OnMayLearn, OnMissing, OnTo, OnUnmatched}
use Rattle.sr_inv_facts.specs.InFilter.{LearnerMarked, LearnersKept, MayMarked, phase_at}
use Rattle.sr_inv_facts.specs.InFlight.{Chooses, ChoosesBy, HasWord}
use Rattle.sr_inv_facts.specs.InShape.{LegFits, StageFits}
use Rattle.sr_inv_facts.specs.InUpdate.{AtPhase, IsAside, JobAt, UpdateFits}
use Rattle.sr_inv_facts.specs.Invariant.{Invariant}
use Rattle.sr_inv_facts.specs.Laws.{OpensWith}
use Rattle.sr_inv_facts.specs.Readings.{EachPipe, In, bit_words, is_marked, is_set_in}
use Rattle.sr_inv_filter.proofs.FilterSteps.{clearing_phase, mark_recorded, of_update, recorded_phase, step_bits, stored_phase, storing}
use Rattle.sr_inv_filter.proofs.LoadedPhases.{current_replaced, recording_transit, holding_transit, steady_transit}
use Rattle.sr_inv_flight.proofs.Choosing.{choices_part}
use Rattle.sr_inv_flight.proofs.LoadedWords.{vip_loaded, words_part}
use Rattle.sr_inv_flight.proofs.Steps.{Finds, OnOp, filtered_finds, looked_finds, looking_finds}
use Rattle.sr_law.specs.declared.verdict.HeldBy.{HeldBy}
use Rattle.sr_law.specs.declared.verdict.Verdict.{Verdict}
use Rattle.sr_machine.specs.Begins.{Begins}
use Rattle.sr_machine.specs.Core.{Core, opening}
use Rattle.sr_machine.specs.Deciding.{vip_at}
use Rattle.sr_machine.specs.Jobs.{job_op}
use Rattle.sr_machine.specs.Keeping.{AfterJob, AfterStage, Keeps, begun_core}
use Rattle.sr_machine.specs.Names.{rewritten}
use Rattle.sr_machine.specs.Opening.{opening_pipes}
use Rattle.sr_machine.specs.Ops.{op_answer, op_name, op_words}
use Rattle.sr_machine.specs.Pipe.{fresh_pipe, pipe_after, pipe_op}
use Rattle.sr_machine.specs.Reads.{filter_bit, filter_word, has_bit, read_flag, says}
use Rattle.sr_machine.specs.Stages.{begun_flight, held_or, is_opener, key_bits, key_places, last_at, last_by, leg_after, leg_op, loaded, looking, marking, stage_after, verdict_at, verdict_by}
use Rattle.sr_machine.specs.Starting.{Start, update_to}
use Rattle.sr_machine.specs.Stores.{is_last_filter, phase_word}
use Rattle.sr_machine.specs.declared.flight.Flight.{Flight}
use Rattle.sr_machine.specs.declared.job.Job.{Job}
use Rattle.sr_machine.specs.declared.leg.Last.{Last}
use Rattle.sr_machine.specs.declared.leg.Leg.{Leg}
use Rattle.sr_machine.specs.declared.leg.Leg.TheVariants.{Look, Hit, Filter, Chosen, Judged}
use Rattle.sr_machine.specs.declared.leg.Load.{Load}
use Rattle.sr_machine.specs.declared.op.Op.{Op}
use Rattle.sr_machine.specs.declared.pipe_view.PipeView.{PipeView}
use Rattle.sr_machine.specs.declared.pool_update.PoolUpdate.{PoolUpdate}
use Rattle.sr_machine.specs.declared.stage.Stage.{Stage}
use Rattle.sr_machine.specs.declared.stage.Stage.TheVariants.{Idle, Enter, Note, Vip, Fly, Leave}
use Rattle.sr_law.specs.declared.verdict.HeldBy.TheVariants as by
use Rattle.sr_law.specs.declared.verdict.Verdict.TheVariants as verdict
use Rattle.sr_machine.specs.Begins as begin
use Rattle.sr_machine.specs.declared.job.Job.TheVariants as job
use Rattle.sr_machine.specs.declared.leg.Last.TheVariants as last
use Rattle.sr_machine.specs.declared.leg.Load.TheVariants as load
use Rattle.sr_machine.specs.declared.name.Name.TheVariants as name
use Rattle.sr_machine.specs.declared.op.Op.TheVariants as op
use Rattle.sr_machine.specs.declared.stage.Stage.TheVariants as stage
use Rattle.sr_machine.specs.declared.store.Store.TheVariants as store

-- ---- what an opener may yet tell

nothing : (kind : Kind) → IfOpener kind (Unit {0})
nothing Opener = tt
nothing Carry = tt
nothing Ending = tt

-- where a place of the filter is clear
abbrev OnClear : Leg → ℕ → Type 0 → Type 0
OnClear (Filter bit rest) x P = has_bit bit x ≡ false → P
OnClear leg x P = Unit {0}

-- of an opener that looks, nothing is said yet
learns : (f : Flight) (P : ℕ → Type 0) → IfOpener f.packet.kind (P f.vip.cur) → Finds f (λ leg. OnMayLearn f leg P)
learns f P current = record {
  look = λ place rest. nothing f.packet.kind;
  filter = λ bit rest. nothing f.packet.kind;
  held = λ why. nothing f.packet.kind;
  current = current;
}

pub of_opener : (kind : Kind) (P : Type 0) → (kind ≡ Opener → P) → IfOpener kind P
of_opener Opener P h = h refl
of_opener Carry P h = tt
of_opener Ending P h = tt

pub opener_then : (kind : Kind) (P Q : Type 0) → (P → Q) → IfOpener kind P → IfOpener kind Q
opener_then Opener P Q t h = t h
opener_then Carry P Q t h = tt
opener_then Ending P Q t h = tt

before_push : (next : Last) (P : Type 0) → P → BeforePush next P
before_push last.Ring P h = h
before_push (last.Mark bit rest) P h = h
before_push last.Push P h = h
before_push last.Out P h = tt

module _ (l : LayoutView) (f : Flight) (P : ℕ → Type 0) where
  -- one that found an entry is held
  hit_learns : (why : HeldBy) (n : ℕ) → OnMayLearn f (held_or f why n) P
  hit_learns why n = at f.packet.kind
    where
      at : (kind : Kind) → IfOpener kind (OnLearning (if is_opener kind then Judged (verdict.Held why) last.Ring else Chosen n load.Head) P)
      at Opener = tt
      at Carry = tt
      at Ending = tt

  sent_learns : (down : Bool) (server n pool : ℕ) (next : Last) → P n → OnLearning (Judged (verdict_by down server n pool) next) P
  sent_learns true server n pool next h = before_push next (Unit {0}) tt
  sent_learns false server n pool next h = before_push next (P n) h

  loaded_learns : (n : ℕ) (next : Load) (x : ℕ) → OnMayLearn f (Chosen n next) P → OnMayLearn f (loaded l f n next x) P
  loaded_learns n load.Head x h = h
  loaded_learns n (load.Member head) x h = h
  loaded_learns n (load.Down pool server) x h =
      opener_then f.packet.kind (P n) (OnLearning (Judged (verdict_by (read_flag x) server n pool) (last_by f.packet.kind (read_flag x))) P)
      (λ k. sent_learns (read_flag x) server n pool (last_by f.packet.kind (read_flag x)) k) h

  ring_learns : (v : Verdict) (empty : Bool) → OnMayLearn f (Judged v last.Ring) P → OnMayLearn f (Judged (verdict_at f v empty) (last_at l f v empty)) P
  ring_learns v true h =
      opener_then f.packet.kind (OnTo v P) (BeforePush (last_at l f v true) (OnTo v P)) (λ k. before_push (last_at l f v true) (OnTo v P) k) h
  ring_learns v false h = opener_then f.packet.kind (OnTo v P) (Unit {0}) (λ k. tt) h

last_learns : (l : LayoutView) (f : Flight) (P : Flight → ℕ → Type 0) (v : Verdict) (next : Last) (x : ℕ) → OnMayLearn f (Judged v next) (P f)
    → OnLeg (leg_after l f (Judged v next) x) (λ g after. OnMayLearn g after (P g))
last_learns l f P v last.Ring x h = ring_learns l f (P f) v (x == 0) h
last_learns l f P v (last.Mark bit rest) x h =
    opener_then f.packet.kind (OnTo v (P f)) (BeforePush (marking rest) (OnTo v (P f))) (λ k. before_push (marking rest) (OnTo v (P f)) k) h
last_learns l f P v last.Push x h = opener_then f.packet.kind (OnTo v (P f)) (Unit {0}) (λ k. tt) h
last_learns l f P v last.Out x h = tt

module _ (l : LayoutView) (f : Flight) (P : Flight → ℕ → Type 0) (current : IfOpener f.packet.kind (P f f.vip.cur)) where
  pub begins_learns : OnMayLearn f (looking l f (key_places l f.packet.key)) (P f)
  begins_learns = looking_finds l f (λ leg. OnMayLearn f leg (P f)) (learns f (P f) current) (key_places l f.packet.key)

  pub leg_learns : (leg : Leg) (x : ℕ) → OnClear leg x (IfOpener f.packet.kind (P f f.vip.next)) → OnMayLearn f leg (P f)
      → OnLeg (leg_after l f leg x) (λ g after. OnMayLearn g after (P g))
  leg_learns (Look place rest) x c h =
      looked_finds l f (λ leg. OnMayLearn f leg (P f)) (learns f (P f) current) place rest (says l place f.packet.key x) (λ n e. nothing f.packet.kind)
  leg_learns (Hit place n) x c h = hit_learns l f (P f) by.Clash n
  leg_learns (Filter bit rest) x c h = filtered_finds l f (λ leg. OnMayLearn f leg (P f)) (learns f (P f) current) rest (has_bit bit x) c
  leg_learns (Chosen n next) x c h = loaded_learns l f (P f) n next x h
  leg_learns (Judged v next) x c h = last_learns l f P v next x h

push_then : (next : Last) (P Q : Type 0) → (P → Q) → BeforePush next P → BeforePush next Q
push_then last.Ring P Q t h = t h
push_then (last.Mark bit rest) P Q t h = t h
push_then last.Push P Q t h = t h
push_then last.Out P Q t h = tt

learning_then : (leg : Leg) (P Q : ℕ → Type 0) → ((n : ℕ) → P n → Q n) → OnLearning leg P → OnLearning leg Q
learning_then (Chosen n next) P Q t h = t n h
learning_then (Judged (verdict.To server n pool) next) P Q t h = push_then next (P n) (Q n) (t n) h
learning_then (Judged v next) P Q t h = before_push next (Unit {0}) tt
learning_then leg P Q t h = tt

pub may_then : (f : Flight) (leg : Leg) (P Q : ℕ → Type 0) → ((n : ℕ) → P n → Q n) → OnMayLearn f leg P → OnMayLearn f leg Q
may_then f leg P Q t h = opener_then f.packet.kind (OnLearning leg P) (OnLearning leg Q) (learning_then leg P Q t) h

-- an opener that may yet learn a version chose it
choosing : (leg : Leg) (P : ℕ → Type 0) → OnMissing leg (λ looks. OnChoice leg P) → OnLearning leg P
choosing (Chosen n next) P h = h
choosing (Judged (verdict.To server n pool) next) P h = before_push next (P n) h
choosing (Judged v next) P h = before_push next (Unit {0}) tt
choosing leg P h = tt

pub may_choose : (f : Flight) (leg : Leg) (P : ℕ → Type 0) → OnUnmatched f leg (λ looks. OnChoice leg P) → OnMayLearn f leg P
may_choose f leg P h = opener_then f.packet.kind (OnMissing leg (λ looks. OnChoice leg P)) (OnLearning leg P) (choosing leg P) h

-- ---- what is said of them

-- a place of the key is clear
unmarked : (bits : ℕ → ℕ) (places : List ℕ) (bit : ℕ) → In bit places → is_set_in bits bit ≡ false → list_all (is_set_in bits) places ≡ false
unmarked bits [] bit i e = absurd i
unmarked bits (b ∷ rest) bit (inl same) e =
    let here : is_set_in bits b ≡ false = ap (is_set_in bits) (sym same) ∙ e in
    ap (λ t. t && list_all (is_set_in bits) rest) here
unmarked bits (b ∷ rest) bit (inr i) e = at (is_set_in bits b) (unmarked bits rest bit i e)
  where
    at : (t : Bool) → list_all (is_set_in bits) rest ≡ false → (t && list_all (is_set_in bits) rest) ≡ false
    at true h = h
    at false h = refl

marked_if : (u : PoolUpdate) (p : Phase) (n : ℕ) (marked : Bool) → (p ≡ Transit → n ≡ u.given → marked ≡ false) → LearnerMarked u p n marked
marked_if u Steady n m h = tt
marked_if u Recording n m h = tt
marked_if u Holding n m h = tt
marked_if u Transit n m h = h refl

-- in another phase nothing is said
pub unswitched : (l : LayoutView) (bits : ℕ → ℕ) (update : Option PoolUpdate) (vips : List VipWord) → ((u : PoolUpdate) → update ≡ Some u → phase_at vips u ≡ Transit → ⊥)
    → (pipes : List PipeView)
    → EachPipe (λ p v. OnLeg v.stage (λ f at. OnMayLearn f at (MayMarked l bits update vips f.packet.key))) pipes
unswitched l bits update vips n pipes p v r = by v.stage
  where
    may : (f : Flight) (m : ℕ) → MayMarked l bits update vips f.packet.key m
    may f m = of_update update f.packet.key (λ u. LearnerMarked u (phase_at vips u) m (is_marked l bits f.packet.key)) (λ u e own. marked_if u (phase_at vips u) m (is_marked l bits f.packet.key) (λ t g. absurd (n u e t)))

    learning : (f : Flight) (leg : Leg) → OnLearning leg (MayMarked l bits update vips f.packet.key)
    learning f (Chosen m next) = may f m
    learning f (Judged (verdict.To server m pool) next) = before_push next (MayMarked l bits update vips f.packet.key m) (may f m)
    learning f (Judged v next) = before_push next (Unit {0}) tt
    learning f leg = tt

    by : (at : Stage) → OnLeg at (λ f at. OnMayLearn f at (MayMarked l bits update vips f.packet.key))
    by (Fly f leg) = of_opener f.packet.kind (OnLearning leg (MayMarked l bits update vips f.packet.key)) (λ e. learning f leg)
    by at = tt

-- ---- a pipe's step

module _ (s : Core) (i : Invariant s) where
  -- of an opener of the update's virtual address
  abbrev May : Flight → ℕ → Type 0
  May f = MayMarked s.config.layout (bit_words s.words) s.controller.update s.controller.vips f.packet.key

  -- the current version of its word is the replaced one once the switch is stored
  current_may : (p : ℕ) (f : Flight) → HasWord s.controller.vips s.controller.job p f → IfOpener f.packet.kind (May f f.vip.cur)
  current_may p f w =
      of_opener f.packet.kind (May f f.vip.cur) (λ o.
      of_update s.controller.update f.packet.key
      (λ u. LearnerMarked u (phase_at s.controller.vips u) f.vip.cur (is_marked s.config.layout (bit_words s.words) f.packet.key))
      (λ u e own.
      marked_if u (phase_at s.controller.vips u) f.vip.cur (is_marked s.config.layout (bit_words s.words) f.packet.key) (λ t g.
      absurd ((of_some (UpdateFits s.config) s.controller.update u i.update.update.fits e).other
      (sym (current_replaced s i u p f.entered f.packet.key.vip f.vip e own w t) ∙ g)))))

  -- the next one is learned where a place of its key is clear
  next_may : (f : Flight) (bit : ℕ) → In bit (key_bits s.config.layout f.packet.key) → is_set_in (bit_words s.words) bit ≡ false
      → IfOpener f.packet.kind (May f f.vip.next)
  next_may f bit within clear =
      of_opener f.packet.kind (May f f.vip.next) (λ o.
      of_update s.controller.update f.packet.key
      (λ u. LearnerMarked u (phase_at s.controller.vips u) f.vip.next (is_marked s.config.layout (bit_words s.words) f.packet.key))
      (λ u e own.
      marked_if u (phase_at s.controller.vips u) f.vip.next (is_marked s.config.layout (bit_words s.words) f.packet.key) (λ t g.
      unmarked (bit_words s.words) (key_bits s.config.layout f.packet.key) bit within clear)))

  module _ (p : ℕ) (v : PipeView) (q : slice_get s.pipes p ≡ Some v) where
    own_word : (f : Flight) (leg : Leg) → v.stage ≡ Fly f leg → HasWord s.controller.vips s.controller.job p f
    own_word f leg e = subst (λ z. OnFlight z (HasWord s.controller.vips s.controller.job p)) e (words_part s i p v q)

    clear : (f : Flight) (leg : Leg) → LegFits s.config.layout f leg
        → OnClear leg (op_answer (leg_op s.config.layout v.number v.pushed f leg) (s.words (op_name (leg_op s.config.layout v.number v.pushed f leg))))
        (IfOpener f.packet.kind (May f f.vip.next))
    clear f (Filter bit rest) g = λ e. next_may f bit (in_end bit (bit ∷ rest) (key_bits s.config.layout f.packet.key) g.end (inl refl)) e
    clear f leg g = tt

    own_step : (at : Stage) → v.stage ≡ at → OnLeg at (λ f leg. OnMayLearn f leg (May f))
        → OnOp (pipe_op s.config.layout v at)
        (λ o. OnLeg (stage_after s.config.layout at (op_answer o (s.words (op_name o)))) (λ f leg. OnMayLearn f leg (May f)))
    own_step Idle e h = tt
    own_step (Enter packet) e h = tt
    own_step (Note packet t) e h = tt
    own_step (Vip packet t) e h =
        let f = begun_flight s.config.layout packet t (s.words (name.Vip packet.key.vip)) in
        begins_learns s.config.layout f May (current_may p f (inl (vip_loaded s i packet.key.vip)))
    own_step (Fly f leg) e h =
        leg_learns s.config.layout f May (current_may p f (own_word f leg e)) leg
        (op_answer (leg_op s.config.layout v.number v.pushed f leg) (s.words (op_name (leg_op s.config.layout v.number v.pushed f leg))))
        (clear f leg (subst (StageFits s.config.layout) e (i.shape.pipes.stage p v q)).1) h
    own_step (Leave f) e h = tt

    stage_kept : (at : Stage) (o : Option Op) → OnOp o (λ o. bit_words (op_words s.words o) ≡ bit_words s.words) → LearnersKept s
        → OnOp o (λ o. OnLeg (stage_after s.config.layout at (op_answer o (s.words (op_name o)))) (λ f leg. OnMayLearn f leg (May f)))
        → AfterStage LearnersKept s p v at o
    stage_kept at None b h g = tt
    stage_kept at (Some o) b h g =
        subst (λ bits. EachPipe (λ n u. OnLeg u.stage (λ f leg. OnMayLearn f leg (MayMarked s.config.layout bits s.controller.update s.controller.vips f.packet.key))) (slice_set s.pipes p (pipe_after s.config.layout v at (op_answer o (s.words (op_name o)))))) (sym b)
        (each_set s.pipes p v (pipe_after s.config.layout v at (op_answer o (s.words (op_name o)))) q (λ n u. OnLeg u.stage (λ f leg. OnMayLearn f leg (May f))) h g)

    marks : (f : Flight) (w : Verdict) (bit : ℕ) (rest : List ℕ) → v.stage ≡ Fly f (Judged w (last.Mark bit rest)) → (u : PoolUpdate)
        → s.controller.update ≡ Some u → phase_at s.controller.vips u ≡ Transit → ⊥
    marks f w bit rest e u a t = at (recorded_phase s.controller.update s.controller.vips f.packet.key.vip f.vip (mark_recorded s i p v q f w bit rest e) u a)
      where
        at : (phase_at s.controller.vips u ≡ Recording) ⊎ (phase_at s.controller.vips u ≡ Holding) → ⊥
        at (inl h) = recording_transit (sym h ∙ t)
        at (inr h) = holding_transit (sym h ∙ t)

    stages_kept : (at : Stage) → v.stage ≡ at → LearnersKept s → AfterStage LearnersKept s p v at (pipe_op s.config.layout v at)
    stages_kept (Fly f (Judged w (last.Mark bit rest))) e h =
        unswitched s.config.layout (bit_words (op_words s.words (op.Ors (name.Filter (filter_word bit)) (filter_bit bit)))) s.controller.update s.controller.vips (marks f w bit rest e)
        (slice_set s.pipes p (pipe_after s.config.layout v (Fly f (Judged w (last.Mark bit rest))) (s.words (name.Filter (filter_word bit)))))
    stages_kept at e h = stage_kept at (pipe_op s.config.layout v at) (step_bits s v at (λ n. n)) h (own_step at e (subst (λ z. OnLeg z (λ f leg. OnMayLearn f leg (May f))) e (h p v q)))

  -- ---- the controller's step

  -- no opener of a virtual address that is held may learn anything
  held_learns : (u : PoolUpdate) → s.controller.job ≡ job.Store (store.Vip u Transit) → (f : Flight) → (n : ℕ) → f.packet.key.vip ≡ u.vip
      → HasWord s.controller.vips (job.Store (store.Vip u Transit)) 0 f → ChoosesBy f.vip n → ⊥
  held_learns u q f n own (inl e) c =
      let a : AtPhase s.controller.update s.controller.vips u Holding = subst (JobAt s.config s.controller.update s.controller.vips) q i.update.update.phase in
      c.1 (ap (λ z. z.phase) (e ∙ (ap (vip_at s.controller.vips) own ∙ a.1)))
  held_learns u q f n own (inr e) c = absurd e

  stored_kept : (u : PoolUpdate) (y : Phase) → s.controller.job ≡ job.Store (store.Vip u y)
      → EachPipe (λ p v. OnLeg v.stage (λ f at. OnMayLearn f at (MayMarked s.config.layout (bit_words s.words) s.controller.update (slice_set s.controller.vips u.vip (phase_word u y)) f.packet.key))) s.pipes
  stored_kept u y q = at y q
    where
      is : (y : Phase) → s.controller.job ≡ job.Store (store.Vip u y) → (w : PoolUpdate) → s.controller.update ≡ Some w
          → (w ≡ u) × (phase_at (slice_set s.controller.vips u.vip (phase_word u y)) w ≡ y)
      is y q w e =
          let own : s.controller.update ≡ Some u = storing s i u y q in
          let same : w ≡ u = same_Some w u (sym e ∙ own) in
          (same, subst (λ z. phase_at (slice_set s.controller.vips u.vip (phase_word u y)) z ≡ y) (sym same) (stored_phase s i u y q))

      at : (y : Phase) → s.controller.job ≡ job.Store (store.Vip u y)
          → EachPipe (λ p v. OnLeg v.stage (λ f at. OnMayLearn f at (MayMarked s.config.layout (bit_words s.words) s.controller.update (slice_set s.controller.vips u.vip (phase_word u y)) f.packet.key))) s.pipes
      at Steady q =
          unswitched s.config.layout (bit_words s.words) s.controller.update (slice_set s.controller.vips u.vip (phase_word u Steady)) (λ w e t. steady_transit (sym (is Steady q w e).1 ∙ t)) s.pipes
      at Recording q =
          unswitched s.config.layout (bit_words s.words) s.controller.update (slice_set s.controller.vips u.vip (phase_word u Recording)) (λ w e t. recording_transit (sym (is Recording q w e).1 ∙ t)) s.pipes
      at Holding q =
          unswitched s.config.layout (bit_words s.words) s.controller.update (slice_set s.controller.vips u.vip (phase_word u Holding)) (λ w e t. holding_transit (sym (is Holding q w e).1 ∙ t)) s.pipes
      at Transit q = λ p v r. by p v.stage (words_part s i p v r) (choices_part s i p v r)
        where
          by : (p : ℕ) (at : Stage) → OnFlight at (HasWord s.controller.vips s.controller.job p) → OnLeg at Chooses
              → OnLeg at (λ f at. OnMayLearn f at (MayMarked s.config.layout (bit_words s.words) s.controller.update (slice_set s.controller.vips u.vip (phase_word u Transit)) f.packet.key))
          by p (Fly f leg) w c =
              may_then f leg (ChoosesBy f.vip) (MayMarked s.config.layout (bit_words s.words) s.controller.update (slice_set s.controller.vips u.vip (phase_word u Transit)) f.packet.key)
              (λ n h.
              of_update s.controller.update f.packet.key
              (λ z. LearnerMarked z (phase_at (slice_set s.controller.vips u.vip (phase_word u Transit)) z) n (is_marked s.config.layout (bit_words s.words) f.packet.key))
              (λ z e own.
              absurd (held_learns u q f n (own ∙ ap (λ y. y.vip) (is Transit q z e).0) (subst (λ j. HasWord s.controller.vips j 0 f) q (nowhere w)) h)))
              (may_choose f leg (ChoosesBy f.vip) c.choice)
            where
              nowhere : HasWord s.controller.vips s.controller.job p f → HasWord s.controller.vips s.controller.job 0 f
              nowhere (inl h) = inl h
              nowhere (inr h) = absurd (subst (λ j. HasEarlier j p f.entered f.packet.key.vip f.vip) q h)
          by p at w c = tt

  job_kept : (j : Job) → s.controller.job ≡ j → LearnersKept s → AfterJob LearnersKept s j (job_op s.config s.controller j)
  job_kept job.Free q h = tt
  job_kept (job.Store (store.Vip u y)) q h = stored_kept u y q
  job_kept (job.Store (store.Filter u index)) q h = at (is_last_filter s.config.layout index)
    where
      at : (b : Bool)
          → EachPipe (λ p v. OnLeg v.stage (λ f at. OnMayLearn f at (MayMarked s.config.layout (bit_words (rewritten s.words (name.Filter index) 0)) (if b then None else s.controller.update) s.controller.vips f.packet.key))) s.pipes
      at true = unswitched s.config.layout (bit_words (rewritten s.words (name.Filter index) 0)) None s.controller.vips (λ w e t. cc) s.pipes
      at false =
          unswitched s.config.layout (bit_words (rewritten s.words (name.Filter index) 0)) s.controller.update s.controller.vips
          (λ w e t. steady_transit (sym (clearing_phase s i u index q w e) ∙ t)) s.pipes
  job_kept j q h = h

  begins_kept : LearnersKept s → LearnersKept (begun_core s)
  begins_kept h =
      begun_by s.config s.controller
      (λ c. EachPipe (λ p v. OnLeg v.stage (λ f at. OnMayLearn f at (MayMarked s.config.layout (bit_words s.words) c.update c.vips f.packet.key))) s.pipes) h (λ q t g. by t g)
    where
      by : (t : Start) → Begins s.config s.controller t
          → EachPipe (λ p v. OnLeg v.stage (λ f at. OnMayLearn f at (MayMarked s.config.layout (bit_words s.words) t.update s.controller.vips f.packet.key))) s.pipes
      by t (begin.changes g rest number none a b c) =
          unswitched s.config.layout (bit_words s.words) (Some (update_to s.controller g number)) s.controller.vips
          (λ w e t. steady_transit (sym (i.update.update.others w.vip (subst (λ o. IsAside o w.vip) (sym none) tt)) ∙ t)) s.pipes
      by t g = h

-- ---- every event

pub learners_keep : Keeps IsPacket Invariant LearnersKept
learners_keep = record {
  stages = λ s p v at q e i h. stages_kept s i p v q at e h;
  begins = λ s i h. begins_kept s i h;
  jobs = λ s j q b i h. job_kept s i j q h;
  enters = λ s p v packet q r u n a i h.
      each_set s.pipes p v (record v { stage = stage.Enter packet }) q
      (λ n u. OnLeg u.stage (λ f at. OnMayLearn f at (MayMarked s.config.layout (bit_words s.words) s.controller.update s.controller.vips f.packet.key))) h tt;
  clocks = λ s ms q i h. h;
  refusals = λ s q i h. h;
}

pub learners_part : (s : Core) → Invariant s → LearnersKept s
learners_part s i = i.filter.filter.learners

pub learners_open : OpensWith LearnersKept
unfolding opening_pipes
learners_open k f p v e =
    subst (λ u. OnLeg u.stage (λ f at. OnMayLearn f at (MayMarked k.layout (bit_words (opening k).words) (opening k).controller.update (opening k).controller.vips f.packet.key)))
    (sym (ranged_at fresh_pipe 0 k.layout.shape.pipes p v e)) tt
