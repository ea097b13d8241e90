-- The places of the filter that a packet has behind it, where it looks at them or records itself, are set.
use Rattle.std.proofs.Common.{◌≡◌, ℕ, Bool, true, false, ◌&&◌, ◌≢◌, ◌⊎◌, List, [], ◌∷◌, if◌then◌else◌, ◌==◌, slice_get, Some, None, Option, sym, refl, ap, ◌∙◌, subst, inl, inr, true≢false, arith}
use Rattle.std.proofs.lemmas.Bool.{and_parts}
use Rattle.std.proofs.lemmas.Bool.Decides.{nat_tests}
use Rattle.std.specs.List.{AllByRecursion, list_all}
use Rattle.sr_base.specs.Key.{KeyView}
use Rattle.sr_base.specs.Layout.{LayoutView}
use Rattle.sr_base.specs.declared.kind.Kind.{Kind}
use Rattle.sr_base.specs.declared.kind.Kind.TheVariants.{Opener, Carry, Ending}
use Rattle.sr_base.specs.declared.place.Place.{Place}
use Rattle.sr_base.specs.declared.vip_word.Phase.{Phase}
use Rattle.sr_base.specs.declared.vip_word.Phase.TheVariants.{Steady, Recording, Holding, Transit}
use Rattle.sr_base.specs.declared.vip_word.VipWord.{VipWord}
use Rattle.sr_inv_facts.proofs.Filters.{SetsMore, marked_more, set_here, set_more}
use Rattle.sr_inv_facts.proofs.Lists.{all_then, all_to_in, ranged_at}
use Rattle.sr_inv_facts.proofs.Pipes.{each_set, each_turns}
use Rattle.sr_inv_facts.specs.Fitted.{IsPacket}
use Rattle.sr_inv_facts.specs.Flying.{OnFlight, OnLeg}
use Rattle.sr_inv_facts.specs.InFlight.{Chooses, FiltersSet, HasWord, HeldIn, HeldMarked, LastSet, LegHeldIn, LegHolds, LegSet, RestSet}
use Rattle.sr_inv_facts.specs.InShape.{LastFits, LegFits, StageFits}
use Rattle.sr_inv_facts.specs.InUpdate.{AtPhase, IsAside, JobAt}
use Rattle.sr_inv_facts.specs.Invariant.{Invariant}
use Rattle.sr_inv_facts.specs.Laws.{OpensWith}
use Rattle.sr_inv_facts.specs.Readings.{EachPipe, In, bit_words, is_marked, is_set_in}
use Rattle.sr_inv_flight.proofs.Choosing.{choices_part}
use Rattle.sr_inv_flight.proofs.LoadedWords.{words_part}
use Rattle.sr_inv_flight.proofs.Steps.{OnOp, leg_then, stage_turns}
use Rattle.sr_law.specs.declared.verdict.HeldBy.{HeldBy}
use Rattle.sr_law.specs.declared.verdict.Verdict.{Verdict}
use Rattle.sr_machine.specs.Core.{Core, opening}
use Rattle.sr_machine.specs.Deciding.{vip_at}
use Rattle.sr_machine.specs.Jobs.{job_op}
use Rattle.sr_machine.specs.Keeping.{AfterJob, AfterStage, Keeps}
use Rattle.sr_machine.specs.Names.{rewritten}
use Rattle.sr_machine.specs.Opening.{opening_pipes}
use Rattle.sr_machine.specs.Ops.{op_answer, op_name, op_words}
use Rattle.sr_machine.specs.Pipe.{fresh_pipe, pipe_after, pipe_op}
use Rattle.sr_machine.specs.Reads.{filter_word, has_bit, read_flag, says}
use Rattle.sr_machine.specs.Stages.{begun_flight, filtered, filtering, held_or, is_opener, is_recorded, is_recording, is_to, key_bits, key_places, last_at, leg_after, loaded, looked, looking, marking, missed_in, verdict_at, verdict_by, last_by}
use Rattle.sr_machine.specs.declared.flight.Flight.{Flight}
use Rattle.sr_machine.specs.declared.job.Job.{Job}
use Rattle.sr_machine.specs.declared.leg.Last.{Last}
use Rattle.sr_machine.specs.declared.leg.Leg.{Leg}
use Rattle.sr_machine.specs.declared.leg.Leg.TheVariants.{Look, Hit, Filter, Chosen, Judged}
use Rattle.sr_machine.specs.declared.leg.Load.{Load}
use Rattle.sr_machine.specs.declared.op.Op.{Op}
use Rattle.sr_machine.specs.declared.pool_update.PoolUpdate.{PoolUpdate}
use Rattle.sr_machine.specs.declared.pipe_view.PipeView.{PipeView}
use Rattle.sr_machine.specs.declared.said.Said.{Said}
use Rattle.sr_machine.specs.declared.stage.Stage.{Stage}
use Rattle.sr_machine.specs.declared.stage.Stage.TheVariants.{Idle, Enter, Note, Vip, Fly, Leave}
use Rattle.sr_machine.specs.declared.said.Said.TheVariants as said
use Rattle.sr_machine.specs.declared.stage.Stage.TheVariants as stage
use Rattle.sr_machine.specs.declared.store.Store.TheVariants as store
use Rattle.sr_machine.specs.declared.job.Job.TheVariants as job
use Rattle.sr_machine.specs.declared.leg.Last.TheVariants as last
use Rattle.sr_machine.specs.declared.name.Name.TheVariants as name
use Rattle.sr_machine.specs.declared.leg.Load.TheVariants as load
use Rattle.sr_law.specs.declared.verdict.Verdict.TheVariants as verdict
use Rattle.sr_law.specs.declared.verdict.HeldBy.TheVariants as by

-- ---- the places that are still ahead

module _ (l : LayoutView) (bits : ℕ → ℕ) (key : KeyView) where
  rest_whole : RestSet l bits key (key_bits l key)
  rest_whole = all_to_in (λ b. In b (key_bits l key) ⊎ (is_set_in bits b ≡ true)) (key_bits l key) (λ b i. inl i)

  -- the next one is set
  rest_next : (bit : ℕ) (rest : List ℕ) → RestSet l bits key (bit ∷ rest) → is_set_in bits bit ≡ true → RestSet l bits key rest
  rest_next bit rest h e =
      all_then (λ b. In b (bit ∷ rest) ⊎ (is_set_in bits b ≡ true)) (λ b. In b rest ⊎ (is_set_in bits b ≡ true)) turn (key_bits l key) h
    where
      turn : (b : ℕ) → In b (bit ∷ rest) ⊎ (is_set_in bits b ≡ true) → In b rest ⊎ (is_set_in bits b ≡ true)
      turn b (inl (inl same)) = inr (ap (is_set_in bits) same ∙ e)
      turn b (inl (inr i)) = inl i
      turn b (inr set) = inr set

  none_ahead : (places : List ℕ) → AllByRecursion (λ b. In b [] ⊎ (is_set_in bits b ≡ true)) places → list_all (is_set_in bits) places ≡ true
  none_ahead [] a = refl
  none_ahead (b ∷ places) a = cc (at a.0, none_ahead places a.1)
    where
      at : In b [] ⊎ (is_set_in bits b ≡ true) → is_set_in bits b ≡ true
      at (inl i) = absurd i
      at (inr set) = set

  rest_none : RestSet l bits key [] → is_marked l bits key ≡ true
  rest_none a = none_ahead (key_bits l key) a

-- ---- more places are set

module _ (l : LayoutView) (bits after : ℕ → ℕ) (more : SetsMore bits after) where
  rest_more : (key : KeyView) (rest : List ℕ) → RestSet l bits key rest → RestSet l after key rest
  rest_more key rest h =
      all_then (λ b. In b rest ⊎ (is_set_in bits b ≡ true)) (λ b. In b rest ⊎ (is_set_in after b ≡ true)) turn (key_bits l key) h
    where
      turn : (b : ℕ) → In b rest ⊎ (is_set_in bits b ≡ true) → In b rest ⊎ (is_set_in after b ≡ true)
      turn b (inl i) = inl i
      turn b (inr set) = inr (more b set)

  held_more : (key : KeyView) (v : Verdict) → HeldMarked (is_marked l bits key) v → HeldMarked (is_marked l after key) v
  held_more key (verdict.Held by.Transit) h = marked_more bits after more l key h
  held_more key (verdict.Held by.Clash) h = tt
  held_more key v h = tt

  last_more : (f : Flight) (v : Verdict) (last : Last) → LastSet l bits f v last → LastSet l after f v last
  last_more f v (last.Mark bit rest) h = rest_more f.packet.key (bit ∷ rest) h
  last_more f v last.Push h = λ e. marked_more bits after more l f.packet.key (h e)
  last_more f v last h = tt

  leg_more : (f : Flight) (leg : Leg) → LegSet l bits f leg → LegSet l after f leg
  leg_more f (Filter bit rest) h = rest_more f.packet.key (bit ∷ rest) h
  leg_more f (Judged v last) h = (held_more f.packet.key v h.0, last_more f v last h.1)
  leg_more f leg h = tt

-- ---- a packet's step

transit_isnt : Transit ≡ Steady → ⊥
transit_isnt e = cc

recording_isnt : Recording ≡ Steady → ⊥
recording_isnt e = cc

-- what the step told: the place that was looked at, or that it is set now
abbrev Answers : (ℕ → ℕ) → Leg → ℕ → Type 0
Answers bits (Filter bit rest) x = x ≡ bits (filter_word bit)
Answers bits (Judged v (last.Mark bit rest)) x = is_set_in bits bit ≡ true
Answers bits leg x = Unit {0}

module _ (l : LayoutView) (bits : ℕ → ℕ) (f : Flight) where
  unheld_set : (why : HeldBy) (n : ℕ) → HeldMarked (is_marked l bits f.packet.key) (verdict.Held why) → LegSet l bits f (held_or f why n)
  unheld_set why n h = at (is_opener f.packet.kind)
    where
      at : (b : Bool) → LegSet l bits f (if b then Judged (verdict.Held why) last.Ring else Chosen n load.Head)
      at true = (h, tt)
      at false = tt

  filtering_set : (rest : List ℕ) → RestSet l bits f.packet.key rest → LegSet l bits f (filtering f rest)
  filtering_set [] h = unheld_set by.Transit f.vip.cur (rest_none l bits f.packet.key h)
  filtering_set (bit ∷ rest) h = h

  missed_set : (p : Phase) → LegSet l bits f (missed_in l f p)
  missed_set Steady = tt
  missed_set Recording = tt
  missed_set Holding = unheld_set by.Hold f.vip.cur tt
  missed_set Transit = filtering_set (key_bits l f.packet.key) (rest_whole l bits f.packet.key)

  looking_set : (places : List Place) → LegSet l bits f (looking l f places)
  looking_set [] = missed_set f.vip.phase
  looking_set (place ∷ rest) = tt

  looked_set : (place : Place) (rest : List Place) (s : Said) → LegSet l bits f (looked l f place rest s)
  looked_set place rest said.Nothing = looking_set rest
  looked_set place rest said.Reserved = at (is_opener f.packet.kind)
    where
      at : (b : Bool) → LegSet l bits f (if b then Judged (verdict.Held by.Clash) last.Ring else looking l f rest)
      at true = (tt, tt)
      at false = looking_set rest
  looked_set place rest (said.Live n) = tt

  filtered_set : (bit : ℕ) (rest : List ℕ) (set : Bool) → is_set_in bits bit ≡ set → RestSet l bits f.packet.key (bit ∷ rest)
      → LegSet l bits f (filtered f rest set)
  filtered_set bit rest true e h = filtering_set rest (rest_next l bits f.packet.key bit rest h e)
  filtered_set bit rest false e h = tt

  loaded_set : (n : ℕ) (next : Load) (x : ℕ) → LegSet l bits f (loaded l f n next x)
  loaded_set n load.Head x = tt
  loaded_set n (load.Member head) x = tt
  loaded_set n (load.Down pool server) x = at (read_flag x)
    where
      next : (b : Bool) (kind : Kind) (v : Verdict) → LastSet l bits f v (last_by kind b)
      next true Opener v = tt
      next false Opener v = tt
      next b Carry v = tt
      next b Ending v = tt

      at : (b : Bool) → LegSet l bits f (Judged (verdict_by b server n pool) (last_by f.packet.kind b))
      at true = (tt, next true f.packet.kind (verdict.Down server n pool))
      at false = (tt, next false f.packet.kind (verdict.To server n pool))

  marking_set : (v : Verdict) (rest : List ℕ) → RestSet l bits f.packet.key rest → LastSet l bits f v (marking rest)
  marking_set v [] h = λ e. rest_none l bits f.packet.key h
  marking_set v (bit ∷ rest) h = h

  ring_set : (v : Verdict) (empty : Bool) → HeldMarked (is_marked l bits f.packet.key) v
      → LegSet l bits f (Judged (verdict_at f v empty) (last_at l f v empty))
  ring_set v true h = (h, at (is_recorded f v) refl)
    where
      at : (b : Bool) → is_recorded f v ≡ b → LastSet l bits f v (if b then marking (key_bits l f.packet.key) else last.Push)
      at true e = marking_set v (key_bits l f.packet.key) (rest_whole l bits f.packet.key)
      at false e = λ t. absurd (true≢false (sym t ∙ e))
  ring_set v false h = at (is_opener f.packet.kind)
    where
      at : (b : Bool) → LegSet l bits f (Judged (if b then verdict.Full else v) last.Out)
      at true = (tt, tt)
      at false = (h, tt)

  last_set : (v : Verdict) (next : Last) (x : ℕ) → HeldMarked (is_marked l bits f.packet.key) v → LastSet l bits f v next
      → Answers bits (Judged v next) x
      → OnLeg (leg_after l f (Judged v next) x) (LegSet l bits)
  last_set v last.Ring x m h a = ring_set v (x == 0) m
  last_set v (last.Mark bit rest) x m h a = (m, marking_set v rest (rest_next l bits f.packet.key bit rest h a))
  last_set v last.Push x m h a = (m, tt)
  last_set v last.Out x m h a = tt

  leg_set : (leg : Leg) (x : ℕ) → LegSet l bits f leg → Answers bits leg x → OnLeg (leg_after l f leg x) (LegSet l bits)
  leg_set (Look place rest) x h a = looked_set place rest (says l place f.packet.key x)
  leg_set (Hit place n) x h a = unheld_set by.Clash n tt
  leg_set (Filter bit rest) x h a = filtered_set bit rest (has_bit bit x) (ap (has_bit bit) (sym a)) h
  leg_set (Chosen n next) x h a = loaded_set n next x
  leg_set (Judged v next) x h a = last_set v next x h.0 h.1 a

-- ---- a pipe's step

abbrev StageAnswers : (ℕ → ℕ) → Stage → ℕ → Type 0
StageAnswers bits (Fly f leg) x = Answers bits leg x
StageAnswers bits at x = Unit {0}

record StepSets (s : Core) (at : Stage) (o : Op) : Type 0 where
  more : SetsMore (bit_words s.words) (bit_words (op_words s.words o))
  told : StageAnswers (bit_words (op_words s.words o)) at (op_answer o (s.words (op_name o)))

step_sets : (s : Core) (v : PipeView) (at : Stage) → OnOp (pipe_op s.config.layout v at) (StepSets s at)
step_sets s v Idle = tt
step_sets s v (Fly f (Filter bit rest)) = record { more = λ b e. e; told = refl }
step_sets s v (Fly f (Chosen n load.Head)) = record { more = λ b e. e; told = tt }
step_sets s v (Fly f (Judged w (last.Mark bit rest))) =
    record { more = set_more (bit_words s.words) bit; told = set_here (bit_words s.words) bit }
step_sets s v at = record { more = λ b e. e; told = tt }

stage_kept : (s : Core) (p : ℕ) (v : PipeView) (at : Stage) (o : Option Op) → slice_get s.pipes p ≡ Some v → v.stage ≡ at → FiltersSet s
    → OnOp o (StepSets s at)
    → AfterStage FiltersSet s p v at o
stage_kept s p v at None q e h g = tt
stage_kept s p v at (Some o) q e h g =
    let l = s.config.layout in
    let x = op_answer o (s.words (op_name o)) in
    let before = bit_words s.words in
    let after = bit_words (op_words s.words o) in
    each_turns s.pipes p v (pipe_after l v at x) q (λ n u. OnLeg u.stage (LegSet l before)) (λ n u. OnLeg u.stage (LegSet l after)) h
    (stage_turns l at x (LegSet l before) (LegSet l after) (λ packet t is. looking_set l after (begun_flight l packet t x) (key_places l packet.key))
    (λ f leg is m. leg_set l after f leg x (leg_more l before after g.more f leg m) (subst (λ z. StageAnswers after z x) is g.told))
    (subst (λ z. OnLeg z (LegSet l before)) e (h p v q)))
    (λ n u other r m. leg_then u.stage (LegSet l before) (LegSet l after) (λ f leg is k. leg_more l before after g.more f leg k) m)

-- ---- the filter is cleared

-- a packet that loaded Steady has nothing to do with it
module _ (l : LayoutView) (bits : ℕ → ℕ) (f : Flight) (steady : f.vip.phase ≡ Steady) where
  unmarked : (v : Verdict) → HeldIn f.vip.phase v → HeldMarked (is_marked l bits f.packet.key) v
  unmarked (verdict.Held by.Transit) h = absurd (transit_isnt (sym h ∙ steady))
  unmarked (verdict.Held by.Clash) h = tt
  unmarked v h = tt

  unrecorded : (v : Verdict) → is_recorded f v ≡ true → ⊥
  unrecorded v e =
      let a = (and_parts (is_opener f.packet.kind) (is_to v && is_recording f.vip.phase) e).1 in
      let b = (and_parts (is_to v) (is_recording f.vip.phase) a).1 in
      true≢false (sym b ∙ ap is_recording steady)

  last_free : (v : Verdict) (next : Last) → LastFits l f v next → LastSet l bits f v next
  last_free v last.Ring g = tt
  last_free v (last.Mark bit rest) g = absurd (recording_isnt (sym g.recording ∙ steady))
  last_free v last.Push g = λ e. absurd (unrecorded v e)
  last_free v last.Out g = tt

  steady_set : (leg : Leg) → LegFits l f leg → LegHeldIn f.vip.phase leg → LegSet l bits f leg
  steady_set (Filter bit rest) g h = absurd (transit_isnt (sym g.transit ∙ steady))
  steady_set (Judged v next) g h = (unmarked v h, last_free v next g.1)
  steady_set leg g h = tt

-- while it is cleared every word is Steady
all_steady : (vips : List VipWord) (update : Option PoolUpdate) (u : PoolUpdate) → AtPhase update vips u Steady
    → ((vip : ℕ) → IsAside update vip → (vip_at vips vip).phase ≡ Steady)
    → (vip : ℕ) → (vip_at vips vip).phase ≡ Steady
all_steady vips update u a aside vip = at (vip == u.vip) refl
  where
    at : (b : Bool) → (vip == u.vip) ≡ b → (vip_at vips vip).phase ≡ Steady
    at true t =
        let same : vip ≡ u.vip = grind (arith, nat_tests) in
        ap (λ n. (vip_at vips n).phase) same ∙ ap (λ w. w.phase) a.1
    at false t =
        let other : vip ≢ u.vip = grind (arith, nat_tests) in
        aside vip (subst (λ o. IsAside o vip) (sym a.0) other)

clearing : (s : Core) → Invariant s → (u : PoolUpdate) (index : ℕ) → s.controller.job ≡ job.Store (store.Filter u index) → (bits : ℕ → ℕ)
    → EachPipe (λ p v. OnLeg v.stage (LegSet s.config.layout bits)) s.pipes
clearing s i u index q bits p v r = by v.stage (i.shape.pipes.stage p v r) (words_part s i p v r) (choices_part s i p v r)
  where
    by : (at : Stage) → StageFits s.config.layout at → OnFlight at (HasWord s.controller.vips s.controller.job p) → OnLeg at Chooses
        → OnLeg at (LegSet s.config.layout bits)
    by (Fly f leg) g w c = steady_set s.config.layout bits f (is (subst (λ j. HasWord s.controller.vips j p f) q w)) leg g.1 c.held
      where
        a : AtPhase s.controller.update s.controller.vips u Steady
        a = (subst (JobAt s.config s.controller.update s.controller.vips) q i.update.update.phase).0

        is : HasWord s.controller.vips (job.Store (store.Filter u index)) p f → f.vip.phase ≡ Steady
        is (inl e) = ap (λ z. z.phase) e ∙ all_steady s.controller.vips s.controller.update u a i.update.update.others f.packet.key.vip
        is (inr e) = absurd e
    by at g w c = tt

-- ---- every event

job_kept : (s : Core) (j : Job) → s.controller.job ≡ j → Invariant s → FiltersSet s → AfterJob FiltersSet s j (job_op s.config s.controller j)
job_kept s job.Free q i h = tt
job_kept s (job.Store (store.Filter u index)) q i h = clearing s i u index q (bit_words (rewritten s.words (name.Filter index) 0))
job_kept s j q i h = h

pub filters_keep : Keeps IsPacket Invariant FiltersSet
filters_keep = record {
  stages = λ s p v at q e i h. stage_kept s p v at (pipe_op s.config.layout v at) q e h (step_sets s v at);
  begins = λ s i h. h;
  jobs = λ s j q b i h. job_kept s j q i h;
  enters = λ s p v packet q r u n a i h.
      each_set s.pipes p v (record v { stage = stage.Enter packet }) q (λ n u. OnLeg u.stage (LegSet s.config.layout (bit_words s.words))) h tt;
  clocks = λ s ms q i h. h;
  refusals = λ s q i h. h;
}

pub filters_part : (s : Core) → Invariant s → FiltersSet s
filters_part s i p v q =
    leg_then v.stage (LegHolds s.config (bit_words s.words) s.controller.named s.controller.numbers s.controller.rings s.controller.job p v.pushed)
    (LegSet s.config.layout (bit_words s.words)) (λ f leg e h. h.set) (i.flight.legs p v q)

pub filters_open : OpensWith FiltersSet
unfolding opening_pipes
filters_open k f p v e =
    subst (λ u. OnLeg u.stage (LegSet k.layout (bit_words (opening k).words))) (sym (ranged_at fresh_pipe 0 k.layout.shape.pipes p v e)) tt
