-- What a packet chooses follows from the word that it loaded.
use Rattle.std.proofs.Common.{◌≡◌, ℕ, Bool, true, false, ◌≢◌, List, [], ◌∷◌, if◌then◌else◌, ◌==◌, slice_get, Some, None, Option, sym, refl, ap, ◌∙◌, subst}
use Rattle.sr_base.specs.Layout.{LayoutView}
use Rattle.sr_base.specs.declared.kind.Kind.{Kind}
use Rattle.sr_base.specs.declared.kind.Kind.TheVariants.{Opener, Carry, Ending}
use Rattle.sr_base.specs.declared.place.Place.{Place}
use Rattle.sr_base.specs.declared.vip_word.Phase.{Phase}
use Rattle.sr_base.specs.declared.vip_word.Phase.TheVariants.{Steady, Recording, Holding, Transit}
use Rattle.sr_inv_facts.proofs.Lists.{ranged_at}
use Rattle.sr_inv_facts.proofs.Pipes.{each_set}
use Rattle.sr_inv_facts.specs.Fitted.{IsPacket}
use Rattle.sr_inv_facts.specs.Flying.{IfOpener, OnChoice, OnLeg, OnMissing}
use Rattle.sr_inv_facts.specs.InFlight.{ChoicesHold, Chooses, ChoosesBy, HeldIn, LegHeldIn, LegHolds}
use Rattle.sr_inv_facts.specs.InShape.{LegFits, StageFits}
use Rattle.sr_inv_facts.specs.Invariant.{Invariant}
use Rattle.sr_inv_facts.specs.Laws.{OpensWith}
use Rattle.sr_inv_facts.specs.Readings.{bit_words}
use Rattle.sr_law.specs.declared.verdict.HeldBy.{HeldBy}
use Rattle.sr_law.specs.declared.verdict.Verdict.{Verdict}
use Rattle.sr_machine.specs.Core.{Core}
use Rattle.sr_machine.specs.Deciding.{learned_in}
use Rattle.sr_machine.specs.Jobs.{job_op}
use Rattle.sr_machine.specs.Keeping.{AfterJob, AfterStage, Keeps}
use Rattle.sr_machine.specs.Opening.{opening_pipes}
use Rattle.sr_machine.specs.Ops.{op_answer, op_name}
use Rattle.sr_machine.specs.Pipe.{fresh_pipe, pipe_after, pipe_op}
use Rattle.sr_machine.specs.Reads.{has_bit, read_flag, says}
use Rattle.sr_machine.specs.Stages.{is_opener, looking, begun_flight, filtered, filtering, held_or, key_bits, key_places, last_at, last_by, leg_after, loaded, looked, marking, missed_in, stage_after, verdict_at, verdict_by}
use Rattle.sr_machine.specs.declared.flight.Flight.{Flight}
use Rattle.sr_machine.specs.declared.job.Job.{Job}
use Rattle.sr_machine.specs.declared.leg.Last.{Last}
use Rattle.sr_machine.specs.declared.leg.Leg.{Leg}
use Rattle.sr_machine.specs.declared.leg.Leg.TheVariants.{Look, Hit, Filter, Chosen, Judged}
use Rattle.sr_machine.specs.declared.leg.Load.{Load}
use Rattle.sr_machine.specs.declared.op.Op.{Op}
use Rattle.sr_machine.specs.declared.pipe_view.PipeView.{PipeView}
use Rattle.sr_machine.specs.declared.said.Said.{Said}
use Rattle.sr_machine.specs.declared.stage.Stage.{Stage}
use Rattle.sr_machine.specs.declared.stage.Stage.TheVariants.{Idle, Enter, Note, Vip, Fly, Leave}
use Rattle.sr_machine.specs.declared.stage.Stage.TheVariants as stage
use Rattle.sr_machine.specs.declared.said.Said.TheVariants as said
use Rattle.sr_machine.specs.declared.leg.Last.TheVariants as last
use Rattle.sr_machine.specs.declared.leg.Load.TheVariants as load
use Rattle.sr_law.specs.declared.verdict.Verdict.TheVariants as verdict
use Rattle.sr_law.specs.declared.verdict.HeldBy.TheVariants as by

-- ---- a packet's step

-- a fact of an opener, which every packet of another kind meets
opener_fact : (kind : Kind) (P : Type 0) → (kind ≡ Opener → P) → IfOpener kind P
opener_fact Opener P h = h refl
opener_fact Carry P h = tt
opener_fact Ending P h = tt

opener_then : (kind : Kind) (P Q : Type 0) → (P → Q) → IfOpener kind P → IfOpener kind Q
opener_then Opener P Q f h = f h
opener_then Carry P Q f h = tt
opener_then Ending P Q f h = tt

-- a leg that has chosen nothing, and isn't held by a phase
free_chooses : (f : Flight) (leg : Leg) → OnMissing leg (λ looks. OnChoice leg (ChoosesBy f.vip)) → LegHeldIn f.vip.phase leg → Chooses f leg
free_chooses f leg c h = record { choice = opener_fact f.packet.kind (OnMissing leg (λ looks. OnChoice leg (ChoosesBy f.vip))) (λ e. c); held = h }

apart_of : (p q r : Phase) → p ≡ q → (q ≡ r → ⊥) → p ≢ r
apart_of p q r e n t = n (sym e ∙ t)

-- a version that the phase gives
chosen_by : (f : Flight) (p : Phase) (n : ℕ) → f.vip.phase ≡ p → (p ≡ Holding → ⊥) → n ≡ learned_in p f.vip.cur f.vip.next
    → Chooses f (Chosen n load.Head)
chosen_by f p n e a c =
    free_chooses f (Chosen n load.Head) (c ∙ ap (λ q. learned_in q f.vip.cur f.vip.next) (sym e), apart_of f.vip.phase p Holding e a) tt

-- an opener is held where another packet has a version
held_or_chooses : (f : Flight) (why : HeldBy) (n : ℕ) → HeldIn f.vip.phase (verdict.Held why) → Chooses f (held_or f why n)
held_or_chooses f why n h = at f.packet.kind refl
  where
    at : (kind : Kind) → f.packet.kind ≡ kind
        → Chooses f (if is_opener kind then Judged (verdict.Held why) last.Ring else Chosen n load.Head)
    at Opener e = free_chooses f (Judged (verdict.Held why) last.Ring) (kept why) h
      where
        kept : (why : HeldBy) → OnMissing (Judged (verdict.Held why) last.Ring) (λ looks. OnChoice (Judged (verdict.Held why) last.Ring) (ChoosesBy f.vip))
        kept by.Clash = tt
        kept by.Hold = tt
        kept by.Transit = tt
    at Carry e = record {
      choice = subst (λ z. IfOpener z (OnMissing (Chosen n load.Head) (λ looks. OnChoice (Chosen n load.Head) (ChoosesBy f.vip)))) (sym e) tt;
      held = tt;
    }
    at Ending e = record {
      choice = subst (λ z. IfOpener z (OnMissing (Chosen n load.Head) (λ looks. OnChoice (Chosen n load.Head) (ChoosesBy f.vip)))) (sym e) tt;
      held = tt;
    }

filtering_chooses : (f : Flight) (bits : List ℕ) → f.vip.phase ≡ Transit → Chooses f (filtering f bits)
filtering_chooses f [] e = held_or_chooses f by.Transit f.vip.cur e
filtering_chooses f (bit ∷ rest) e = free_chooses f (Filter bit rest) tt tt

missed_chooses : (l : LayoutView) (f : Flight) (p : Phase) → f.vip.phase ≡ p → Chooses f (missed_in l f p)
missed_chooses l f Steady e = chosen_by f Steady f.vip.cur e (λ t. cc) refl
missed_chooses l f Recording e = chosen_by f Recording f.vip.cur e (λ t. cc) refl
missed_chooses l f Holding e = held_or_chooses f by.Hold f.vip.cur e
missed_chooses l f Transit e = filtering_chooses f (key_bits l f.packet.key) e

looking_chooses : (l : LayoutView) (f : Flight) (places : List Place) → Chooses f (looking l f places)
looking_chooses l f [] = missed_chooses l f f.vip.phase refl
looking_chooses l f (place ∷ rest) = free_chooses f (Look place rest) tt tt

looked_chooses : (l : LayoutView) (f : Flight) (place : Place) (rest : List Place) (s : Said) → Chooses f (looked l f place rest s)
looked_chooses l f place rest said.Nothing = looking_chooses l f rest
looked_chooses l f place rest said.Reserved = at (is_opener f.packet.kind)
  where
    at : (b : Bool) → Chooses f (if b then Judged (verdict.Held by.Clash) last.Ring else looking l f rest)
    at true = free_chooses f (Judged (verdict.Held by.Clash) last.Ring) tt tt
    at false = looking_chooses l f rest
looked_chooses l f place rest (said.Live n) = free_chooses f (Hit place n) tt tt

filtered_chooses : (f : Flight) (rest : List ℕ) (set : Bool) → f.vip.phase ≡ Transit → Chooses f (filtered f rest set)
filtered_chooses f rest true e = filtering_chooses f rest e
filtered_chooses f rest false e = chosen_by f Transit f.vip.next e (λ t. cc) refl

-- a version that was chosen stays so as its words are loaded
loaded_chooses : (l : LayoutView) (f : Flight) (n : ℕ) (next : Load) (x : ℕ) → Chooses f (Chosen n next) → Chooses f (loaded l f n next x)
loaded_chooses l f n load.Head x h = record { choice = h.choice; held = tt }
loaded_chooses l f n (load.Member head) x h = record { choice = h.choice; held = tt }
loaded_chooses l f n (load.Down pool server) x h = at (read_flag x)
  where
    at : (b : Bool) → Chooses f (Judged (verdict_by b server n pool) (last_by f.packet.kind b))
    at true = record { choice = h.choice; held = tt }
    at false = record { choice = h.choice; held = tt }

-- a verdict keeps its cause, whatever is next
same_verdict : (f : Flight) (v : Verdict) (a b : Last) → Chooses f (Judged v a) → Chooses f (Judged v b)
same_verdict f v a b h = record { choice = h.choice; held = h.held }

ring_chooses : (l : LayoutView) (f : Flight) (v : Verdict) (empty : Bool) → Chooses f (Judged v last.Ring)
    → Chooses f (Judged (verdict_at f v empty) (last_at l f v empty))
ring_chooses l f v true h = same_verdict f v last.Ring (last_at l f v true) h
ring_chooses l f v false h = at (is_opener f.packet.kind)
  where
    at : (b : Bool) → Chooses f (Judged (if b then verdict.Full else v) last.Out)
    at true = free_chooses f (Judged verdict.Full last.Out) tt tt
    at false = same_verdict f v last.Ring last.Out h

leg_chooses : (l : LayoutView) (f : Flight) (leg : Leg) (x : ℕ) → LegFits l f leg → Chooses f leg → OnLeg (leg_after l f leg x) Chooses
leg_chooses l f (Look place rest) x g h = looked_chooses l f place rest (says l place f.packet.key x)
leg_chooses l f (Hit place n) x g h = held_or_chooses f by.Clash n tt
leg_chooses l f (Filter bit rest) x g h = filtered_chooses f rest (has_bit bit x) g.transit
leg_chooses l f (Chosen n next) x g h = loaded_chooses l f n next x h
leg_chooses l f (Judged v last.Ring) x g h = ring_chooses l f v (x == 0) h
leg_chooses l f (Judged v (last.Mark bit rest)) x g h = same_verdict f v (last.Mark bit rest) (marking rest) h
leg_chooses l f (Judged v last.Push) x g h = same_verdict f v last.Push last.Out h
leg_chooses l f (Judged v last.Out) x g h = tt

stage_chooses : (l : LayoutView) (at : Stage) (x : ℕ) → StageFits l at → OnLeg at Chooses → OnLeg (stage_after l at x) Chooses
stage_chooses l Idle x g h = tt
stage_chooses l (Enter packet) x g h = tt
stage_chooses l (Note packet e) x g h = tt
stage_chooses l (Vip packet e) x g h = looking_chooses l (begun_flight l packet e x) (key_places l packet.key)
stage_chooses l (Fly f leg) x g h = leg_chooses l f leg x g.1 h
stage_chooses l (Leave f) x g h = tt

-- ---- every event

stage_kept : (s : Core) (p : ℕ) (v : PipeView) (at : Stage) (o : Option Op) → slice_get s.pipes p ≡ Some v → v.stage ≡ at → Invariant s
    → ChoicesHold s
    → AfterStage ChoicesHold s p v at o
stage_kept s p v at None q e i h = tt
stage_kept s p v at (Some o) q e i h =
    let l = s.config.layout in
    let x = op_answer o (s.words (op_name o)) in
    each_set s.pipes p v (pipe_after l v at x) q (λ n u. OnLeg u.stage Chooses) h
    (stage_chooses l at x (subst (StageFits l) e (i.shape.pipes.stage p v q)) (subst (λ z. OnLeg z Chooses) e (h p v q)))

job_kept : (s : Core) (j : Job) (o : Option Op) → ChoicesHold s → AfterJob ChoicesHold s j o
job_kept s j None h = tt
job_kept s j (Some o) h = h

pub choices_keep : Keeps IsPacket Invariant ChoicesHold
choices_keep = record {
  stages = λ s p v at q e i h. stage_kept s p v at (pipe_op s.config.layout v at) q e i h;
  begins = λ s i h. h;
  jobs = λ s j q b i h. job_kept s j (job_op s.config s.controller j) h;
  enters = λ s p v packet q r u n a i h. each_set s.pipes p v (record v { stage = stage.Enter packet }) q (λ n u. OnLeg u.stage Chooses) h tt;
  clocks = λ s ms q i h. h;
  refusals = λ s q i h. h;
}

-- what the invariant says of choices
leg_part : (s : Core) (p : ℕ) (v : PipeView) (at : Stage) → OnLeg at (LegHolds s.config (bit_words s.words) s.controller.named s.controller.numbers s.controller.rings s.controller.job p v.pushed)
    → OnLeg at Chooses
leg_part s p v (Fly f leg) h = record { choice = h.choice; held = h.held }
leg_part s p v at h = tt

pub choices_part : (s : Core) → Invariant s → ChoicesHold s
choices_part s i p v q = leg_part s p v v.stage (i.flight.legs p v q)

pub choices_open : OpensWith ChoicesHold
unfolding opening_pipes
choices_open k f p v e = subst (λ u. OnLeg u.stage Chooses) (sym (ranged_at fresh_pipe 0 k.layout.shape.pipes p v e)) tt
