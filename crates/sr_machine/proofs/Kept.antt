-- A fact that pays what is owed is kept by every event, and so by every run.
use Rattle.std.proofs.Common.{◌≡◌, ℕ, ◌+◌, ◌^◌, ◌&&◌, nat_lt, Bool, true, false, List, [], ◌∷◌, ◌++◌, length, slice_get, slice_set, option_map, option_and_then, Option, Some, None, refl, ap, subst, ◌∙◌, if◌then◌else◌}
use Rattle.std.specs.List.{AllByRecursion}
use Rattle.std.proofs.lemmas.Option.{same_Some}
use Rattle.sr_base.specs.declared.packet.Packet.{Packet}
use Rattle.sr_machine.specs.Config.{Config}
use Rattle.sr_machine.specs.Controller.{begun_op}
use Rattle.sr_machine.specs.Core.{Core, Reaches, enters, made, opening, run, step_event, stepped, told}
use Rattle.sr_machine.specs.Deciding.{in_bounds}
use Rattle.sr_machine.specs.Jobs.{job_op}
use Rattle.sr_machine.specs.Keeping.{AfterJob, AfterStage, Brings, Keeps, begun_core}
use Rattle.sr_machine.specs.Pipe.{has_vip, is_idle, pipe_op}
use Rattle.sr_machine.specs.Starting.{begun}
use Rattle.sr_machine.specs.Telling.{is_no_earlier, may_refuse}
use Rattle.sr_machine.specs.declared.actor.Actor.TheVariants as actor
use Rattle.sr_machine.specs.declared.event.Event.{Event}
use Rattle.sr_machine.specs.declared.event.Event.TheVariants.{Enter, Due, Refuse, Step}
use Rattle.sr_machine.specs.declared.op.Op.{Op}
use Rattle.sr_machine.specs.declared.pipe_view.PipeView.{PipeView}
use Rattle.sr_machine.specs.declared.job.Job.{Job}
use Rattle.sr_machine.specs.declared.stage.Stage.{Stage}
use Rattle.sr_machine.specs.declared.stage.Stage.TheVariants as stage
use Rattle.sr_machine.specs.declared.view.View.TheVariants.{OfPipe, OfController}

-- The base holds of the state, and of the one in which the controller has begun its act.
module _ (Allowed : Packet → Type 0) (Base Fact : Core → Type 0) (keeps : Keeps Allowed Base Fact) (s t : Core) (b : Base s) (d : Base (begun_core s)) (f : Fact s) where
  enter_keeps : (p : ℕ) (packet : Packet) (o : Option PipeView) → Allowed packet → slice_get s.pipes p ≡ o
      → option_and_then (enters s p packet) o ≡ Some t → Fact t
  enter_keeps p packet None a q e = cc
  enter_keeps p packet (Some v) a q e =
      at (is_idle v.stage) (has_vip s.config.layout packet) (nat_lt (length v.lines + 1) (2 ^ 32)) refl refl refl e
    where
      at : (i h n : Bool) → is_idle v.stage ≡ i → has_vip s.config.layout packet ≡ h → nat_lt (length v.lines + 1) (2 ^ 32) ≡ n
          → option_map (λ w. record s { pipes = slice_set s.pipes p w }) (if i && (h && n) then Some (record v { stage = stage.Enter packet }) else None) ≡ Some t → Fact t
      at true true true i h n e = subst Fact (same_Some _ t e) (keeps.enters s p v packet q i h n a b f)
      at true true false i h n e = cc
      at true false n i h m e = cc
      at false h n i g m e = cc

  due_keeps : (ms : ℕ) (o : Bool) → is_no_earlier s.controller.clock ms ≡ o
      → told s (if o then Some (record s.controller { clock = Some ms }) else None) ≡ Some t → Fact t
  due_keeps ms true q e = subst Fact (same_Some _ t e) (keeps.clocks s ms q b f)
  due_keeps ms false q e = cc

  refusal_keeps : (o : Bool) → may_refuse s.controller ≡ o
      → told s (if o then Some (record s.controller { refusing = true }) else None) ≡ Some t → Fact t
  refusal_keeps true q e = subst Fact (same_Some _ t e) (keeps.refusals s q b f)
  refusal_keeps false q e = cc

  pipe_keeps : (p : ℕ) (o : Option PipeView) → slice_get s.pipes p ≡ o
      → option_and_then (stepped s (actor.Pipe p)) (option_map OfPipe o) ≡ Some t → Fact t
  pipe_keeps p None q e = cc
  pipe_keeps p (Some v) q e = at (pipe_op s.config.layout v v.stage) refl e
    where
      at : (o : Option Op) → pipe_op s.config.layout v v.stage ≡ o → option_map (made s (actor.Pipe p) (OfPipe v)) o ≡ Some t
          → Fact t
      at None r e = cc
      at (Some o) r e =
          subst Fact (same_Some _ t e) (subst (AfterStage Fact s p v v.stage) r (keeps.stages s p v v.stage q refl b f))

  controller_keeps : (i : Bool) (o : Option Op) → in_bounds s.controller ≡ i → begun_op s.config (begun s.config s.controller) ≡ o
      → option_map (made s actor.Controller (OfController s.controller)) (if i then o else None) ≡ Some t → Fact t
  controller_keeps false o q r e = cc
  controller_keeps true None q r e = cc
  controller_keeps true (Some o) q r e =
      let u = begun_core s in
      subst Fact (same_Some _ t e) (subst (AfterJob Fact u u.controller.job) r (keeps.jobs u u.controller.job refl q d (keeps.begins s b f)))

  -- an event keeps the fact
  pub event_keeps : (e : Event) → Brings Allowed e → step_event e s ≡ Some t → Fact t
  event_keeps (Enter p packet) a e = enter_keeps p packet (slice_get s.pipes p) a refl e
  event_keeps (Due ms) a e = due_keeps ms (is_no_earlier s.controller.clock ms) refl e
  event_keeps Refuse a e = refusal_keeps (may_refuse s.controller) refl e
  event_keeps (Step (actor.Pipe p)) a e = pipe_keeps p (slice_get s.pipes p) refl e
  event_keeps (Step actor.Controller) a e =
      controller_keeps (in_bounds s.controller) (begun_op s.config (begun s.config s.controller)) refl refl e

-- a run keeps a fact that is its own base
pub run_keeps : (Allowed : Packet → Type 0) (Fact : Core → Type 0) → Keeps Allowed Fact Fact → (events : List Event) (s t : Core)
    → AllByRecursion (Brings Allowed) events → run events s ≡ Some t → Fact s
    → Fact t
run_keeps Allowed Fact keeps [] s t a e f = subst Fact (same_Some s t e) f
run_keeps Allowed Fact keeps (event ∷ rest) s t a e f =
    by (step_event event s) refl e (λ u. run_keeps Allowed Fact keeps rest u t a.1)
  where
    by : (o : Option Core) → step_event event s ≡ o → option_and_then (run rest) o ≡ Some t
        → ((u : Core) → run rest u ≡ Some t → Fact u → Fact t) → Fact t
    by None q e more = cc
    by (Some u) q e more = more u e (event_keeps Allowed Fact Fact keeps s u f (keeps.begins s f f) f event a.0 q)

-- so it holds of every state that allowed events reach, where it holds of the first
pub reached_keeps : (Allowed : Packet → Type 0) (Fact : Core → Type 0) → Keeps Allowed Fact Fact → (k : Config) (s : Core)
    → Fact (opening k)
    → (r : Reaches k s) → AllByRecursion (Brings Allowed) r.0 → Fact s
reached_keeps Allowed Fact keeps k s f r a = run_keeps Allowed Fact keeps r.0 (opening k) s a r.1 f

-- any packet
abbrev pub AnyPacket : Packet → Type 0
AnyPacket packet = Unit {0}

any_packets : (events : List Event) → AllByRecursion (Brings AnyPacket) events
any_packets [] = tt
any_packets (Enter p packet ∷ rest) = (tt, any_packets rest)
any_packets (Due ms ∷ rest) = (tt, any_packets rest)
any_packets (Refuse ∷ rest) = (tt, any_packets rest)
any_packets (Step a ∷ rest) = (tt, any_packets rest)

-- ---- what every run keeps

module _ (k : Config) where
  stage_config : (s : Core) (p : ℕ) (v : PipeView) (at : Stage) (o : Option Op) → s.config ≡ k
      → AfterStage (λ s. s.config ≡ k) s p v at o
  stage_config s p v at None e = tt
  stage_config s p v at (Some o) e = e

  job_config : (s : Core) (j : Job) (o : Option Op) → s.config ≡ k → AfterJob (λ s. s.config ≡ k) s j o
  job_config s j None e = tt
  job_config s j (Some o) e = e

  config_keeps : Keeps AnyPacket (λ s. s.config ≡ k) (λ s. s.config ≡ k)
  config_keeps = record {
    stages = λ s p v at q r b e. stage_config s p v at (pipe_op s.config.layout v at) e;
    begins = λ s b e. e;
    jobs = λ s j q r b e. job_config s j (job_op s.config s.controller j) e;
    enters = λ s p v packet q r u n a b e. e;
    clocks = λ s ms q b e. e;
    refusals = λ s q b e. e;
  }

  pub reached_config : (s : Core) → Reaches k s → s.config ≡ k
  reached_config s r = reached_keeps AnyPacket (λ s. s.config ≡ k) config_keeps k s refl r (any_packets r.0)

-- ---- a run goes on

run_more : (events : List Event) (event : Event) (s t u : Core) → run events s ≡ Some t → step_event event t ≡ Some u
    → run (events ++ event ∷ []) s ≡ Some u
run_more [] event s t u e f = ap (λ o. option_and_then (run []) o) (ap (step_event event) (same_Some s t e) ∙ f)
run_more (first ∷ rest) event s t u e f = by (step_event first s) e (λ v. run_more rest event v t u)
  where
    by : (o : Option Core) → option_and_then (run rest) o ≡ Some t
        → ((v : Core) → run rest v ≡ Some t → step_event event t ≡ Some u → run (rest ++ event ∷ []) v ≡ Some u)
        → option_and_then (run (rest ++ event ∷ [])) o ≡ Some u
    by None q more = cc
    by (Some v) q more = more v q f

-- a state that an event makes of a reached one is reached
pub reaches_more : (k : Config) (s t : Core) (event : Event) → Reaches k s → step_event event s ≡ Some t → Reaches k t
reaches_more k s t event r e = (r.0 ++ event ∷ [], run_more r.0 event (opening k) s t r.1 e)
