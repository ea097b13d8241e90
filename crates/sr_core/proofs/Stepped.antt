-- What an event makes of a held machine is what it makes of the state that it stands for.
use Rattle.std.proofs.Common.{◌≡◌, ℕ, List, Option, None, Some, refl, sym, ◌∙◌, ap, subst, option_map, option_and_then, slice_get, slice_set, Bool, true, false, if◌then◌else◌}
use Rattle.sr_base.specs.Layout.{LayoutView}
use Rattle.sr_base.specs.declared.packet.Packet.{Packet}
use Rattle.sr_core.specs.HeldCore.{HeldCore, MakesStep, Shows, StepsTo, state_of}
use Rattle.sr_core.specs.HeldPipes.{DoesTo, after_at, entered_at, op_at}
use Rattle.sr_core.specs.PlainWords.{ShowsWords}
use Rattle.sr_machine.specs.Core.{Core, enters, made, opening, step_event, stepped, told, with_view}
use Rattle.sr_law.specs.Pools.{VipPools}
use Rattle.sr_machine.specs.Config.{Config}
use Rattle.sr_machine.specs.Opening.{opening_controller, opening_pipes, opening_words}
use Rattle.sr_machine.specs.declared.turn.Turn.{Turn}
use Rattle.sr_machine.specs.Controller.{controller_after, controller_op}
use Rattle.sr_machine.specs.Ops.{op_answer, op_name, op_words}
use Rattle.sr_machine.specs.Pipe.{entered, pipe_after, pipe_op}
use Rattle.sr_machine.specs.declared.actor.Actor.TheVariants as actor
use Rattle.sr_machine.specs.declared.controller_view.ControllerView.{ControllerView}
use Rattle.sr_machine.specs.declared.event.Event.TheVariants.{Enter, Step}
use Rattle.sr_machine.specs.declared.name.Name.{Name}
use Rattle.sr_machine.specs.declared.op.Op.{Op}
use Rattle.sr_machine.specs.declared.pipe_view.PipeView.{PipeView}
use Rattle.sr_machine.specs.declared.stepped.Stepped.{Stepped}
use Rattle.sr_machine.specs.declared.stepped.Stepped.TheVariants.{Made, NotNow, Memory}
use Rattle.sr_machine.specs.declared.view.View.TheVariants.{OfController, OfPipe}

-- a step on the held words is the step on the words that they show
pub record Makes (l : LayoutView) (op : Op) (old new : List ℕ) (answer : ℕ) : Type 0 where
  pub answers : (words : Name → ℕ) → ShowsWords l old words → answer ≡ op_answer op (words (op_name op))
  pub shows : (words : Name → ℕ) → ShowsWords l old words → ShowsWords l new (op_words words op)

module _ (h : HeldCore) (words : Name → ℕ) (shown : ShowsWords h.config.layout h.words words) (p : ℕ) where
  no_step_of : (o : Option PipeView) → slice_get h.pipes p ≡ o → op_at h.config.layout p h.pipes ≡ None
      → option_and_then (λ v. pipe_op h.config.layout v v.stage) o ≡ None
      → step_event (Step (actor.Pipe p)) (state_of h words) ≡ None
  no_step_of None is n e = ap (λ o. option_and_then (stepped (state_of h words) (actor.Pipe p)) (option_map OfPipe o)) is
  no_step_of (Some v) is n e =
      ap (λ o. option_and_then (stepped (state_of h words) (actor.Pipe p)) (option_map OfPipe o)) is
      ∙ ap (option_map (made (state_of h words) (actor.Pipe p) (OfPipe v))) e

  -- an idle pipe, and one that isn't there, has no step
  pub no_step : op_at h.config.layout p h.pipes ≡ None → StepsTo NotNow (step_event (Step (actor.Pipe p)) (state_of h words)) h h
  no_step n =
      subst (λ o. StepsTo NotNow o h h)
      (sym (no_step_of (slice_get h.pipes p) refl n n)) refl

  module _ (op : Op) (answer : ℕ) (ws : List ℕ) (vs : List PipeView) (makes : Makes h.config.layout op h.words ws answer) where
    step_of : (o : Option PipeView) → slice_get h.pipes p ≡ o → option_and_then (λ v. pipe_op h.config.layout v v.stage) o ≡ Some op
        → option_map (λ v. slice_set h.pipes p (pipe_after h.config.layout v v.stage answer)) o ≡ Some vs
        → step_event (Step (actor.Pipe p)) (state_of h words) ≡ Some (state_of (record h { words = ws; pipes = vs }) (op_words words op))
    step_of None is e d = cc e
    step_of (Some v) is e d =
        let set : slice_set h.pipes p (pipe_after h.config.layout v v.stage answer) ≡ vs = cc d in
        ap (λ o. option_and_then (stepped (state_of h words) (actor.Pipe p)) (option_map OfPipe o)) is
        ∙ ap (option_map (made (state_of h words) (actor.Pipe p) (OfPipe v))) e
        ∙ ap (λ x. Some (state_of (record h { words = ws; pipes = slice_set h.pipes p (pipe_after h.config.layout v v.stage x) }) (op_words words op)))
        (sym (makes.answers words shown))
        ∙ ap (λ ps. Some (state_of (record h { words = ws; pipes = ps }) (op_words words op))) set

    -- a pipe makes its step
    pub pipe_steps : op_at h.config.layout p h.pipes ≡ Some op → after_at h.config.layout p answer h.pipes ≡ Some vs
        → StepsTo Made (step_event (Step (actor.Pipe p)) (state_of h words)) h (record h { words = ws; pipes = vs })
    pipe_steps e d =
        subst (λ o. StepsTo Made o h (record h { words = ws; pipes = vs })) (sym (step_of (slice_get h.pipes p) refl e d))
        (op_words words op, makes.shows words shown, refl)

  entering : (packet : Packet) (o : Option PipeView) → slice_get h.pipes p ≡ o → (does : Option (List PipeView))
      → option_and_then (λ v. option_map (λ w. slice_set h.pipes p w) (entered h.config.layout packet v)) o ≡ does
      → step_event (Enter p packet) (state_of h words) ≡ option_map (λ vs. state_of (record h { pipes = vs }) words) does
  entering packet None is does e =
      ap (option_and_then (enters (state_of h words) p packet)) is ∙ ap (option_map (λ vs. state_of (record h { pipes = vs }) words)) e
  entering packet (Some v) is does e =
      ap (option_and_then (enters (state_of h words) p packet)) is ∙ by (entered h.config.layout packet v) refl
      ∙ ap (option_map (λ vs. state_of (record h { pipes = vs }) words)) e
    where
      by : (o : Option PipeView) → entered h.config.layout packet v ≡ o
          → enters (state_of h words) p packet v
          ≡ option_map (λ vs. state_of (record h { pipes = vs }) words)
          (option_map (λ w. slice_set h.pipes p w) (entered h.config.layout packet v))
      by None is = ap (option_map (λ w. with_view (state_of h words) (actor.Pipe p) (OfPipe w))) is
          ∙ ap (λ o. option_map (λ vs. state_of (record h { pipes = vs }) words) (option_map (λ w. slice_set h.pipes p w) o)) (sym is)
      by (Some w) is = ap (option_map (λ w. with_view (state_of h words) (actor.Pipe p) (OfPipe w))) is
          ∙ ap (λ o. option_map (λ vs. state_of (record h { pipes = vs }) words) (option_map (λ w. slice_set h.pipes p w) o)) (sym is)

  -- a packet enters, or doesn't
  pub packet_enters : (packet : Packet) (answer : Stepped) (vs : List PipeView)
      → DoesTo answer (entered_at h.config.layout p packet h.pipes) h.pipes vs
      → StepsTo answer (step_event (Enter p packet) (state_of h words)) h (record h { pipes = vs })
  packet_enters packet Made vs e =
      subst (λ o. StepsTo Made o h (record h { pipes = vs })) (sym (entering packet (slice_get h.pipes p) refl (Some vs) e))
      (words, shown, refl)
  packet_enters packet NotNow vs e =
      subst (λ o. StepsTo NotNow o h (record h { pipes = vs })) (sym (entering packet (slice_get h.pipes p) refl None e.0))
      (ap (λ ps. record h { pipes = ps }) e.1)
  packet_enters packet Memory vs e = ap (λ ps. record h { pipes = ps }) e

-- the controller makes its step, where it has one
module _ (h : HeldCore) (words : Name → ℕ) (shown : ShowsWords h.config.layout h.words words) where
  pub controller_steps : (op : Op) (answer : ℕ) (ws : List ℕ) → Makes h.config.layout op h.words ws answer
      → controller_op h.config h.controller ≡ Some op
      → StepsTo Made (step_event (Step actor.Controller) (state_of h words)) h
      (record h { words = ws; controller = controller_after h.config h.controller answer })
  controller_steps op answer ws makes e =
      let held : HeldCore = record h { words = ws; controller = controller_after h.config h.controller answer } in
      subst (λ o. StepsTo Made o h held)
      (sym (ap (option_map (made (state_of h words) actor.Controller (OfController h.controller))) e
      ∙ ap (λ x. Some (state_of (record h { words = ws; controller = controller_after h.config h.controller x }) (op_words words op)))
      (sym (makes.answers words shown))))
      (op_words words op, makes.shows words shown, refl)

  pub no_controller_step : controller_op h.config h.controller ≡ None
      → StepsTo NotNow (step_event (Step actor.Controller) (state_of h words)) h h
  no_controller_step e =
      subst (λ o. StepsTo NotNow o h h)
      (sym (ap (option_map (made (state_of h words) actor.Controller (OfController h.controller))) e)) refl

  -- what the controller was told, or couldn't be told now
  pub controller_told : (does : Option ControllerView) (heard : Bool) (new : ControllerView)
      → does ≡ (if heard then Some new else None) → (heard ≡ false → new ≡ h.controller)
      → StepsTo (if heard then Made else NotNow) (told (state_of h words) does) h (record h { controller = new })
  controller_told does true new e same =
      subst (λ o. StepsTo Made (told (state_of h words) o) h (record h { controller = new })) (sym e) (words, shown, refl)
  controller_told does false new e same =
      subst (λ o. StepsTo NotNow (told (state_of h words) o) h (record h { controller = new })) (sym e)
      (ap (λ c. record h { controller = c }) (same refl))

-- a step of the controller, whatever it ends
pub controlled_steps : (s : Core) (end : Option Turn) (o : Option Op) (old new : HeldCore)
    → controller_op s.config s.controller ≡ o → MakesStep end s o new → StepsTo Made (step_event (Step actor.Controller) s) old new
controlled_steps s end None old new is makes = absurd makes
controlled_steps s end (Some o) old new is makes =
    subst (λ t. StepsTo Made t old new) (sym (ap (option_map (made s actor.Controller (OfController s.controller))) is)) makes.1

-- the machine at the beginning
pub opened : (k : Config) (h : HeldCore) → h.config ≡ k → ShowsWords k.layout h.words (opening_words k) → h.pipes ≡ opening_pipes k
    → h.controller ≡ opening_controller k → Shows h (opening k)
opened k h config words pipes controller = (
  opening_words k,
  subst (λ c. ShowsWords c.layout h.words (opening_words k)) (sym config) words,
  ap (λ c. record { config = c; words = opening_words k; pipes = opening_pipes k; controller = opening_controller k }) (sym config)
      ∙ ap (λ ps. record { config = h.config; words = opening_words k; pipes = ps; controller = opening_controller k }) (sym pipes)
      ∙ ap (λ c. record { config = h.config; words = opening_words k; pipes = h.pipes; controller = c }) (sym controller),
)

pub opening_shown : (k : Config) (l : LayoutView) (pools : List VipPools) (ws : List ℕ) → l ≡ k.layout → pools ≡ k.pools
    → ShowsWords l ws (opening_words (record { layout = l; pools = pools; changes = k.changes })) → ShowsWords k.layout ws (opening_words k)
opening_shown k l pools ws at named shown =
    subst (λ ps. ShowsWords k.layout ws (opening_words (record { layout = k.layout; pools = ps; changes = k.changes }))) named
    (subst (λ m. ShowsWords m ws (opening_words (record { layout = m; pools = pools; changes = k.changes }))) at shown)
