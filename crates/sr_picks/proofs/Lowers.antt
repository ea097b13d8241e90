-- A pick lowers what is left of a round.
use Rattle.std.proofs.Common.{◌≡◌, ◌∙◌, ℕ, zero, suc, ◌+◌, ◌-◌, ◌<◌, ◌≤◌, ◌==◌, ◌&&◌, ◌||◌, nat_le, nat_lt, Bool, true, false, List, [], ◌∷◌, length, Option, None, Some, refl, sym, ap, subst, option_and_then, option_map, unwrap_or, slice_get, slice_set, arith, get_or, if◌then◌else◌, ◌^◌}
use Rattle.std.specs.List.{sum_by}
use Rattle.std.proofs.lemmas.Bool.Decides.{nat_tests}
use Rattle.std.proofs.lemmas.List.Sums.{sum_by-set}
use Rattle.std.proofs.lemmas.Option.{get_or_from_slice_get, slice_get_within}
use Rattle.sr_base.specs.Layout.{LayoutView}
use Rattle.sr_base.specs.declared.packet.Packet.{Packet}
use Rattle.sr_machine.proofs.PacketSteps.{none_left, stage_lowers}
use Rattle.sr_machine.specs.Bounds.{stage_left}
use Rattle.sr_machine.specs.Controller.{controller_op}
use Rattle.sr_machine.specs.Core.{Core, enters, made, step_event, stepped, with_view}
use Rattle.sr_machine.specs.Ops.{op_answer, op_name}
use Rattle.sr_machine.specs.Pipe.{entered, has_vip, is_idle, pipe_after, pipe_op}
use Rattle.sr_machine.specs.Turning.{controlled, turn_of_op, most_steps}
use Rattle.sr_machine.specs.declared.actor.Actor.TheVariants as actor
use Rattle.sr_machine.specs.declared.event.Event.TheVariants.{Enter, Step}
use Rattle.sr_machine.specs.declared.op.Op.{Op}
use Rattle.sr_machine.specs.declared.pipe_view.PipeView.{PipeView}
use Rattle.sr_machine.specs.declared.stage.Stage.{Stage}
use Rattle.sr_machine.specs.declared.stage.Stage.TheVariants as stage
use Rattle.sr_machine.specs.declared.turn.Turn.{Turn}
use Rattle.sr_machine.specs.declared.view.View.TheVariants.{OfPipe}
use Rattle.sr_picks.specs.Left.{PicksLower, left_of}
use Rattle.sr_picks.specs.Play.{Play, controller_picked, is_handled, most_turns, most_waits, pipe_idle, pipe_picked, pipes_of, share_of, stepped_by, all_done, turns_ended}
use Rattle.sr_picks.specs.Turn.{after, ended_or, turn_in, turn_on}

-- the steps that the packets in hand make yet
steps_left : List PipeView → ℕ
steps_left views = sum_by (λ v. stage_left v.stage) views

-- ---- the controller leaves the pipes alone

ended_pipes : (s : Core) (end : Option Turn) (n : ℕ) → (turn_in n (s)).state.pipes ≡ s.pipes
    → (ended_or s end (turn_in n s)).state.pipes ≡ s.pipes
ended_pipes s None n e = e
ended_pipes s (Some t) n e = refl

turn_on_pipes : (n : ℕ) (s : Core) (o : Option Op) → ((t : Core) → (turn_in n t).state.pipes ≡ t.pipes)
    → (turn_on s (turn_in n) o).state.pipes ≡ s.pipes
turn_on_pipes n s None next = refl
turn_on_pipes n s (Some o) next = ended_pipes (controlled s o) (turn_of_op s o) n (next (controlled s o))

turn_pipes : (n : ℕ) (s : Core) → (turn_in n s).state.pipes ≡ s.pipes
turn_pipes zero s = refl
turn_pipes (suc n) s = turn_on_pipes n s (controller_op s.config s.controller) (turn_pipes n)

more_turns : (p : Play) → turns_ended p ≡ false → p.turns < most_turns
more_turns p e = at (nat_le most_turns p.turns) refl
  where
    at : (b : Bool) → nat_le most_turns p.turns ≡ b → p.turns < most_turns
    at true is =
        let is_true : (true || (all_done p.state.pipes p.shares && nat_le most_waits p.waits)) ≡ false =
        subst (λ b. (b || (all_done p.state.pipes p.shares && nat_le most_waits p.waits)) ≡ false) is e in
        absurd (cc is_true)
    at false is = grind (arith, nat_tests)

controller_lowers : (p : Play) → turns_ended p ≡ false → left_of (controller_picked p) < left_of p
controller_lowers p e =
    let turns = more_turns p e in
    let pipes = ap (λ views. sum_by (λ v. stage_left v.stage) views) (turn_pipes (most_steps p.state.config.layout) p.state) in
    omega (arith, turns, pipes)

-- ---- a pipe

set_left : (views : List PipeView) (i : ℕ) (v w : PipeView) → slice_get views i ≡ Some v
    → steps_left (slice_set views i w) + stage_left v.stage ≡ steps_left views + stage_left w.stage
unfolding steps_left
set_left views i v w is =
    let there : get_or views i v ≡ v = get_or_from_slice_get views i v v is in
    ap (λ x. sum_by (λ y. stage_left y.stage) (slice_set views i w) + stage_left x.stage) (sym there)
    ∙ sum_by-set (λ y. stage_left y.stage) views i w v (slice_get_within views i v is)

-- a packet in hand makes a step yet
has_left : (a : Stage) → is_idle a ≡ false → 1 ≤ stage_left a
has_left a e = by (nat_le 1 (stage_left a)) refl
  where
    by : (b : Bool) → nat_le 1 (stage_left a) ≡ b → 1 ≤ stage_left a
    by true is = grind (arith, nat_tests)
    by false is =
        let none : stage_left a ≤ 0 = grind (arith, nat_tests) in
        absurd (cc (sym e ∙ ap is_idle (none_left a none)))

step_is : (s : Core) (i : ℕ) (o : Option PipeView) → slice_get s.pipes i ≡ o
    → step_event (Step (actor.Pipe i)) s ≡ option_and_then (stepped s (actor.Pipe i)) (option_map OfPipe o)
step_is s i o is = ap (λ x. option_and_then (stepped s (actor.Pipe i)) (option_map OfPipe x)) is

none_idle : (l : LayoutView) (v : PipeView) → pipe_op l v v.stage ≡ None → stage_left v.stage ≡ 0
none_idle l v e = by v.stage e
  where
    by : (a : Stage) → pipe_op l v a ≡ None → stage_left a ≡ 0
    by stage.Idle e = refl
    by (stage.Enter packet) e = absurd (cc e)
    by (stage.Note packet entered) e = absurd (cc e)
    by (stage.Vip packet entered) e = absurd (cc e)
    by (stage.Fly f leg) e = absurd (cc e)
    by (stage.Leave f) e = absurd (cc e)

-- a pipe's step lowers its steps by one, where it has any
step_left : (s : Core) (i : ℕ) (v : PipeView) → slice_get s.pipes i ≡ Some v
    → steps_left (after (Step (actor.Pipe i)) s).pipes + stage_left v.stage ≤ steps_left s.pipes + (stage_left v.stage - 1)
step_left s i v is = by (pipe_op s.config.layout v v.stage) refl
  where
    by : (o : Option Op) → pipe_op s.config.layout v v.stage ≡ o
        → steps_left (after (Step (actor.Pipe i)) s).pipes + stage_left v.stage ≤ steps_left s.pipes + (stage_left v.stage - 1)
    by None e =
        let same : after (Step (actor.Pipe i)) s ≡ s = ap (λ o. unwrap_or o s)
        (step_is s i (Some v) is ∙ ap (option_map (made s (actor.Pipe i) (OfPipe v))) e) in
        let steps : steps_left (after (Step (actor.Pipe i)) s).pipes ≡ steps_left s.pipes = ap (λ (t : Core). steps_left t.pipes) same in
        omega (arith, steps, none_idle s.config.layout v e)
    by (Some o) e =
        let made_is : after (Step (actor.Pipe i)) s ≡ made s (actor.Pipe i) (OfPipe v) o = ap (λ x. unwrap_or x s)
        (step_is s i (Some v) is ∙ ap (option_map (made s (actor.Pipe i) (OfPipe v))) e) in
        let steps : steps_left (after (Step (actor.Pipe i)) s).pipes ≡ steps_left (made s (actor.Pipe i) (OfPipe v) o).pipes =
        ap (λ (t : Core). steps_left t.pipes) made_is in
        let x : ℕ = op_answer o (s.words (op_name o)) in
        let set = set_left s.pipes i v (pipe_after s.config.layout v v.stage x) is in
        let lower = stage_lowers s.config.layout v.stage x in
        omega (arith, steps, set, lower)

no_step_left : (s : Core) (i : ℕ) → slice_get s.pipes i ≡ None → steps_left (after (Step (actor.Pipe i)) s).pipes ≤ steps_left s.pipes
no_step_left s i is =
    let steps : steps_left (after (Step (actor.Pipe i)) s).pipes ≡ steps_left s.pipes =
    ap (λ o. steps_left (unwrap_or o s).pipes) (step_is s i None is) in
    omega (arith, steps)

-- no step adds any
any_step_left : (s : Core) (i : ℕ) → steps_left (after (Step (actor.Pipe i)) s).pipes ≤ steps_left s.pipes
any_step_left s i = by (slice_get s.pipes i) refl
  where
    by : (o : Option PipeView) → slice_get s.pipes i ≡ o → steps_left (after (Step (actor.Pipe i)) s).pipes ≤ steps_left s.pipes
    by None is = no_step_left s i is
    by (Some v) is = omega (arith, step_left s i v is)

-- a packet that enters brings 25 steps
entered_left : (s : Core) (i : ℕ) (packet : Packet) (v : PipeView) → slice_get s.pipes i ≡ Some v → (b : Bool)
    → (is_idle v.stage && (has_vip s.config.layout packet && nat_lt (length v.lines + 1) (2 ^ 32))) ≡ b
    → steps_left (after (Enter i packet) s).pipes ≤ steps_left s.pipes + 25
entered_left s i packet v is b e =
    by b (ap (λ o. unwrap_or o s) (ap (option_and_then (enters s i packet)) is
    ∙ ap (λ c. option_map (λ w. with_view s (actor.Pipe i) (OfPipe w)) (if c then Some (record v { stage = stage.Enter packet }) else None)) e))
  where
    by : (b : Bool) → after (Enter i packet) s
        ≡ unwrap_or (option_map (λ w. with_view s (actor.Pipe i) (OfPipe w)) (if b then Some (record v { stage = stage.Enter packet }) else None)) s
        → steps_left (after (Enter i packet) s).pipes ≤ steps_left s.pipes + 25
    by true made_is =
        let w : PipeView = record v { stage = stage.Enter packet } in
        let steps : steps_left (after (Enter i packet) s).pipes ≡ steps_left (slice_set s.pipes i w) =
        ap (λ (t : Core). steps_left t.pipes) made_is in
        let set : steps_left (slice_set s.pipes i w) + stage_left v.stage ≡ steps_left s.pipes + 25 = set_left s.pipes i v w is in
        omega (arith, steps, set)
    by false made_is =
        let steps : steps_left (after (Enter i packet) s).pipes ≡ steps_left s.pipes = ap (λ (t : Core). steps_left t.pipes) made_is in
        omega (arith, steps)

entering_left : (s : Core) (i : ℕ) (packet : Packet) → steps_left (after (Enter i packet) s).pipes ≤ steps_left s.pipes + 25
entering_left s i packet = by (slice_get s.pipes i) refl
  where
    by : (o : Option PipeView) → slice_get s.pipes i ≡ o → steps_left (after (Enter i packet) s).pipes ≤ steps_left s.pipes + 25
    by None is =
        let steps : steps_left (after (Enter i packet) s).pipes ≡ steps_left s.pipes =
        ap (λ (t : Core). steps_left t.pipes) (ap (λ o. unwrap_or o s) (ap (option_and_then (enters s i packet)) is)) in
        omega (arith, steps)
    by (Some v) is = entered_left s i packet v is _ refl

-- ---- a pick

takes_left : (shares : List (List Packet)) (i : ℕ) (packet : Packet) (rest : List Packet) → slice_get shares i ≡ Some (packet ∷ rest)
    → sum_by length (slice_set shares i rest) + 1 ≡ sum_by length shares
takes_left shares i packet rest is =
    let there : get_or shares i (packet ∷ rest) ≡ packet ∷ rest = get_or_from_slice_get shares i (packet ∷ rest) (packet ∷ rest) is in
    let set : sum_by length (slice_set shares i rest) + length (get_or shares i (packet ∷ rest)) ≡ sum_by length shares + length rest =
    sum_by-set length shares i rest (packet ∷ rest) (slice_get_within shares i (packet ∷ rest) is) in
    let long : length (get_or shares i (packet ∷ rest)) ≡ length rest + 1 = ap length there ∙ (omega arith) in
    omega (arith, set, long)

module _ (p : Play) (i : ℕ) where
  -- an idle pipe takes a packet
  takes_lower : (packet : Packet) (rest : List Packet) → slice_get p.shares i ≡ Some (packet ∷ rest)
      → left_of (stepped_by p i true (packet ∷ rest)) < left_of p
  unfolding steps_left
  takes_lower packet rest is =
      let entering = entering_left p.state i packet in
      let stepping = any_step_left (after (Enter i packet) p.state) i in
      let taken = takes_left p.shares i packet rest is in
      omega (arith, entering, stepping, taken)

  -- a pipe with a packet in hand makes a step
  steps_lower : (v : PipeView) (share : List Packet) → slice_get p.state.pipes i ≡ Some v → is_idle v.stage ≡ false
      → left_of (stepped_by p i false share) < left_of p
  unfolding steps_left
  steps_lower v share is e =
      let stepping = step_left p.state i v is in
      let some : 1 ≤ stage_left v.stage = has_left v.stage e in
      omega (arith, stepping, some)

  idle_lower : (h : Option (List Packet)) → slice_get p.shares i ≡ h → is_handled (share_of h) ≡ false
      → left_of (stepped_by p i true (share_of h)) < left_of p
  idle_lower None is e = absurd (cc e)
  idle_lower (Some []) is e = absurd (cc e)
  idle_lower (Some (packet ∷ rest)) is e = takes_lower packet rest is

  view_lower : (v : PipeView) → slice_get p.state.pipes i ≡ Some v → (b : Bool) → is_idle v.stage ≡ b
      → (b && is_handled (share_of (slice_get p.shares i))) ≡ false
      → left_of (stepped_by p i b (share_of (slice_get p.shares i))) < left_of p
  view_lower v is true at e = idle_lower (slice_get p.shares i) refl e
  view_lower v is false at e = steps_lower v (share_of (slice_get p.shares i)) is at

  pipe_lower : (g : Option PipeView) → slice_get p.state.pipes i ≡ g
      → (pipe_idle g && is_handled (share_of (slice_get p.shares i))) ≡ false
      → left_of (stepped_by p i (pipe_idle g) (share_of (slice_get p.shares i))) < left_of p
  pipe_lower None is e = idle_lower (slice_get p.shares i) refl e
  pipe_lower (Some v) is e = view_lower v is (is_idle v.stage) refl e

  lower_by : (b : Bool)
      → (if b then turns_ended p else (pipe_idle (slice_get p.state.pipes i) && is_handled (share_of (slice_get p.shares i)))) ≡ false
      → left_of (if b then controller_picked p else pipe_picked p i) < left_of p
  lower_by true e = controller_lowers p e
  lower_by false e = pipe_lower (slice_get p.state.pipes i) refl e

pub picks_lower : PicksLower
picks_lower p i e = lower_by p i (i == pipes_of p) e
