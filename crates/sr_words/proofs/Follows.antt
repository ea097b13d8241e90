-- What an actor is told and each step that it makes lead from a state that events lead to on to another one: the actor's view changes,
-- and no other's.
use Rattle.std.proofs.Common.{◌≡◌, ◌≢◌, ◌∙◌, ℕ, ◌+◌, ◌^◌, ◌&&◌, nat_lt, Bool, true, false, List, [], ◌∷◌, ◌++◌, length, slice_get, Option, Some, None, option_map, option_and_then, refl, sym, ap, subst, arith, if◌then◌else◌}
use Rattle.std.proofs.lemmas.Bool.Decides.{nat_tests}
use Rattle.std.proofs.lemmas.Option.{same_Some, slice_get_within}
use Rattle.std.specs.List.{AllByRecursion}
use Rattle.sr_base.specs.declared.packet.Packet.{Packet}
use Rattle.sr_machine.proofs.Kept.{reached_config}
use Rattle.sr_machine.specs.Boards.{told_ms, told_packet, told_refusal}
use Rattle.sr_machine.specs.Config.{Config}
use Rattle.sr_machine.specs.Core.{Core, made, opening, run, step_event, stepped, told as told_of, view_after, view_at, view_op, with_view}
use Rattle.sr_machine.specs.Keeping.{Brings}
use Rattle.sr_machine.specs.Ops.{op_answer, op_name, op_words}
use Rattle.sr_machine.specs.Pipe.{entered, has_vip, is_idle}
use Rattle.sr_machine.specs.Telling.{told_time, told_to_refuse}
use Rattle.sr_machine.specs.declared.actor.Actor.{Actor}
use Rattle.sr_machine.specs.declared.actor.Actor.TheVariants.{Pipe, Controller}
use Rattle.sr_machine.specs.declared.controller_view.ControllerView.{ControllerView}
use Rattle.sr_machine.specs.declared.event.Event.{Event}
use Rattle.sr_machine.specs.declared.event.Event.TheVariants.{Enter, Due, Refuse, Step}
use Rattle.sr_machine.specs.declared.name.Name.{Name}
use Rattle.sr_machine.specs.declared.op.Op.{Op}
use Rattle.sr_machine.specs.declared.pipe_view.PipeView.{PipeView}
use Rattle.sr_machine.specs.declared.stage.Stage.TheVariants as stage
use Rattle.sr_machine.specs.declared.view.View.{View}
use Rattle.sr_machine.specs.declared.view.View.TheVariants.{OfPipe, OfController}
use Rattle.sr_update.proofs.Rows.{get_set_other, get_set_same}
use Rattle.sr_words.specs.Hearing.{IsGood, told, told_ms_if}
use Rattle.sr_inv_facts.specs.Fitted.{IsPacket}
use Rattle.sr_inv_final.specs.Reached.{IsReached}
use Rattle.sr_words.specs.Seats.{actor_of, same_actor}
use Rattle.sr_words.specs.declared.heard.Heard.{Heard}
use Rattle.sr_words.specs.declared.heard.Heard.TheVariants.{Nothing, Entered, Time, Refusal}

-- where a chain answers, its first part does
pub bound : {X Y : Type 0} (f : X → Option Y) (o : Option X) (y : Y) → option_and_then f o ≡ Some y → (x : X) × (o ≡ Some x) × (f x ≡ Some y)
bound f None y e = cc
bound f (Some x) y e = (x, refl, e)

-- ---- views of a state

pub pipe_here : (o : Option PipeView) (v : PipeView) → option_map OfPipe o ≡ Some (OfPipe v) → o ≡ Some v
pipe_here None v e = cc
pipe_here (Some w) v e = cc

no_controller : (o : Option PipeView) (c : ControllerView) → option_map OfPipe o ≡ Some (OfController c) → ⊥
no_controller None c e = cc
no_controller (Some w) c e = cc

view_here : (s : Core) (a : Actor) (x y : View) → view_at s a ≡ Some x → actor_of x ≡ a → actor_of y ≡ a
    → view_at (with_view s a y) a ≡ Some y
view_here s (Pipe p) (OfPipe v) (OfPipe w) h e f =
    ap (option_map OfPipe) (get_set_same s.pipes p w (slice_get_within s.pipes p v (pipe_here (slice_get s.pipes p) v h)))
view_here s (Pipe p) (OfPipe v) (OfController d) h e f = cc
view_here s (Pipe p) (OfController c) y h e f = cc
view_here s Controller (OfPipe v) y h e f = cc
view_here s Controller (OfController c) (OfPipe w) h e f = cc
view_here s Controller (OfController c) (OfController d) h e f = refl

view_else : (s : Core) (a b : Actor) (y : View) → same_actor a b ≡ false → view_at (with_view s a y) b ≡ view_at s b
view_else s (Pipe p) (Pipe q) (OfPipe w) e =
    let n : q ≢ p = grind (arith, nat_tests) in ap (option_map OfPipe) (get_set_other s.pipes p q w n)
view_else s (Pipe p) Controller (OfPipe w) e = refl
view_else s (Pipe p) b (OfController c) e = refl
view_else s Controller b (OfPipe w) e = refl
view_else s Controller (Pipe q) (OfController c) e = refl
view_else s Controller Controller (OfController c) e = cc

view_words : (s : Core) (b : Actor) (words : Name → ℕ) → view_at (record s { words = words }) b ≡ view_at s b
view_words s (Pipe p) words = refl
view_words s Controller words = refl

words_stay : (s : Core) (a : Actor) (y : View) → (with_view s a y).words ≡ s.words
words_stay s (Pipe p) (OfPipe w) = refl
words_stay s (Pipe p) (OfController c) = refl
words_stay s Controller (OfPipe w) = refl
words_stay s Controller (OfController c) = refl

-- ---- a state that follows

-- Events lead from the state to another one with these words, which shows this view of the actor, and the others' as they were.
pub record Follows (k : Config) (s : Core) (a : Actor) (y : View) (all : Name → ℕ) : Type 0 where
  pub state : Core
  pub reached : IsReached k state
  pub words : state.words ≡ all
  pub here : view_at state a ≡ Some y
  pub actor : actor_of y ≡ a
  pub others : (b : Actor) → same_actor a b ≡ false → view_at state b ≡ view_at s b

pub reached_config_of : (k : Config) (s : Core) → IsReached k s → s.config ≡ k
reached_config_of k s r = reached_config k s (r.events, r.leads)

all_more : (P : Event → Type 0) (xs : List Event) (e : Event) → AllByRecursion P xs → P e → AllByRecursion P (xs ++ e ∷ [])
all_more P [] e h p = (p, tt)
all_more P (x ∷ xs) e h p = (h.0, all_more P xs e h.1 p)

run_more : (events : List Event) (e : Event) (s t u : Core) → run events s ≡ Some t → step_event e t ≡ Some u
    → run (events ++ e ∷ []) s ≡ Some u
run_more [] e s t u q next = ap (λ o. option_and_then (run []) o) (ap (step_event e) (same_Some s t q) ∙ next)
run_more (first ∷ rest) e s t u q next = by (step_event first s) q (λ v. run_more rest e v t u)
  where
    by : (o : Option Core) → option_and_then (run rest) o ≡ Some t
        → ((v : Core) → run rest v ≡ Some t → step_event e t ≡ Some u → run (rest ++ e ∷ []) v ≡ Some u)
        → option_and_then (run (rest ++ e ∷ [])) o ≡ Some u
    by None q more = cc
    by (Some v) q more = more v q next

reached_more : (k : Config) (s t : Core) (e : Event) → IsReached k s → Brings IsPacket e → step_event e s ≡ Some t → IsReached k t
reached_more k s t e r b q = record {
  events = r.events ++ e ∷ [];
  leads = run_more r.events e (opening k) s t r.leads q;
  packets = all_more (Brings IsPacket) r.events e r.packets b;
}

pub follows_self : (k : Config) (s : Core) (x : View) → IsReached k s → view_at s (actor_of x) ≡ Some x
    → Follows k s (actor_of x) x s.words
follows_self k s x r h = record { state = s; reached = r; words = refl; here = h; actor = refl; others = λ b n. refl }

module _ (k : Config) (s : Core) (a : Actor) (y : View) (words : Name → ℕ) (f : Follows k s a y words) where
  goes_on : (z : View) (next : Name → ℕ) (e : Event) → Brings IsPacket e → actor_of z ≡ a
      → step_event e f.state ≡ Some (with_view (record f.state { words = next }) a z) → Follows k s a z next
  goes_on z next e b same q = record {
    state = with_view (record f.state { words = next }) a z;
    reached = reached_more k f.state (with_view (record f.state { words = next }) a z) e f.reached b q;
    words = words_stay (record f.state { words = next }) a z;
    here = view_here (record f.state { words = next }) a y z (view_words f.state a next ∙ f.here) f.actor same;
    actor = same;
    others =
        λ b n. view_else (record f.state { words = next }) a b z n ∙ view_words f.state b next ∙ f.others b n;
  }

  config : f.state.config ≡ k
  config = reached_config_of k f.state f.reached

  -- ---- a telling

  tells : (z : View) (e : Event) → Brings IsPacket e → actor_of z ≡ a → step_event e f.state ≡ Some (with_view f.state a z)
      → Follows k s a z words
  tells z e b same q = subst (λ (w : Name → ℕ). Follows k s a z w) f.words (goes_on z f.state.words e b same q)

  -- ---- a step

  pub follows_step : (o : Op) → view_op k y ≡ Some o → actor_of (view_after k y (op_answer o (words (op_name o)))) ≡ a
      → Follows k s a (view_after k y (op_answer o (words (op_name o)))) (op_words words o)
  follows_step o n same =
      let q : step_event (Step a) f.state ≡ Some (made f.state a y o) =
      ap (option_and_then (stepped f.state a)) f.here
      ∙ ap (option_map (made f.state a y)) (ap (λ (c : Config). view_op c y) config ∙ n) in
      subst (λ (w : Name → ℕ). Follows k s a (view_after k y (op_answer o (w (op_name o)))) (op_words w o)) f.words
      (subst (λ (c : Config). Follows k s a (view_after c y (op_answer o (f.state.words (op_name o)))) (op_words f.state.words o)) config
      (goes_on (view_after f.state.config y (op_answer o (f.state.words (op_name o)))) (op_words f.state.words o) (Step a) tt
      (subst (λ (c : Config). actor_of (view_after c y (op_answer o (f.state.words (op_name o)))) ≡ a) (sym config)
      (subst (λ (w : Name → ℕ). actor_of (view_after k y (op_answer o (w (op_name o)))) ≡ a) (sym f.words) same)) q))

-- a step keeps the actor
pub after_actor : (k : Config) (y : View) (n : ℕ) → actor_of (view_after k y n) ≡ actor_of y
after_actor k (OfPipe v) n = refl
after_actor k (OfController c) n = refl

-- ---- what is told

module _ (s : Core) (a : Actor) (z : View) where
  map_pipe : (o : Option PipeView) → option_map OfPipe o ≡ Some z
      → option_map (λ w. with_view s a (OfPipe w)) o ≡ Some (with_view s a z)
  map_pipe None e = cc
  map_pipe (Some w) e = ap (λ x. Some (with_view s a x)) (same_Some (OfPipe w) z e)

  map_controller : (o : Option ControllerView) → option_map OfController o ≡ Some z
      → option_map (λ d. with_view s a (OfController d)) o ≡ Some (with_view s a z)
  map_controller None e = cc
  map_controller (Some d) e = ap (λ x. Some (with_view s a x)) (same_Some (OfController d) z e)

entered_actor : (b : Bool) (v w : PipeView) (z : View) → v.number ≡ w.number
    → option_map OfPipe (if b then Some w else None) ≡ Some z → actor_of z ≡ Pipe v.number
entered_actor true v w z n e = ap actor_of (sym (same_Some (OfPipe w) z e)) ∙ ap Pipe (sym n)
entered_actor false v w z n e = cc

told_actor : (o : Option ControllerView) (z : View) → option_map OfController o ≡ Some z → actor_of z ≡ Controller
told_actor None z e = cc
told_actor (Some d) z e = ap actor_of (sym (same_Some (OfController d) z e))

module _ (k : Config) (s : Core) where
  told_a_packet : (a : Actor) (y z : View) (words : Name → ℕ) (packet : Packet) → Follows k s a y words → IsPacket packet
      → told_packet packet k y ≡ Some z → Follows k s a z words
  told_a_packet a (OfController c) z words packet f g t = cc
  told_a_packet Controller (OfPipe v) z words packet f g t = absurd (let e = f.actor in cc)
  told_a_packet (Pipe p) (OfPipe v) z words packet f g t =
      let here : slice_get f.state.pipes p ≡ Some v = pipe_here (slice_get f.state.pipes p) v f.here in
      let test : Bool = is_idle v.stage && (has_vip k.layout packet && nat_lt (length v.lines + 1) (2 ^ 32)) in
      tells k s (Pipe p) (OfPipe v) words f z (Enter p packet) g
      (entered_actor test v (record v { stage = stage.Enter packet }) z refl t ∙ f.actor)
      (ap (option_and_then (λ w. option_map (λ u. with_view f.state (Pipe p) (OfPipe u)) (entered f.state.config.layout packet w))) here
      ∙ ap (λ (c : Config). option_map (λ u. with_view f.state (Pipe p) (OfPipe u)) (entered c.layout packet v))
      (reached_config_of k f.state f.reached)
      ∙ map_pipe f.state (Pipe p) z (entered k.layout packet v) t)

  told_a_time : (a : Actor) (y z : View) (words : Name → ℕ) (ms : ℕ) → Follows k s a y words → told_ms ms k y ≡ Some z
      → Follows k s a z words
  told_a_time a (OfPipe v) z words ms f t = cc
  told_a_time (Pipe p) (OfController c) z words ms f t = absurd (no_controller (slice_get f.state.pipes p) c f.here)
  told_a_time Controller (OfController c) z words ms f t =
      let same : f.state.controller ≡ c = let h = f.here in cc in
      tells k s Controller (OfController c) words f z (Due ms) tt (told_actor (told_time ms c) z t)
      (ap (λ d. told_of f.state (told_time ms d)) same ∙ map_controller f.state Controller z (told_time ms c) t)

  told_a_refusal : (a : Actor) (y z : View) (words : Name → ℕ) → Follows k s a y words → told_refusal k y ≡ Some z
      → Follows k s a z words
  told_a_refusal a (OfPipe v) z words f t = cc
  told_a_refusal (Pipe p) (OfController c) z words f t = absurd (no_controller (slice_get f.state.pipes p) c f.here)
  told_a_refusal Controller (OfController c) z words f t =
      let same : f.state.controller ≡ c = let h = f.here in cc in
      tells k s Controller (OfController c) words f z Refuse tt (told_actor (told_to_refuse c) z t)
      (ap (λ d. told_of f.state (told_to_refuse d)) same ∙ map_controller f.state Controller z (told_to_refuse c) t)

  -- the time, where it was told
  time_if : (o : Option ℕ) (a : Actor) (y z : View) (words : Name → ℕ) → Follows k s a y words → told_ms_if k o y ≡ Some z
      → Follows k s a z words
  time_if None a y z words f t = subst (λ (x : View). Follows k s a x words) (same_Some y z t) f
  time_if (Some ms) a y z words f t = told_a_time a y z words ms f t

  pub follows_told : (h : Heard) (a : Actor) (x y : View) (words : Name → ℕ) → IsGood h → Follows k s a x words → told h k x ≡ Some y
      → Follows k s a y words
  follows_told Nothing a x y words g f t = subst (λ (z : View). Follows k s a z words) (same_Some x y t) f
  follows_told (Entered packet) a x y words g f t = told_a_packet a x y words packet f g t
  follows_told (Time ms) a x y words g f t = told_a_time a x y words ms f t
  follows_told (Refusal before after) a x y words g f t =
      let c = bound (told_ms_if k after) (option_and_then (told_refusal k) (told_ms_if k before x)) y t in
      let r = bound (told_refusal k) (told_ms_if k before x) c.0 c.1 in
      time_if after a c.0 y words (told_a_refusal a r.0 c.0 words (time_if before a x r.0 words f r.1) r.2) c.2
