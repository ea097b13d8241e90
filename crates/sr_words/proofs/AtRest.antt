-- At rest every note is 0, a step leaves the rest, and the rings hold one report less for each that is taken.
use Rattle.std.proofs.Common.{◌≡◌, ◌∙◌, ℕ, zero, suc, ◌+◌, ◌-◌, ◌≤◌, ◌<◌, true, List, [], ◌∷◌, length, map, slice_get, Some, refl, sym, ap, subst, zero-add, arith}
use Rattle.std.proofs.lemmas.Bool.{and_parts}
use Rattle.std.proofs.lemmas.Option.{same_Some, slice_get_within}
use Rattle.std.specs.List.{list_all, range_with_len}
use Rattle.sr_base.specs.Layout.{LayoutView}
use Rattle.sr_base.specs.WordName.{HasWord}
use Rattle.sr_base.specs.declared.word_name.WordName.{WordName}
use Rattle.sr_base.specs.declared.word_name.WordName.TheVariants as word
use Rattle.sr_inv.specs.Reached.{EveryStateMeets}
use Rattle.sr_inv_facts.specs.Invariant.{Invariant}
use Rattle.sr_inv_facts.specs.InWords.{note_of}
use Rattle.sr_machine.specs.Boards.{IsNext, QuietNote, ReportsAfter, StaysAtRest}
use Rattle.sr_machine.specs.Config.{Config}
use Rattle.sr_machine.specs.Core.{Core, view_op}
use Rattle.sr_machine.specs.Controller.{controller_after, controller_op}
use Rattle.sr_machine.specs.Deciding.{ring_count, words_taken}
use Rattle.sr_machine.specs.Names.{name_for, word_name}
use Rattle.sr_machine.specs.Ops.{op_name, op_words}
use Rattle.sr_machine.specs.Pipe.{is_idle}
use Rattle.sr_machine.specs.declared.actor.Actor.TheVariants.{Controller}
use Rattle.sr_machine.specs.declared.name.Name.TheVariants as name
use Rattle.sr_machine.specs.declared.op.Op.{Op}
use Rattle.sr_machine.specs.declared.op.Op.TheVariants.{Loads, Swaps}
use Rattle.sr_machine.specs.declared.controller_view.ControllerView.{ControllerView}
use Rattle.sr_machine.specs.declared.pipe_view.PipeView.{PipeView}
use Rattle.sr_machine.specs.declared.ring_count.RingCount.{RingCount}
use Rattle.sr_machine.specs.declared.stage.Stage.{Stage}
use Rattle.sr_machine.specs.declared.stage.Stage.TheVariants as stage
use Rattle.sr_machine.specs.declared.view.View.{View}
use Rattle.sr_machine.specs.declared.view.View.TheVariants.{OfPipe, OfController}
use Rattle.sr_words.proofs.Claims.{shown_others}
use Rattle.sr_words.proofs.Follows.{Follows, follows_self, follows_step, pipe_here, reached_config_of}
use Rattle.sr_words.proofs.Reports.{InRings, step_takes, taken_below, takes, told_rings}
use Rattle.sr_words.specs.Boarding.{AreAtRest, pushed_in, reports_in}
use Rattle.sr_words.specs.Hearing.{told}
use Rattle.sr_words.specs.Seats.{AllShown, times_in}
use Rattle.sr_words.specs.Steps.{FitsSeat, IsStepFrom, Makes}
use Rattle.sr_words.specs.declared.heard.Heard.{Heard}
use Rattle.sr_words.specs.declared.seated.Seated.{Seated}

-- ---- the pipes of a state at rest

-- the pipe at each place is the one that is shown
shown_pipe : (s : Core) (vs : List PipeView) (a n p : ℕ) → map (λ v. v.number) vs ≡ range_with_len a n → AllShown s (map OfPipe vs) → p < n
    → (v : PipeView) × (slice_get vs p ≡ Some v) × (slice_get s.pipes (a + p) ≡ Some v)
shown_pipe s [] a zero p e h b = absurd (omega arith)
shown_pipe s [] a (suc n) p e h b = cc
shown_pipe s (v ∷ vs) a zero p e h b = absurd (omega arith)
shown_pipe s (v ∷ vs) a (suc n) zero e h b =
    let number : v.number ≡ a = cc in
    let here : slice_get s.pipes v.number ≡ Some v = pipe_here (slice_get s.pipes v.number) v h.0 in
    let place : v.number ≡ a + 0 = omega arith in
    (v, refl, ap (slice_get s.pipes) (sym place) ∙ here)
shown_pipe s (v ∷ vs) a (suc n) (suc p) e h b =
    let rest : map (λ v. v.number) vs ≡ range_with_len (a + 1) n = cc in
    let r = shown_pipe s vs (a + 1) n p rest h.1 (omega arith) in
    let place : (a + 1) + p ≡ a + suc p = omega arith in
    (r.0, r.1, ap (slice_get s.pipes) (sym place) ∙ r.2)

all_idle : (vs : List PipeView) (p : ℕ) (v : PipeView) → list_all (λ v. is_idle v.stage) vs ≡ true → slice_get vs p ≡ Some v
    → is_idle v.stage ≡ true
all_idle [] p v h e = cc
all_idle (w ∷ vs) zero v h e =
    ap (λ (u : PipeView). is_idle u.stage) (sym (same_Some w v e)) ∙ (and_parts (is_idle w.stage) (list_all (λ v. is_idle v.stage) vs) h).0
all_idle (w ∷ vs) (suc p) v h e = all_idle vs p v (and_parts (is_idle w.stage) (list_all (λ v. is_idle v.stage) vs) h).1 e

idle_note : (a : Stage) → is_idle a ≡ true → note_of a ≡ 0
idle_note stage.Idle h = refl
idle_note (stage.Enter packet) h = refl
idle_note (stage.Note packet entered) h = refl
idle_note (stage.Vip packet entered) h = cc
idle_note (stage.Fly f leg) h = cc
idle_note (stage.Leave f) h = cc

module _ (k : Config) (every : EveryStateMeets) (l : LayoutView) (layout : l ≡ k.layout) where
  meets : (y : View) (rest : List View) (o : Op) (n : ℕ) → (s : IsStepFrom k (y ∷ rest) o n) → Invariant s.state
  meets y rest o n s = every k s.fitted s.reached.events s.state s.reached.packets s.reached.leads

  -- the note of a pipe, where all pipes are shown idle
  note_zero : (y : View) (pipes : List PipeView) (p n : ℕ) → (s : IsStepFrom k (y ∷ map OfPipe pipes) (Loads (name.Note p)) n)
      → map (λ v. v.number) pipes ≡ range_with_len 0 l.shape.pipes → list_all (λ v. is_idle v.stage) pipes ≡ true
      → p < l.shape.pipes → n ≡ 0
  note_zero y pipes p n s numbers idle b =
      let v = shown_pipe s.state pipes 0 l.shape.pipes p numbers s.shown.1 b in
      let there : slice_get s.state.pipes p ≡ Some v.0 = ap (slice_get s.state.pipes) (sym (zero-add p)) ∙ v.2 in
      s.answers ∙ (meets y (map OfPipe pipes) (Loads (name.Note p)) n s).words.note p v.0 there
      ∙ idle_note v.0.stage (all_idle pipes p v.0 idle v.1)

-- ---- a step at rest

no_controllers_in : (pipes : List PipeView) → times_in Controller (map OfPipe pipes) ≡ 0
no_controllers_in [] = refl
no_controllers_in (v ∷ pipes) = zero-add (times_in Controller (map OfPipe pipes)) ∙ no_controllers_in pipes

same_length : (pipes : List PipeView) (a n : ℕ) → map (λ v. v.number) pipes ≡ range_with_len a n → length pipes ≡ n
same_length [] a zero e = refl
same_length [] a (suc n) e = cc
same_length (v ∷ pipes) a zero e = cc
same_length (v ∷ pipes) a (suc n) e =
    let rest : map (λ v. v.number) pipes ≡ range_with_len (a + 1) n = cc in ap suc (same_length pipes (a + 1) n rest)

-- a ring of the layout is there
ring_there : (l : LayoutView) (d : ControllerView) (o : Op) → length d.rings ≡ l.shape.pipes → HasWord l (word_name (op_name o)) → InRings d o
ring_there l d (Swaps (name.Ring pipe cell) x) e has = let b : pipe < l.shape.pipes = has.0 in omega arith
ring_there l d o e has = tt

-- the controller's step, from a state that shows it and the pipes
module _ (k : Config) (every : EveryStateMeets) (d : ControllerView) (pipes : List PipeView) (o : Op) (n : ℕ)
    (s : IsStepFrom k (OfController d ∷ map OfPipe pipes) o n) (next : controller_op k d ≡ Some o)
    (numbers : map (λ v. v.number) pipes ≡ range_with_len 0 k.layout.shape.pipes) where
  before : Follows k s.state Controller (OfController d) s.state.words
  before = follows_self k s.state (OfController d) s.reached s.shown.0

  after : Follows k s.state Controller (OfController (controller_after k d n)) (op_words s.state.words o)
  after =
      subst (λ (m : ℕ). Follows k s.state Controller (OfController (controller_after k d m)) (op_words s.state.words o)) (sym s.answers)
      (follows_step k s.state Controller (OfController d) s.state.words before o next refl)

  holds_then : Invariant after.state
  holds_then = every k s.fitted after.reached.events after.state after.reached.packets after.reached.leads

  controller_then : after.state.controller ≡ controller_after k d n
  controller_then = let h = after.here in cc

  config_then : after.state.config ≡ k
  config_then = reached_config_of k after.state after.reached

  shown_then : AllShown after.state (map OfPipe pipes)
  shown_then = shown_others s.state after.state Controller (map OfPipe pipes) after.others (no_controllers_in pipes) s.shown.1

  -- no more was taken than was pushed
  below : words_taken (controller_after k d n).rings ≤ pushed_in (map OfPipe pipes)
  below =
      taken_below (controller_after k d n).rings pipes
      (ap (λ (c : ControllerView). length c.rings) (sym controller_then)
      ∙ holds_then.shape.controller.rings ∙ ap (λ (c : Config). c.layout.shape.pipes) config_then
      ∙ sym (same_length pipes 0 k.layout.shape.pipes numbers))
      (λ p v e.
      let b : p < k.layout.shape.pipes =
      let m = slice_get_within pipes p v e in let l = same_length pipes 0 k.layout.shape.pipes numbers in omega arith in
      let t = shown_pipe after.state pipes 0 k.layout.shape.pipes p numbers shown_then b in
      let same : t.0 ≡ v = same_Some t.0 v (sym t.1 ∙ e) in
      let there : slice_get after.state.pipes p ≡ Some v = ap (slice_get after.state.pipes) (sym (zero-add p)) ∙ t.2 ∙ ap Some same in
      subst (λ (c : ControllerView). (ring_count c.rings p).words ≤ v.pushed) controller_then (holds_then.words.ring p v there).least)

  -- the rings of the layout are there
  in_rings : HasWord k.layout (word_name (op_name o)) → InRings d o
  in_rings has = ring_there k.layout d o
      (let h = every k s.fitted s.reached.events s.state s.reached.packets s.reached.leads in
      let c : s.state.controller ≡ d = let e = s.shown.0 in cc in
      ap (λ (e : ControllerView). length e.rings) (sym c) ∙ h.shape.controller.rings
      ∙ ap (λ (e : Config). e.layout.shape.pipes) (reached_config_of k s.state s.reached)) has

  -- the reports go down by what was taken
  pub fewer : HasWord k.layout (word_name (op_name o))
      → reports_in (OfController d ∷ map OfPipe pipes)
      ≡ reports_in (OfController (controller_after k d n) ∷ map OfPipe pipes) + takes o n
  fewer has =
      let most = below in
      let more = step_takes k d n o next (in_rings has) in
      omega arith

-- ---- in a caller's terms

after_by : (at : WordName) (x n old new : ℕ) → old ≡ new + takes (Swaps (name_for at) x) n → ReportsAfter at n old new
after_by (word.Ring pipe cell) x n old new e = e
after_by at x n old new e = omega arith

module _ (made_for : Config) (every : EveryStateMeets) (l : LayoutView) (layout : l ≡ made_for.layout) (h : Heard) (old new : Seated) (o : Op)
    (n : ℕ) (made : Makes made_for h old n new) (has : HasWord l (word_name (op_name o))) (next : IsNext (FitsSeat made_for old h) o) where
  -- the step is the controller's
  abbrev Steps : AreAtRest l old.actors → Type 0
  Steps r = (d : ControllerView) × (d.rings ≡ r.controller.rings) × (controller_op made_for d ≡ Some o)
      × (new.actors ≡ OfController (controller_after made_for d n) ∷ map OfPipe r.pipes)
      × IsStepFrom made_for (OfController d ∷ map OfPipe r.pipes) o n

  steps : (r : AreAtRest l old.actors) → Steps r
  steps r =
      let f = next.2 in
      let same : f.1 ∷ f.2 ≡ OfController r.controller ∷ map OfPipe r.pipes = sym f.3 ∙ r.are in
      let first : f.1 ≡ OfController r.controller = cc in
      let e : told h made_for (OfController r.controller) ≡ Some next.1 =
      ap (told h made_for) (sym first) ∙ subst (λ (k : Config). told h k f.1 ≡ Some next.1) f.0 f.4 in
      let d = told_rings made_for h r.controller next.1 e in
      let op : view_op made_for (OfController d.0) ≡ Some o =
      ap (view_op made_for) (sym d.1) ∙ subst (λ (k : Config). view_op k next.1 ≡ Some o) f.0 next.3 in
      let m = made (OfController r.controller) (OfController d.0) (map OfPipe r.pipes) o r.are (e ∙ ap Some d.1) op in
      (d.0, d.2, op, m.0, m.1)

  numbers_of : (r : AreAtRest l old.actors) → map (λ v. v.number) r.pipes ≡ range_with_len 0 made_for.layout.shape.pipes
  numbers_of r = subst (λ (m : LayoutView). map (λ v. v.number) r.pipes ≡ range_with_len 0 m.shape.pipes) layout r.numbers

  pub rests_then : (now : LayoutView) → now ≡ l → AreAtRest l old.actors → AreAtRest now new.actors
  rests_then now same r =
      let s = steps r in
      record {
        controller = controller_after made_for s.0 n;
        pipes = r.pipes;
        are = s.3;
        numbers = subst (λ (m : LayoutView). map (λ v. v.number) r.pipes ≡ range_with_len 0 m.shape.pipes) (sym same) r.numbers;
        idle = r.idle;
      }

  reports_then : AreAtRest l old.actors → reports_in old.actors ≡ reports_in new.actors + takes o n
  reports_then r =
      let s = steps r in
      ap reports_in r.are
      ∙ ap (λ (rings : List RingCount). pushed_in (map OfPipe r.pipes) - words_taken rings) (sym s.1)
      ∙ fewer made_for every s.0 r.pipes o n s.4 s.2 (numbers_of r) (subst (λ (m : LayoutView). HasWord m (word_name (op_name o))) layout has)
      ∙ ap (λ (xs : List View). reports_in xs + takes o n) (sym s.3)

  pub stays : (now : LayoutView) → now ≡ l → takes o n ≡ 0
      → StaysAtRest (AreAtRest l old.actors) (reports_in old.actors) (AreAtRest now new.actors) (reports_in new.actors)
  stays now same none = record {
    still = rests_then now same;
    same = λ r. let e = reports_then r in omega arith;
  }

  pub reports_after : (at : WordName) (x : ℕ) → o ≡ Swaps (name_for at) x → AreAtRest l old.actors
      → ReportsAfter at n (reports_in old.actors) (reports_in new.actors)
  reports_after at x is r =
      after_by at x n (reports_in old.actors) (reports_in new.actors) (reports_then r ∙ ap (λ (p : Op). reports_in new.actors + takes p n) is)

  pub quiet_then : (at : WordName) → o ≡ Loads (name_for at) → AreAtRest l old.actors → HasWord l at → QuietNote at n
  quiet_then (word.Note p) is r b =
      let s = steps r in
      note_zero made_for every l layout (OfController s.0) r.pipes p n
      (subst (λ (q : Op). IsStepFrom made_for (OfController s.0 ∷ map OfPipe r.pipes) q n) is s.4) r.numbers r.idle b
  quiet_then at is r b = tt
