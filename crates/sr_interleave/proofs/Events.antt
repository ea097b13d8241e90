-- What a pipe does on the plain words is what its event makes of the machine.
use Rattle.std.proofs.Common.{◌≡◌, ◌∙◌, ℕ, ◌<◌, ◌≤◌, true, false, List, [], ◌∷◌, length, slice_index_or, slice_set, OnErr, Result, Ok, Err, Option, Some, None, option_and_then, option_map, unwrap_or, refl, sym, ap, subst}
use Rattle.sr_base.specs.Layout.{LayoutView}
use Rattle.sr_base.specs.declared.packet.Packet.{Packet}
use Rattle.sr_core.specs.HeldCore.{Shows, state_of}
use Rattle.sr_core.specs.HeldPipe.{HeldPipe}
use Rattle.sr_core.specs.HeldPipes.{views_of}
use Rattle.sr_core.specs.Making.{AnsweredBy, ShowsSteps, made_before, words_after}
use Rattle.sr_core.specs.PlainWords.{HeldWords, ShowsWords}
use Rattle.sr_ctl.specs.SeenController.{SeenController}
use Rattle.sr_interleave.proofs.Pipes.{view_past, view_there, views_same, views_set}
use Rattle.sr_interleave.specs.Acting.{BothMadeOn, EntersOn, MadeOn, StepsBy, StepsOn}
use Rattle.sr_interleave.specs.Together.{held}
use Rattle.sr_machine.specs.Core.{Core, enters, made, stepped, with_view}
use Rattle.sr_machine.specs.Ops.{op_words}
use Rattle.sr_machine.specs.Pipe.{entered, is_idle, pipe_after, pipe_op}
use Rattle.sr_machine.specs.declared.actor.Actor.TheVariants as actor
use Rattle.sr_machine.specs.declared.event.Event.{Event}
use Rattle.sr_machine.specs.declared.event.Event.TheVariants.{Enter, Step}
use Rattle.sr_machine.specs.declared.name.Name.{Name}
use Rattle.sr_machine.specs.declared.op.Op.{Op}
use Rattle.sr_machine.specs.declared.pipe_view.PipeView.{PipeView}
use Rattle.sr_machine.specs.declared.stage.Stage.{Stage}
use Rattle.sr_machine.specs.declared.stage.Stage.TheVariants as stage
use Rattle.sr_machine.specs.declared.view.View.TheVariants.{OfPipe}
use Rattle.sr_picks.specs.Turn.{after}
use Rattle.sr_pipe.specs.Known.{Known, Leads}

-- ---- one pipe

idle_stage : (l : LayoutView) (v : PipeView) (at : Stage) → is_idle at ≡ true → pipe_op l v at ≡ None
idle_stage l v stage.Idle e = refl
idle_stage l v (stage.Enter packet) e = cc
idle_stage l v (stage.Note packet entered) e = cc
idle_stage l v (stage.Vip packet entered) e = cc
idle_stage l v (stage.Fly f leg) e = cc
idle_stage l v (stage.Leave f) e = cc

busy_stage : (l : LayoutView) (v : PipeView) (at : Stage) → is_idle at ≡ false → pipe_op l v at ≡ None → ⊥
busy_stage l v stage.Idle e n = cc
busy_stage l v (stage.Enter packet) e n = cc
busy_stage l v (stage.Note packet entered) e n = cc
busy_stage l v (stage.Vip packet entered) e n = cc
busy_stage l v (stage.Fly f leg) e n = cc
busy_stage l v (stage.Leave f) e n = cc

-- an idle pipe has no step
pub idle_steps : (board : HeldWords) (v : PipeView) → is_idle v.stage ≡ true → StepsOn board v board v
idle_steps board v e words shows =
    subst (λ o. StepsBy o board.layout words v board v) (sym (idle_stage board.layout v v.stage e)) (refl, shows)

-- another one made its step on the board
busy_steps : (board new : HeldWords) (v w : PipeView) (old now : Known) (x : ℕ) → is_idle v.stage ≡ false
    → old.shows ≡ ShowsWords board.layout board.words → now.shows ≡ ShowsWords new.layout new.words → Leads board.layout old v (x ∷ []) now w
    → StepsOn board v new w
busy_steps board new v w old now x busy before behind leads words shows =
    by (pipe_op board.layout v v.stage) refl
    (subst (λ f. ShowsSteps f (made_before (pipe_op board.layout v v.stage) x []) (ShowsWords new.layout new.words)) before
    (subst (λ f. ShowsSteps old.shows (made_before (pipe_op board.layout v v.stage) x []) f) behind leads.words) words shows)
  where
    by : (o : Option Op) → pipe_op board.layout v v.stage ≡ o
        → AnsweredBy words (made_before o x []) × ShowsWords new.layout new.words (words_after words (made_before o x []))
        → StepsBy o board.layout words v new w
    by None is h = absurd (busy_stage board.layout v v.stage busy is)
    by (Some o) is h = (sym leads.view ∙ ap (pipe_after board.layout v v.stage) h.0.0, h.1)

-- the same of a pipe, where the actor has the board
pub busy_on : (board there new : HeldWords) (p : HeldPipe) (w : PipeView) (old now : Known) (x : ℕ) → is_idle p.view.stage ≡ false
    → there ≡ board → p.layout ≡ board.layout → old.shows ≡ ShowsWords there.layout there.words → now.shows ≡ ShowsWords new.layout new.words
    → Leads p.layout old p.view (x ∷ []) now w
    → StepsOn board p.view new w
busy_on board there new p w old now x busy came same is at leads =
    busy_steps board new p.view w old now x busy (is ∙ ap (λ (h : HeldWords). ShowsWords h.layout h.words) came) at
    (subst (λ k. Leads k old p.view (x ∷ []) now w) same leads)

-- a packet has entered
pub entered_on : (packet : Packet) (board there new : HeldWords) (p q : HeldPipe) (w : PipeView) → there ≡ board → p.layout ≡ board.layout
    → q.layout ≡ p.layout → q.view ≡ p.view → entered q.layout packet q.view ≡ Some w
    → ((words : Name → ℕ) → ShowsWords there.layout there.words words → ShowsWords new.layout new.words words)
    → EntersOn packet board p.view new w
entered_on packet board there new p q w came same is at enters words = record {
  view =
      sym (ap (λ o. unwrap_or o p.view)
      (ap (λ l. entered l packet p.view) (sym same) ∙ ap (λ l. entered l packet p.view) (sym is) ∙ ap (entered q.layout packet) (sym at) ∙ enters));
  words = λ now shows. words now (subst (λ (h : HeldWords). ShowsWords h.layout h.words now) (sym came) shows);
}

-- one that can't changes nothing
pub not_entered : (packet : Packet) (board : HeldWords) (v : PipeView) → entered board.layout packet v ≡ None → EntersOn packet board v board v
not_entered packet board v e = record { view = sym (ap (λ o. unwrap_or o v) e); words = λ now shows. shows }

-- ---- the machine

module _ (board new : HeldWords) (ps : List HeldPipe) (i : ℕ) (d q : HeldPipe) (h : i < length ps) (kept : new.layout ≡ board.layout) where
  abbrev p : HeldPipe
  p = slice_index_or ps i d

  abbrev with_pipes : SeenController → (Name → ℕ) → List PipeView → Core
  with_pipes c words vs = record { config = c.config; words = words; pipes = vs; controller = c.view }

  module _ (c : SeenController) (same : c.config.layout ≡ board.layout) (words : Name → ℕ) where
    abbrev s : Core
    s = state_of (held board ps c) words

    shown : (now : Name → ℕ) → ShowsWords new.layout new.words now → ShowsWords c.config.layout new.words now
    shown now sh = subst (λ l. ShowsWords l new.words now) (kept ∙ sym same) sh

    shown_first : ShowsWords c.config.layout board.words words → ShowsWords board.layout board.words words
    shown_first sh = subst (λ l. ShowsWords l board.words words) same sh

    step_by : (o : Option Op) → StepsBy o c.config.layout words p.view new q.view
        → Shows (held new (slice_set ps i q) c) (unwrap_or (option_map (made s (actor.Pipe i) (OfPipe p.view)) o) s)
    step_by None on = (words, shown words on.1, ap (with_pipes c words) (sym (views_same ps i d q h on.0)))
    step_by (Some o) on = (
      op_words words o,
      shown (op_words words o) on.1,
      ap (with_pipes c (op_words words o)) (ap (slice_set (views_of ps) i) (sym on.0) ∙ sym (views_set ps i q)),
    )

    enter_by : ShowsWords new.layout new.words words → (o : Option PipeView) → q.view ≡ unwrap_or o p.view
        → Shows (held new (slice_set ps i q) c) (unwrap_or (option_map (λ w. with_view s (actor.Pipe i) (OfPipe w)) o) s)
    enter_by sh None e = (words, shown words sh, ap (with_pipes c words) (sym (views_same ps i d q h e)))
    enter_by sh (Some w) e = (words, shown words sh, ap (with_pipes c words) (ap (slice_set (views_of ps) i) (sym e) ∙ sym (views_set ps i q)))

  pub step_made : StepsOn board p.view new q.view → MadeOn (Step (actor.Pipe i)) board ps new (slice_set ps i q)
  step_made steps c same words shows =
      subst (Shows (held new (slice_set ps i q) c))
      (sym (ap (λ o. unwrap_or (option_and_then (stepped (s c same words) (actor.Pipe i)) (option_map OfPipe o)) (s c same words)) (view_there ps i d h)))
      (step_by c same words (pipe_op c.config.layout p.view p.view.stage)
      (subst (λ l. StepsBy (pipe_op l p.view p.view.stage) l words p.view new q.view) (sym same) (steps words (shown_first c same words shows))))

  pub enter_made : (packet : Packet) → EntersOn packet board p.view new q.view → MadeOn (Enter i packet) board ps new (slice_set ps i q)
  enter_made packet entering c same words shows =
      subst (Shows (held new (slice_set ps i q) c))
      (sym (ap (λ o. unwrap_or (option_and_then (enters (s c same words) i packet) o) (s c same words)) (view_there ps i d h)))
      (enter_by c same words (entering.words words (shown_first c same words shows)) (entered c.config.layout packet p.view)
      (entering.view ∙ ap (λ l. unwrap_or (entered l packet p.view) p.view) (sym same)))

-- a pipe that isn't there does nothing
pub step_past : (board : HeldWords) (ps : List HeldPipe) (i : ℕ) → length ps ≤ i → MadeOn (Step (actor.Pipe i)) board ps board ps
step_past board ps i h c same words shows =
    subst (Shows (held board ps c))
    (sym (ap (λ o. unwrap_or (option_and_then (stepped (state_of (held board ps c) words) (actor.Pipe i)) (option_map OfPipe o)) (state_of (held board ps c) words)) (view_past ps i h)))
    (words, shows, refl)

pub enter_past : (board : HeldWords) (ps : List HeldPipe) (i : ℕ) (packet : Packet) → length ps ≤ i → MadeOn (Enter i packet) board ps board ps
enter_past board ps i packet h c same words shows =
    subst (Shows (held board ps c))
    (sym (ap (λ o. unwrap_or (option_and_then (enters (state_of (held board ps c) words) i packet) o) (state_of (held board ps c) words)) (view_past ps i h)))
    (words, shows, refl)

-- two events, one after the other
pub both_made : (first second : Event) (board mid new : HeldWords) (ps qs rs : List HeldPipe) → mid.layout ≡ board.layout
    → MadeOn first board ps mid qs → MadeOn second mid qs new rs → BothMadeOn first second board ps new rs
both_made first second board mid new ps qs rs same one two c is words shows =
    let there = one c is words shows in
    subst (λ s. Shows (held new rs c) (after second s)) (sym there.2) (two c (is ∙ sym same) there.0 there.1)

-- what wasn't made changed nothing of the words and of what the pipes know
pub kept_pipes : {A E : Type 0} → (r : Result A E) (board new : HeldWords) (ps : List HeldPipe) (i : ℕ) (d q : HeldPipe) → i < length ps
    → (new ≡ board) × (q.view ≡ (slice_index_or ps i d).view)
    → OnErr r ((new ≡ board) × (views_of (slice_set ps i q) ≡ views_of ps))
kept_pipes (Ok x) board new ps i d q h e = tt
kept_pipes (Err x) board new ps i d q h e = (e.0, views_same ps i d q h e.1)
