-- A turn that is under way, as its loop keeps it.
use Rattle.std.proofs.Common.{◌≡◌, ◌∙◌, ℕ, ◌+◌, ◌^◌, ◌<◌, ◌≤◌, ◌++◌, true, false, List, [], ◌∷◌, length, Option, Some, None, refl, sym, ap, subst, arith}
use Rattle.std.proofs.lemmas.List.{length-append}
use Rattle.sr_acts.specs.Rooms.{added}
use Rattle.sr_ctl.proofs.Laws.{EndsAt, GoesOn, no_word, start_set, step_ends, step_goes_on, ticks_left}
use Rattle.sr_ctl.proofs.Reasons.{Looks, Waits, cause, looks_first, looks_more, waits_first, waits_more}
use Rattle.sr_ctl.proofs.Turning.{NotOver, OnTurn, begun_same, bounded, none_taken, on_turn_more, over_more, turn_ends}
use Rattle.sr_ctl.specs.Needs.{is_look, kept, needed}
use Rattle.sr_ctl.specs.SeenController.{IsFor, seen}
use Rattle.sr_ctl.specs.Turned.{Makes, StepMade, TurnedOn}
use Rattle.sr_base.specs.Layout.{LayoutView}
use Rattle.sr_machine.specs.Boards.{Beside}
use Rattle.sr_machine.specs.Bounds.{TurnsEnd}
use Rattle.sr_machine.specs.Config.{Config}
use Rattle.sr_machine.specs.Controller.{controller_after}
use Rattle.sr_machine.specs.Deciding.{in_bounds, words_taken}
use Rattle.sr_machine.specs.Jobs.{job_next}
use Rattle.sr_machine.specs.Starting.{begun}
use Rattle.sr_machine.specs.Turning.{most_steps}
use Rattle.sr_machine.specs.declared.controller_view.ControllerView.{ControllerView}
use Rattle.sr_machine.specs.declared.job.Job.{Job}
use Rattle.sr_machine.specs.declared.job.Job.TheVariants as job
use Rattle.sr_machine.specs.declared.name.Name.{Name}
use Rattle.sr_machine.specs.declared.turn.Turn.{Turn}
use Rattle.sr_machine.specs.declared.turn.Turn.TheVariants as turn
use Rattle.sr_machine.specs.declared.view.View.{View}
use Rattle.sr_machine.specs.declared.view.View.TheVariants.{OfController}

pub record Going (k : Config) (fitted : Config → View → Type 0) (shown : (Name → ℕ) → Type 0) (c : ControllerView) (i : ℕ) (n : Config)
    (fits_now : Config → View → Type 0) (shows_now : (Name → ℕ) → Type 0) (d : ControllerView) (space : ℕ) : Type 0 where
  pub config : n ≡ k
  pub answers : List ℕ
  pub on : OnTurn k fitted shown c answers fits_now shows_now d
  pub over : NotOver k c answers
  pub count : length answers ≡ i
  pub waits : Waits k c answers d
  pub looks : Looks k c answers d
  pub room : needed k.layout (begun k d).job ≤ space
  pub ticks : d.drawn + ticks_left (begun k d).job ≤ c.drawn + 4
  pub rings : d.rings ≡ c.rings

pub going_first : (k : Config) (fits : Config → View → Type 0) (shows : (Name → ℕ) → Type 0) (c : ControllerView) (space : ℕ)
    → is_look c.job ≡ false → 1 ≤ k.layout.shape.pipes → needed k.layout (begun k c).job ≤ space
    → Going k fits shows c 0 k fits shows c space
going_first k fits shows c space look some room = record {
  config = refl;
  answers = [];
  on = record { each = tt; view = refl; fits = λ f. f; words = λ words s. (tt, s) };
  over = tt;
  count = refl;
  waits = waits_first k c;
  looks = looks_first k c look some;
  room = room;
  ticks = let most = (start_set k c c.job).most in omega (arith, most);
  rings = refl;
}

needed_some : (l : LayoutView) (j : Job) → 1 ≤ needed l j
needed_some l job.Free = omega arith
needed_some l (job.Draw d) = omega arith
needed_some l (job.Store s) = omega arith
needed_some l (job.Pass g pipe w) = omega arith
needed_some l (job.Drain pipe n w) = omega arith
needed_some l (job.Look pipe) = omega arith
needed_some l (job.Hit from ms key place n) = omega arith

module _ (k : Config) (fits now after : Config → View → Type 0) (shows shows_now shows_after : (Name → ℕ) → Type 0)
    (c d e : ControllerView) (i : ℕ) (n m : Config) (space left x : ℕ) (going : Going k fits shows c i n now shows_now d space) where
  pub within_bounds : c.drawn + 4 ≤ 2 ^ 56 → words_taken c.rings < 2 ^ 56 → in_bounds d ≡ true
  within_bounds ticks words =
      let some = (start_set k d d.job).some in
      bounded d (omega (arith, ticks, going.ticks, some)) (subst (λ r. words_taken r < 2 ^ 56) (sym going.rings) words)

  pub has_room : 0 < space
  has_room = let some = needed_some k.layout (begun k d).job in omega (arith, some, going.room)

  pub still_for : (beside later : Beside) → later ≡ beside → IsFor fits beside (seen k c) → IsFor now later (seen n d)
  still_for beside later same h = record {
    layout = ap (λ (b : Beside). b.layout) same ∙ h.layout ∙ ap (λ (o : Config). o.layout) (sym going.config);
    view = subst (λ o. now o (OfController d)) (sym going.config) (going.on.fits h.view);
  }

  pub going_on : (o : Option Turn) → o ≡ None → StepMade n now shows_now d x o after shows_after e → space ≤ left + added (begun n d).job → m ≡ n
      → Going k fits shows c (i + 1) m after shows_after e left
  going_on o none step room same = record {
    config = same ∙ going.config;
    answers = going.answers ++ x ∷ [];
    on = on_turn_more k fits now after shows shows_now shows_after c going.answers x d e None going.on made;
    over = over_more k fits now after shows shows_now shows_after c going.answers x d e None going.over going.on.view made.ends;
    count = length-append going.answers (x ∷ []) ∙ ap (λ (a : ℕ). a + 1) going.count;
    waits = subst (Waits k c (going.answers ++ x ∷ [])) made.view (waits_more k c d (going.answers ++ x ∷ []) x made.ends);
    looks =
        subst (Looks k c (going.answers ++ x ∷ [])) made.view
        (looks_more k c d going.answers x going.on.view made.there made.ends going.looks);
    room =
        subst (λ v. needed k.layout v.job ≤ left) (begun_e)
        (omega (arith, going.room, falls.room, fits_room));
    ticks =
        subst (λ v. v.drawn + ticks_left v.job ≤ c.drawn + 4) (begun_e) (omega (arith, going.ticks, falls.ticks));
    rings = ap (λ (v : ControllerView). v.rings) (sym made.view) ∙ no_word k (begun k d) x (begun k d).job made.ends ∙ going.rings;
  }
    where
      made : StepMade k now shows_now d x None after shows_after e
      made =
          subst (λ y. StepMade k now shows_now d x y after shows_after e) none
          (subst (λ y. StepMade y now shows_now d x o after shows_after e) going.config step)

      fits_room : space ≤ left + added (begun k d).job
      fits_room = subst (λ o. space ≤ left + added (begun o d).job) going.config room

      falls : GoesOn k.layout (begun k d) (begun k d).job (job_next k (begun k d) (begun k d).job x)
      falls = step_goes_on k (begun k d) x (begun k d).job (start_set k d d.job).set made.ends

      begun_e : controller_after k d x ≡ begun k e
      begun_e = sym (begun_same k d x made.ends) ∙ ap (begun k) made.view

  pub going_ends : (t : Turn) (o : Option Turn) → o ≡ Some t → StepMade n now shows_now d x o after shows_after e → space ≤ left + added (begun n d).job
      → i < most_steps k.layout
      → TurnedOn k fits shows c t after shows_after e × (is_look e.job ≡ false) × (kept e.job ≤ left)
  going_ends t o some step room few = (
    record {
      answers = going.answers ++ x ∷ [];
      turned = record {
        each = more.each;
        view = more.view;
        act = turn_ends k fits now after shows shows_now shows_after c going.answers x d e (Some t) t going.over going.on.view made.ends made.view;
        few = let l = length-append going.answers (x ∷ []) in omega (arith, l, going.count, few);
        cause = cause k c d e going.answers x t going.on.view made.there made.ends made.view going.waits going.looks;
      };
      fits = more.fits;
      words = more.words;
    },
    ap (λ (v : ControllerView). is_look v.job) (sym made.view) ∙ ends.look,
    subst (λ (v : ControllerView). kept v.job ≤ left) made.view (omega (arith, going.room, ends.room, fits_room)),
  )
    where
      made : StepMade k now shows_now d x (Some t) after shows_after e
      made =
          subst (λ y. StepMade k now shows_now d x y after shows_after e) some
          (subst (λ y. StepMade y now shows_now d x o after shows_after e) going.config step)

      fits_room : space ≤ left + added (begun k d).job
      fits_room = subst (λ o. space ≤ left + added (begun o d).job) going.config room

      ends : EndsAt k.layout (begun k d).job (job_next k (begun k d) (begun k d).job x)
      ends = step_ends k (begun k d) x t (begun k d).job made.ends

      more : OnTurn k fits shows c (going.answers ++ x ∷ []) after shows_after e
      more = on_turn_more k fits now after shows shows_now shows_after c going.answers x d e (Some t) going.on made

  -- it ends within so many steps
  pub goes_no_further : TurnsEnd → most_steps k.layout ≤ i → ⊥
  goes_no_further ends h =
      let long : most_steps k.layout ≤ length going.answers = omega (arith, h, going.count) in
      let r = ends k c going.answers long in
      none_some (sym (none_taken k c going.answers r.0 going.over) ∙ r.2)
    where
      none_some : {X : Type 0} {y : X} → None ≡ Some y → ⊥
      none_some q = cc

-- ---- what a turn answers

-- a turn that was made never answers that there was no memory
pub no_memory : (k : Config) (fits after : Config → View → Type 0) (shows shows_after : (Name → ℕ) → Type 0) (c d : ControllerView) (t : Turn)
    → TurnedOn k fits shows c t after shows_after d → t ≡ turn.Memory → ⊥
no_memory k fits after shows shows_after c d t h e =
    subst (λ u. TurnedOn k fits shows c u after shows_after d → ⊥) (sym e) (λ m. m.turned.cause) h

pub makes : (k : Config) (fits after : Config → View → Type 0) (shows shows_after : (Name → ℕ) → Type 0) (c d : ControllerView) (t : Turn)
    → TurnedOn k fits shows c t after shows_after d → Makes k fits shows c t after shows_after d
makes k fits after shows shows_after c d (turn.Did act) h = h
makes k fits after shows shows_after c d (turn.NotYet pipe entered) h = h
makes k fits after shows shows_after c d (turn.NoRoom key) h = h
makes k fits after shows shows_after c d (turn.VersionsFull vip) h = h
makes k fits after shows shows_after c d turn.Idle h = h
makes k fits after shows shows_after c d turn.Memory h = absurd (h.turned.cause)

-- it leaves a board for what is known then
pub for_after : (k : Config) (fits after : Config → View → Type 0) (shows shows_after : (Name → ℕ) → Type 0) (c d : ControllerView) (t : Turn)
    → TurnedOn k fits shows c t after shows_after d → (n : Config) → n ≡ k → (beside later : Beside) → later ≡ beside
    → IsFor fits beside (seen k c) → IsFor after later (seen n d)
for_after k fits after shows shows_after c d t h n same beside later s f = record {
  layout = ap (λ (b : Beside). b.layout) s ∙ f.layout ∙ ap (λ (o : Config). o.layout) (sym same);
  view = subst (λ o. after o (OfController d)) (sym same) (h.fits f.view);
}
