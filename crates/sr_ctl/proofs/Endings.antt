-- Turns that follow one another, up to the last.
use Rattle.std.proofs.Common.{◌≡◌, ◌∙◌, ℕ, ◌++◌, Bool, true, false, List, [], Option, Some, None, refl, sym, ap, subst, if◌then◌else◌}
use Rattle.sr_core.proofs.MoreSteps.{shows_more}
use Rattle.sr_core.specs.Making.{Made, ShowsSteps}
use Rattle.sr_ctl.proofs.Reasons.{have_no_plan, some_none}
use Rattle.sr_ctl.specs.Causes.{FoundNothing}
use Rattle.sr_ctl.specs.Settles.{Ended, EndsSo, GoesOn, SettledOn, Turns, WentOn, begin, more, next_view}
use Rattle.sr_ctl.specs.Steps.{steps_made}
use Rattle.sr_ctl.specs.Turned.{Turned, TurnedOn}
use Rattle.sr_ctl.specs.declared.went.Went.TheVariants as went
use Rattle.sr_machine.specs.Config.{Config}
use Rattle.sr_machine.specs.Settling.{More, Over, OrRefusal, awaited, ending_of, follows}
use Rattle.sr_machine.specs.Telling.{told_to_refuse}
use Rattle.sr_machine.specs.declared.controller_view.ControllerView.{ControllerView}
use Rattle.sr_machine.specs.declared.name.Name.{Name}
use Rattle.sr_machine.specs.declared.settled.Settled.{Settled}
use Rattle.sr_machine.specs.declared.settled.Settled.TheVariants as settled
use Rattle.sr_machine.specs.declared.turn.Turn.{Turn}
use Rattle.sr_machine.specs.declared.turn.Turn.TheVariants as turn
use Rattle.sr_machine.specs.declared.view.View.{View}
use Rattle.sr_machine.specs.declared.view.View.TheVariants.{OfController}
use Rattle.sr_shadow.specs.declared.entry.Entry.{Entry}

-- ---- one turn

module _ (k : Config) (fits mid : Config → View → Type 0) (shows shows_mid : (Name → ℕ) → Type 0) (c w : ControllerView) (t : Turn)
    (made : TurnedOn k fits shows c t mid shows_mid w) where
  pub went_on : follows t ≡ More → GoesOn k fits shows c went.On mid shows_mid w
  went_on e = record {
    answer = t;
    view = w;
    answers = made.answers;
    turned = made.turned;
    next = ap (next_view w) e;
    here = refl;
    fits = made.fits;
    words = made.words;
  }

  pub went_over : follows t ≡ Over → GoesOn k fits shows c went.Over mid shows_mid w
  went_over e = record {
    answer = t;
    view = w;
    answers = made.answers;
    turned = made.turned;
    next = ap (next_view w) e;
    here = refl;
    fits = made.fits;
    words = made.words;
  }

  -- a change is refused after it, where that can be told
  pub went_refused : (after : Config → View → Type 0) (shows_after : (Name → ℕ) → Type 0) (d : ControllerView) (told : Bool)
      → follows t ≡ OrRefusal → told_to_refuse w ≡ (if told then Some d else None) → (told ≡ false → d ≡ w)
      → (fits k (OfController c) → after k (OfController d))
      → ((words : Name → ℕ) → shows_mid words → shows_after words)
      → GoesOn k fits shows c (if told then went.On else went.Over) after shows_after d
  went_refused after shows_after d true e said same for words = record {
    answer = t;
    view = w;
    answers = made.answers;
    turned = made.turned;
    next = ap (next_view w) e ∙ said;
    here = refl;
    fits = for;
    words = λ ws s. let h = made.words ws s in (h.0, words _ h.1);
  }
  went_refused after shows_after d false e said same for words = record {
    answer = t;
    view = w;
    answers = made.answers;
    turned = made.turned;
    next = ap (next_view w) e ∙ said;
    here = sym (same refl);
    fits = for;
    words = λ ws s. let h = made.words ws s in (h.0, words _ h.1);
  }

-- ---- all turns

-- turns that aren't over, as a loop keeps them
pub record Settling (k : Config) (fitted : Config → View → Type 0) (shown : (Name → ℕ) → Type 0) (c : ControllerView) (n : Config)
    (fits_now : Config → View → Type 0) (shows_now : (Name → ℕ) → Type 0) (d : ControllerView) : Type 0 where
  pub config : n ≡ k
  pub steps : List Made
  pub turns : Turns k c steps d
  pub fits : fitted k (OfController c) → fits_now k (OfController d)
  pub words : ShowsSteps shown steps shows_now

pub settling_first : (k : Config) (fits : Config → View → Type 0) (shows : (Name → ℕ) → Type 0) (c : ControllerView)
    → Settling k fits shows c k fits shows c
settling_first k fits shows c = record { config = refl; steps = []; turns = begin; fits = λ f. f; words = λ words s. (tt, s) }

-- what the last answer found
found_nothing : (k : Config) (c d : ControllerView) (t : Turn) (answers : List ℕ) → Turned k c t d answers
    → next_view d (follows t) ≡ None
    → FoundNothing k c (steps_made k c answers) d
found_nothing k c d (turn.Did a) answers h e = absurd (some_none e)
found_nothing k c d (turn.NotYet pipe entered) answers h e = absurd (some_none e)
found_nothing k c d (turn.NoRoom key) answers h e = h.cause.0
found_nothing k c d (turn.VersionsFull vip) answers h e = h.cause.0
found_nothing k c d turn.Idle answers h e = h.cause.0
found_nothing k c d turn.Memory answers h e = absurd (h.cause)

module _ (k : Config) (fits now after : Config → View → Type 0) (shows shows_now shows_after : (Name → ℕ) → Type 0)
    (c d e : ControllerView) (n m : Config) (settling : Settling k fits shows c n now shows_now d) where
  pub settling_on : WentOn n now shows_now d (Some e) after shows_after e → m ≡ n → Settling k fits shows c m after shows_after e
  settling_on step same = record {
    config = same ∙ settling.config;
    steps = settling.steps ++ steps_made k d went_k.answers;
    turns = more settling.steps d went_k.view e went_k.answer went_k.answers settling.turns went_k.turned went_k.next;
    fits = λ f. went_k.fits (settling.fits f);
    words = shows_more shows shows_now shows_after settling.steps (steps_made k d went_k.answers) settling.words went_k.words;
  }
    where
      went_k : WentOn k now shows_now d (Some e) after shows_after e
      went_k = subst (λ o. WentOn o now shows_now d (Some e) after shows_after e) settling.config step

  ended : (r : Settled) → WentOn k now shows_now d None after shows_after e → r ≡ ending_of (awaited e)
      → (s : List Made) × Ended k c r s e × ShowsSteps shows s shows_after
  ended r went ending = (
    settling.steps ++ steps_made k d went.answers,
    record {
      before = settling.steps;
      view = d;
      answer = went.answer;
      answers = went.answers;
      turns = settling.turns;
      last = last;
      all = refl;
      over = over;
      nothing = found;
      plans = have_no_plan k d found.acts;
      ending = ending;
    },
    shows_more shows shows_now shows_after settling.steps (steps_made k d went.answers) settling.words went.words,
  )
    where
      last : Turned k d went.answer e went.answers
      last = subst (λ v. Turned k d went.answer v went.answers) went.here went.turned

      over : next_view e (follows went.answer) ≡ None
      over = ap (λ v. next_view v (follows went.answer)) (sym went.here) ∙ went.next

      found : FoundNothing k d (steps_made k d went.answers) e
      found = found_nothing k d e went.answer went.answers last over

  so_ended : (o : Option Entry) (s : List Made) → Ended k c (ending_of o) s e → EndsSo k c (ending_of o) s e
  so_ended None s h = h
  so_ended (Some w) s h = h

  pub settling_ends : (r : Settled) → WentOn n now shows_now d None after shows_after e → r ≡ ending_of (awaited e)
      → SettledOn k fits shows c r after shows_after e
  settling_ends r step ending =
      let w = subst (λ o. WentOn o now shows_now d None after shows_after e) settling.config step in
      let h = ended (ending_of (awaited e)) w refl in
      subst (λ x. SettledOn k fits shows c x after shows_after e) (sym ending)
      (record { steps = h.0; ends = so_ended (awaited e) h.0 h.1; fits = λ f. w.fits (settling.fits f); words = h.2 })

  pub settling_stops : GoesOn n now shows_now d went.Nowhere after shows_after e → SettledOn k fits shows c settled.Memory after shows_after e
  settling_stops h =
      let g = subst (λ o. GoesOn o now shows_now d went.Nowhere after shows_after e) settling.config h in
      record {
        steps = settling.steps;
        ends = subst (Turns k c settling.steps) (sym g.0) settling.turns;
        fits = λ f. g.1 (settling.fits f);
        words = λ ws s. let p = settling.words ws s in (p.0, g.2 _ p.1);
      }

pub settling_left : (k : Config) (fits now : Config → View → Type 0) (shows shows_now : (Name → ℕ) → Type 0) (c d : ControllerView) (n : Config)
    → Settling k fits shows c n now shows_now d
    → SettledOn k fits shows c settled.Memory now shows_now d
settling_left k fits now shows shows_now c d n h = record { steps = h.steps; ends = h.turns; fits = h.fits; words = h.words }
