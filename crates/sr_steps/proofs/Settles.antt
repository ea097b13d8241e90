-- The turns after the last round, one after another.
use Rattle.std.proofs.Common.{◌≡◌, ◌∙◌, ℕ, suc, ◌+◌, Option, None, Some, Bool, true, false, refl, sym, ap, subst, option_and_then, arith}
use Rattle.sr_core.specs.HeldCore.{HeldCore, Shows, StepsTo, state_of}
use Rattle.sr_core.specs.PlainWords.{ShowsWords}
use Rattle.sr_machine.specs.Core.{Core}
use Rattle.sr_machine.specs.Settling.{More, OrRefusal, Settles, awaited, ending_of, follows, on_or, refused, settled_in}
use Rattle.sr_machine.specs.Turning.{most_steps, turned}
use Rattle.sr_machine.specs.declared.name.Name.{Name}
use Rattle.sr_machine.specs.declared.settled.Settled.{Settled}
use Rattle.sr_machine.specs.declared.stepped.Stepped.TheVariants.{Made, NotNow}
use Rattle.sr_machine.specs.declared.turn.Turn.{Turn}
use Rattle.sr_picks.proofs.Turns.{is_turn}
use Rattle.sr_steps.specs.Standing.{RefusedTo, RefusesTo, TurnMade}

-- how the turns from a state end is how they end from what is held
abbrev pub LeadsTo : Core → HeldCore → Type 0
LeadsTo s h = (m : ℕ) × (now : Name → ℕ) × ShowsWords h.config.layout h.words now
    × ((n : ℕ) (r : Settled) (t : Core) → settled_in n (state_of h now) ≡ Some (r, t) → settled_in (m + n) s ≡ Some (r, t))

module _ (s : Core) (h mid new : HeldCore) (a : Turn) (leads : LeadsTo s h) (turn : TurnMade (Some a) h mid) where
  turned_is : turned (state_of h leads.1) ≡ Some (a, state_of mid (turn leads.1 leads.2).1.0)
  turned_is =
      let made = turn leads.1 leads.2 in
      is_turn (most_steps h.config.layout) (state_of h leads.1) a made.0 ∙ ap (λ t. Some (a, t)) made.1.2

  pub settles_on : RefusedTo false a mid new → LeadsTo s new
  settles_on told =
      let made = turn leads.1 leads.2 in
      let there = told made.1.0 made.1.1 in (
        leads.0 + 1,
        there.2.0,
        there.2.1,
        λ n r t e.
            let more : leads.0 + suc n ≡ leads.0 + 1 + n = omega arith in
            let goes : settled_in (suc n) (state_of h leads.1) ≡ Some (r, t) =
            ap (option_and_then (λ p. on_or p.1 (settled_in n) (refused p.1 (follows p.0)))) turned_is
            ∙ ap (on_or (state_of mid made.1.0) (settled_in n)) there.1
            ∙ ap (settled_in n) there.2.2 ∙ e in
            subst (λ k. settled_in k s ≡ Some (r, t)) more (leads.3 (suc n) r t goes),
      )

  pub settles_here : RefusedTo true a mid new → (r : Settled) → r ≡ ending_of (awaited new.controller)
      → (t : Core) × Settles s r t × Shows new t
  settles_here told r is =
      let made = turn leads.1 leads.2 in
      let there = told made.1.0 made.1.1 in
      let same : state_of mid made.1.0 ≡ state_of new there.1.0 = there.1.2 in
      let goes : settled_in 1 (state_of h leads.1) ≡ Some (r, state_of mid made.1.0) =
      ap (option_and_then (λ p. on_or p.1 (settled_in 0) (refused p.1 (follows p.0)))) turned_is
      ∙ ap (on_or (state_of mid made.1.0) (settled_in 0)) there.0
      ∙ ap (λ x. Some (ending_of (awaited x.controller), state_of mid made.1.0)) same
      ∙ ap (λ x. Some (x, state_of mid made.1.0)) (sym is) in
      (state_of mid made.1.0, (leads.0 + 1, leads.3 1 r (state_of mid made.1.0) goes), there.1)

-- ---- a refusal

pub refusal_made : (o : Option Core) (old new : HeldCore) → StepsTo Made o old new → (u : Core) × (o ≡ Some u) × Shows new u
refusal_made None old new h = absurd h
refusal_made (Some t) old new h = (t, refl, h)

pub refusal_missed : (o : Option Core) (old new : HeldCore) (words : Name → ℕ) → ShowsWords old.config.layout old.words words
    → StepsTo NotNow o old new → (o ≡ None) × Shows new (state_of old words)
refusal_missed None old new words shows h = (refl, subst (λ n. Shows n (state_of old words)) (sym h) (words, shows, refl))
refusal_missed (Some t) old new words shows h = absurd h

pub refused_by : (over : Bool) (a : Turn) (old new : HeldCore) → follows a ≡ OrRefusal → RefusesTo over old new → RefusedTo over a old new
refused_by true a old new e h = λ words shows.
    let there = h words shows in (ap (refused (state_of old words)) e ∙ there.0, there.1)
refused_by false a old new e h = λ words shows.
    let there = h words shows in (there.0, ap (refused (state_of old words)) e ∙ there.1, there.2)

-- a turn that did something is followed by the next
pub not_refused : (a : Turn) (h : HeldCore) → follows a ≡ More → RefusedTo false a h h
not_refused a h e words shows = (state_of h words, ap (refused (state_of h words)) e, (words, shows, refl))
