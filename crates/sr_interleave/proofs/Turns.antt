-- A turn on the plain words is the machine's turn.
use Rattle.std.proofs.Common.{◌≡◌, ◌∙◌, Bool, List, Option, Some, None, option_map, sym, ap, subst}
use Rattle.std.proofs.lemmas.Option.{same_Some}
use Rattle.sr_core.specs.HeldCore.{Shows, state_of}
use Rattle.sr_core.specs.HeldPipe.{HeldPipe}
use Rattle.sr_core.specs.Making.{words_after}
use Rattle.sr_core.specs.PlainWords.{HeldWords, ShowsWords}
use Rattle.sr_ctl.specs.Laws.{TurnsAsMachine, stepped_to}
use Rattle.sr_ctl.specs.SeenController.{SeenController}
use Rattle.sr_ctl.specs.Steps.{steps_made}
use Rattle.sr_ctl.specs.Turned.{TurnedOn}
use Rattle.sr_interleave.specs.Acting.{TurnMade, TurnMadeOn}
use Rattle.sr_interleave.specs.Together.{held}
use Rattle.sr_machine.specs.Boards.{Beside}
use Rattle.sr_machine.specs.Config.{Config}
use Rattle.sr_machine.specs.Core.{Core}
use Rattle.sr_machine.specs.Turning.{most_steps, turned}
use Rattle.sr_machine.specs.declared.turn.Turn.{Turn}
use Rattle.sr_machine.specs.declared.view.View.{View}
use Rattle.sr_picks.proofs.Turns.{turns_as}
use Rattle.sr_picks.specs.Play.{finds_nothing}
use Rattle.sr_picks.specs.Turn.{turn_of}

ended : (o : Option Turn) (s u : Core) (t : Turn) → option_map {U = Turn × Core} (λ a. (a, s)) o ≡ Some (t, u) → (o ≡ Some t) × (s ≡ u)
ended None s u t e = cc
ended (Some a) s u t e =
    let same : (a, s) ≡ (t, u) = same_Some (a, s) (t, u) e in
    (ap (λ (p : Turn × Core). Some p.0) same, ap (λ (p : Turn × Core). p.1) same)

-- the machine's turn, step by step
turn_is : (s u : Core) (t : Turn) → turned s ≡ Some (t, u) → ((turn_of s).answer ≡ Some t) × ((turn_of s).state ≡ u)
turn_is s u t e = ended (turn_of s).answer (turn_of s).state u t (turns_as (most_steps s.config.layout) s ∙ e)

turn_made : (t : Turn) (nothing : Bool) (board new : HeldWords) (c d : SeenController) (fits after : Config → View → Type 0)
    → TurnsAsMachine → c.config.layout ≡ board.layout → new.layout ≡ board.layout → d.config ≡ c.config
    → nothing ≡ finds_nothing (Some t)
    → TurnedOn c.config fits (ShowsWords board.layout board.words) c.view t after (ShowsWords new.layout new.words) d.view
    → TurnMadeOn nothing board c new d
turn_made t nothing board new c d fits after law same kept config is h = record { answer = t; found = is; turn = made }
  where
    made : (ps : List HeldPipe) → TurnMade (Some t) (held board ps c) (held new ps d)
    made ps words shows =
        let s : Core = state_of (held board ps c) words in
        let found = h.words words (subst (λ l. ShowsWords l board.words words) same shows) in
        let steps = steps_made c.config c.view h.answers in
        let e = turn_is s (stepped_to s steps d.view) t (law s t d.view h.answers h.turned found.0) in (
          e.0,
          subst (Shows (held new ps d)) (sym e.1) (
            words_after words steps,
            subst (λ l. ShowsWords l new.words (words_after words steps)) (kept ∙ sym same ∙ ap (λ (k : Config). k.layout) (sym config)) found.1,
            ap (λ (k : Config). state_of (record (held new ps d) { config = k }) (words_after words steps)) (sym config),
          ),
        )

-- the same, where the actor has the board
pub turn_on : (t : Turn) (nothing : Bool) (board there new : HeldWords) (c d : SeenController) (fits after : Config → View → Type 0) (a b : Beside)
    → TurnsAsMachine → c.config.layout ≡ board.layout → there ≡ board → a ≡ b → a.layout ≡ new.layout → b.layout ≡ there.layout
    → d.config ≡ c.config → nothing ≡ finds_nothing (Some t)
    → TurnedOn c.config fits (ShowsWords there.layout there.words) c.view t after (ShowsWords new.layout new.words) d.view
    → TurnMadeOn nothing board c new d
turn_on t nothing board there new c d fits after a b law same came e behind before config is h =
    turn_made t nothing board new c d fits after law same
    (sym behind ∙ ap (λ (x : Beside). x.layout) e ∙ before ∙ ap (λ (w : HeldWords). w.layout) came) config is
    (subst (λ (w : HeldWords). TurnedOn c.config fits (ShowsWords w.layout w.words) c.view t after (ShowsWords new.layout new.words) d.view) came h)
