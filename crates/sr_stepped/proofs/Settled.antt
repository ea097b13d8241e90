-- The turns after the last round, over plain words, are the machine's.
use Rattle.std.proofs.Common.{◌≡◌, ◌∙◌, ℕ, List, Option, Some, None, sym, ap, subst}
use Rattle.sr_base.specs.Key.{KeyView}
use Rattle.sr_core.specs.HeldCore.{state_of}
use Rattle.sr_core.specs.HeldPipe.{HeldPipe}
use Rattle.sr_core.specs.Making.{words_after}
use Rattle.sr_core.specs.PlainWords.{HeldWords, ShowsWords}
use Rattle.sr_ctl.specs.Laws.{SettlesAsMachine, stepped_to}
use Rattle.sr_ctl.specs.SeenController.{SeenController}
use Rattle.sr_ctl.specs.Settles.{SettledOn}
use Rattle.sr_interleave.specs.Together.{held}
use Rattle.sr_machine.specs.Boards.{Beside}
use Rattle.sr_machine.specs.Config.{Config}
use Rattle.sr_machine.specs.Core.{Core}
use Rattle.sr_machine.specs.declared.settled.Settled.{Settled}
use Rattle.sr_machine.specs.declared.settled.Settled.TheVariants as settled
use Rattle.sr_machine.specs.declared.view.View.{View}
use Rattle.sr_scripted.specs.Played.{settled_for}
use Rattle.sr_steps.specs.Standing.{SettlesTo}
use Rattle.sr_stepped.specs.Settling.{SettledOver}

settles_to : (r : Settled) (board new : HeldWords) (c d : SeenController) (fits after : Config → View → Type 0) → (r ≡ settled.Memory → ⊥)
    → SettlesAsMachine → c.config.layout ≡ board.layout → new.layout ≡ board.layout → d.config ≡ c.config
    → SettledOn c.config fits (ShowsWords board.layout board.words) c.view r after (ShowsWords new.layout new.words) d.view
    → (pipes : List HeldPipe) → SettlesTo r (held board pipes c) (held new pipes d)
settles_to r board new c d fits after some law same kept config h pipes words shows =
    let s : Core = state_of (held board pipes c) words in
    let found = h.words words (subst (λ l. ShowsWords l board.words words) same shows) in (
      stepped_to s h.steps d.view,
      law s r h.steps d.view some h.ends found.0,
      (
        words_after words h.steps,
        subst (λ l. ShowsWords l new.words (words_after words h.steps)) (kept ∙ sym same ∙ ap (λ (k : Config). k.layout) (sym config)) found.1,
        ap (λ (k : Config). state_of (record (held new pipes d) { config = k }) (words_after words h.steps)) (sym config),
      ),
    )

-- the same, where the actor has the board
pub settled_on : (r : Settled) (board there new : HeldWords) (c d : SeenController) (fits after : Config → View → Type 0) (a b : Beside)
    → SettlesAsMachine → c.config.layout ≡ board.layout → there ≡ board → a ≡ b → a.layout ≡ new.layout → b.layout ≡ there.layout
    → d.config ≡ c.config
    → SettledOn c.config fits (ShowsWords there.layout there.words) c.view r after (ShowsWords new.layout new.words) d.view
    → SettledOver r board c new d
settled_on r board there new c d fits after a b law same came e behind before config h =
    let kept = sym behind ∙ ap (λ (x : Beside). x.layout) e ∙ before ∙ ap (λ (w : HeldWords). w.layout) came in record {
      turns = λ some.
          settles_to r board new c d fits after some law same kept config
          (subst (λ (w : HeldWords). SettledOn c.config fits (ShowsWords w.layout w.words) c.view r after (ShowsWords new.layout new.words) d.view)
          came h);
    }

not_memory : (o : Option KeyView) → settled_for o ≡ settled.Memory → ⊥
not_memory None e = cc
not_memory (Some key) e = cc

-- turns that ended so that a key is waited for, or none
pub settled_so : (r : Settled) (awaited : Option KeyView) (board new : HeldWords) (c d : SeenController) → r ≡ settled_for awaited
    → SettledOver r board c new d → (pipes : List HeldPipe) → SettlesTo (settled_for awaited) (held board pipes c) (held new pipes d)
settled_so r awaited board new c d e h =
    let there : SettledOver (settled_for awaited) board c new d = subst (λ (z : Settled). SettledOver z board c new d) e h in
    there.turns (not_memory awaited)
