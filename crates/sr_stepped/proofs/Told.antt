-- The time that the controller is told over plain words is the machine's event.
use Rattle.std.proofs.Common.{◌≡◌, ◌∙◌, ℕ, List, false, Some, None, sym, ap, subst, unwrap_or, if◌then◌else◌}
use Rattle.sr_core.specs.HeldCore.{state_of}
use Rattle.sr_core.specs.HeldPipe.{HeldPipe}
use Rattle.sr_core.specs.HeldPipes.{views_of}
use Rattle.sr_core.specs.PlainWords.{HeldWords, ShowsWords}
use Rattle.sr_ctl.specs.SeenController.{SeenController}
use Rattle.sr_interleave.specs.Acting.{EventMade}
use Rattle.sr_interleave.specs.Together.{held}
use Rattle.sr_machine.specs.Boards.{Beside}
use Rattle.sr_machine.specs.Config.{Config}
use Rattle.sr_machine.specs.Core.{Core, told}
use Rattle.sr_machine.specs.Telling.{is_no_earlier, told_time}
use Rattle.sr_machine.specs.declared.event.Event.TheVariants.{Due}
use Rattle.sr_machine.specs.declared.name.Name.{Name}
use Rattle.sr_stepped.specs.Rounds.{ToldOn}

-- a clock that is past the time stays
pub told_past : (ms : ℕ) (board : HeldWords) (c : SeenController) → is_no_earlier c.view.clock ms ≡ false → ToldOn ms board c board c
told_past ms board c past = record {
  told = λ pipes words shows.
      let s : Core = state_of (held board pipes c) words in (
        words,
        shows,
        ap (λ b. unwrap_or (told s (if b then Some (record c.view { clock = Some ms }) else None)) s) past,
      );
}

tells : (ms : ℕ) (board there new : HeldWords) (c d : SeenController) (a b : Beside) → there ≡ board → c.config.layout ≡ board.layout
    → a ≡ b → a.layout ≡ new.layout → b.layout ≡ there.layout → d.config ≡ c.config → told_time ms c.view ≡ Some d.view
    → ((words : Name → ℕ) → ShowsWords there.layout there.words words → ShowsWords new.layout new.words words)
    → (pipes : List HeldPipe) → EventMade (Due ms) (held board pipes c) (held new pipes d)
tells ms board there new c d a b came same e behind before config told_view kept pipes words shows =
    let s : Core = state_of (held board pipes c) words in
    let layout : new.layout ≡ d.config.layout =
    sym behind ∙ ap (λ (x : Beside). x.layout) e ∙ before ∙ ap (λ (w : HeldWords). w.layout) came ∙ sym same
    ∙ ap (λ (k : Config). k.layout) (sym config) in
    let first : ShowsWords there.layout there.words words =
    subst (λ (w : HeldWords). ShowsWords w.layout w.words words) (sym came) (subst (λ l. ShowsWords l board.words words) same shows) in (
      words,
      subst (λ l. ShowsWords l new.words words) layout (kept words first),
      ap (λ o. unwrap_or (told s o) s) told_view
          ∙ ap (λ (k : Config). record { config = k; words = words; pipes = views_of pipes; controller = d.view }) (sym config),
    )

pub told_on : (ms : ℕ) (board there new : HeldWords) (c d : SeenController) (a b : Beside) → there ≡ board → c.config.layout ≡ board.layout
    → a ≡ b → a.layout ≡ new.layout → b.layout ≡ there.layout → d.config ≡ c.config → told_time ms c.view ≡ Some d.view
    → ((words : Name → ℕ) → ShowsWords there.layout there.words words → ShowsWords new.layout new.words words)
    → ToldOn ms board c new d
told_on ms board there new c d a b came same e behind before config view kept =
    record { told = tells ms board there new c d a b came same e behind before config view kept }
