-- A round over plain words, from its time to its last pick.
use Rattle.std.proofs.Common.{◌≡◌, ◌∙◌, ℕ, List, sym, ap, subst}
use Rattle.sr_base.specs.declared.packet.Packet.{Packet}
use Rattle.sr_core.specs.HeldCore.{state_of}
use Rattle.sr_core.specs.HeldPipe.{HeldPipe}
use Rattle.sr_core.specs.PlainWords.{HeldWords}
use Rattle.sr_ctl.specs.SeenController.{SeenController}
use Rattle.sr_interleave.proofs.Pipes.{on_same}
use Rattle.sr_interleave.specs.Interleaving.{Interleaves, begun}
use Rattle.sr_interleave.specs.Standing.{play_of}
use Rattle.sr_interleave.specs.Together.{AreTogether, held}
use Rattle.sr_machine.specs.Config.{Config}
use Rattle.sr_machine.specs.declared.event.Event.TheVariants.{Due}
use Rattle.sr_picks.specs.Play.{PlaysTo}
use Rattle.sr_picks.specs.Run.{packets_in, round_begun, shares_of}
use Rattle.sr_picks.specs.Turn.{after}
use Rattle.sr_rounds.specs.declared.round.Round.{Round}
use Rattle.sr_rounds.specs.declared.timed.Timed.{Timed}
use Rattle.sr_steps.specs.Running.{PlaysRound}
use Rattle.sr_stepped.specs.Rounds.{ToldOn}

-- the pipes and the controller are still on the words that told the time
pub together_told : (board mid : HeldWords) (ps : List HeldPipe) (c m : SeenController) → AreTogether board ps c → mid.layout ≡ board.layout
    → m.config ≡ c.config → AreTogether mid ps m
together_told board mid ps c m h same config = record {
  on = on_same board mid ps h.on same;
  controller = ap (λ (k : Config). k.layout) config ∙ h.controller ∙ sym same;
}

pub round_played : (packets : List Timed) (r : Round) (x y : ℕ) (board mid new : HeldWords) (ps qs : List HeldPipe) (c m d : SeenController)
    (pipes : ℕ) (shares : List (List Packet)) → ToldOn r.start_ms board c mid m → pipes ≡ c.config.layout.shape.pipes
    → shares ≡ shares_of pipes (packets_in packets r) → Interleaves (held mid ps m) shares x (held new qs d) y
    → PlaysRound packets r x y (held board ps c) (held new qs d)
round_played packets r x y board mid new ps qs c m d pipes shares told many shared plays words shows =
    let made = told.told ps words shows in
    let played = plays made.0 made.1 in
    let begins : play_of (held mid ps m) made.0 (begun shares x) ≡ round_begun packets r x (state_of (held board ps c) words) =
    ap (λ s. record { state = s; shares = shares; turns = 0; waits = 0; generator = x }) (sym made.2)
    ∙ ap (λ ss. record { state = after (Due r.start_ms) (state_of (held board ps c) words); shares = ss; turns = 0; waits = 0; generator = x })
    (shared ∙ ap (λ n. shares_of n (packets_in packets r)) many) in
    (played.0, subst (λ p. PlaysTo p played.0) begins played.1, played.2, played.3)
