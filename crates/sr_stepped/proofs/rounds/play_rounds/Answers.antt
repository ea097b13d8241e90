use Rattle.std.proofs.Common.{◌∙◌, refl}
use Rattle.sr_core.specs.HeldCore.{state_of}
use Rattle.sr_interleave.specs.Together.{held}
use Rattle.sr_steps.proofs.Runs.{leads_from, leads_next}
use Rattle.sr_stepped.proofs.rounds.play_rounds.Goals as goal

pub loop-round-init : goal.loop-round-init
loop-round-init c = (
  c.requires,
  refl,
  λ words shows.
      leads_from c.args.packets.now c.args.rounds.now c.args.seed (held c.args.board.now c.args.pipes.now c.args.controller.now) words shows,
)

pub loop-round-preserved : goal.loop-round-preserved
loop-round-preserved c = (
  c.play_round.ensures.together,
  c.play_round.ensures.config ∙ c.loop-round.invariant.1,
  λ words shows.
      leads_next c.args.packets.now c.args.rounds.now c.args.seed
      (state_of (held c.args.board.now c.args.pipes.now c.args.controller.now) words) c.loop-round.round-index _
      c.loop-round.generator c.in_ok-generator.generator (held c.loop-round.board c.loop-round.pipes c.loop-round.controller)
      (held c.play_round.new.board c.play_round.new.pipes c.play_round.new.controller) c.loop-round-test.true
      (c.loop-round.invariant.2 words shows) c.in_ok-generator.ensures.played,
)
