use Rattle.std.proofs.Common.{◌∙◌, ap, map}
use Rattle.sr_base.specs.Layout.{LayoutView}
use Rattle.sr_base.specs.declared.shape.Shape.{Shape}
use Rattle.sr_machine.specs.Config.{Config}
use Rattle.sr_stepped.proofs.OneRound.{round_played, together_told}
use Rattle.sr_stepped.proofs.rounds.play_round.Goals as goal

pub interleave-requires : goal.interleave-requires
interleave-requires c =
    together_told c.args.board.now c.tell.new.board c.args.pipes.now c.args.controller.now c.tell.new.controller c.requires c.tell.ensures.layout
    c.tell.ensures.config

pub returns-clause-played : goal.returns-clause-played
returns-clause-played c =
    round_played c.args.packets.now c.args.round.now c.args.generator c.in_ok-last.last c.args.board.now c.tell.new.board c.interleave.new.board
    c.args.pipes.now c.interleave.new.pipes c.args.controller.now c.tell.new.controller c.interleave.new.controller c.shape.result.now.pipes
    (map (λ v. v.items) c.deref.result.now) c.tell.ensures.told
    (ap (λ (s : Shape). s.pipes) c.shape.ensures ∙ ap (λ (l : LayoutView). l.shape.pipes) c.layout.ensures
    ∙ ap (λ (k : Config). k.layout.shape.pipes) c.config.ensures)
    (ap (map (λ v. v.items)) c.deref.ensures.value ∙ c.in_ok-shares.ensures) c.in_ok-last.ensures.played
