use Rattle.std.proofs.Common.{◌∙◌, ap, refl, sym}
use Rattle.sr_core.specs.PlainWords.{HeldWords}
use Rattle.sr_pipe_rows.proofs.OwnBoards.{is_for}
use Rattle.sr_pipe_rows.proofs.scene.stepped_through.Goals as goal

pub enter-requires-clause-board : goal.enter-requires-clause-board
enter-requires-clause-board c =
    is_for c.as_actor-actor.result.board.now.layout c.as_actor-actor.result.actor _ c.number-number.result c.reserve.new.self
    (ap (λ (h : HeldWords). h.layout) c.as_actor-actor.ensures.board ∙ c.requires.board ∙ sym c.requires.pipe ∙ sym c.reserve.ensures.layout)
    refl c.as_actor-actor.ensures.actor (sym c.number-number.ensures)
