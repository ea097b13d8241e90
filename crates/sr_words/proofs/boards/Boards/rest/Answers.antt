use Rattle.std.proofs.Common.{◌∙◌, [], map, sym, ap}
use Rattle.std.proofs.lemmas.List.{append-nil}
use Rattle.sr_machine.specs.declared.view.View.TheVariants.{OfPipe}
use Rattle.sr_words.proofs.Alone.{known_then}
use Rattle.sr_words.proofs.Joining.{fits_joined}
use Rattle.sr_words.specs.Besides.{all_but_first}
use Rattle.sr_words.proofs.boards.Boards.rest.Goals as goal

pub returns-clause-fits : goal.returns-clause-fits
returns-clause-fits c k y f =
    let board = c.join-board.result in
    fits_joined board.words.now.key c.learn.new.board.words.now.key board.seat.me.0 c.learn.new.board.seat.me.0 board.heard c.learn.new.board.heard []
    c.learn.ensures.key c.learn.ensures.heard (c.learn.ensures.learned.0 ∙ sym (append-nil board.seat.me.0.actors)) k y
    (c.join-board.ensures.fits k y f)

pub returns-clause-known : goal.returns-clause-known
returns-clause-known c views idle k y f =
    let board = c.join-board.result in
    known_then board.words.now.key board.heard board.seat.me.0 c.learn.new.board.seat.me.0 (map OfPipe views) k y c.learn.ensures.learned
    (c.join-board.ensures.fits k y f)
    (λ x rest is. sym (ap all_but_first is) ∙ c.join-board.ensures.pipes views idle)
