use Rattle.std.proofs.Common.{[], refl}
use Rattle.sr_machine.specs.Stages.{looking}
use Rattle.sr_machine.specs.declared.leg.Last.TheVariants as last
use Rattle.sr_machine.specs.declared.leg.Leg.TheVariants.{Judged}
use Rattle.sr_machine.specs.declared.stage.Stage.TheVariants.{Fly}
use Rattle.sr_pipe.proofs.Leading.{for_then, goes_on}
use Rattle.sr_pipe.specs.Choices.{choice_leg, found_leg}
use Rattle.sr_pipe.specs.Known.{known, reported, staged}
use Rattle.sr_pipe.specs.Places.{places_from}
use Rattle.sr_pipe.proofs.deciding.decide.Goals as goal

pub choose-choice-requires-clause-board : goal.choose-choice-requires-clause-board
choose-choice-requires-clause-board g c =
    for_then (known (g.B.Board.fits c.args.board.now) (g.B.Board.shows c.args.board.now) (g.B.Board.beside c.args.board.now) (g.B.Board.rests c.args.board.now)) (known (g.B.Board.fits c.look-found.new.board) (g.B.Board.shows c.look-found.new.board) (g.B.Board.beside c.look-found.new.board) (g.B.Board.rests c.look-found.new.board)) (record { layout = c.args.pipe.now.layout; view = (staged c.args.pipe.now.view (Fly c.args.flight.now (looking c.args.pipe.now.layout c.args.flight.now (places_from c.args.pipe.now.layout c.args.flight.now.packet.key 0)))); room = c.args.pipe.now.room }) (record { layout = c.args.pipe.now.layout; view = (staged c.args.pipe.now.view (Fly c.args.flight.now (found_leg c.args.pipe.now.layout c.args.flight.now [] c.look-found.result))); room = c.args.pipe.now.room }) refl c.look-found.ensures.goes c.requires.board

pub settle-requires-clause-board : goal.settle-requires-clause-board
settle-requires-clause-board g c =
    for_then (known (g.B.Board.fits c.args.board.now) (g.B.Board.shows c.args.board.now) (g.B.Board.beside c.args.board.now) (g.B.Board.rests c.args.board.now)) (known (g.B.Board.fits c.choose-choice.new.board) (g.B.Board.shows c.choose-choice.new.board) (g.B.Board.beside c.choose-choice.new.board) (g.B.Board.rests c.choose-choice.new.board)) (record { layout = c.args.pipe.now.layout; view = (staged c.args.pipe.now.view (Fly c.args.flight.now (looking c.args.pipe.now.layout c.args.flight.now (places_from c.args.pipe.now.layout c.args.flight.now.packet.key 0)))); room = c.args.pipe.now.room }) (record { layout = c.args.pipe.now.layout; view = (staged c.args.pipe.now.view (Fly c.args.flight.now (choice_leg c.choose-choice.result))); room = c.args.pipe.now.room }) refl
    (goes_on c.args.pipe.now.layout (known (g.B.Board.fits c.args.board.now) (g.B.Board.shows c.args.board.now) (g.B.Board.beside c.args.board.now) (g.B.Board.rests c.args.board.now)) (known (g.B.Board.fits c.look-found.new.board) (g.B.Board.shows c.look-found.new.board) (g.B.Board.beside c.look-found.new.board) (g.B.Board.rests c.look-found.new.board)) (known (g.B.Board.fits c.choose-choice.new.board) (g.B.Board.shows c.choose-choice.new.board) (g.B.Board.beside c.choose-choice.new.board) (g.B.Board.rests c.choose-choice.new.board)) (staged c.args.pipe.now.view (Fly c.args.flight.now (looking c.args.pipe.now.layout c.args.flight.now (places_from c.args.pipe.now.layout c.args.flight.now.packet.key 0)))) (staged c.args.pipe.now.view (Fly c.args.flight.now (found_leg c.args.pipe.now.layout c.args.flight.now [] c.look-found.result))) (staged c.args.pipe.now.view (Fly c.args.flight.now (choice_leg c.choose-choice.result))) c.look-found.ensures.goes c.choose-choice.ensures.goes) c.requires.board

pub returns : goal.returns
returns g c =
    goes_on c.args.pipe.now.layout (known (g.B.Board.fits c.args.board.now) (g.B.Board.shows c.args.board.now) (g.B.Board.beside c.args.board.now) (g.B.Board.rests c.args.board.now)) (known (g.B.Board.fits c.choose-choice.new.board) (g.B.Board.shows c.choose-choice.new.board) (g.B.Board.beside c.choose-choice.new.board) (g.B.Board.rests c.choose-choice.new.board)) (known (g.B.Board.fits c.settle.new.board) (g.B.Board.shows c.settle.new.board) (g.B.Board.beside c.settle.new.board) (g.B.Board.rests c.settle.new.board)) (staged c.args.pipe.now.view (Fly c.args.flight.now (looking c.args.pipe.now.layout c.args.flight.now (places_from c.args.pipe.now.layout c.args.flight.now.packet.key 0)))) (staged c.args.pipe.now.view (Fly c.args.flight.now (choice_leg c.choose-choice.result))) (reported c.args.pipe.now.view c.settle.result.stored (Fly c.args.flight.now (Judged c.settle.result.verdict last.Out)))
    (goes_on c.args.pipe.now.layout (known (g.B.Board.fits c.args.board.now) (g.B.Board.shows c.args.board.now) (g.B.Board.beside c.args.board.now) (g.B.Board.rests c.args.board.now)) (known (g.B.Board.fits c.look-found.new.board) (g.B.Board.shows c.look-found.new.board) (g.B.Board.beside c.look-found.new.board) (g.B.Board.rests c.look-found.new.board)) (known (g.B.Board.fits c.choose-choice.new.board) (g.B.Board.shows c.choose-choice.new.board) (g.B.Board.beside c.choose-choice.new.board) (g.B.Board.rests c.choose-choice.new.board)) (staged c.args.pipe.now.view (Fly c.args.flight.now (looking c.args.pipe.now.layout c.args.flight.now (places_from c.args.pipe.now.layout c.args.flight.now.packet.key 0)))) (staged c.args.pipe.now.view (Fly c.args.flight.now (found_leg c.args.pipe.now.layout c.args.flight.now [] c.look-found.result))) (staged c.args.pipe.now.view (Fly c.args.flight.now (choice_leg c.choose-choice.result))) c.look-found.ensures.goes c.choose-choice.ensures.goes) c.settle.ensures
