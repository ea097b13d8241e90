use Rattle.sr_machine.specs.Stages.{looking}
use Rattle.sr_machine.specs.declared.stage.Stage.TheVariants.{Enter, Fly, Note, Vip}
use Rattle.sr_pipe.proofs.Leading.{goes_on}
use Rattle.sr_pipe.specs.Known.{known, staged}
use Rattle.sr_pipe.specs.Places.{places_from}
use Rattle.sr_pipe.proofs.passing.begin.Goals as goal

pub returns-clause-goes : goal.returns-clause-goes
returns-clause-goes g c =
    goes_on c.args.pipe.now.layout (known (g.B.Board.fits c.args.board.now) (g.B.Board.shows c.args.board.now) (g.B.Board.beside c.args.board.now) (g.B.Board.rests c.args.board.now)) (known (g.B.Board.fits c.raise_note.new.board) (g.B.Board.shows c.raise_note.new.board) (g.B.Board.beside c.raise_note.new.board) (g.B.Board.rests c.raise_note.new.board)) (known (g.B.Board.fits c.load_vip.new.board) (g.B.Board.shows c.load_vip.new.board) (g.B.Board.beside c.load_vip.new.board) (g.B.Board.rests c.load_vip.new.board)) (staged c.args.pipe.now.view (Enter c.args.packet.now)) (staged c.args.pipe.now.view (Vip c.args.packet.now c.draw_entry-entered.result)) (staged c.args.pipe.now.view (Fly c.load_vip.result (looking c.args.pipe.now.layout c.load_vip.result (places_from c.args.pipe.now.layout c.load_vip.result.packet.key 0))))
    (goes_on c.args.pipe.now.layout (known (g.B.Board.fits c.args.board.now) (g.B.Board.shows c.args.board.now) (g.B.Board.beside c.args.board.now) (g.B.Board.rests c.args.board.now)) (known (g.B.Board.fits c.draw_entry-entered.new.board) (g.B.Board.shows c.draw_entry-entered.new.board) (g.B.Board.beside c.draw_entry-entered.new.board) (g.B.Board.rests c.draw_entry-entered.new.board)) (known (g.B.Board.fits c.raise_note.new.board) (g.B.Board.shows c.raise_note.new.board) (g.B.Board.beside c.raise_note.new.board) (g.B.Board.rests c.raise_note.new.board)) (staged c.args.pipe.now.view (Enter c.args.packet.now)) (staged c.args.pipe.now.view (Note c.args.packet.now c.draw_entry-entered.result)) (staged c.args.pipe.now.view (Vip c.args.packet.now c.draw_entry-entered.result)) c.draw_entry-entered.ensures c.raise_note.ensures) c.load_vip.ensures.goes
