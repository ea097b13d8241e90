-- The steps of the parts follow one another, from the packet's entry to the note that is cleared.
use Rattle.std.proofs.Common.{◌≡◌, ◌∙◌, ℕ, ◌++◌, [], ◌∷◌, sym, ap, subst}
use Rattle.sr_law.specs.declared.line.Line.{Line}
use Rattle.sr_machine.specs.Pipe.{is_idle, packet_line}
use Rattle.sr_machine.specs.Stages.{looking}
use Rattle.sr_machine.specs.declared.leg.Last.TheVariants as last
use Rattle.sr_machine.specs.declared.leg.Leg.TheVariants.{Judged}
use Rattle.sr_machine.specs.declared.pipe_view.PipeView.{PipeView}
use Rattle.sr_machine.specs.declared.stage.Stage.TheVariants.{Fly}
use Rattle.sr_pipe.proofs.Endings.{handled}
use Rattle.sr_pipe.proofs.Leading.{goes_on}
use Rattle.sr_pipe.proofs.Lining.{left_is}
use Rattle.sr_pipe.specs.Handling.{with_packet}
use Rattle.sr_pipe.specs.Known.{Goes, known, left, reported, staged}
use Rattle.sr_pipe.specs.Places.{places_from}
use Rattle.sr_pipe.proofs.pipe.handle_on.Goals as goal

pub returns-clause-handled : goal.returns-clause-handled
returns-clause-handled g c =
    let is_left : c.handled.new.self.view ≡ (left c.args.pipe.now.view c.decide-decided.result.stored (packet_line c.args.pipe.now.view.number c.begin-flight.result c.decide-decided.result.verdict c.leave-out.result)) = (left_is c.args.pipe.now.view c.handled.new.self.view c.decide-decided.result.stored (packet_line c.args.pipe.now.view.number c.begin-flight.result c.decide-decided.result.verdict c.leave-out.result) c.requires.idle c.handled.ensures.view) in
    let is_line : c.packet_line.result ≡ (packet_line c.args.pipe.now.view.number c.begin-flight.result c.decide-decided.result.verdict c.leave-out.result) =
    c.packet_line.ensures ∙ ap (λ (n : ℕ). packet_line n c.begin-flight.result c.decide-decided.result.verdict c.leave-out.result) c.number-number.ensures.value in
    handled c.packets_end.ensures c.args.pipe.now.layout c.args.packet
    (known (g.B.Board.fits c.args.board.now) (g.B.Board.shows c.args.board.now) (g.B.Board.beside c.args.board.now) (g.B.Board.rests c.args.board.now))
    (known (g.B.Board.fits c.tell.new.board) (g.B.Board.shows c.tell.new.board) (g.B.Board.beside c.tell.new.board) (g.B.Board.rests c.tell.new.board))
    (known (g.B.Board.fits c.leave-out.new.board) (g.B.Board.shows c.leave-out.new.board) (g.B.Board.beside c.leave-out.new.board) (g.B.Board.rests c.leave-out.new.board)) c.args.pipe.now.view c.handled.new.self.view c.packet_line.result
    c.tell.ensures.fits c.tell.ensures.words
    (subst
    (λ (w : PipeView). Goes c.args.pipe.now.layout (known (g.B.Board.fits c.tell.new.board) (g.B.Board.shows c.tell.new.board) (g.B.Board.beside c.tell.new.board) (g.B.Board.rests c.tell.new.board)) (with_packet c.args.packet c.args.pipe.now.view)
    (known (g.B.Board.fits c.leave-out.new.board) (g.B.Board.shows c.leave-out.new.board) (g.B.Board.beside c.leave-out.new.board) (g.B.Board.rests c.leave-out.new.board)) w)
    (sym is_left)
    (goes_on c.args.pipe.now.layout (known (g.B.Board.fits c.tell.new.board) (g.B.Board.shows c.tell.new.board) (g.B.Board.beside c.tell.new.board) (g.B.Board.rests c.tell.new.board)) (known (g.B.Board.fits c.decide-decided.new.board) (g.B.Board.shows c.decide-decided.new.board) (g.B.Board.beside c.decide-decided.new.board) (g.B.Board.rests c.decide-decided.new.board)) (known (g.B.Board.fits c.leave-out.new.board) (g.B.Board.shows c.leave-out.new.board) (g.B.Board.beside c.leave-out.new.board) (g.B.Board.rests c.leave-out.new.board))
    (with_packet c.args.packet c.args.pipe.now.view) (reported c.args.pipe.now.view c.decide-decided.result.stored (Fly c.begin-flight.result (Judged c.decide-decided.result.verdict last.Out))) (left c.args.pipe.now.view c.decide-decided.result.stored (packet_line c.args.pipe.now.view.number c.begin-flight.result c.decide-decided.result.verdict c.leave-out.result))
    (goes_on c.args.pipe.now.layout (known (g.B.Board.fits c.tell.new.board) (g.B.Board.shows c.tell.new.board) (g.B.Board.beside c.tell.new.board) (g.B.Board.rests c.tell.new.board)) (known (g.B.Board.fits c.begin-flight.new.board) (g.B.Board.shows c.begin-flight.new.board) (g.B.Board.beside c.begin-flight.new.board) (g.B.Board.rests c.begin-flight.new.board)) (known (g.B.Board.fits c.decide-decided.new.board) (g.B.Board.shows c.decide-decided.new.board) (g.B.Board.beside c.decide-decided.new.board) (g.B.Board.rests c.decide-decided.new.board))
    (with_packet c.args.packet c.args.pipe.now.view) (staged c.args.pipe.now.view (Fly c.begin-flight.result (looking c.args.pipe.now.layout c.begin-flight.result (places_from c.args.pipe.now.layout c.begin-flight.result.packet.key 0)))) (reported c.args.pipe.now.view c.decide-decided.result.stored (Fly c.begin-flight.result (Judged c.decide-decided.result.verdict last.Out))) c.begin-flight.ensures.goes c.decide-decided.ensures)
    c.leave-out.ensures))
    (ap (λ (w : PipeView). is_idle w.stage) is_left)
    (ap (λ (w : PipeView). w.lines) is_left ∙ ap (λ (x : Line). c.args.pipe.now.view.lines ++ x ∷ []) (sym is_line))
