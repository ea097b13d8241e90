use Rattle.std.proofs.Common.{◌∙◌, Bool, sym, ap, if◌then◌else◌}
use Rattle.sr_machine.specs.Stages.{key_bits, marking, is_recorded}
use Rattle.sr_machine.specs.declared.leg.Last.TheVariants as last
use Rattle.sr_machine.specs.declared.leg.Leg.TheVariants.{Judged}
use Rattle.sr_machine.specs.declared.stage.Stage.TheVariants.{Fly}
use Rattle.sr_pipe.proofs.Leading.{goes_nowhere}
use Rattle.sr_pipe.proofs.Legs.{for_leg, leg_on}
use Rattle.sr_pipe.specs.Known.{known, staged}
use Rattle.sr_pipe.proofs.reporting.record.Goals as goal

pub mark-requires : goal.mark-requires
mark-requires g c =
    for_leg c.args.pipe.now.layout c.args.flight.now (Judged c.args.verdict.now (if is_recorded c.args.flight.now c.args.verdict.now then marking (key_bits c.args.pipe.now.layout c.args.flight.now.packet.key) else last.Push)) (Judged c.args.verdict.now (marking (key_bits c.args.pipe.now.layout c.args.flight.now.packet.key)))
    (ap (λ (b : Bool). Judged c.args.verdict.now (if b then marking (key_bits c.args.pipe.now.layout c.args.flight.now.packet.key) else last.Push)) (sym c.is_recorded.ensures ∙ c.if-is_recorded.true)) (known (g.B.Board.fits c.args.board.now) (g.B.Board.shows c.args.board.now) (g.B.Board.beside c.args.board.now) (g.B.Board.rests c.args.board.now)) (known (g.B.Board.fits c.args.board.now) (g.B.Board.shows c.args.board.now) (g.B.Board.beside c.args.board.now) (g.B.Board.rests c.args.board.now)) c.args.pipe.now.view (staged c.args.pipe.now.view (Fly c.args.flight.now (Judged c.args.verdict.now (if is_recorded c.args.flight.now c.args.verdict.now then marking (key_bits c.args.pipe.now.layout c.args.flight.now.packet.key) else last.Push)))) c.args.pipe.now.room (goes_nowhere c.args.pipe.now.layout (known (g.B.Board.fits c.args.board.now) (g.B.Board.shows c.args.board.now) (g.B.Board.beside c.args.board.now) (g.B.Board.rests c.args.board.now)) (staged c.args.pipe.now.view (Fly c.args.flight.now (Judged c.args.verdict.now (if is_recorded c.args.flight.now c.args.verdict.now then marking (key_bits c.args.pipe.now.layout c.args.flight.now.packet.key) else last.Push))))) c.requires

pub returns-then-is_recorded : goal.returns-then-is_recorded
returns-then-is_recorded g c =
    leg_on c.args.pipe.now.layout c.args.flight.now (Judged c.args.verdict.now (if is_recorded c.args.flight.now c.args.verdict.now then marking (key_bits c.args.pipe.now.layout c.args.flight.now.packet.key) else last.Push)) (Judged c.args.verdict.now (marking (key_bits c.args.pipe.now.layout c.args.flight.now.packet.key)))
    (ap (λ (b : Bool). Judged c.args.verdict.now (if b then marking (key_bits c.args.pipe.now.layout c.args.flight.now.packet.key) else last.Push)) (sym c.is_recorded.ensures ∙ c.if-is_recorded.true)) (known (g.B.Board.fits c.args.board.now) (g.B.Board.shows c.args.board.now) (g.B.Board.beside c.args.board.now) (g.B.Board.rests c.args.board.now)) (known (g.B.Board.fits c.args.board.now) (g.B.Board.shows c.args.board.now) (g.B.Board.beside c.args.board.now) (g.B.Board.rests c.args.board.now)) (known (g.B.Board.fits c.mark.new.board) (g.B.Board.shows c.mark.new.board) (g.B.Board.beside c.mark.new.board) (g.B.Board.rests c.mark.new.board)) c.args.pipe.now.view (staged c.args.pipe.now.view (Fly c.args.flight.now (Judged c.args.verdict.now (if is_recorded c.args.flight.now c.args.verdict.now then marking (key_bits c.args.pipe.now.layout c.args.flight.now.packet.key) else last.Push)))) (staged c.args.pipe.now.view (Fly c.args.flight.now (Judged c.args.verdict.now last.Push))) (goes_nowhere c.args.pipe.now.layout (known (g.B.Board.fits c.args.board.now) (g.B.Board.shows c.args.board.now) (g.B.Board.beside c.args.board.now) (g.B.Board.rests c.args.board.now)) (staged c.args.pipe.now.view (Fly c.args.flight.now (Judged c.args.verdict.now (if is_recorded c.args.flight.now c.args.verdict.now then marking (key_bits c.args.pipe.now.layout c.args.flight.now.packet.key) else last.Push))))) c.mark.ensures

pub returns-else-is_recorded : goal.returns-else-is_recorded
returns-else-is_recorded g c =
    leg_on c.args.pipe.now.layout c.args.flight.now (Judged c.args.verdict.now (if is_recorded c.args.flight.now c.args.verdict.now then marking (key_bits c.args.pipe.now.layout c.args.flight.now.packet.key) else last.Push)) (Judged c.args.verdict.now last.Push)
    (ap (λ (b : Bool). Judged c.args.verdict.now (if b then marking (key_bits c.args.pipe.now.layout c.args.flight.now.packet.key) else last.Push)) (sym c.is_recorded.ensures ∙ c.if-is_recorded.false)) (known (g.B.Board.fits c.args.board.now) (g.B.Board.shows c.args.board.now) (g.B.Board.beside c.args.board.now) (g.B.Board.rests c.args.board.now)) (known (g.B.Board.fits c.args.board.now) (g.B.Board.shows c.args.board.now) (g.B.Board.beside c.args.board.now) (g.B.Board.rests c.args.board.now)) (known (g.B.Board.fits c.args.board.now) (g.B.Board.shows c.args.board.now) (g.B.Board.beside c.args.board.now) (g.B.Board.rests c.args.board.now)) c.args.pipe.now.view (staged c.args.pipe.now.view (Fly c.args.flight.now (Judged c.args.verdict.now (if is_recorded c.args.flight.now c.args.verdict.now then marking (key_bits c.args.pipe.now.layout c.args.flight.now.packet.key) else last.Push)))) (staged c.args.pipe.now.view (Fly c.args.flight.now (Judged c.args.verdict.now last.Push))) (goes_nowhere c.args.pipe.now.layout (known (g.B.Board.fits c.args.board.now) (g.B.Board.shows c.args.board.now) (g.B.Board.beside c.args.board.now) (g.B.Board.rests c.args.board.now)) (staged c.args.pipe.now.view (Fly c.args.flight.now (Judged c.args.verdict.now (if is_recorded c.args.flight.now c.args.verdict.now then marking (key_bits c.args.pipe.now.layout c.args.flight.now.packet.key) else last.Push))))) (goes_nowhere c.args.pipe.now.layout (known (g.B.Board.fits c.args.board.now) (g.B.Board.shows c.args.board.now) (g.B.Board.beside c.args.board.now) (g.B.Board.rests c.args.board.now)) (staged c.args.pipe.now.view (Fly c.args.flight.now (Judged c.args.verdict.now last.Push))))
