use Rattle.std.proofs.Common.{ℕ, Some, refl, sym, ap}
use Rattle.sr_machine.specs.Pipe.{packet_line}
use Rattle.sr_machine.specs.declared.leg.Last.TheVariants as last
use Rattle.sr_machine.specs.declared.leg.Leg.TheVariants.{Judged}
use Rattle.sr_machine.specs.declared.name.Name.TheVariants as name
use Rattle.sr_machine.specs.declared.op.Op.TheVariants.{Adds, Stores}
use Rattle.sr_machine.specs.declared.stage.Stage.TheVariants.{Fly, Leave}
use Rattle.sr_pipe.proofs.Leading.{goes_on, goes_one}
use Rattle.sr_pipe.specs.Known.{known, left, reported}
use Rattle.sr_pipe.proofs.passing.leave.Goals as goal

pub returns : goal.returns
returns g c =
    goes_on c.args.pipe.now.layout (known (g.B.Board.fits c.args.board.now) (g.B.Board.shows c.args.board.now) (g.B.Board.beside c.args.board.now) (g.B.Board.rests c.args.board.now)) (known (g.B.Board.fits c.add-out.new.self) (g.B.Board.shows c.add-out.new.self) (g.B.Board.beside c.add-out.new.self) (g.B.Board.rests c.add-out.new.self)) (known (g.B.Board.fits c.store.new.self) (g.B.Board.shows c.store.new.self) (g.B.Board.beside c.store.new.self) (g.B.Board.rests c.store.new.self)) (reported c.args.pipe.now.view c.args.decided.now.stored (Fly c.args.flight.now (Judged c.args.decided.now.verdict last.Out))) (record (left c.args.pipe.now.view c.args.decided.now.stored (packet_line c.args.pipe.now.view.number c.args.flight.now c.args.decided.now.verdict c.add-out.result)) { stage = Leave c.args.flight.now }) (left c.args.pipe.now.view c.args.decided.now.stored (packet_line c.args.pipe.now.view.number c.args.flight.now c.args.decided.now.verdict c.add-out.result))
    (goes_one c.args.pipe.now.layout (known (g.B.Board.fits c.args.board.now) (g.B.Board.shows c.args.board.now) (g.B.Board.beside c.args.board.now) (g.B.Board.rests c.args.board.now)) (known (g.B.Board.fits c.add-out.new.self) (g.B.Board.shows c.add-out.new.self) (g.B.Board.beside c.add-out.new.self) (g.B.Board.rests c.add-out.new.self)) (reported c.args.pipe.now.view c.args.decided.now.stored (Fly c.args.flight.now (Judged c.args.decided.now.verdict last.Out))) (Adds name.Tick 1) c.add-out.result refl refl
    c.add-out.ensures.fits c.add-out.ensures.words c.add-out.ensures.beside c.add-out.ensures.rest.still)
    (goes_one c.args.pipe.now.layout (known (g.B.Board.fits c.add-out.new.self) (g.B.Board.shows c.add-out.new.self) (g.B.Board.beside c.add-out.new.self) (g.B.Board.rests c.add-out.new.self)) (known (g.B.Board.fits c.store.new.self) (g.B.Board.shows c.store.new.self) (g.B.Board.beside c.store.new.self) (g.B.Board.rests c.store.new.self)) (record (left c.args.pipe.now.view c.args.decided.now.stored (packet_line c.args.pipe.now.view.number c.args.flight.now c.args.decided.now.verdict c.add-out.result)) { stage = Leave c.args.flight.now }) (Stores (name.Note c.number-number.result) 0) 0
    (ap (λ (n : ℕ). Some (Stores (name.Note n) 0)) (sym c.number-number.ensures.value)) refl
    c.store.ensures.fits c.store.ensures.words c.store.ensures.beside c.store.ensures.rest.still)
