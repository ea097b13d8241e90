use Rattle.std.proofs.Common.{refl, sym, subst}
use Rattle.sr_machine.specs.declared.leg.Leg.{Leg}
use Rattle.sr_machine.specs.declared.leg.Leg.TheVariants.{Hit}
use Rattle.sr_machine.specs.declared.name.Name.TheVariants as name
use Rattle.sr_machine.specs.declared.op.Op.TheVariants.{Stores}
use Rattle.sr_machine.specs.declared.stage.Stage.TheVariants.{Fly}
use Rattle.sr_pipe.proofs.Leading.{goes_one}
use Rattle.sr_pipe.specs.Known.{Goes, known, staged}
use Rattle.sr_pipe.proofs.choosing.choose_matched.Goals as goal

pub returns-clause-goes : goal.returns-clause-goes
returns-clause-goes g c =
    subst
    (λ (leg : Leg). Goes c.args.pipe.now.layout (known (g.B.Board.fits c.args.board.now) (g.B.Board.shows c.args.board.now) (g.B.Board.beside c.args.board.now) (g.B.Board.rests c.args.board.now)) (staged c.args.pipe.now.view (Fly c.args.flight.now (Hit c.args.place c.args.version)))
    (known (g.B.Board.fits c.store.new.self) (g.B.Board.shows c.store.new.self) (g.B.Board.beside c.store.new.self) (g.B.Board.rests c.store.new.self)) (staged c.args.pipe.now.view (Fly c.args.flight.now leg)))
    (sym c.held_or.ensures.leg)
    (goes_one c.args.pipe.now.layout (known (g.B.Board.fits c.args.board.now) (g.B.Board.shows c.args.board.now) (g.B.Board.beside c.args.board.now) (g.B.Board.rests c.args.board.now)) (known (g.B.Board.fits c.store.new.self) (g.B.Board.shows c.store.new.self) (g.B.Board.beside c.store.new.self) (g.B.Board.rests c.store.new.self))
    (staged c.args.pipe.now.view (Fly c.args.flight.now (Hit c.args.place c.args.version))) (Stores (name.Hit c.args.place) 1) 1 refl refl c.store.ensures.fits
    c.store.ensures.words c.store.ensures.beside c.store.ensures.rest.still)
