use Rattle.std.proofs.Common.{ℕ, Some, refl, sym, ap}
use Rattle.sr_machine.specs.declared.name.Name.TheVariants as name
use Rattle.sr_machine.specs.declared.op.Op.TheVariants.{Stores}
use Rattle.sr_machine.specs.declared.stage.Stage.TheVariants.{Note}
use Rattle.sr_pipe.proofs.Leading.{goes_one}
use Rattle.sr_pipe.specs.Known.{known, staged}
use Rattle.sr_pipe.proofs.passing.raise_note.Goals as goal

pub returns : goal.returns
returns g c =
    goes_one c.args.pipe.now.layout (known (g.B.Board.fits c.args.board.now) (g.B.Board.shows c.args.board.now) (g.B.Board.beside c.args.board.now) (g.B.Board.rests c.args.board.now)) (known (g.B.Board.fits c.store.new.self) (g.B.Board.shows c.store.new.self) (g.B.Board.beside c.store.new.self) (g.B.Board.rests c.store.new.self)) (staged c.args.pipe.now.view (Note c.args.packet.now c.args.entered)) (Stores (name.Note c.number-number.result) c.args.entered) c.args.entered
    (ap (λ (n : ℕ). Some (Stores (name.Note n) c.args.entered)) (sym c.number-number.ensures.value)) refl
    c.store.ensures.fits c.store.ensures.words c.store.ensures.beside c.store.ensures.rest.still
