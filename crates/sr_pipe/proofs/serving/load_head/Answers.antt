use Rattle.std.proofs.Common.{◌∙◌, ℕ, Some, refl, sym, ap, subst}
use Rattle.sr_base.specs.Layout.{LayoutView}
use Rattle.sr_machine.specs.Reads.{read_head}
use Rattle.sr_machine.specs.declared.leg.Leg.TheVariants.{Chosen}
use Rattle.sr_machine.specs.declared.leg.Load.TheVariants as load
use Rattle.sr_machine.specs.declared.name.Name.TheVariants as name
use Rattle.sr_machine.specs.declared.op.Op.TheVariants.{Loads}
use Rattle.sr_machine.specs.declared.stage.Stage.TheVariants.{Fly}
use Rattle.sr_pipe.proofs.Leading.{goes_one}
use Rattle.sr_pipe.specs.Known.{Goes, known, staged}
use Rattle.sr_base.specs.declared.row_head.RowHead.{RowHead}
use Rattle.sr_pipe.proofs.serving.load_head.Goals as goal

pub returns-clause-goes : goal.returns-clause-goes
returns-clause-goes g c =
    subst
    (λ (head : RowHead). Goes c.args.pipe.now.layout (known (g.B.Board.fits c.args.board.now) (g.B.Board.shows c.args.board.now) (g.B.Board.beside c.args.board.now) (g.B.Board.rests c.args.board.now)) (staged c.args.pipe.now.view (Fly c.args.flight.now (Chosen c.args.version load.Head)))
    (known (g.B.Board.fits c.load-x.new.self) (g.B.Board.shows c.load-x.new.self) (g.B.Board.beside c.load-x.new.self) (g.B.Board.rests c.load-x.new.self)) (staged c.args.pipe.now.view (Fly c.args.flight.now (Chosen c.args.version (load.Member head)))))
    (sym (c.read_head.ensures.value ∙ ap (λ (l : LayoutView). read_head l c.load-x.result) c.layout.ensures))
    (goes_one c.args.pipe.now.layout (known (g.B.Board.fits c.args.board.now) (g.B.Board.shows c.args.board.now) (g.B.Board.beside c.args.board.now) (g.B.Board.rests c.args.board.now)) (known (g.B.Board.fits c.load-x.new.self) (g.B.Board.shows c.load-x.new.self) (g.B.Board.beside c.load-x.new.self) (g.B.Board.rests c.load-x.new.self))
    (staged c.args.pipe.now.view (Fly c.args.flight.now (Chosen c.args.version load.Head))) (Loads (name.Head c.vip_of-vip.result c.number.result)) c.load-x.result
    (ap (λ (n : ℕ). Some (Loads (name.Head c.args.flight.now.packet.key.vip n))) (sym c.number.ensures.value)
    ∙ ap (λ (v : ℕ). Some (Loads (name.Head v c.number.result))) (sym c.vip_of-vip.ensures)) refl
    c.load-x.ensures.fits c.load-x.ensures.words c.load-x.ensures.beside c.load-x.ensures.rest.still)
