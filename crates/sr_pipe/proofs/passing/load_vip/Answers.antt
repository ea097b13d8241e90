use Rattle.std.proofs.Common.{◌∙◌, ℕ, Some, refl, sym, ap, subst}
use Rattle.sr_base.specs.Layout.{LayoutView}
use Rattle.sr_base.specs.declared.vip_word.VipWord.{VipWord}
use Rattle.sr_machine.specs.Stages.{looking}
use Rattle.sr_machine.specs.Reads.{read_vip}
use Rattle.sr_machine.specs.declared.flight.Flight.{Flight}
use Rattle.sr_machine.specs.declared.name.Name.TheVariants as name
use Rattle.sr_machine.specs.declared.op.Op.TheVariants.{Loads}
use Rattle.sr_machine.specs.declared.stage.Stage.TheVariants.{Fly, Vip}
use Rattle.sr_pipe.proofs.Leading.{goes_one}
use Rattle.sr_pipe.specs.Known.{Goes, known, staged}
use Rattle.sr_pipe.specs.Places.{places_from}
use Rattle.sr_pipe.proofs.passing.load_vip.Goals as goal

pub returns-clause-goes : goal.returns-clause-goes
returns-clause-goes g c =
    subst
    (λ (w : VipWord). let f : Flight = record { packet = c.args.packet.now; entered = c.args.entered; vip = w } in
    Goes c.args.pipe.now.layout (known (g.B.Board.fits c.args.board.now) (g.B.Board.shows c.args.board.now) (g.B.Board.beside c.args.board.now) (g.B.Board.rests c.args.board.now)) (staged c.args.pipe.now.view (Vip c.args.packet.now c.args.entered)) (known (g.B.Board.fits c.load-x.new.self) (g.B.Board.shows c.load-x.new.self) (g.B.Board.beside c.load-x.new.self) (g.B.Board.rests c.load-x.new.self))
    (staged c.args.pipe.now.view (Fly f (looking c.args.pipe.now.layout f (places_from c.args.pipe.now.layout c.args.packet.now.key 0)))))
    (sym (c.read_vip.ensures.value ∙ ap (λ (l : LayoutView). read_vip l c.load-x.result) c.layout.ensures))
    (goes_one c.args.pipe.now.layout (known (g.B.Board.fits c.args.board.now) (g.B.Board.shows c.args.board.now) (g.B.Board.beside c.args.board.now) (g.B.Board.rests c.args.board.now)) (known (g.B.Board.fits c.load-x.new.self) (g.B.Board.shows c.load-x.new.self) (g.B.Board.beside c.load-x.new.self) (g.B.Board.rests c.load-x.new.self)) (staged c.args.pipe.now.view (Vip c.args.packet.now c.args.entered)) (Loads (name.Vip c.vip_of-vip.result)) c.load-x.result
    (ap (λ (n : ℕ). Some (Loads (name.Vip n))) (sym c.vip_of-vip.ensures)) refl
    c.load-x.ensures.fits c.load-x.ensures.words c.load-x.ensures.beside c.load-x.ensures.rest.still)
