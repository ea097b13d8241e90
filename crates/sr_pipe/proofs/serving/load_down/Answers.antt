use Rattle.std.proofs.Common.{◌∙◌, Bool, refl, sym, ap, subst}
use Rattle.sr_machine.specs.Stages.{verdict_by}
use Rattle.sr_machine.specs.Reads.{read_flag}
use Rattle.sr_machine.specs.declared.leg.Leg.{Leg}
use Rattle.sr_machine.specs.declared.leg.Leg.TheVariants.{Chosen}
use Rattle.sr_machine.specs.declared.leg.Load.TheVariants as load
use Rattle.sr_machine.specs.declared.name.Name.TheVariants as name
use Rattle.sr_machine.specs.declared.op.Op.TheVariants.{Loads}
use Rattle.sr_machine.specs.declared.stage.Stage.TheVariants.{Fly}
use Rattle.sr_pipe.proofs.Leading.{goes_one}
use Rattle.sr_pipe.proofs.Legs.{judged_by}
use Rattle.sr_pipe.specs.Known.{Goes, known, staged}
use Rattle.sr_pipe.proofs.serving.load_down.Goals as goal

pub returns : goal.returns
returns g c = record {
  goes =
      subst
      (λ (leg : Leg). Goes c.args.pipe.now.layout (known (g.B.Board.fits c.args.board.now) (g.B.Board.shows c.args.board.now) (g.B.Board.beside c.args.board.now) (g.B.Board.rests c.args.board.now)) (staged c.args.pipe.now.view (Fly c.args.flight.now (Chosen c.args.version (load.Down c.args.pool c.args.server))))
      (known (g.B.Board.fits c.load-x.new.self) (g.B.Board.shows c.load-x.new.self) (g.B.Board.beside c.load-x.new.self) (g.B.Board.rests c.load-x.new.self)) (staged c.args.pipe.now.view (Fly c.args.flight.now leg)))
      (sym (judged_by c.args.flight.now.packet.kind (read_flag c.load-x.result) c.args.server c.args.version c.args.pool c.verdict_by.result
      (c.verdict_by.ensures ∙ ap (λ (d : Bool). verdict_by d c.args.server c.args.version c.args.pool) c.read_flag.ensures)))
      (goes_one c.args.pipe.now.layout (known (g.B.Board.fits c.args.board.now) (g.B.Board.shows c.args.board.now) (g.B.Board.beside c.args.board.now) (g.B.Board.rests c.args.board.now)) (known (g.B.Board.fits c.load-x.new.self) (g.B.Board.shows c.load-x.new.self) (g.B.Board.beside c.load-x.new.self) (g.B.Board.rests c.load-x.new.self))
      (staged c.args.pipe.now.view (Fly c.args.flight.now (Chosen c.args.version (load.Down c.args.pool c.args.server)))) (Loads (name.Down c.args.server))
      c.load-x.result refl refl
      c.load-x.ensures.fits c.load-x.ensures.words c.load-x.ensures.beside c.load-x.ensures.rest.still);
}
