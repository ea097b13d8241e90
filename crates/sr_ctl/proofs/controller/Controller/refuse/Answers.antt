use Rattle.std.proofs.Common.{sym, subst}
use Rattle.sr_ctl.proofs.Telling.{can_refuse}
use Rattle.sr_ctl.specs.SeenController.{IsFor, SeenController, seen}
use Rattle.sr_ctl.proofs.controller.Controller.refuse.Goals as goal

pub refuse-requires : goal.refuse-requires
refuse-requires g c =
    can_refuse (g.B.Board.fits c.args.board.now) (g.B.Board.beside c.args.board.now)
    (seen c.self.inside.machine.config c.self.inside.machine.view) c.refuse-refused.new.self.view c.refuse-refused.result
    (subst (λ (s : SeenController). IsFor (g.B.Board.fits c.args.board.now) (g.B.Board.beside c.args.board.now) s) (sym c.self.view_is) c.requires)
    c.if-refused.true c.refuse-refused.ensures.told
