use Rattle.std.proofs.Common.{◌∙◌, ℕ, Some, refl, sym, ap}
use Rattle.sr_base.specs.RingWord.{packed_ring}
use Rattle.sr_base.specs.declared.word_name.WordName.{WordName}
use Rattle.sr_machine.specs.Names.{name_for}
use Rattle.sr_machine.specs.Stages.{report_of}
use Rattle.sr_machine.specs.declared.leg.Last.TheVariants as last
use Rattle.sr_machine.specs.declared.leg.Leg.TheVariants.{Judged}
use Rattle.sr_machine.specs.declared.op.Op.TheVariants.{Stores}
use Rattle.sr_machine.specs.declared.stage.Stage.TheVariants.{Fly}
use Rattle.sr_pipe.proofs.Leading.{goes_one}
use Rattle.sr_pipe.specs.Known.{known, staged}
use Rattle.sr_pipe.proofs.reporting.push.Goals as goal

pub returns : goal.returns
returns g c =
    goes_one c.args.pipe.now.layout (known (g.B.Board.fits c.args.board.now) (g.B.Board.shows c.args.board.now) (g.B.Board.beside c.args.board.now) (g.B.Board.rests c.args.board.now)) (known (g.B.Board.fits c.store.new.self) (g.B.Board.shows c.store.new.self) (g.B.Board.beside c.store.new.self) (g.B.Board.rests c.store.new.self)) (staged c.args.pipe.now.view (Fly c.args.flight.now (Judged c.args.verdict.now last.Push))) (Stores (name_for c.args.cell) c.pack.result) c.pack.result
    (ap (λ (w : WordName). Some (Stores (name_for w) (report_of c.args.flight.now c.args.verdict.now))) (sym c.requires.cell)
    ∙ ap (λ (x : ℕ). Some (Stores (name_for c.args.cell) x)) (sym (c.pack.ensures.value ∙ ap packed_ring c.report_by-report.ensures.value)))
    refl c.store.ensures.fits c.store.ensures.words c.store.ensures.beside c.store.ensures.rest.still
