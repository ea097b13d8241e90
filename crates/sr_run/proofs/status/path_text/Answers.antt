use Rattle.std.proofs.Common.{[], ◌∷◌, arith, subst, sym}
use Rattle.sr_io.proofs.Writing.{writes_front, writes_then}
use Rattle.sr_io.specs.Sink.{Writes}
use Rattle.sr_io.specs.declared.sink.Put.TheVariants.{Failed}
use Rattle.sr_run.proofs.PrintedLines.{path_some}
use Rattle.sr_run.proofs.status.path_text.Goals as goal

pub returns-in-All : goal.returns-in-All
returns-in-All g c =
    let path = c.args.path.now in
    subst (λ t. Writes c.write-in-All.result (g.K.Sink.known c.args.sink.now) (g.K.Sink.known c.write-in-All.new.self) t) (sym (path_some path (omega (arith, c.in_default.len_at_least))))
    (writes_then c.write-in-All.result (32 ∷ path) (10 ∷ []) c.in-All.ensures c.write-in-All.ensures)

pub returns-in-Failed : goal.returns-in-Failed
returns-in-Failed g c =
    let path = c.args.path.now in
    subst (λ t. Writes Failed (g.K.Sink.known c.args.sink.now) (g.K.Sink.known c.write_both.new.sink) t) (sym (path_some path (omega (arith, c.in_default.len_at_least))))
    (writes_front (32 ∷ path) (10 ∷ []) c.in-Failed.ensures)
