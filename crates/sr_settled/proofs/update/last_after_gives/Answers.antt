use Rattle.std.proofs.Common.{take, drop, reverse, sym, ap, ◌∙◌}
use Rattle.std.proofs.Math.Seq.{take-length}
use Rattle.std.proofs.lemmas.List.{length-drop}
use Rattle.sr_law.proofs.Newest.{without_first}
use Rattle.sr_law.specs.Groups.{last_of_update}
use Rattle.sr_settled.proofs.update.last_after_gives.Goals as goal

pub returns-then-vips-lines : goal.returns-then-vips-lines
returns-then-vips-lines c =
    let lines = c.args.lines.now in
    let later = drop c.args.vips lines in
    let whole = ap (λ n. take n later) (sym (length-drop c.args.vips lines)) ∙ take-length later in
    c.last_of_update.ensures ∙ ap (λ x. last_of_update (reverse x)) whole ∙ ap last_of_update (sym (without_first lines c.args.vips))
