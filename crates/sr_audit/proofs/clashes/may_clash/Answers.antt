use Rattle.std.proofs.Common.{◌||◌, reverse, sym, ap, ◌∙◌}
use Rattle.sr_audit.specs.Clashes.{clears_lately}
use Rattle.sr_audit.specs.Places.{holder}
use Rattle.sr_audit.proofs.Clashing.{clash_by}
use Rattle.sr_audit.proofs.clashes.may_clash.Goals as goal

pub returns-then-now : goal.returns-then-now
returns-then-now c =
    let shape = c.args.shape.now in
    let before = reverse c.args.before.now in
    c.if-now.true ∙ sym (ap (λ b. b || clears_lately shape before c.args.c c.args.start) (sym c.matches_now-now.ensures ∙ c.if-now.true))
    ∙ clash_by shape before (holder c.args.places.now) c.args.c c.args.start c.requires.falls c.requires.kept c.requires.tells

pub returns-else-now : goal.returns-else-now
returns-else-now c =
    let shape = c.args.shape.now in
    let before = reverse c.args.before.now in
    c.clears_lately.ensures ∙ sym (ap (λ b. b || clears_lately shape before c.args.c c.args.start) (sym c.matches_now-now.ensures ∙ c.if-now.false))
    ∙ clash_by shape before (holder c.args.places.now) c.args.c c.args.start c.requires.falls c.requires.kept c.requires.tells
