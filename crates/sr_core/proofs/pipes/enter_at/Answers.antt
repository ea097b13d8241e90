use Rattle.std.proofs.Common.{ap, get_or, refl, ◌∙◌, arith}
use Rattle.sr_core.proofs.Views.{enters_in, layout_at, layouts_set, none_enters}
use Rattle.sr_core.proofs.pipes.enter_at.Goals as goal

pub enter_on-requires : goal.enter_on-requires
enter_on-requires c =
    layout_at c.args.layout.now c.args.pipes.now c.args.pipe _ c.requires c.if-pipe-pipes.true
    (ap (λ z. get_or c.args.pipes.now c.args.pipe z) c.index-pipes-pipe.is)

pub returns-then-pipe-pipes-clause-layouts : goal.returns-then-pipe-pipes-clause-layouts
returns-then-pipe-pipes-clause-layouts c =
    layouts_set c.args.layout.now c.args.pipes.now c.args.pipe c.enter_on.new.pipe c.requires
    (c.enter_on.ensures.layout
    ∙ layout_at c.args.layout.now c.args.pipes.now c.args.pipe _ c.requires c.if-pipe-pipes.true
    (ap (λ z. get_or c.args.pipes.now c.args.pipe z) c.index-pipes-pipe.is))

pub returns-then-pipe-pipes-clause-views : goal.returns-then-pipe-pipes-clause-views
returns-then-pipe-pipes-clause-views c =
    enters_in c.args.layout.now c.args.pipes.now c.args.pipe _ c.requires c.if-pipe-pipes.true
    (ap (λ z. get_or c.args.pipes.now c.args.pipe z) c.index-pipes-pipe.is) c.args.packet c.enter_on.new.pipe c.enter_on.result
    c.enter_on.ensures.view

pub returns-else-pipe-pipes-clause-views : goal.returns-else-pipe-pipes-clause-views
returns-else-pipe-pipes-clause-views c =
    (none_enters c.args.layout.now c.args.pipes.now c.args.pipe c.args.packet (omega (arith, c.if-pipe-pipes.false)), refl)
