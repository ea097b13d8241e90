use Rattle.std.proofs.Common.{◌∙◌, ap, map}
use Rattle.std.specs.List.{range_with_len}
use Rattle.sr_machine.specs.Opening.{opening_pipes}
use Rattle.sr_machine.specs.Pipe.{fresh_pipe}
use Rattle.sr_core.proofs.Stepped.{opened, opening_shown}
use Rattle.sr_core.proofs.machine.Core.new.Goals as goal

pub returns : goal.returns
unfolding opening_pipes
returns c =
    opened c.args.config
    (record { config = c.in_ok-controller.controller.config; words = c.in_ok-words.words.words; pipes = c.in_ok-pipes.pipes.views; controller = c.in_ok-controller.controller.view })
    c.in_ok-controller.ensures.config
    (opening_shown c.args.config c.layout.result.now c.pools.result.now c.in_ok-words.words.words c.layout.ensures c.pools.ensures
    (c.in_ok-words.ensures.words c.args.config.changes))
    (ap (λ p. p.views) c.in_ok-pipes.ensures
    ∙ ap (λ l. map fresh_pipe (range_with_len 0 l.shape.pipes)) c.layout-2.ensures)
    c.in_ok-controller.ensures.view
