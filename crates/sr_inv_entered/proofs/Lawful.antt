-- The lines of a run round by round are lawful, whoever acts next; so are those of a run by picks.
use Rattle.std.proofs.Common.{◌∙◌, sym}
use Rattle.sr_inv_entered.proofs.Ending.{acts_reached, came_as_given}
use Rattle.sr_inv_entered.specs.Entered.{ActsAreLawful, PicksAreLawful, given}
use Rattle.sr_inv_final.proofs.Entering.{told_sum}
use Rattle.sr_inv_final.proofs.SamePackets.{idle_came}
use Rattle.sr_inv_lawful.proofs.Lawful.{rested_lawful}
use Rattle.sr_inv_rest.proofs.Resting.{acts_rest}
use Rattle.sr_machine.specs.Core.{pipe_lines}
use Rattle.sr_picks.proofs.Acts.{run_acts}

pub acts_lawful : ActsAreLawful
acts_lawful k packets r t f are a h =
    let rest = acts_rest k packets r t f are h in
    rested_lawful k t (given packets) f (acts_reached k packets r t are h) rest
    (λ x. told_sum x (pipe_lines t.pipes) ∙ (idle_came x t.pipes rest.idle ∙ came_as_given k x packets r t f.layout a h))

pub picks_lawful : PicksAreLawful
picks_lawful k seed packets r t f are a h = acts_lawful k packets r t f are a (run_acts k seed packets r t h)
