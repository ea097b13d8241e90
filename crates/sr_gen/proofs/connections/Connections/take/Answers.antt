use Rattle.std.proofs.Common.{◌≡◌, ◌+◌, ◌*◌, ◌/◌, ap, ◌∙◌}
use Rattle.sr_gen.specs.Generator.{next_state, state_after}
use Rattle.sr_gen.specs.Turns.{connection_number}
use Rattle.sr_gen.proofs.Drawing.{state_more, connection_drawn, stands_next}
use Rattle.sr_gen.proofs.connections.Connections.take.Goals as goal

pub returns-clause-connection : goal.returns-clause-connection
returns-clause-connection c = λ number stands.
    let t = c.args.t in
    let at = c.begin.ensures number stands in
    let state : c.draw-drawn.new.self ≡ state_after (connection_number t + 1) number =
    c.draw-drawn.ensures.state ∙ ap (λ s. next_state s.generator) at ∙ state_more (connection_number t) number in
    c.new.ensures ∙ connection_drawn number _ _ _ _ c.connection_number.ensures c.draw-drawn.ensures.value state

pub returns-clause-after : goal.returns-clause-after
returns-clause-after c = λ number stands.
    let t = c.args.t in
    let at = c.begin.ensures number stands in
    let state : c.draw-drawn.new.self ≡ state_after (connection_number t + 1) number =
    c.draw-drawn.ensures.state ∙ ap (λ s. next_state s.generator) at ∙ state_more (connection_number t) number in
    let block : c.begin.new.self.block ≡ state_after (100 * (t / 1000)) number = ap (λ s. s.block) at in
    rw (block, state) (stands_next number t)
