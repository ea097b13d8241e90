use Rattle.std.proofs.Common.{◌≡◌, ◌-◌, ◌+◌, suc, ap, arith}
use Rattle.sr_core.specs.HeldCore.{state_of}
use Rattle.sr_machine.specs.Turning.{most_steps}
use Rattle.sr_picks.specs.Turn.{turn_in, turn_of}
use Rattle.sr_steps.proofs.Plays.{ends_at, goes_on, stops_at}
use Rattle.sr_steps.proofs.making.turn.Goals as goal

pub loop-step-init : goal.loop-step-init
loop-step-init c = λ words shows.
    let most : most_steps c.args.core.now.config.layout ≡ c.max-step-end.result - 0 =
    omega (arith, c.max-step-end.ensures, c.pipes-pipes.ensures.value) in
    (words, shows, ap (λ n. turn_in n (state_of c.args.core.now words)) most)

pub loop-step-preserved : goal.loop-step-preserved
loop-step-preserved c = λ words shows.
    let more : c.max-step-end.result - c.loop-step._step ≡ suc (c.max-step-end.result - (c.loop-step._step + 1)) = omega (arith, c.loop-step-test.true) in
    goes_on (turn_of (state_of c.args.core.now words)) _ _ c.loop-step.core c.control.new.self more (c.loop-step.invariant words shows) c.in-Made.ensures

pub returns-in-Ended : goal.returns-in-Ended
returns-in-Ended c = λ words shows.
    let more : c.max-step-end.result - c.loop-step._step ≡ suc (c.max-step-end.result - (c.loop-step._step + 1)) = omega (arith, c.loop-step-test.true) in
    ends_at (turn_of (state_of c.args.core.now words)) _ _ c.loop-step.core c.control.new.self c.in-Ended.turn more (c.loop-step.invariant words shows) c.in-Ended.ensures

pub returns-in-NotNow : goal.returns-in-NotNow
returns-in-NotNow c = λ words shows.
    let more : c.max-step-end.result - c.loop-step._step ≡ suc (c.max-step-end.result - (c.loop-step._step + 1)) = omega (arith, c.loop-step-test.true) in
    stops_at (turn_of (state_of c.args.core.now words)) _ _ c.loop-step.core c.control.new.self more (c.loop-step.invariant words shows) c.in-NotNow.ensures
