use Rattle.std.proofs.Common.{◌≡◌, ◌∙◌, ◌+◌, ap, arith, subst}
use Rattle.sr_core.specs.HeldCore.{state_of}
use Rattle.sr_machine.specs.Settling.{settled_in}
use Rattle.sr_steps.specs.Standing.{RefusedTo, TurnMade}
use Rattle.sr_steps.proofs.Settles.{settles_here, settles_on}
use Rattle.sr_steps.proofs.settling.settle.Goals as goal

pub loop-turn-init : goal.loop-turn-init
loop-turn-init c = λ words shows. (
  0,
  words,
  shows,
  λ n r t e.
      let none : 0 + n ≡ n = omega arith in ap (λ k. settled_in k (state_of c.args.core.now words)) none ∙ e,
)

pub returns-then-branch : goal.returns-then-branch
returns-then-branch c = λ words shows.
    settles_here (state_of c.args.core.now words) c.loop-turn.core c.turn.new.core c.ends.new.core c.in-Some.answer
    (c.loop-turn.invariant words shows)
    (subst (λ a. TurnMade a c.loop-turn.core c.turn.new.core) c.in-Some.is c.in_ok-answer.ensures)
    (subst (λ b. RefusedTo b c.in-Some.answer c.turn.new.core c.ends.new.core) c.if-branch.true c.in_ok-ends-in-Some.ensures)
    c.ending.result c.ending.ensures

pub loop-turn-preserved : goal.loop-turn-preserved
loop-turn-preserved c = λ words shows.
    settles_on (state_of c.args.core.now words) c.loop-turn.core c.turn.new.core c.ends.new.core c.in-Some.answer
    (c.loop-turn.invariant words shows)
    (subst (λ a. TurnMade a c.loop-turn.core c.turn.new.core) c.in-Some.is c.in_ok-answer.ensures)
    (subst (λ b. RefusedTo b c.in-Some.answer c.turn.new.core c.ends.new.core) c.if-branch.false c.in_ok-ends-in-Some.ensures)
