use Rattle.std.proofs.Common.{◌≡◌, ◌∙◌, ◌<◌, ◌≤◌, false, refl, subst, arith}
use Rattle.sr_ctl.proofs.Going.{going_ends, going_first, going_on, goes_no_further, within_bounds}
use Rattle.sr_ctl.specs.Needs.{is_look, kept}
use Rattle.sr_ctl.specs.Turned.{TurnedOn}
use Rattle.sr_ctl.proofs.acting.act.Given as given
use Rattle.sr_ctl.proofs.acting.act.Goals as goal

pub loop-step-init : goal.loop-step-init
loop-step-init g c = (
  going_first c.args.machine.now.config (g.B.Board.fits c.args.board.now) (g.B.Board.shows c.args.board.now) c.args.machine.now.view
      c.args.machine.now.room c.requires.look c.requires.some c.requires.room,
  refl,
  λ r. r,
)

pub step-requires-clause-bounds : goal.step-requires-clause-bounds
step-requires-clause-bounds g c =
    within_bounds c.args.machine.now.config (g.B.Board.fits c.args.board.now) (g.B.Board.fits c.loop-step.board) (g.B.Board.fits c.loop-step.board)
    (g.B.Board.shows c.args.board.now) (g.B.Board.shows c.loop-step.board) (g.B.Board.shows c.loop-step.board) c.args.machine.now.view
    c.loop-step.machine.view c.loop-step.machine.view c.loop-step._step c.loop-step.machine.config c.loop-step.machine.config
    c.loop-step.machine.room c.loop-step.machine.room 0 c.loop-step.invariant.0 c.requires.ticks c.requires.words

ended : (g : given.Over) (c : goal.In-Some g) → TurnedOn c.args.machine.now.config (g.B.Board.fits c.args.board.now) (g.B.Board.shows c.args.board.now)
    c.args.machine.now.view c.in-Some.turn (g.B.Board.fits c.step.new.board) (g.B.Board.shows c.step.new.board) c.step.new.machine.view
    × (is_look c.step.new.machine.view.job ≡ false) × (kept c.step.new.machine.view.job ≤ c.step.new.machine.room)
ended g c =
    going_ends c.args.machine.now.config (g.B.Board.fits c.args.board.now) (g.B.Board.fits c.loop-step.board) (g.B.Board.fits c.step.new.board)
    (g.B.Board.shows c.args.board.now) (g.B.Board.shows c.loop-step.board) (g.B.Board.shows c.step.new.board) c.args.machine.now.view
    c.loop-step.machine.view c.step.new.machine.view c.loop-step._step c.loop-step.machine.config c.step.new.machine.config
    c.loop-step.machine.room c.step.new.machine.room c.step.ensures.made.0 c.loop-step.invariant.0 c.in-Some.turn c.step.result c.in-Some.is c.step.ensures.made.1 c.step.ensures.room
    (subst (λ n. c.loop-step._step < n) c.requires.most c.loop-step-test.true)

pub returns-in-Some-clause-look : goal.returns-in-Some-clause-look
returns-in-Some-clause-look g c = (ended g c).1

pub returns-in-Some-clause-room : goal.returns-in-Some-clause-room
returns-in-Some-clause-room g c = (ended g c).2

pub returns-in-Some-clause-turned : goal.returns-in-Some-clause-turned
returns-in-Some-clause-turned g c = (ended g c).0

pub loop-step-preserved : goal.loop-step-preserved
loop-step-preserved g c = (
  going_on c.args.machine.now.config (g.B.Board.fits c.args.board.now) (g.B.Board.fits c.loop-step.board) (g.B.Board.fits c.step.new.board)
      (g.B.Board.shows c.args.board.now) (g.B.Board.shows c.loop-step.board) (g.B.Board.shows c.step.new.board) c.args.machine.now.view
      c.loop-step.machine.view c.step.new.machine.view c.loop-step._step c.loop-step.machine.config c.step.new.machine.config
      c.loop-step.machine.room c.step.new.machine.room c.step.ensures.made.0 c.loop-step.invariant.0 c.step.result c.in_default.is c.step.ensures.made.1 c.step.ensures.room c.step.ensures.config,
  c.step.ensures.beside ∙ c.loop-step.invariant.1,
  λ r. c.step.ensures.rest (c.loop-step.invariant.2 r),
)

over : (g : given.Over) (c : goal.After-loop-step g) → ⊥
over g c =
    goes_no_further c.args.machine.now.config (g.B.Board.fits c.args.board.now) (g.B.Board.fits c.loop-step.board) (g.B.Board.fits c.loop-step.board)
    (g.B.Board.shows c.args.board.now) (g.B.Board.shows c.loop-step.board) (g.B.Board.shows c.loop-step.board) c.args.machine.now.view
    c.loop-step.machine.view c.loop-step.machine.view c.loop-step._step c.loop-step.machine.config c.loop-step.machine.config
    c.loop-step.machine.room c.loop-step.machine.room 0 c.loop-step.invariant.0 c.turns_end.ensures.end
    (omega (arith, c.requires.most, c.loop-step-test.false))

pub returns-clause-look : goal.returns-clause-look
returns-clause-look g c = absurd (over g c)

pub returns-clause-turned : goal.returns-clause-turned
returns-clause-turned g c = absurd (over g c)
