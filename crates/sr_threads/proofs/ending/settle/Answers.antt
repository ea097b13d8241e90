use Rattle.std.proofs.Common.{◌∙◌, ◌++◌, List, ap}
use Rattle.sr_law.specs.declared.line.Line.{Line}
use Rattle.sr_machine.specs.Core.{pipe_lines}
use Rattle.sr_machine.specs.declared.view.View.TheVariants.{OfController}
use Rattle.sr_threads.proofs.Rests.{ends_so}
use Rattle.sr_threads.proofs.ending.settle.Goals as goal

pub returns-clause-lines : goal.returns-clause-lines
returns-clause-lines c = λ views may.
    let k = c.args.controller.now.config in
    ends_so c.shown_states_meet_the_invariant.ensures.shown c.settling_is_the_machines.ensures k views c.args.controller.now.view
    c.settle_all-settled.new.self.view c.settle_all-settled.result c.in_ok-played.played.awaited c.rest-resting.result.board.layout
    c.rest-resting.result.board.seat.me.0.words _ _ _ (c.args.lines.items ++ c.lines.result.now) c.in_ok-played.played.lines.items
    (c.rest-resting.ensures.layout ∙ may.governs.layout)
    may.numbers
    (c.rest-resting.ensures.known views may.idle k (OfController c.args.controller.now.view) may.governs.view)
    c.settle_all-settled.ensures.settled
    c.in_ok-played.ensures.awaited
    (ap (λ (ls : List Line). ls ++ c.lines.result.now) may.lines_are ∙ ap (λ (ls : List Line). pipe_lines views ++ ls) c.lines.ensures)
    c.in_ok-played.ensures.lines
